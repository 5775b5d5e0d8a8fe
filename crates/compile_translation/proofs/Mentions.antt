-- The variable that an assembly record mentions, by its bytes: LOAD and STORE have numbers of their own, and a variable
-- is below 64, so it is the operand's lowest byte.
use mathlib.Core.Path.{◌≡◌, refl, sym, ap, ap₂, ◌∙◌}
use mathlib.Core.Bool.{Bool, true, false, ◌||◌}
use mathlib.Core.List.{List, ◌++◌, append_assoc}
use mathlib.Core.Option as maybe
use mathlib.Core.Option.{none, some}
use Prim.Native.Nat.{ℕ, ◌+◌, ◌-◌, ◌*◌, ◌<◌}
use native.Mathlib.Nat.{add-zero}
use native.Mathlib.Omega.{arith}
use lib.Dec.{eqb}
use lib.IntN.{pos}
use lib.ListN.{length, get_or, drop}
use lib.Seq.{get_or-drop}
use borrow.Author.Tests.{leb-true, eqb-true, eq-eqb}
use Rattle.std.specs.Prelude.{if◌then◌else◌, Option, Some, None}
use Rattle.word.specs.Numbers.{bytes_of}
use Rattle.record.specs.Records.{Record, LOADI, LOAD, ADD, STORE, JMP, JMPLESS, JMPGE, AssemblyCode, named, variable}
use Rattle.record.specs.Bytes.{assembly_kind, first_byte, operand, record_bytes, code_bytes}
use Rattle.record.specs.Claims.{RecordFits}
use Rattle.record.specs.Code.{named_at}
use Rattle.record.specs.declared.Variable.{Variable}
use Rattle.record.proofs.Naming.{by_two, named_by_byte}
use Rattle.compile.proofs.Entries.{none_some}
use Rattle.compile_translation.specs.Standing.{Stands}
use Rattle.compile_translation.specs.Steps.{has_name, mention_at}
use Rattle.compile_translation.proofs.Renaming.{name_bytes}
use Rattle.compile_translation.proofs.Standing.{after, fits_at, bytes_from, stand_from}

-- LOAD and STORE by their bytes, and by their numbers above LOADI's
byte_number : (b j : ℕ) → 0 < j → eqb b (0x40 + j) ≡ eqb (b - 0x40) j
byte_number b j h = by (eqb b (0x40 + j)) (eqb (b - 0x40) j) refl refl
  where
    by : (s t : Bool) → eqb b (0x40 + j) ≡ s → eqb (b - 0x40) j ≡ t → s ≡ t
    by true true e f = refl
    by true false e f =
        let at = eqb-true b (0x40 + j) e in sym (eq-eqb (b - 0x40) j (omega arith)) ∙ f
    by false true e f =
        let at = eqb-true (b - 0x40) j f in sym e ∙ eq-eqb b (0x40 + j) (omega arith)
    by false false e f = refl

pub named_by_number : (code : List ℕ) (i : ℕ)
    → named_at 0x40 code i ≡ by_two (has_name (get_or code (5 * i) 0 - 0x40)) (get_or code (5 * i + 1) 0)
named_by_number code i =
    let b = get_or code (5 * i) 0 in
    named_by_byte 0x40 code i
    ∙ ap₂ (λ s t. by_two (s || t) (get_or code (5 * i + 1) 0))
    (byte_number b 1 (omega arith)) (byte_number b 3 (omega arith))

-- What a record names, as the code gives it
abbrev pub mention : maybe.Option Variable → Option Variable
mention none = None
mention (some v) = Some v

-- The code's answer, by a first byte and a lowest byte
abbrev by_bytes : ℕ → ℕ → Option Variable
by_bytes byte low = if has_name (byte - 0x40) then Some (variable low) else None

low_name : (x : Variable) → RecordFits assembly_kind (LOAD x) → get_or (bytes_of (pos x.0)) 0 0 ≡ x.0
low_name x f = rw (name_bytes x.0 (omega (arith, leb-true x.0 63 f.0)))

-- The bytes of a record give what it names.
record_mentions : (r : Record Variable) → RecordFits assembly_kind r
    → by_bytes (first_byte assembly_kind r) (get_or (bytes_of (operand assembly_kind r)) 0 0) ≡ mention (named r)
unfolding first_byte operand
record_mentions (LOADI z) f = refl
record_mentions (LOAD x) f = ap (λ v. Some (variable v)) (low_name x f)
record_mentions ADD f = refl
record_mentions (STORE x) f = ap (λ v. Some (variable v)) (low_name x f)
record_mentions (JMP z) f = refl
record_mentions (JMPLESS z) f = refl
record_mentions (JMPGE z) f = refl

-- A variable that a record names is below 64.
pub named_small : (r : Record Variable) (v : Variable) → RecordFits assembly_kind r → named r ≡ some v → v.0 < 64
named_small (LOADI z) v f e = none_some v e
named_small (LOAD x) v f e =
    let same : x.0 ≡ v.0 = cc in omega (arith, leb-true x.0 63 f.0)
named_small ADD v f e = none_some v e
named_small (STORE x) v f e =
    let same : x.0 ≡ v.0 = cc in omega (arith, leb-true x.0 63 f.0)
named_small (JMP z) v f e = none_some v e
named_small (JMPLESS z) v f e = none_some v e
named_small (JMPGE z) v f e = none_some v e

module _ {P : AssemblyCode} {lent : List ℕ} {count : ℕ} {code : List ℕ} (s : Stands assembly_kind P lent count code)
    (i : ℕ) (h : i < length P) where
  abbrev one : Record Variable
  one = get_or P i ADD

  rest : drop (5 * i) code
      ≡ record_bytes assembly_kind one ++ (code_bytes assembly_kind (drop (i + 1) P) ++ after assembly_kind s)
  rest =
      stand_from assembly_kind s i (omega arith)
      ∙ ap (λ (l : List ℕ). l ++ after assembly_kind s) (bytes_from assembly_kind P i h)
      ∙ append_assoc (record_bytes assembly_kind one) (code_bytes assembly_kind (drop (i + 1) P)) _

  byte_is : get_or code (5 * i) 0 ≡ first_byte assembly_kind one
  byte_is =
      ap (λ (j : ℕ). get_or code j 0) (sym (add-zero (5 * i)))
      ∙ sym (get_or-drop (5 * i) code 0 0)
      ∙ ap (λ (l : List ℕ). get_or l 0 0) rest

  -- The record at an index mentions what it names.
  pub mentions : mention_at code i ≡ mention (named one)
  unfolding mention_at bytes_of
  mentions =
      ap₂ by_bytes byte_is
      (sym (get_or-drop (5 * i) code 1 0) ∙ ap (λ (l : List ℕ). get_or l 1 0) rest)
      ∙ record_mentions one (fits_at assembly_kind P i h s.fit)

  -- What the code's answer says
  pub mentioned_of : {v : Variable} → Some v ≡ mention_at code i → (named one ≡ some v) × (v.0 < 64)
  mentioned_of {v} e =
      let is : named one ≡ some v = by (named one) (sym (e ∙ mentions)) in
      (is, named_small one v (fits_at assembly_kind P i h s.fit) is)
    where
      by : (o : maybe.Option Variable) → mention o ≡ Some v → o ≡ some v
      by none e = let no : ◌≡◌ {A = ℕ} 0 1 = cc in absurd (omega arith)
      by (some w) e = ap some (let same : w ≡ v = cc in same)

  pub mentioned_none : None ≡ mention_at code i → named one ≡ none
  mentioned_none e = by (named one) (sym (e ∙ mentions))
    where
      by : (o : maybe.Option Variable) → mention o ≡ None → o ≡ none
      by none e = refl
      by (some w) e = let no : ◌≡◌ {A = ℕ} 0 1 = cc in absurd (omega arith)
