-- One record, written and read: each of the seven bytes is its own operation, a name's number is that name again, and
-- four bytes give the number they were made of; so the record at an index of written code is the record written there.
use mathlib.Core.Path.{◌≡◌, refl, sym, ap, ap₂, ◌∙◌}
use mathlib.Core.Bool.{Bool, true}
use mathlib.Core.List.{List, [], ◌∷◌, ◌++◌}
use mathlib.Core.Option.{none, some}
use Prim.Native.Nat.{ℕ, zero, suc, ◌+◌, ◌-◌, ◌*◌, ◌<◌, ◌≤◌}
use native.Mathlib.Nat.{zero-add, suc-add, add-zero}
use native.Mathlib.Numerals.{one-add}
use native.Mathlib.Omega.{arith}
use borrow.Author.Tests.{ne_eqb}
use lib.Dec.{eqb, eqb-suc-suc}
use lib.IntN.{ℤ, pos}
use lib.ListN.{length, get_or, get_elem?}
use lib.Seq.{get_or-append-add}
use mir.Syntax.{w32}
use mir.Val.{SFits}
use Rattle.std.specs.Prelude.{if◌then◌else◌}
use Rattle.word.specs.Numbers.{number_of, number_at, bytes_of}
use Rattle.word.proofs.Claims.{number_of_bytes}
use Rattle.record.specs.Records.{Record, LOADI, LOAD, ADD, STORE, JMP, JMPLESS, JMPGE}
use Rattle.record.specs.Bytes.{Kind, assembly_kind, machine_kind, first_byte, operand, record_bytes, code_bytes}
use Rattle.record.specs.Bytes.{Operation, loadi, load, add, store, jmp, jmpless, jmpge, unknown, operation}
use Rattle.record.specs.Bytes.{name_of, option_map, is_zero, record_of, record_at}
use Rattle.record.specs.Claims.{NameFits, RecordFits, CodeFits}

-- A kind whose names are read as they were written
pub record Lawful {Name : Type 0} (k : Kind Name) : Type 0 where
  pub named : (x : Name) → k.name (k.number x) ≡ x

-- Both kinds are such.
pub assembly_lawful : Lawful assembly_kind
assembly_lawful = record { named = λ x. refl }

pub machine_lawful : (n : ℕ) → Lawful (machine_kind n)
machine_lawful n = record { named = λ x. refl }

-- ---- Bytes that stand behind others

-- Behind other bytes a byte stands at its index and their number,
byte_behind : (front code : List ℕ) (m n : ℕ) → m ≡ length front + n → get_or (front ++ code) m 0 ≡ get_or code n 0
byte_behind front code m n e = ap (λ (u : ℕ). get_or (front ++ code) u 0) e ∙ get_or-append-add front code n 0

-- and so does a number.
number_behind : (front code : List ℕ) (m n : ℕ) → m ≡ length front + n → number_at (front ++ code) m ≡ number_at code n
unfolding number_at
number_behind front code m n e = λ t.
    number_of
    (byte_behind front code m n e t)
    (byte_behind front code (m + 1) (n + 1) (omega arith) t)
    (byte_behind front code (m + 2) (n + 2) (omega arith) t)
    (byte_behind front code (m + 3) (n + 3) (omega arith) t)

-- ---- The byte

-- Two numbers above the same one are equal where what is added is.
above : (first i j : ℕ) → eqb (first + i) (first + j) ≡ eqb i j
above zero i j = ap₂ eqb (zero-add i) (zero-add j)
above (suc first) i j =
    ap₂ eqb (suc-add first i) (suc-add first j) ∙ eqb-suc-suc (first + i) (first + j) ∙ above first i j

-- The same of the lowest and another,
above_first : (first i : ℕ) → eqb (first + i) first ≡ eqb i 0
above_first first i = ap (eqb (first + i)) (sym (add-zero first)) ∙ above first i 0

-- and of the lowest and itself.
first_first : (first : ℕ) → eqb first first ≡ true
first_first first = ap₂ eqb (sym (add-zero first)) (sym (add-zero first)) ∙ above first 0 0

-- A byte stands for what its number above the first stands for;
pub by_number : (first byte j : ℕ) → byte ≡ first + j → operation first byte ≡ operation 0 j
unfolding operation
by_number first byte j e = rw e (simp (above, above_first))

-- any other byte stands for nothing.
pub by_none : (first byte : ℕ) → (byte ≡ first → ⊥) → (byte ≡ first + 1 → ⊥) → (byte ≡ first + 2 → ⊥)
    → (byte ≡ first + 3 → ⊥) → (byte ≡ first + 4 → ⊥) → (byte ≡ first + 5 → ⊥) → (byte ≡ first + 6 → ⊥)
    → operation first byte ≡ unknown
unfolding operation
by_none first byte h0 h1 h2 h3 h4 h5 h6 =
    simp
    (ne_eqb _ _ h0, ne_eqb _ _ h1, ne_eqb _ _ h2, ne_eqb _ _ h3, ne_eqb _ _ h4, ne_eqb _ _ h5, ne_eqb _ _ h6)

-- What a byte stands for by what it is above the first, and below the first or past JMPGE.
pub at_number : (first byte : ℕ) {d : ℕ} (j : ℕ) → (first ≤ byte) × (d ≡ byte - first) → d ≡ j
    → operation 0 j ≡ operation first byte
at_number first byte j h e = sym (by_number first byte j (omega (arith, h.0, h.1)))

pub past_all : (first byte : ℕ) → (first ≤ byte → 6 < byte - first) → unknown ≡ operation first byte
past_all first byte h =
    sym (by_none first byte (λ e. omega (arith, h (omega arith))) (λ e. omega (arith, h (omega arith)))
    (λ e. omega (arith, h (omega arith))) (λ e. omega (arith, h (omega arith))) (λ e. omega (arith, h (omega arith)))
    (λ e. omega (arith, h (omega arith))) (λ e. omega (arith, h (omega arith))))

-- What a record does
abbrev operation_in : {Name : Type 0} → Record Name → Operation
operation_in (LOADI z) = loadi
operation_in (LOAD x) = load
operation_in ADD = add
operation_in (STORE x) = store
operation_in (JMP i) = jmp
operation_in (JMPLESS i) = jmpless
operation_in (JMPGE i) = jmpge

module _ {Name : Type 0} (k : Kind Name) where
  -- A record's first byte stands for what the record does.
  operation_read : (r : Record Name) → operation k.first (first_byte k r) ≡ operation_in r
  unfolding operation first_byte
  operation_read (LOADI z) = simp first_first
  operation_read (LOAD x) = simp (above, above_first)
  operation_read ADD = simp (above, above_first)
  operation_read (STORE x) = simp (above, above_first)
  operation_read (JMP i) = simp (above, above_first)
  operation_read (JMPLESS i) = simp (above, above_first)
  operation_read (JMPGE i) = simp (above, above_first)

  -- ---- The operand

  -- A name is read from its number.
  name_read : Lawful k → (x : Name) → NameFits k x → name_of k (pos (k.number x)) ≡ some x
  unfolding name_of
  name_read l x f = ap (λ (b : Bool). if b then some (k.name (k.number x)) else none) f.0 ∙ ap some (l.named x)

  -- What a record does, with its operand, is the record.
  operand_read : Lawful k → (r : Record Name) → RecordFits k r → record_of k (operation_in r) (operand k r) ≡ some r
  unfolding record_of operand option_map is_zero
  operand_read l (LOADI z) f = refl
  operand_read l (LOAD x) f = ap (option_map LOAD) (name_read l x f)
  operand_read l ADD f = refl
  operand_read l (STORE x) f = ap (option_map STORE) (name_read l x f)
  operand_read l (JMP i) f = refl
  operand_read l (JMPLESS i) f = refl
  operand_read l (JMPGE i) f = refl

  -- The operand of a record that can be written is a 32-bit number.
  pub operand_fits : (r : Record Name) → RecordFits k r → SFits w32 (operand k r)
  unfolding operand
  operand_fits (LOADI z) f = f
  operand_fits (LOAD x) f = record { sfits = f.1 }
  operand_fits ADD f = record { sfits = omega arith }
  operand_fits (STORE x) f = record { sfits = f.1 }
  operand_fits (JMP i) f = f
  operand_fits (JMPLESS i) f = f
  operand_fits (JMPGE i) f = f

  -- ---- The record

  -- A record is read from its byte and its operand.
  pub record_read : Lawful k → (r : Record Name) → RecordFits k r
      → record_of k (operation k.first (first_byte k r)) (operand k r) ≡ some r
  record_read l r f = ap (λ (o : Operation). record_of k o (operand k r)) (operation_read r) ∙ operand_read l r f

  -- A record is read from its five bytes, whatever stands after them.
  pub first_record : Lawful k → (r : Record Name) (rest : List ℕ) → RecordFits k r
      → record_at k (record_bytes k r ++ rest) 0 ≡ some r
  unfolding bytes_of number_at
  first_record l r rest f =
      ap (record_of k (operation k.first (first_byte k r))) (number_of_bytes (operand k r) (operand_fits r f))
      ∙ record_read l r f

  -- Behind i records' bytes the record at index i + j is the one that stands at index j without them.
  pub record_behind : (front code : List ℕ) (i j : ℕ) → length front ≡ 5 * i
      → record_at k (front ++ code) (i + j) ≡ record_at k code j
  record_behind front code i j e =
      ap₂
      (λ (b : ℕ) (z : ℤ). record_of k (operation k.first b) z)
      (byte_behind front code (5 * (i + j)) (5 * j) (omega arith))
      (number_behind front code (5 * (i + j) + 1) (5 * j + 1) (omega arith))

  -- The record at an index of written code is the record that was written there.
  pub code_read : Lawful k → (P : List (Record Name)) (rest : List ℕ) (i : ℕ) → CodeFits k P → i < length P
      → record_at k (code_bytes k P ++ rest) i ≡ get_elem? P i
  unfolding code_bytes bytes_of
  code_read l [] rest i f h = absurd (omega arith)
  code_read l (r ∷ P) rest zero f h = first_record l r (code_bytes k P ++ rest) f.0
  code_read l (r ∷ P) rest (suc i) f h =
      rw (← one-add i) (record_behind (record_bytes k r) (code_bytes k P ++ rest) 1 i refl)
      ∙ code_read l P rest i f.1 (omega arith)
