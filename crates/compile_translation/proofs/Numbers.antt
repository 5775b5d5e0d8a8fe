-- From names to their numbers and back: records of a kind are, as bytes, the records that name these numbers; so what
-- was renamed by numbers is what was renamed by names.
use mathlib.Core.Path.{◌≡◌, refl, sym, ap, ap₂, ◌∙◌}
use mathlib.Core.List.{List, [], ◌∷◌, ◌++◌, map}
use Prim.Native.Nat.{ℕ, ◌+◌}
use lib.IntN.{pos}
use lib.ListN.{get_or, length-map}
use Rattle.word.specs.Numbers.{bytes_of}
use Rattle.record.specs.Records.{Record, LOADI, LOAD, ADD, STORE, JMP, JMPLESS, JMPGE, rename}
use Rattle.record.specs.Bytes as Bytes
use Rattle.record.specs.Bytes.{first_byte, operand, record_bytes, code_bytes, over}
use Rattle.record.specs.Claims.{NameFits, RecordFits, CodeFits}
use Rattle.record_test.specs.Code.{kind_of, SameKind}
use Rattle.record_test.specs.declared.Kind.{Kind}
use Rattle.compile_translation.specs.Standing.{Stands, Renamed}

-- ---- A kind and its numbers

module _ {Name : Type 0} {numbers : Kind} {k : Bytes.Kind Name} (t : SameKind numbers k) where
  -- A record has the bytes of the record that names the number.
  plain_record : (r : Record Name) → record_bytes k r ≡ record_bytes (kind_of numbers) (rename k.number r)
  unfolding first_byte operand rename
  plain_record (LOADI z) = ap (λ (b : ℕ). b ∷ bytes_of z) (sym t.first_same)
  plain_record (LOAD x) = ap (λ (b : ℕ). (b + 1) ∷ bytes_of (pos (k.number x))) (sym t.first_same)
  plain_record ADD = ap (λ (b : ℕ). (b + 2) ∷ bytes_of (pos 0)) (sym t.first_same)
  plain_record (STORE x) = ap (λ (b : ℕ). (b + 3) ∷ bytes_of (pos (k.number x))) (sym t.first_same)
  plain_record (JMP z) = ap (λ (b : ℕ). (b + 4) ∷ bytes_of z) (sym t.first_same)
  plain_record (JMPLESS z) = ap (λ (b : ℕ). (b + 5) ∷ bytes_of z) (sym t.first_same)
  plain_record (JMPGE z) = ap (λ (b : ℕ). (b + 6) ∷ bytes_of z) (sym t.first_same)

  plain_bytes : (P : List (Record Name)) → code_bytes k P ≡ code_bytes (kind_of numbers) (map (rename k.number) P)
  unfolding code_bytes
  plain_bytes [] = refl
  plain_bytes (r ∷ P) = ap₂ ◌++◌ (plain_record r) (plain_bytes P)

  -- It can be written where that can.
  plain_fit : (r : Record Name) → RecordFits k r → RecordFits (kind_of numbers) (rename k.number r)
  unfolding rename
  plain_fit (LOADI z) f = f
  plain_fit (LOAD x) f = (t.names_same (k.number x) ∙ f.0, f.1)
  plain_fit ADD f = f
  plain_fit (STORE x) f = (t.names_same (k.number x) ∙ f.0, f.1)
  plain_fit (JMP z) f = f
  plain_fit (JMPLESS z) f = f
  plain_fit (JMPGE z) f = f

  plain_fits : (P : List (Record Name)) → CodeFits k P → CodeFits (kind_of numbers) (map (rename k.number) P)
  plain_fits [] f = tt
  plain_fits (r ∷ P) f = (plain_fit r f.0, plain_fits P f.1)

  -- Records that stand there stand there by numbers.
  pub plainly : {P : List (Record Name)} {lent : List ℕ} {count : ℕ} {code : List ℕ} → Stands k P lent count code
      → Stands (kind_of numbers) (map (rename k.number) P) lent count code
  plainly {P} {lent} s =
      record {
        stand = s.stand ∙ ap (λ (l : List ℕ). over l lent) (plain_bytes P);
        fit = plain_fits P s.fit;
        all = length-map P (rename k.number) ∙ s.all;
      }

-- ---- Two kinds: the x-th of `names` is the number of the name that g gives for the name of number x

module _ {X Y : Type 0} {from to : Kind} {k : Bytes.Kind X} {k' : Bytes.Kind Y} (t : SameKind from k)
    (t' : SameKind to k') (names : List ℕ) (g : X → Y)
    (same : (x : X) → NameFits k x → get_or names (k.number x) 0 ≡ k'.number (g x)) where
  abbrev new : ℕ → ℕ
  new u = get_or names u 0

  both_ways : (r : Record X) → RecordFits k r
      → rename new (rename k.number r) ≡ rename k'.number (rename g r)
  unfolding rename
  both_ways (LOADI z) h = refl
  both_ways (LOAD x) h = ap (λ n. LOAD n) (same x h)
  both_ways ADD h = refl
  both_ways (STORE x) h = ap (λ n. STORE n) (same x h)
  both_ways (JMP z) h = refl
  both_ways (JMPLESS z) h = refl
  both_ways (JMPGE z) h = refl

  all_both : (P : List (Record X)) → CodeFits k P
      → map (rename new) (map (rename k.number) P) ≡ map (rename k'.number) (map (rename g) P)
  all_both [] h = refl
  all_both (r ∷ P) h = ap₂ (λ r P. r ∷ P) (both_ways r h.0) (all_both P h.1)

  -- Records renamed in place by numbers are the records renamed.
  pub renamed : {P : List (Record X)} {lent : List ℕ} {count : ℕ} {code now : List ℕ} → Stands k P lent count code
      → Renamed from to names count code now → now ≡ over (code_bytes k' (map (rename g) P)) lent
  renamed {P} {lent} s e =
      e _ lent (plainly t s)
      ∙ ap (λ (Q : List (Record ℕ)). over (code_bytes (kind_of to) Q) lent) (all_both P s.fit)
      ∙ ap (λ (l : List ℕ). over l lent) (sym (plain_bytes t' (map (rename g) P)))
