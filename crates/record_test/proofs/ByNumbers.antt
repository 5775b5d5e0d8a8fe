-- The test of one record, as the code makes it on numbers: a byte from the kind's first on has its distance for a
-- number, a name is an operand whose bits are below 2147483648 and within the kind's limits.
use mathlib.Core.Path.{◌≡◌, refl, sym, ap, ◌∙◌}
use mathlib.Core.Bool.{Bool, true, false, ◌&&◌}
use mathlib.Core.Option.{Option, none, some}
use Prim.Native.Nat.{ℕ, zero, suc, ◌-◌, ◌<◌, ◌≤◌}
use native.Mathlib.Omega.{arith}
use lib.Dec.{eqb, leb, ltb}
use lib.IntN.{ℤ, pos, negsuc}
use mir.Syntax.{w32}
use mir.Val.{SFits}
use borrow.Author.Tests.{ne_eqb, lt-ltb, le-ltb, lt-leb}
use Rattle.std.specs.Prelude.{if◌then◌else◌}
use Rattle.word.specs.Numbers.{bits_of}
use Rattle.record.specs.Bytes as Bytes
use Rattle.record.specs.Bytes.{unknown, operation, name_of, option_map, is_zero, record_of}
use mathlib.Core.Logic.{◌⊎◌, inl, inr}
use Rattle.std.specs.Prelude.{Some}
use Rattle.record.specs.Code.{operation_of}
use Rattle.record.specs.declared.Operation.{Operation}
use Rattle.record.specs.declared.Operation.TheVariants.{Loadi, Load, Add, Store, Jmp, Jmpless, Jmpge}
use Rattle.record_test.specs.Code.{kind_of, is_some, numbered}
use Rattle.record_test.specs.declared.Kind.{Kind}
use Rattle.record.proofs.Reading.{by_number, by_none}

-- ---- The byte

-- Below the first byte nothing is known.
pub below_first : (first b : ℕ) → b < first → operation first b ≡ unknown
below_first first b h =
    by_none first b (λ e. omega arith) (λ e. omega arith) (λ e. omega arith) (λ e. omega arith) (λ e. omega arith)
    (λ e. omega arith) (λ e. omega arith)

-- From the first byte on, the distance is the number.
pub from_first : (first b : ℕ) → first ≤ b → operation first b ≡ numbered (b - first)
unfolding operation numbered
from_first first b h = by_number first b (b - first) (omega arith)

-- Past JMPGE's number nothing is known.
pub past_last : (j : ℕ) → 6 < j → numbered j ≡ unknown
unfolding operation numbered
past_last j h =
    by_none 0 j (λ e. omega arith) (λ e. omega arith) (λ e. omega arith) (λ e. omega arith) (λ e. omega arith)
    (λ e. omega arith) (λ e. omega arith)

-- ---- The operand

-- Something is there where the test held,
some_if : {A : Type 0} (b : Bool) (x : A) → is_some (if b then some x else none) ≡ b
some_if true x = refl
some_if false x = refl

-- and where something was mapped.
some_map : {A B : Type 0} (f : A → B) (x : Option A) → is_some (option_map f x) ≡ is_some x
unfolding option_map
some_map f none = refl
some_map f (some a) = refl

-- The bits below 2147483648 that a kind has for names
abbrev pub names : Kind → ℕ → Bool
names k u = ltb u 2147483648 && (leb k.least u && leb u k.most)

-- An operand is a name where its bits are.
pub name_bits : (k : Kind) (z : ℤ) → SFits w32 z → is_some (name_of (kind_of k) z) ≡ names k (bits_of z)
unfolding name_of bits_of
name_bits k (pos u) f =
    some_if (leb k.least u && leb u k.most) u
    ∙ sym (ap (λ (t : Bool). t && (leb k.least u && leb u k.most)) (lt-ltb u 2147483648 f.sfits))
name_bits k (negsuc u) f =
    let n = 4294967296 - suc u in
    sym (ap (λ (t : Bool). t && (leb k.least n && leb n k.most)) (le-ltb n 2147483648 (omega (arith, f.sfits))))

-- An operand is 0 where its bits are.
pub zero_bits : (z : ℤ) → SFits w32 z → is_zero z ≡ eqb (bits_of z) 0
unfolding is_zero bits_of
zero_bits (pos u) f = refl
zero_bits (negsuc u) f = sym (ne_eqb (4294967296 - suc u) 0 (λ e. omega (arith, f.sfits)))

-- ---- The record of an operation

module _ {Name : Type 0} (k : Bytes.Kind Name) (z : ℤ) where
  abbrev taken : Operation → Bool
  taken o = is_some (record_of k (operation_of (Some o)) z)

  pub named_taken : (o : Operation) → (o ≡ Load) ⊎ (o ≡ Store) → taken o ≡ is_some (name_of k z)
  unfolding record_of
  named_taken o (inl e) = ap taken e ∙ some_map _ (name_of k z)
  named_taken o (inr e) = ap taken e ∙ some_map _ (name_of k z)

  pub add_taken : (o : Operation) → o ≡ Add → taken o ≡ is_zero z
  unfolding record_of
  add_taken o e = ap taken e ∙ some_if (is_zero z) _

  -- LOADI and the jumps take any operand.
  pub rest_taken : (o : Operation) → (o ≡ Load → ⊥) → (o ≡ Add → ⊥) → (o ≡ Store → ⊥) → taken o ≡ true
  unfolding record_of
  rest_taken Loadi a b c = refl
  rest_taken Load a b c = absurd (a refl)
  rest_taken Add a b c = absurd (b refl)
  rest_taken Store a b c = absurd (c refl)
  rest_taken Jmp a b c = refl
  rest_taken Jmpless a b c = refl
  rest_taken Jmpge a b c = refl

-- ---- The record of a number

module _ {Name : Type 0} (k : Bytes.Kind Name) (z : ℤ) where
  abbrev tested : ℕ → Bool
  tested j = is_some (record_of k (numbered j) z)

  -- LOADI and the jumps take any operand; past JMPGE there is nothing.
  pub rest_tested : (j : ℕ) → (j ≡ 1 → ⊥) → (j ≡ 2 → ⊥) → (j ≡ 3 → ⊥) → tested j ≡ leb j 6
  unfolding numbered record_of
  rest_tested zero a b c = refl
  rest_tested (suc zero) a b c = absurd (a refl)
  rest_tested (suc (suc zero)) a b c = absurd (b refl)
  rest_tested (suc (suc (suc zero))) a b c = absurd (c refl)
  rest_tested (suc (suc (suc (suc zero)))) a b c = refl
  rest_tested (suc (suc (suc (suc (suc zero))))) a b c = refl
  rest_tested (suc (suc (suc (suc (suc (suc zero)))))) a b c = refl
  rest_tested (suc (suc (suc (suc (suc (suc (suc j))))))) a b c =
      let i : ℕ = suc (suc (suc (suc (suc (suc (suc j)))))) in
      ap (λ o. is_some (record_of k o z)) (past_last i (omega arith)) ∙ sym (lt-leb i 6 (omega arith))
