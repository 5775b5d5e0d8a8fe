-- A constant's width by its first byte (Shape) is the width that reading gives: so where a constant was read, its
-- value, its width and its end are those that `constant_at` tells.
use mathlib.Core.Path.{◌≡◌, refl}
use mathlib.Core.Logic.{◌⊎◌, inl, inr}
use mathlib.Core.Bool.{false}
use mathlib.Core.List.{List}
use Prim.Native.Nat.{ℕ, ◌+◌, ◌≤◌, ◌<◌}
use native.Mathlib.Decide.{ℕ_discrete}
use native.Mathlib.Omega.{arith}
use lib.ListN.{get_or}
use borrow.Author.Tests.{ne_eqb}
use Rattle.base.specs.Acts.{ok}
use Rattle.text.specs.Syntax.{four_bytes, one_byte, Expression, Constant}
use Rattle.text.specs.Reading.{constant, expression_byte, expression}
use Rattle.text.proofs.Heads as heads
use Rattle.text.proofs.Opened as text_says
use Rattle.text_shape.specs.Shape.{begins_constant, width_of, constant_width, constant_at}

-- A constant's first byte
abbrev pub Begins : ℕ → Type 0
Begins b = (b ≡ 0x10) ⊎ (b ≡ 0x13)

pub begins_none : {b : ℕ} → (Begins b → ⊥) → begins_constant b ≡ false
begins_none {b} n = rw (ne_eqb b 0x10 (λ e. n (inl e)), ne_eqb b 0x13 (λ e. n (inr e)))

-- Its width
pub one_byte_width : {b : ℕ} → b ≡ 0x13 → width_of b ≡ one_byte
unfolding width_of
one_byte_width e = rw e

pub four_byte_width : {b : ℕ} → (b ≡ 0x13 → ⊥) → width_of b ≡ four_bytes
unfolding width_of
four_byte_width {b} n = rw (ne_eqb b 0x13 n)

pub is_constant : {b : ℕ} → Begins b → expression_byte b ≡ constant (width_of b)
unfolding width_of
is_constant (inl e) = rw e (heads.is_constant refl)
is_constant (inr e) = rw e (heads.is_one_byte_constant refl)

-- Where a constant was read, as a and up to n, this is it.
abbrev pub ConstantRead : List ℕ → ℕ → ℕ → Expression → ℕ → Type 0
ConstantRead text nest i =
    text_says.Leaf text (expression text nest i) (1 + constant_width (get_or text i 0)) i
    (Constant (width_of (get_or text i 0)) (constant_at text i).value)

pub constant_read : (text : List ℕ) (nest i : ℕ) {a : Expression} {n : ℕ} → expression text nest i ≡ ok a n
    → Begins (get_or text i 0) → ConstantRead text nest i a n
constant_read text nest i e b = text_says.constant_at text nest i e (width_of (get_or text i 0)) (is_constant b)

-- Where something was read that is neither a variable nor a constant of four bytes: below 13 it is a Plus,
pub last_sum : (text : List ℕ) (nest i : ℕ) {a : Expression} {n : ℕ} → expression text nest i ≡ ok a n
    → (get_or text i 0 ≡ 0x10 → ⊥) → (get_or text i 0 ≡ 0x11 → ⊥) → get_or text i 0 < 0x13 → get_or text i 0 ≡ 0x12
last_sum text nest i e n0 n1 h = by (ℕ_discrete (get_or text i 0) 0x12)
  where
    neither : Begins (get_or text i 0) → get_or text i 0 ≡ 0x12
    neither (inl f) = absurd (n0 f)
    neither (inr f) = absurd (omega arith)

    by : Dec (get_or text i 0 ≡ 0x12) → get_or text i 0 ≡ 0x12
    by (yes f) = f
    by (no n2) = neither (text_says.last_expression text nest i e n1 n2)

-- and else a constant of one byte.
pub last_constant : (text : List ℕ) (nest i : ℕ) {a : Expression} {n : ℕ} → expression text nest i ≡ ok a n
    → (get_or text i 0 ≡ 0x11 → ⊥) → 0x13 ≤ get_or text i 0 → Begins (get_or text i 0)
last_constant text nest i e n1 h = text_says.last_expression text nest i e n1 (λ f. omega arith)
