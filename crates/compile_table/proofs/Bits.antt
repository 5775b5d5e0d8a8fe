-- Bits of words, as std has them: of two words together, of a power of 2, of the n lowest; words with the same bits are
-- the same.
use mathlib.Core.Path.{◌≡◌, refl, sym, ap, ◌∙◌}
use mathlib.Core.Bool.{false, ◌||◌}
use Prim.Native.Nat.{ℕ, zero, suc, ◌^◌, ◌<◌, ◌≤◌, max}
use native.Mathlib.Decide.{ℕ_discrete, dec_lt}
use native.Mathlib.Omega.{arith}
use lib.Bits.{bit_or}
use lib.Dec.{eqb, ltb}
use borrow.Author.Tests.{eq-eqb, ne_eqb, lt-ltb, le-ltb}
use Rattle.std.specs.Int.{bit_at}
use Rattle.std.proofs.lemmas.Nat.Bits.{bit_at-zero, bit_at_or, bit_at-pow_same, bit_at-pow_other, bit_at_ones}
use Rattle.std.proofs.lemmas.Nat.Bits.{bit_at_ones_above, bit_at_above, bit_at-lt, same_from_bits}
use Rattle.compile_table.specs.AddressMarks.{bit, lowest}

-- Whether a bit is set, by what it is
told : (w b : ℕ) {x : ℕ} → bit_at w b ≡ x → bit w b ≡ eqb x 1
unfolding bit
told w b e = ap (λ (x : ℕ). eqb x 1) e

-- ---- Of two words together

either : (x y : ℕ) → x < 2 → y < 2 → eqb (max x y) 1 ≡ (eqb x 1 || eqb y 1)
either zero zero p q = refl
either zero (suc zero) p q = refl
either (suc zero) zero p q = refl
either (suc zero) (suc zero) p q = refl
either (suc (suc x)) y p q = absurd (omega arith)
either zero (suc (suc y)) p q = absurd (omega arith)
either (suc zero) (suc (suc y)) p q = absurd (omega arith)

pub bit_of_or : (v w b : ℕ) → bit (bit_or v w) b ≡ (bit v b || bit w b)
unfolding bit
bit_of_or v w b = told _ _ (bit_at_or v w b) ∙ either (bit_at v b) (bit_at w b) (bit_at-lt v b) (bit_at-lt w b)

-- Three words together, whichever two first
pub or_assoc : (u v w : ℕ) → bit_or (bit_or u v) w ≡ bit_or u (bit_or v w)
or_assoc u v w =
    same_from_bits (bit_or (bit_or u v) w) (bit_or u (bit_or v w))
    (λ b. omega (arith, bit_at_or (bit_or u v) w b, bit_at_or u v b, bit_at_or u (bit_or v w) b, bit_at_or v w b))

-- ---- Of a word without bits, of a power of 2, of the n lowest

pub bit_none : (b : ℕ) → bit 0 b ≡ false
bit_none b = told _ _ (bit_at-zero b)

pub bit_power : (a b : ℕ) → bit (2 ^ a) b ≡ eqb a b
bit_power a b = by (ℕ_discrete b a)
  where
    by : Dec (b ≡ a) → bit (2 ^ a) b ≡ eqb a b
    by (yes q) = rw q (told _ _ (bit_at-pow_same a) ∙ sym (eq-eqb a a refl))
    by (no q) = told _ _ (bit_at-pow_other a b q) ∙ sym (ne_eqb a b (λ e. q (sym e)))

pub bit_lowest : (n b : ℕ) → bit (lowest n) b ≡ ltb b n
bit_lowest n b =
    elim (dec_lt b n) [
      | yes l ↦ told _ _ (bit_at_ones n b l) ∙ sym (lt-ltb b n l)
      | no l ↦ told _ _ (bit_at_ones_above n b (omega arith)) ∙ sym (le-ltb b n (omega arith))
    ]

-- A word of m bits has none past them.
pub bit_past : (m w b : ℕ) → w < 2 ^ m → m ≤ b → bit w b ≡ false
bit_past m w b h l = told _ _ (bit_at_above w m b h l)

-- ---- Words with the same bits

set_same : (x y : ℕ) → x < 2 → y < 2 → eqb x 1 ≡ eqb y 1 → x ≡ y
set_same zero zero p q e = refl
set_same (suc zero) (suc zero) p q e = refl
set_same zero (suc zero) p q e = let no : ◌≡◌ {A = ℕ} 0 1 = cc in absurd (omega arith)
set_same (suc zero) zero p q e = let no : ◌≡◌ {A = ℕ} 0 1 = cc in absurd (omega arith)
set_same (suc (suc x)) y p q e = absurd (omega arith)
set_same zero (suc (suc y)) p q e = absurd (omega arith)
set_same (suc zero) (suc (suc y)) p q e = absurd (omega arith)

pub same_bits : (v w : ℕ) → ((b : ℕ) → bit v b ≡ bit w b) → v ≡ w
unfolding bit
same_bits v w e = same_from_bits v w (λ b. set_same (bit_at v b) (bit_at w b) (bit_at-lt v b) (bit_at-lt w b) (e b))
