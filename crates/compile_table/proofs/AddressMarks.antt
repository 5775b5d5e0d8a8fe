-- A table's address marks, and its test by them (AddressMarks: WordTest).
use mathlib.Core.Path.{◌≡◌, refl, sym, ap, ◌∙◌}
use mathlib.Core.Bool.{Bool, true, false, ◌||◌}
use mathlib.Core.List.{List, [], ◌∷◌}
use Prim.Native.Nat.{ℕ, zero, suc, ◌^◌, ◌≤◌, ◌<◌}
use native.Mathlib.Decide.{dec_lt}
use native.Mathlib.Omega.{arith}
use lib.Bits.{or_lt}
use lib.Dec.{eqb, ltb, lit<, eqb-zero-suc, eqb-suc-suc}
use lib.ListN.{length}
use lib.Pow.{pow-lt}
use borrow.Author.Tests.{ltb-true, ltb-false, lt-ltb, le-ltb, ne_eqb}
use Rattle.std.specs.Prelude.{if◌then◌else◌}
use Rattle.compile.specs.Table.{times, named_in, is_table}
use Rattle.compile.proofs.Passing.{stands_once, absent, stand_passes}
use Rattle.compile_table.specs.AddressMarks.{address_bit, address_marks, bit, lowest, WordTest}
use Rattle.compile_table.proofs.Bits.{bit_none, bit_power, bit_of_or, bit_past, bit_lowest, same_bits}

-- ---- An entry's bit

pub address_bit_small : (x : ℕ) → address_bit x < 2 ^ 64
unfolding address_bit
address_bit_small zero = lit< tt
address_bit_small (suc b) = by (ltb b 64) refl
  where
    by : (c : Bool) → ltb b 64 ≡ c → (if c then 2 ^ b else 0) < 2 ^ 64
    by true e = pow-lt (ltb-true b 64 e)
    by false e = lit< tt

bit_of_address : (x b : ℕ) → b < 64 → bit (address_bit x) b ≡ eqb x (suc b)
unfolding address_bit
bit_of_address zero b h = bit_none b ∙ sym (eqb-zero-suc b)
bit_of_address (suc a) b h = by (ltb a 64) refl
  where
    by : (c : Bool) → ltb a 64 ≡ c → bit (if c then 2 ^ a else 0) b ≡ eqb (suc a) (suc b)
    by true e = bit_power a b ∙ sym (eqb-suc-suc a b)
    by false e = bit_none b ∙ sym (ne_eqb (suc a) (suc b) (λ q. omega (arith, ltb-false a 64 e)))

-- ---- The address marks of all entries

pub address_marks_small : (t : List ℕ) → address_marks t < 2 ^ 64
unfolding address_marks
address_marks_small [] = lit< tt
address_marks_small (x ∷ t) = or_lt 64 (address_bit x) (address_marks t) (address_bit_small x) (address_marks_small t)

address_marks_bit : (t : List ℕ) (b : ℕ) → b < 64 → bit (address_marks t) b ≡ ltb 0 (times (suc b) t)
unfolding address_marks times
address_marks_bit [] b h = bit_none b
address_marks_bit (x ∷ t) b h =
    bit_of_or (address_bit x) (address_marks t) b ∙ by (eqb x (suc b)) (bit_of_address x b h) (address_marks_bit t b h)
  where
    by : (c : Bool) → bit (address_bit x) b ≡ c → bit (address_marks t) b ≡ ltb 0 (times (suc b) t)
        → (bit (address_bit x) b || bit (address_marks t) b)
        ≡ ltb 0 (if c then suc (times (suc b) t) else times (suc b) t)
    by true e f = simp e (sym (lt-ltb 0 (suc (times (suc b) t)) (omega arith)))
    by false e f = simp (e, f) refl

no_bit : (t : List ℕ) (b : ℕ) → 64 ≤ b → bit (address_marks t) b ≡ false
no_bit t b h = bit_past 64 (address_marks t) b (address_marks_small t) h

-- A bit that is set is that of an address in the table.
set_stands : (t : List ℕ) (b : ℕ) → bit (address_marks t) b ≡ true → (b < 64) × (1 ≤ times (suc b) t)
set_stands t b e =
    elim (dec_lt b 64) [
      | yes l ↦ (l, ltb-true 0 (times (suc b) t) (sym (address_marks_bit t b l) ∙ e))
      | no l ↦ let no : ◌≡◌ {A = ℕ} 0 1 = cc (e, no_bit t b (omega arith)) in absurd (omega arith)
    ]

stands_set : (t : List ℕ) (b : ℕ) → b < 64 → 1 ≤ times (suc b) t → bit (address_marks t) b ≡ true
stands_set t b l h = address_marks_bit t b l ∙ lt-ltb 0 (times (suc b) t) h

-- ---- The test

module _ (t : List ℕ) (size : length t ≡ 64) where
  -- The bits of a table that passes are the n lowest,
  bits_lowest : is_table t ≡ true → (b : ℕ) → bit (address_marks t) b ≡ ltb b (named_in t)
  bits_lowest h b =
      elim (dec_lt b (named_in t)) [
        | yes l ↦
            stands_set t b (omega arith) (omega (arith, stands_once t h (suc b) (omega arith) (omega arith)))
            ∙ sym (lt-ltb b (named_in t) l)
        | no l ↦
            elim (dec_lt b 64) [
              | yes m ↦
                  address_marks_bit t b m
                  ∙ le-ltb 0 (times (suc b) t) (omega (arith, absent t h (suc b) (omega arith)))
                  ∙ sym (le-ltb b (named_in t) (omega arith))
              | no m ↦ no_bit t b (omega arith) ∙ sym (le-ltb b (named_in t) (omega arith))
            ]
      ]

  -- and where they are, it passes.
  lowest_pass : ((b : ℕ) → bit (address_marks t) b ≡ ltb b (named_in t)) → is_table t ≡ true
  lowest_pass h = stand_passes t stand
    where
      stand : (a : ℕ) → 1 ≤ a → a ≤ named_in t → 1 ≤ times a t
      stand zero l m = absurd (omega arith)
      stand (suc b) l m = (set_stands t b (h b ∙ lt-ltb b (named_in t) (omega arith))).1

pub word_test : WordTest
word_test t size =
    record {
      one_word = address_marks_small t;
      marked = λ b. (set_stands t b, λ h. stands_set t b h.0 h.1);
      passes = (bits_lowest t size, lowest_pass t size);
      as_a_whole = (
        λ h.
            same_bits (address_marks t) (lowest (named_in t))
            (λ b. bits_lowest t size h b ∙ sym (bit_lowest (named_in t) b)),
        λ e. lowest_pass t size (λ b. ap (λ w. bit w b) e ∙ bit_lowest (named_in t) b),
      );
    }
