-- A byte in a text: how often it stands there from a position on, one byte at a time; and where first.
use mathlib.Core.Path.{◌≡◌, refl, ap, ◌∙◌}
use Prim.Native.Nat.{ℕ, suc, ◌+◌, ◌<◌, ◌≤◌}
use native.Mathlib.Numerals.{add-one}
use native.Mathlib.Omega.{arith}
use mathlib.Core.Bool.{Bool, true, false}
use mathlib.Core.List.{List, [], ◌∷◌}
use lib.Dec.{eqb}
use lib.ListN.{length, get_or, drop, drop_of_length-le}
use lib.Seq.{drop-cons}
use borrow.Author.Tests.{eq-eqb, ne_eqb}
use Rattle.std.specs.Prelude.{if◌then◌else◌}
use Rattle.text_ends.specs.Ends.{times, first}

module _ (b : ℕ) (text : List ℕ) (i : ℕ) where
  this : i < length text
      → times b (drop i text) ≡ (if eqb (get_or text i 0) b then suc (times b (drop (i + 1) text)) else times b
      (drop (i + 1) text))
  unfolding times
  this h = rw (add-one i, drop-cons text i 0)

  pub one_more : i < length text → get_or text i 0 ≡ b → times b (drop i text) ≡ suc (times b (drop (i + 1) text))
  one_more h e = this h ∙ simp (eq-eqb (get_or text i 0) b e)

  pub no_more : i < length text → (get_or text i 0 ≡ b → ⊥) → times b (drop i text) ≡ times b (drop (i + 1) text)
  no_more h e = this h ∙ simp (ne_eqb (get_or text i 0) b e)

  pub none_left : length text ≤ i → times b (drop i text) ≡ 0
  unfolding times
  none_left h = rw (drop_of_length-le text h)

-- A byte that a text has not stands first at its end.
pub not_there : (b : ℕ) (text : List ℕ) → times b text ≡ 0 → length text ≡ first b text
unfolding times first
not_there b [] e = refl
not_there b (x ∷ xs) e = by (eqb x b) (not_there b xs) e
  where
    by : (t : Bool) → (times b xs ≡ 0 → length xs ≡ first b xs) → (if t then suc (times b xs) else times b xs) ≡ 0
        → suc (length xs) ≡ (if t then 0 else suc (first b xs))
    by true rest e = absurd (omega arith)
    by false rest e = ap suc (rest e)
