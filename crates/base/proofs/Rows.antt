-- A row goes on after a call that gives, and ends at one that declines. R is the call's definition: what it answers,
-- and what it leaves of the part of the lent things that it works on; `put` puts that part back among them.
use mathlib.Core.Path.{◌≡◌, sym, ap, ◌∙◌}
use Prim.Native.Nat.{ℕ}
use Rattle.base.specs.Acts.{then'}
use Rattle.base.specs.Answers.{Answer, gives, refused}
use Rattle.base.specs.Rows.{Row, call, answered}

module _ {Lent Part A B : Type 0} (put : Part → Lent) (after : A → Row Lent B) where
  -- the row from this call on
  abbrev pub from : Answer A × Part → Answer B × Lent
  from R = answered (then' (call R.0 (put R.1)) after)

  module _ {x : Answer A} {part : Part} {R : Answer A × Part} (e : (x, part) ≡ R) where
    pub ends_there : {number place : ℕ} → x ≡ refused number place → (refused number place, put part) ≡ from R
    unfolding then' call answered
    ends_there f = ap from ((λ i. (sym f i, part)) ∙ e)

    pub goes_on : {a : A} {y : Answer B × Lent} → x ≡ gives a → y ≡ answered (after a (put part)) → y ≡ from R
    unfolding then' call answered
    goes_on f h = h ∙ ap from ((λ i. (sym f i, part)) ∙ e)

-- The last call of a row, whose answer is the row's
module _ {Lent Part A : Type 0} (put : Part → Lent) {x : Answer A} {part : Part} {R : Answer A × Part}
    (e : (x, part) ≡ R) where
  pub is_last : (x, put part) ≡ answered (call R.0 (put R.1))
  unfolding call answered
  is_last = by x ∙ ap (λ R. answered (call R.0 (put R.1))) e
    where
      by : (x : Answer A) → (x, put part) ≡ answered (call x (put part))
      by (gives a) = λ i. (gives a, put part)
      by (refused number place) = λ i. (refused number place, put part)
