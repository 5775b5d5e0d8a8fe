-- A rest of a list that is lent as a part of its own, and comes back.
use mathlib.Core.Path.{◌≡◌, ap, ◌∙◌}
use mathlib.Core.List.{List, [], ◌++◌, append-nil}
use Prim.Native.Nat.{ℕ, ◌-◌}
use native.Mathlib.Omega.{arith}
use lib.ListN.{length, take, drop, length-drop, drop_of_length-le}
use lib.Seq.{take_all}
use borrow.Rule.Slice.PartMut.{mid_of, put_mid}

module _ (xs : List ℕ) (a : ℕ) where
  -- The rest from a on, as a part that is lent, is the rest;
  pub rest_is : mid_of a (length xs - a) xs ≡ drop a xs
  rest_is = take_all (length xs - a) (drop a xs) (rw length-drop (omega arith))

  pub rest_length : length (mid_of a (length xs - a) xs) ≡ length xs - a
  rest_length = ap length rest_is ∙ length-drop a xs

  -- and where it comes back, nothing stands after it.
  pub back_is : (ys : List ℕ) → put_mid a (length xs - a) xs ys ≡ take a xs ++ ys
  back_is ys =
      let none : drop (length xs - a) (drop a xs) ≡ [] =
      drop_of_length-le (drop a xs) {i = length xs - a} (rw length-drop (omega arith)) in
      ap (λ (l : List ℕ). take a xs ++ (ys ++ l)) none ∙ ap (λ (l : List ℕ). take a xs ++ l) (append-nil ys)
