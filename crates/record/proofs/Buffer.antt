-- Bytes written into a buffer, as lists: what stands before the place written and after it stays, so two writes in a
-- row are one, whichever of them comes first; and a rest that is lent and comes back is a write too.
use mathlib.Core.Path.{◌≡◌, refl, sym, ap, ◌∙◌}
use mathlib.Core.List.{List, [], ◌∷◌, ◌++◌, append_assoc}
use Prim.Native.Nat.{ℕ, ◌+◌, ◌-◌, ◌≤◌}
use native.Mathlib.Omega.{arith}
use lib.ListN.{length, take, drop, set, length-append, length-drop}
use lib.Seq.{take_at, drop_at, take-add, drop-drop, length-take-le, sets-eq}
use borrow.Rule.Slice.PartMut.{mid_of, put_mid}
use Rattle.base.proofs.Rests.{rest_is, back_is}
use Rattle.record.specs.Bytes.{over}
use Rattle.record.proofs.Bytes.{length_over}
use Rattle.record.specs.Buffer.{into}

-- ---- Two writes in a row

-- Behind x, a write leaves x.
into_behind : (x y p : List ℕ) (a : ℕ) → length x ≡ a → into a p (x ++ y) ≡ x ++ over p y
into_behind x y p a e = rw (take_at x y a e, drop_at x y a e)

-- p, and then q over what is left: both over the whole.
over_rest : (p q y : List ℕ) → p ++ over q (drop (length p) y) ≡ over (p ++ q) y
over_rest p q y =
    rw (drop-drop (length q) (length p) y, ← length-append p q) (sym (append_assoc p q (drop (length (p ++ q)) y)))

module _ (a b : ℕ) (p q old : List ℕ) (e : a + length p ≡ b) (room : b ≤ length old) where
  -- q written right behind p,
  pub into_after : into b q (into a p old) ≡ into a (p ++ q) old
  into_after =
      let x = take a old in
      let y = drop a old in
      let reach : length (x ++ p) ≡ b = omega (arith, length-append x p, length-take-le a old (omega arith)) in
      ap (into b q) (sym (append_assoc x p (drop (length p) y)))
      ∙ into_behind (x ++ p) (drop (length p) y) q b reach
      ∙ append_assoc x p (over q (drop (length p) y))
      ∙ ap (λ (l : List ℕ). x ++ l) (over_rest p q y)

  -- and p right in front of q.
  pub into_before : into a p (into b q old) ≡ into a (p ++ q) old
  into_before =
      let x = take a old in
      let y = drop a old in
      let gap = take (length p) y in
      let z = over q (drop (length p) y) in
      let front : length x ≡ a = length-take-le a old (omega arith) in
      let wide : length gap ≡ length p = length-take-le (length p) y (omega (arith, length-drop a old)) in
      let split : into b q old ≡ x ++ (gap ++ z) =
      rw (← e, take-add a (length p) old, ← drop-drop (length p) a old) (append_assoc x gap z) in
      ap (into a p) split
      ∙ into_behind x (gap ++ z) p a front
      ∙ ap (λ (l : List ℕ). x ++ (p ++ l)) (drop_at gap z (length p) wide)
      ∙ ap (λ (l : List ℕ). x ++ l) (over_rest p q y)

-- A buffer keeps its length.
pub length_into : (a : ℕ) (p old : List ℕ) → a + length p ≤ length old → length (into a p old) ≡ length old
length_into a p old h =
    let rest = drop a old in
    let room : length p ≤ length rest = omega (arith, length-drop a old) in
    omega (
      arith,
      length-append (take a old) (over p rest),
      length-take-le a old (omega arith),
      length_over p rest room,
      length-drop a old,
    )

-- ---- A rest that is lent

module _ (xs : List ℕ) (a : ℕ) where
  -- What was written at its start is written from a on.
  pub lent : (p ys : List ℕ) → ys ≡ over p (mid_of a (length xs - a) xs) → put_mid a (length xs - a) xs ys ≡ into a p xs
  lent p ys e = back_is xs a ys ∙ ap (λ (l : List ℕ). take a xs ++ l) (e ∙ ap (over p) (rest_is xs a))

-- ---- One byte, and then some

-- A byte written, and others right behind it, are one write of them all.
pub byte_and_rest : (a k x : ℕ) (p q old : List ℕ) → q ≡ p → k ≡ length p → a + 1 + length p ≤ length old
    → put_mid (a + 1) k (set old a x) q ≡ into a (x ∷ p) old
byte_and_rest a k x p q old same long h =
    let one : set old a x ≡ into a (x ∷ []) old =
    sets-eq (x ∷ []) old a (omega arith)
    ∙ append_assoc (take a old) (x ∷ []) (drop (a + 1) old)
    ∙ ap (λ (l : List ℕ). take a old ++ ((x ∷ []) ++ l)) (sym (drop-drop 1 a old)) in
    (λ i. put_mid (a + 1) (long i) (one i) (same i)) ∙ into_after a (a + 1) (x ∷ []) p old refl (omega arith)
