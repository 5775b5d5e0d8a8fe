-- The end of a part from the ends of its own parts, which a cache knows: parts in a row (Passing), before them the
-- construct's own bytes.
use mathlib.Core.Path.{◌≡◌, refl, subst}
use mathlib.Core.Logic.{◌⊎◌, inl, inr}
use Prim.Native.Nat.{ℕ, ◌+◌, ◌≤◌, ◌<◌}
use native.Mathlib.Omega.{arith}
use mathlib.Core.List.{List}
use lib.ListN.{length, get_or}
use Rattle.std.specs.Prelude.{Some}
use Rattle.text_shape.specs.Shape.{constant_width}
use Rattle.text_shape.proofs.Constants.{Begins}
use Rattle.text_ends.specs.Ends.{width, due_after, Row, none}
use Rattle.text_ends.specs.Ends.{known, PartEnds}
use Rattle.text_ends.proofs.Caching.{is_so}
use Rattle.text_ends.proofs.Passing.{opens, constant_opens, opened, in_a_row, pair_width, pair_due}

module _ {text : List ℕ} where
  -- where a part stands, the position is inside the text
  begins : {i j : ℕ} → Row text i 1 j → i ≤ length text
  begins r = let h = (opened r (λ z. absurd (omega arith))).0 in omega arith

  module _ {ends : List ℕ} (k : PartEnds text ends) where
    one : {p r : ℕ} → known (get_or ends p 0) ≡ Some r → Row text p 1 r
    one = is_so k

    two : {p q r : ℕ} → known (get_or ends p 0) ≡ Some q → known (get_or ends q 0) ≡ Some r → Row text p 2 r
    two e f = in_a_row text (one e) (one f)

    three : {p q r t : ℕ} → known (get_or ends p 0) ≡ Some q → known (get_or ends q 0) ≡ Some r
        → known (get_or ends r 0) ≡ Some t → Row text p 3 t
    three e f g = in_a_row text (two e f) (one g)

    -- ---- By the construct's first byte

    module _ (i : ℕ) (h : i < length text) where
      pub skip_end : get_or text i 0 ≡ 0x00 → Row text i 1 (i + 1)
      unfolding width due_after
      skip_end e = opens text 0x00 i e (omega arith) none

      pub assign_end : {r : ℕ} → get_or text i 0 ≡ 0x01 → known (get_or ends (i + 2) 0) ≡ Some r → Row text i 1 r
      unfolding width due_after
      assign_end e f = opens text 0x01 i e (begins (one f)) (one f)

      pub choice_end : {q r t : ℕ} → get_or text i 0 ≡ 0x03 → known (get_or ends (i + 1) 0) ≡ Some q
          → known (get_or ends q 0) ≡ Some r → known (get_or ends r 0) ≡ Some t → Row text i 1 t
      unfolding width due_after
      choice_end e f g l = opens text 0x03 i e (omega arith) (three f g l)

      pub constant_end : {w r : ℕ} → Begins (get_or text i 0) → w ≡ constant_width (get_or text i 0) → r ≡ i + 1 + w
          → i + 1 + w ≤ length text → Row text i 1 r
      constant_end {w} {r} b f g l =
          let last = i + (1 + constant_width (get_or text i 0)) in
          let end : last ≡ r = omega arith in
          constant_opens text i b (omega arith) (subst (λ (j : ℕ). Row text last 0 j) end none)

      pub leaf_end : {r : ℕ} → (get_or text i 0 ≡ 0x11) ⊎ (get_or text i 0 ≡ 0x20) → r ≡ i + 2 → i + 2 ≤ length text
          → Row text i 1 r
      unfolding width due_after
      leaf_end (inl e) f l = rw f (opens text 0x11 i e l none)
      leaf_end (inr e) f l = rw f (opens text 0x20 i e l none)

      pub not_end : {r : ℕ} → get_or text i 0 ≡ 0x21 → known (get_or ends (i + 1) 0) ≡ Some r → Row text i 1 r
      unfolding width due_after
      not_end e f = opens text 0x21 i e (omega arith) (one f)

      pub pair_end : {q r : ℕ} → (get_or text i 0 ≡ 0x00 → ⊥) → (get_or text i 0 ≡ 0x01 → ⊥)
          → (get_or text i 0 ≡ 0x03 → ⊥)
          → (Begins (get_or text i 0) → ⊥) → (get_or text i 0 ≡ 0x11 → ⊥) → (get_or text i 0 ≡ 0x20 → ⊥)
          → (get_or text i 0 ≡ 0x21 → ⊥) → known (get_or ends (i + 1) 0) ≡ Some q → known (get_or ends q 0) ≡ Some r
          → Row text i 1 r
      pair_end n0 n1 n2 n3 n4 n5 n6 f g =
          let b = get_or text i 0 in
          let w = pair_width b n0 n1 n2 n3 n4 n5 n6 in
          opens text b i refl (omega arith) (rw (w, pair_due b n0 n1 n2 n3 n4 n5 n6 0) (two f g))
