-- A cache stays right when something is put into it that is so; one of zeros knows nothing.
use mathlib.Core.Path.{◌≡◌, refl, sym, subst, ◌∙◌}
use Prim.Native.Nat.{ℕ, ◌<◌}
use native.Mathlib.Decide.{ℕ_discrete}
use native.Mathlib.Omega.{arith}
use mathlib.Core.Bool.{Bool, true, false}
use mathlib.Core.List.{List}
use lib.Dec.{ltb}
use lib.ListN.{length, get_or, set, replicate, length-replicate, get_or-replicate, get_or-eq_default}
use lib.Seq.{set_out, get_or-set_same, get_or-set_other}
use borrow.Author.Tests.{ltb-true, ltb-false}
use Rattle.text_shape.specs.Caches.{Right}

-- ---- It stays right

module _ {so : ℕ → ℕ → Type 0} {cache : List ℕ} (r : Right so cache) (i value : ℕ) where
  put : ((value ≡ 0 → ⊥) → so i value) → i < length cache → Right so (set cache i value)
  put h l = record { right = λ j e. by j e (ℕ_discrete j i) }
    where
      by : (j : ℕ) → (get_or (set cache i value) j 0 ≡ 0 → ⊥) → Dec (j ≡ i) → so j (get_or (set cache i value) j 0)
      by j e (yes q) =
          let is : get_or (set cache i value) j 0 ≡ value = rw q (get_or-set_same cache i value 0 l) in
          rw (is, q) (h (λ z. e (is ∙ z)))
      by j e (no q) =
          let same = get_or-set_other cache i j value 0 q in
          subst (so j) (sym same) (r.right j (λ z. e (same ∙ z)))

  -- (past its end nothing is put)
  pub stays_set : ((value ≡ 0 → ⊥) → so i value) → Right so (set cache i value)
  stays_set h = by (ltb i (length cache)) refl
    where
      by : (t : Bool) → ltb i (length cache) ≡ t → Right so (set cache i value)
      by true t = put h (ltb-true _ _ t)
      by false t = rw (set_out cache i value (ltb-false _ _ t)) r

-- ---- One of zeros

abbrev empty : ℕ → List ℕ
empty n = replicate n 0

zeros : (n i : ℕ) (t : Bool) → ltb i n ≡ t → get_or (empty n) i 0 ≡ 0
zeros n i true t = get_or-replicate n i 0 0 (ltb-true i n t)
zeros n i false t =
    get_or-eq_default (empty n) 0 (omega (arith, ltb-false i n t, length-replicate {A = ℕ} n 0))

pub knows_nothing : {so : ℕ → ℕ → Type 0} (n : ℕ) → Right so (replicate n 0)
knows_nothing n = record { right = λ i e. absurd (e (zeros n i (ltb i n) refl)) }
