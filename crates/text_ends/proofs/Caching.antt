-- A cache of ends stays right when something is noted in it that is so.
use mathlib.Core.Path.{◌≡◌, refl, sym, subst}
use Prim.Native.Nat.{ℕ, ◌<◌, ◌≤◌}
use native.Mathlib.Omega.{arith}
use mathlib.Core.Bool.{Bool, true, false}
use mathlib.Core.List.{List}
use lib.Dec.{eqb, ltb}
use lib.ListN.{length, get_or, set}
use lib.Seq.{set_out}
use borrow.Author.Tests.{eqb-false, ltb-true, ltb-false, lt-ltb, le-ltb}
use Rattle.std.specs.Prelude.{Option, None, Some, IfSome, if◌then◌else◌}
use Rattle.text_shape.specs.Caches.{Right}
use Rattle.text_shape.proofs.Caching.{stays_set}
use Rattle.text_ends.specs.Ends.{known, noted}

-- ---- What an entry says

pub says : (entry r : ℕ) → known entry ≡ Some r → (entry ≡ r) × (entry ≡ 0 → ⊥)
unfolding known
says entry r e = by (eqb entry 0) refl e
  where
    by : (t : Bool) → eqb entry 0 ≡ t → (if t then None else Some entry) ≡ Some r → (entry ≡ r) × (entry ≡ 0 → ⊥)
    by true s e = absurd (let no : ◌≡◌ {A = ℕ} 0 1 = cc in omega arith)
    by false s e = (cc, eqb-false _ 0 s)

-- what a cache knows at a position is so,
pub is_so : {so : ℕ → ℕ → Type 0} {cache : List ℕ} → Right so cache → {i r : ℕ} → known (get_or cache i 0) ≡ Some r
    → so i r
is_so {so} {cache} right {i} {r} e =
    let (same, some) = says (get_or cache i 0) r e in
    subst (so i) same (right.right i some)

-- and so is what a look-up gives.
pub if_known : (o : Option ℕ) (entry : ℕ) {P : ℕ → Type 0} → o ≡ known entry
    → ((r : ℕ) → known entry ≡ Some r → P r) → IfSome o P
if_known None entry e h = tt
if_known (Some r) entry e h = h r (sym e)

-- ---- What is noted, by the room for it

module _ (cache : List ℕ) (i value : ℕ) where
  pub noted_in : value < 0x10000 → noted cache i value ≡ set cache i value
  unfolding noted
  noted_in h = simp (lt-ltb value 0x10000 h)

  pub noted_large : 0x10000 ≤ value → noted cache i value ≡ cache
  unfolding noted
  noted_large h = simp (le-ltb value 0x10000 h)

  pub noted_out : length cache ≤ i → noted cache i value ≡ cache
  unfolding noted
  noted_out h = by (ltb value 0x10000)
    where
      by : (t : Bool) → (if t then set cache i value else cache) ≡ cache
      by true = set_out cache i value h
      by false = refl

-- ---- It stays right

pub stays : {so : ℕ → ℕ → Type 0} {cache : List ℕ} → Right so cache → (i value : ℕ) → so i value
    → Right so (noted cache i value)
stays {so} {cache} r i value h = by (ltb value 0x10000) refl
  where
    by : (s : Bool) → ltb value 0x10000 ≡ s → Right so (noted cache i value)
    by true s = rw (noted_in cache i value (ltb-true _ _ s)) (stays_set r i value (λ n. h))
    by false s = rw (noted_large cache i value (ltb-false _ _ s)) r
