-- One variable more: put at its address, from the last variable back to the first; or taken from its address, from the
-- first on.
use mathlib.Core.Path.{◌≡◌, refl, sym, ap, ◌∙◌}
use mathlib.Core.List.{List}
use Prim.Native.Nat.{ℕ, zero, suc, ◌+◌, ◌-◌, ◌≤◌, ◌<◌}
use native.Mathlib.Omega.{arith}
use lib.IntN.{ℤ, pos}
use lib.ListN.{length, get_or, set, drop, length-set, drop_of_length-le}
use lib.Seq.{drop-cons}
use Rattle.source.specs.Rules.{Store}
use Rattle.fitting.specs.Loading.{put, fill, got, read_back}
use Rattle.fitting.proofs.Loading.{back_at, got_at}

-- ---- Putting

put_none : (D a : ℕ) (x : ℤ) (m : List ℤ) → a ≡ 0 → put D a x m ≡ m
unfolding put
put_none D a x m e = rw e

put_some : (D a : ℕ) (x : ℤ) (m : List ℤ) → (a ≡ 0 → ⊥) → put D a x m ≡ set m (D + a) x
unfolding put
put_some D zero x m h = absurd (h refl)
put_some D (suc a) x m h = refl

-- The variables from v on are put
pub record Filled (t : List ℕ) (s : Store) (D : ℕ) (old now : List ℤ) (v : ℕ) : Type 0 where
  pub low : v ≤ 64
  pub long : length now ≡ length old
  pub same : now ≡ fill (drop v t) D (drop v s) old

pub filled_start : (t : List ℕ) (s : Store) (D : ℕ) (old : List ℤ) → length t ≡ 64 → Filled t s D old old 64
unfolding fill
filled_start t s D old e =
    record { low = omega arith; long = refl; same = rw (drop_of_length-le t {i = 64} (omega arith)) }

pub filled_all : {t : List ℕ} {s : Store} {D : ℕ} {old now : List ℤ} {v : ℕ} → Filled t s D old now v → v ≤ 0
    → now ≡ fill t D s old
filled_all {t} {s} {D} {old} {now} {v} f h =
    f.same ∙ ap (λ (u : ℕ). fill (drop u t) D (drop u s) old) (let z : v ≡ 0 = omega arith in z)

module _ {t : List ℕ} {s : Store} {D : ℕ} {old now : List ℤ} {v : ℕ} (f : Filled t s D old now v) (h : 0 < v)
    (long_t : length t ≡ 64) (long_s : length s ≡ 64) where
  abbrev entry : ℕ
  entry = get_or t (v - 1) 0

  abbrev value : ℤ
  value = get_or s (v - 1) (pos 0)

  one_more : put D entry value now ≡ fill (drop (v - 1) t) D (drop (v - 1) s) old
  unfolding fill
  one_more =
      let up : v ≡ suc (v - 1) = omega arith in
      let in_t : v - 1 < length t = omega (arith, f.low) in
      let in_s : v - 1 < length s = omega (arith, f.low) in
      ap (put D entry value) (f.same ∙ ap (λ (u : ℕ). fill (drop u t) D (drop u s) old) up)
      ∙ sym (rw (drop-cons t (v - 1) 0 in_t, drop-cons s (v - 1) (pos 0) in_s))

  -- An unnamed variable is passed over,
  pub filled_past : entry ≡ 0 → Filled t s D old now (v - 1)
  filled_past e =
      record { low = omega (arith, f.low); long = f.long; same = sym (put_none D entry value now e) ∙ one_more }

  -- a named one is put at its address.
  pub filled_put : {a : ℕ} {x : ℤ} → a ≡ entry → x ≡ value → (a ≡ 0 → ⊥) → Filled t s D old (set now (D + a) x) (v - 1)
  filled_put {a} {x} q p e =
      record {
        low = omega (arith, f.low);
        long = length-set now (D + a) x ∙ f.long;
        same =
            (λ i. set now (D + q i) (p i)) ∙ sym (put_some D entry value now (λ z. e (q ∙ z))) ∙ one_more;
      }

-- ---- Taking

got_none : (D a : ℕ) (m : List ℤ) (x : ℤ) → a ≡ 0 → got D a m x ≡ x
unfolding got
got_none D a m x e = rw e

module _ (t : List ℕ) (D : ℕ) (s m : List ℤ) (v : ℕ) (l : v < length s) where
  -- An unnamed variable keeps its value,
  pub keeps : get_or t v 0 ≡ 0 → get_or s v (pos 0) ≡ get_or (read_back t D s m) v (pos 0)
  keeps e = sym (back_at t D s m v l ∙ got_none D (get_or t v 0) m (get_or s v (pos 0)) e)

  -- a named one has what its address holds.
  pub takes : {a : ℕ} → a ≡ get_or t v 0 → (a ≡ 0 → ⊥) → get_or m (D + a) (pos 0) ≡ get_or (read_back t D s m) v (pos 0)
  takes q h =
      ap (λ (a : ℕ). get_or m (D + a) (pos 0)) q
      ∙ sym (back_at t D s m v l ∙ got_at D (get_or t v 0) m (get_or s v (pos 0)) (omega arith))
