-- A list that is changed place by place, from the first on, until it is another list: below the place that is reached
-- it is the new list, from there on the old one.
use mathlib.Core.Path.{◌≡◌, refl, sym, ◌∙◌}
use mathlib.Core.List.{List}
use Prim.Native.Nat.{ℕ, ◌+◌, ◌<◌, ◌≤◌}
use native.Mathlib.Decide.{ℕ_discrete}
use native.Mathlib.Omega.{arith}
use lib.ListN.{length, get_or, set, length-set}
use lib.Seq.{get_or-set_same, get_or-set_other, ext_get_or}

pub record Swept {A : Type 0} (d : A) (old new now : List A) (v : ℕ) : Type 0 where
  pub long : length now ≡ length old
  pub done : (w : ℕ) → w < v → get_or now w d ≡ get_or new w d
  pub rest : (w : ℕ) → v ≤ w → get_or now w d ≡ get_or old w d

module _ {A : Type 0} {d : A} {old new : List A} where
  pub swept_start : Swept d old new old 0
  swept_start = record { long = refl; done = λ w h. absurd (omega arith); rest = λ w h. refl }

  -- A step that leaves the place as it was
  pub swept_kept : {now : List A} {v : ℕ} → Swept d old new now v → get_or old v d ≡ get_or new v d
      → Swept d old new now (v + 1)
  swept_kept {now = now} {v = v} s e =
      record {
        long = s.long;
        done = λ w h. by w h (ℕ_discrete w v);
        rest = λ w h. s.rest w (omega arith);
      }
    where
      by : (w : ℕ) → w < v + 1 → Dec (w ≡ v) → get_or now w d ≡ get_or new w d
      by w h (yes q) = rw q (s.rest v (omega arith) ∙ e)
      by w h (no q) = s.done w (omega (arith, q))

  -- A step that writes
  pub swept_set : {now : List A} {v : ℕ} {x : A} → Swept d old new now v → v < length old → x ≡ get_or new v d
      → Swept d old new (set now v x) (v + 1)
  swept_set {now = now} {v = v} {x = x} s h e =
      record {
        long = length-set now v x ∙ s.long;
        done = λ w h. by w h (ℕ_discrete w v);
        rest = λ w k. get_or-set_other now v w x d (omega arith) ∙ s.rest w (omega arith);
      }
    where
      by : (w : ℕ) → w < v + 1 → Dec (w ≡ v) → get_or (set now v x) w d ≡ get_or new w d
      by w k (yes q) = rw q (get_or-set_same now v x d (omega (arith, s.long)) ∙ e)
      by w k (no q) = get_or-set_other now v w x d q ∙ s.done w (omega (arith, q))

  -- Where no rest is left, the list is the new one.
  pub swept_end : {now : List A} {v : ℕ} → Swept d old new now v → length old ≤ v → length new ≡ length old → now ≡ new
  swept_end {now = now} s h e = ext_get_or d now new (s.long ∙ sym e) (λ w k. s.done w (omega (arith, s.long)))
