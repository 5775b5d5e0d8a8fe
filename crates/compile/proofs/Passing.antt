-- A table that passes: its entries are at most n, and distinct where they are not 0. Each of 1 to n stands in it once,
-- and with the zeros these are all its entries; an entry at two places would stand in it twice. A table passes where
-- each of 1 to n stands in it: with the zeros these are all its entries, so none stands in it twice.
use mathlib.Core.Path.{◌≡◌, refl, sym, ap, ◌∙◌}
use mathlib.Core.Bool.{Bool, true, false}
use mathlib.Core.List.{List, [], ◌∷◌}
use mathlib.Core.Logic.{⊎_elim}
use Prim.Native.Nat.{ℕ, zero, suc, ◌+◌, ◌<◌, ◌≤◌}
use native.Mathlib.Nat.{eq-or-lt_of_le}
use native.Mathlib.Decide.{dec_lt}
use native.Mathlib.Omega.{arith}
use lib.Dec.{eqb, ltb}
use lib.ListN.{length, get_or, get_or-eq_default}
use borrow.Author.Tests.{eq-eqb, eqb-true, eqb-false, ltb-true, ltb-false, le-ltb}
use Rattle.std.specs.Prelude.{if◌then◌else◌}
use Rattle.compile.specs.Table.{times, named_in, once_each, is_table}
use Rattle.compile.proofs.Entries.{Distinct}

-- As often as there are entries, at most.
pub times_most : (a : ℕ) (t : List ℕ) → times a t ≤ length t
unfolding times
times_most a [] = omega arith
times_most a (x ∷ t) = by (eqb x a) (times_most a t)
  where
    by : (b : Bool) → times a t ≤ length t → (if b then suc (times a t) else times a t) ≤ suc (length t)
    by true h = omega arith
    by false h = omega arith

-- Each of the k numbers from a on stands in a table once, where the test says so.
once_at : (t : List ℕ) (a k i : ℕ) → once_each t a k ≡ true → a ≤ i → i < a + k → times i t ≡ 1
unfolding once_each
once_at t a zero i e h l = absurd (omega arith)
once_at t a (suc k) i e h l = by (eqb (times a t) 1) refl e (λ g m. once_at t (suc a) k i g m (omega arith))
  where
    by : (b : Bool) → eqb (times a t) 1 ≡ b → (if b then once_each t (suc a) k else false) ≡ true
        → (once_each t (suc a) k ≡ true → suc a ≤ i → times i t ≡ 1) → times i t ≡ 1
    by true f g r =
        ⊎_elim (λ (q : a ≡ i). ap (λ j. times j t) (sym q) ∙ eqb-true (times a t) 1 f) (λ q. r g q) (eq-or-lt_of_le h)
    by false f g r = let z : ◌≡◌ {A = ℕ} 0 1 = cc in absurd (omega arith)

-- and the other way.
pub once_all : (t : List ℕ) (a k : ℕ) → ((i : ℕ) → a ≤ i → i < a + k → times i t ≡ 1) → once_each t a k ≡ true
unfolding once_each
once_all t a zero h = refl
once_all t a (suc k) h =
    simp (eq-eqb (times a t) 1 (h a (omega arith) (omega arith)))
    (once_all t (suc a) k (λ i l m. h i (omega arith) (omega arith)))

-- ---- How many entries are below k

unfoldable below : ℕ → List ℕ → ℕ
below k [] = 0
below k (x ∷ t) = if ltb x k then suc (below k t) else below k t

below_zero : (t : List ℕ) → below 0 t ≡ 0
unfolding below
below_zero [] = refl
below_zero (x ∷ t) = simp (le-ltb x 0 (omega arith), below_zero t)

-- Below k + 1 are those below k and those that are k.
below_suc : (k : ℕ) (t : List ℕ) → below (suc k) t ≡ below k t + times k t
unfolding below times
below_suc k [] = refl
below_suc k (x ∷ t) = by (ltb x (suc k)) (ltb x k) (eqb x k) refl refl refl (below_suc k t)
  where
    by : (a b c : Bool) → ltb x (suc k) ≡ a → ltb x k ≡ b → eqb x k ≡ c → below (suc k) t ≡ below k t + times k t
        → (if a then suc (below (suc k) t) else below (suc k) t)
        ≡ (if b then suc (below k t) else below k t) + (if c then suc (times k t) else times k t)
    by true true true p q r h = absurd (omega (arith, ltb-true x k q, eqb-true x k r))
    by true true false p q r h = omega arith
    by true false true p q r h = omega arith
    by true false false p q r h = absurd (omega (arith, ltb-true x (suc k) p, ltb-false x k q, eqb-false x k r))
    by false true c p q r h = absurd (omega (arith, ltb-false x (suc k) p, ltb-true x k q))
    by false false true p q r h = absurd (omega (arith, ltb-false x (suc k) p, eqb-true x k r))
    by false false false p q r h = omega arith

below_most : (k : ℕ) (t : List ℕ) → below k t ≤ length t
unfolding below
below_most k [] = omega arith
below_most k (x ∷ t) = by (ltb x k) (below_most k t)
  where
    by : (b : Bool) → below k t ≤ length t → (if b then suc (below k t) else below k t) ≤ suc (length t)
    by true h = omega arith
    by false h = omega arith

-- Where all entries are below k, each is.
below_all : (k : ℕ) (t : List ℕ) (v : ℕ) → below k t ≡ length t → v < length t → get_or t v 0 < k
unfolding below
below_all k [] v e h = absurd (omega arith)
below_all k (x ∷ t) v e h = by (ltb x k) refl e (below_all k t) v h
  where
    by : (b : Bool) → ltb x k ≡ b → (if b then suc (below k t) else below k t) ≡ suc (length t)
        → ((v : ℕ) → below k t ≡ length t → v < length t → get_or t v 0 < k)
        → (v : ℕ) → v < suc (length t) → get_or (x ∷ t) v 0 < k
    by true p e r zero h = ltb-true x k p
    by true p e r (suc v) h = r v (omega arith) (omega arith)
    by false p e r v h = absurd (omega (arith, below_most k t))

-- Where 1 to k stand in a table once each, the zeros and k more are below k + 1.
below_once : (t : List ℕ) (k : ℕ) → ((i : ℕ) → 1 ≤ i → i ≤ k → times i t ≡ 1) → below (suc k) t ≡ times 0 t + k
below_once t zero h = omega (arith, below_suc 0 t, below_zero t)
below_once t (suc k) h =
    omega (
      arith,
      below_suc (suc k) t,
      below_once t k (λ i a b. h i a (omega arith)),
      h (suc k) (omega arith) (omega arith),
    )

module _ (t : List ℕ) where
  -- 1 to k stand in a table, once at least.
  abbrev Stand : ℕ → Type 0
  Stand k = (a : ℕ) → 1 ≤ a → a ≤ k → 1 ≤ times a t

  -- Then the zeros and k more are below k + 1,
  below_stand : (k : ℕ) → Stand k → times 0 t + k ≤ below (suc k) t
  below_stand zero h = omega (arith, below_suc 0 t)
  below_stand (suc k) h =
      omega (
        arith,
        below_suc (suc k) t,
        below_stand k (λ a l m. h a l (omega arith)),
        h (suc k) (omega arith) (omega arith),
      )

  -- and one more again for each time that one of them stands there once more.
  below_twice : (k a : ℕ) → Stand k → 1 ≤ a → a ≤ k → times 0 t + k + times a t ≤ suc (below (suc k) t)
  below_twice zero a h l m = absurd (omega arith)
  below_twice (suc k) a h l m =
      let others : Stand k = λ a l m. h a l (omega arith) in
      ⊎_elim
      (λ (q : a ≡ suc k). omega (arith, below_suc (suc k) t, below_stand k others, ap (λ i. times i t) q))
      (λ q.
      omega (
        arith,
        below_suc (suc k) t,
        below_twice k a others l (omega arith),
        h (suc k) (omega arith) (omega arith),
      ))
      (eq-or-lt_of_le m)

  -- More entries are below more.
  below_up : (k a : ℕ) → k ≤ a → below k t ≤ below a t
  below_up k zero h = let none : k ≡ 0 = omega arith in rw none (omega arith)
  below_up k (suc a) h =
      ⊎_elim (λ (q : k ≡ suc a). rw q (omega arith)) (λ q. omega (arith, below_suc a t, below_up k a (omega arith)))
      (eq-or-lt_of_le h)

-- ---- Where an entry stands

-- An entry at one place counts one at least,
times_one : (a : ℕ) (t : List ℕ) (v : ℕ) → v < length t → get_or t v 0 ≡ a → 1 ≤ times a t
unfolding times
times_one a [] v h e = absurd (omega arith)
times_one a (x ∷ t) zero h e = simp (eq-eqb x a e) (omega arith)
times_one a (x ∷ t) (suc v) h e = by (eqb x a) (times_one a t v (omega arith) e)
  where
    by : (b : Bool) → 1 ≤ times a t → 1 ≤ (if b then suc (times a t) else times a t)
    by true h = omega arith
    by false h = h

-- and at two places two.
times_two : (a : ℕ) (t : List ℕ) (v w : ℕ) → v < w → w < length t → get_or t v 0 ≡ a → get_or t w 0 ≡ a → 2 ≤ times a t
unfolding times
times_two a [] v w l h e f = absurd (omega arith)
times_two a (x ∷ t) v zero l h e f = absurd (omega arith)
times_two a (x ∷ t) zero (suc w) l h e f = simp (eq-eqb x a e) (omega (arith, times_one a t w (omega arith) f))
times_two a (x ∷ t) (suc v) (suc w) l h e f = by (eqb x a) (times_two a t v w (omega arith) (omega arith) e f)
  where
    by : (b : Bool) → 2 ≤ times a t → 2 ≤ (if b then suc (times a t) else times a t)
    by true h = omega arith
    by false h = h

-- ---- A table that passes

module _ (t : List ℕ) (passes : is_table t ≡ true) where
  pub stands_once : (a : ℕ) → 1 ≤ a → a ≤ named_in t → times a t ≡ 1
  stands_once a low high = once_at t 1 (named_in t) a passes low (omega arith)

  all_below : below (suc (named_in t)) t ≡ length t
  all_below = omega (arith, below_once t (named_in t) stands_once, times_most 0 t)

  -- Nothing above n stands in it.
  pub absent : (a : ℕ) → named_in t < a → times a t ≡ 0
  absent a h = omega (arith, all_below, below_up t (suc (named_in t)) a h, below_suc a t, below_most (suc a) t)

  -- Its entries are at most n,
  pub entries_most : (v : ℕ) → get_or t v 0 ≤ named_in t
  entries_most v =
      elim (dec_lt v (length t)) [
        | yes l ↦ omega (arith, below_all (suc (named_in t)) t v all_below l)
        | no l ↦ omega (arith, get_or-eq_default t 0 {n = v} (omega arith))
      ]

  apart : (v w : ℕ) → v < w → 0 < get_or t v 0 → get_or t v 0 ≡ get_or t w 0 → ⊥
  apart v w l p e =
      elim (dec_lt w (length t)) [
        | yes h ↦
            let a = get_or t v 0 in
            omega (arith, times_two a t v w l h refl (sym e), stands_once a (omega arith) (entries_most v))
        | no h ↦ omega (arith, get_or-eq_default t 0 {n = w} (omega arith))
      ]

  -- and distinct where they are not 0.
  pub entries_distinct : Distinct t
  entries_distinct v w p e =
      elim (dec_lt v w) [
        | yes l ↦ absurd (apart v w l p e)
        | no l ↦
            elim (dec_lt w v) [ yes m ↦ absurd (apart w v m (omega arith) (sym e)) | no m ↦ omega arith ]
      ]

-- Where each of 1 to n stands in a table, it passes.
pub stand_passes : (t : List ℕ) → Stand t (named_in t) → is_table t ≡ true
stand_passes t h =
    once_all t 1 (named_in t)
    (λ a l m.
    omega (
      arith,
      h a l (omega arith),
      below_twice t (named_in t) a h l (omega arith),
      below_most (suc (named_in t)) t,
      times_most 0 t,
    ))
