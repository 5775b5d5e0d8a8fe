-- The variable of an address, the first whose entry is the address; and the variables of all addresses, by the address.
-- They are made from the last entry down: one entry more names its address anew.
use mathlib.Core.Path.{◌≡◌, refl, sym, ap, ◌∙◌}
use mathlib.Core.List.{List}
use Prim.Native.Nat.{ℕ, zero, suc, ◌+◌, ◌-◌, ◌<◌, ◌≤◌}
use native.Mathlib.Nat.{add-zero, zero-add, suc-add, add-suc}
use native.Mathlib.Numerals.{add-one}
use native.Mathlib.Decide.{ℕ_discrete}
use native.Mathlib.Omega.{arith}
use lib.Dec.{eqb}
use lib.ListN.{length, get_or, drop, set, replicate, length-set, get_or-replicate, drop_of_length-le}
use lib.Seq.{drop-cons, get_or-set_same, get_or-set_other, ext_get_or}
use borrow.Author.Tests.{eq-eqb, ne_eqb}
use Rattle.std.specs.Prelude.{if◌then◌else◌}
use Rattle.compile.specs.Table.{variable_at}
use Rattle.compile_back.specs.Steps.{inverse}

module _ (t : List ℕ) (a v : ℕ) where
  here : v < length t
      → variable_at (drop v t) v a ≡ (if eqb (get_or t v 0) a then v else variable_at (drop (v + 1) t) (v + 1) a)
  unfolding variable_at
  here h = rw (add-one v, drop-cons t v 0)

  -- This entry is the address,
  found_here : v < length t → get_or t v 0 ≡ a → variable_at (drop v t) v a ≡ v
  found_here h e = here h ∙ simp (eq-eqb (get_or t v 0) a e)

  -- or it is not,
  found_later : v < length t → (get_or t v 0 ≡ a → ⊥)
      → variable_at (drop v t) v a ≡ variable_at (drop (v + 1) t) (v + 1) a
  found_later h e = here h ∙ simp (ne_eqb (get_or t v 0) a e)

  -- or no entry is left.
  found_nowhere : length t ≤ v → variable_at (drop v t) v a ≡ 0
  unfolding variable_at
  found_nowhere h = rw (drop_of_length-le t h)

-- ---- By the address

pub length_inverse : (t : List ℕ) (a k : ℕ) → length (inverse t a k) ≡ k
unfolding inverse
length_inverse t a zero = refl
length_inverse t a (suc k) = ap suc (length_inverse t (suc a) k)

inverse_from : (t : List ℕ) (a k i : ℕ) → i < k → get_or (inverse t a k) i 0 ≡ variable_at t 0 (a + i)
unfolding inverse
inverse_from t a zero i h = absurd (omega arith)
inverse_from t a (suc k) zero h = ap (variable_at t 0) (sym (add-zero a))
inverse_from t a (suc k) (suc i) h =
    inverse_from t (suc a) k i (omega arith) ∙ ap (variable_at t 0) (suc-add a i ∙ sym (add-suc a i))

pub inverse_at : (t : List ℕ) (k a : ℕ) → a < k → get_or (inverse t 0 k) a 0 ≡ variable_at t 0 a
inverse_at t k a h = inverse_from t 0 k a h ∙ ap (variable_at t 0) (zero-add a)

-- ---- From the last entry down

-- The entries from v on are inverted
pub record Inverted (t old : List ℕ) (v : ℕ) (now : List ℕ) : Type 0 where
  pub most : v ≤ length t
  pub long : length now ≡ length old
  pub named : (a : ℕ) → a < length old → get_or now a 0 ≡ variable_at (drop v t) v a

module _ {t old : List ℕ} where
  pub inverted_start : old ≡ replicate (length old) 0 → Inverted t old (length t) old
  inverted_start e =
      record {
        most = omega arith;
        long = refl;
        named = λ a h.
            ap (λ (l : List ℕ). get_or l a 0) e
            ∙ get_or-replicate (length old) a 0 0 h
            ∙ sym (found_nowhere t a (length t) (omega arith));
      }

  -- One entry more
  pub inverted_set : {v : ℕ} {now : List ℕ} → Inverted t old v now → 0 < v → get_or t (v - 1) 0 < length old
      → Inverted t old (v - 1) (set now (get_or t (v - 1) 0) (v - 1))
  inverted_set {v} {now} i h l =
      record {
        most = omega (arith, i.most);
        long = length-set now x (v - 1) ∙ i.long;
        named = λ a m. by a m (ℕ_discrete a x);
      }
    where
      x : ℕ
      x = get_or t (v - 1) 0

      on : v ≡ v - 1 + 1
      on = omega arith

      by : (a : ℕ) → a < length old → Dec (a ≡ x)
          → get_or (set now x (v - 1)) a 0 ≡ variable_at (drop (v - 1) t) (v - 1) a
      by a m (yes q) =
          rw q (get_or-set_same now x (v - 1) 0 (omega (arith, i.long)))
          ∙ sym (found_here t a (v - 1) (omega (arith, i.most)) (sym q))
      by a m (no q) =
          get_or-set_other now x a (v - 1) 0 q
          ∙ i.named a m
          ∙ ap (λ (u : ℕ). variable_at (drop u t) u a) on
          ∙ sym (found_later t a (v - 1) (omega (arith, i.most)) (λ e. q (sym e)))

  pub inverted_end : {now : List ℕ} → Inverted t old 0 now → now ≡ inverse t 0 (length old)
  inverted_end {now} i =
      ext_get_or 0 now (inverse t 0 (length old)) (i.long ∙ sym (length_inverse t 0 (length old)))
      (λ a m.
      let h : a < length old = omega (arith, i.long) in
      i.named a h ∙ sym (inverse_at t (length old) a h))
