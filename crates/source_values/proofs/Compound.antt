-- Expressions and conditions made of parts, at their places: what each part came to says what the whole comes to. Each
-- law is Steps' law for a part of two, with the construct's own rule for what is done after the first part.
use mathlib.Core.Path.{◌≡◌, refl, sym, ap, ◌∙◌}
use Prim.Native.Nat.{ℕ}
use mathlib.Core.Bool.{Bool, true, false, not}
use lib.IntN.{ℤ}
use Rattle.std.specs.Prelude.{if◌then◌else◌}
use Rattle.base.specs.Acts.{Outcome, ok, ended, then', ◌>>=◌, give}
use Rattle.text.specs.Syntax.{Expression, Plus, Condition, Not, And, Less}
use Rattle.base.specs.Answers.{Refusal}
use Rattle.text.specs.Reading.{Reader}
use Rattle.text.proofs.Opened.{One, Two}
use Rattle.source.specs.Rules.{Early, State, Ending, Rule, Outcomes, value, truth}
use Rattle.source.specs.Calls.{sums}
use Rattle.source_values.specs.Placed.{Read, ◌upto◌, placed, reaching, inverse}
use Rattle.source_values.specs.Code.{summing, comparing}
use Rattle.source_values.proofs.Steps.{placed_is, passed, begin_ended, begin_ok, second_at}
use Rattle.source_values.proofs.Steps.{second_read, then_ended, then_ok}

abbrev Reading : Type 0 → Type 0
Reading A = Outcome ℕ Refusal A

abbrev pub valuing : Expression → Rule ℤ
valuing = value sums

abbrev pub under : Bool → Condition → Rule Bool
under flag b = truth sums b flag

-- ---- Plus and Less: two expressions, and then `last` with their values

module _ {C Z : Type 0} (k : C → Rule Z) {h : Expression → Expression → C} (last : ℤ → ℤ → Rule Z)
    (does : (a b : Expression) (s : State) → k (h a b) s ≡ (valuing a >>= λ x. valuing b >>= last x) s)
    {x : Reading Expression} {y : Reader Expression} {c : C} {n : ℕ} {whole : Reading C} (w : whole ≡ ok c n)
    (t : Two x y h c n) (s : State) where
  abbrev right : ℤ → Expression → Rule Z
  right v b = valuing b >>= last v

  pub first_ended : {e : Early × Ending} → placed valuing x s ≡ ended e → placed k whole s ≡ ended e
  first_ended p = begin_ended valuing k w t right (does t.one t.two) s p

  module _ {v : ℤ} {m : ℕ} {u : State} (p : placed valuing x s ≡ ok (v upto m) u) where
    pub right_read : Read (y m)
    right_read = second_read valuing k w t right (does t.one t.two) s p

    right_is : placed k whole s ≡ placed (right v) (y m) u
    right_is = begin_ok valuing k w t right (does t.one t.two) s p

    pub second_ended : {e : Early × Ending} → placed valuing (y m) u ≡ ended e → placed k whole s ≡ ended e
    second_ended q = right_is ∙ then_ended valuing (last v) (y m) u q

    pub both_ok : {z : ℤ} {j : ℕ} {r : State} → placed valuing (y m) u ≡ ok (z upto j) r
        → placed k whole s ≡ reaching j (last v z r)
    both_ok q = right_is ∙ then_ok valuing (last v) (y m) u q

pub plus_does : (a b : Expression) (s : State)
    → value sums (Plus a b) s ≡ (valuing a >>= λ x. valuing b >>= summing x) s
unfolding value
plus_does a b s = refl

pub less_does : (flag : Bool) (a b : Expression) (s : State)
    → under flag (Less a b) s ≡ (valuing a >>= λ x. valuing b >>= comparing x) s
unfolding truth
less_does flag a b s = refl

-- ---- Not: its part under the other flag

inverts : (n : ℕ) (o : Outcomes Bool) → reaching n (then' o (λ v. give (not v))) ≡ inverse (reaching n o)
unfolding then' give
inverts n (ok v s) = refl
inverts n (ended e) = refl

pub not_is : (flag : Bool) {x whole : Reading Condition} {b : Condition} {n : ℕ} → whole ≡ ok b n → One x Not b n
    → (s : State) → placed (under flag) whole s ≡ inverse (placed (under (not flag)) x s)
unfolding truth
not_is flag {n = n} w t s =
    placed_is (under flag) s w ∙ ap (λ b. reaching n (under flag b s)) t.is
    ∙ inverts n (under (not flag) t.part s)
    ∙ sym (ap inverse (placed_is (under (not flag)) s t.read))

-- ---- And: the left under false; only if it is true, the right under And's own flag

module _ (flag : Bool) {x : Reading Condition} {y : Reader Condition} {b : Condition} {n : ℕ}
    {whole : Reading Condition} (w : whole ≡ ok b n) (t : Two x y And b n) (s : State) where
  abbrev other_side : Bool → Condition → Rule Bool
  other_side v b = if v then under flag b else give false

  and_does : (s : State)
      → under flag (And t.one t.two) s ≡ then' (under false t.one s) (λ v. other_side v t.two)
  unfolding truth
  and_does s = refl

  pub and_ended : {e : Early × Ending} → placed (under false) x s ≡ ended e → placed (under flag) whole s ≡ ended e
  and_ended p = begin_ended (under false) (under flag) w t other_side and_does s p

  module _ {v : Bool} {m : ℕ} {u : State} (p : placed (under false) x s ≡ ok (v upto m) u) where
    pub and_second : y m ≡ ok t.two n
    and_second = second_at (under false) (under flag) w t other_side and_does s p

    and_is : (c : Bool) → v ≡ c → placed (under flag) whole s ≡ placed (other_side c) (y m) u
    and_is c e =
        begin_ok (under false) (under flag) w t other_side and_does s p ∙ ap (λ v. placed (other_side v) (y m) u) e

    pub and_true : v ≡ true → placed (under flag) whole s ≡ placed (under flag) (y m) u
    and_true e = and_is true e

    pub and_false : v ≡ false → placed (under flag) whole s ≡ ok (false upto n) u
    unfolding then' give
    and_false e = and_is false e ∙ passed and_second (give false) u
