-- The ticks left never grow, so WHILE is its first pass and then itself, whatever the passes allowed.
-- `Ends r Q` says that Q holds of an outcome that is no end; it is shown by going on, never by inversion. Of the states
-- on the way it says only what is needed: the ticks left and the store.
use mathlib.Core.Path.{◌≡◌, refl}
use Prim.Native.Nat.{ℕ, zero, suc, ◌≤◌, ◌<◌}
use native.Mathlib.Omega.{arith}
use mathlib.Core.Bool.{Bool, true, false}
use Rattle.std.specs.Prelude.{if◌then◌else◌}
use Rattle.base.specs.Acts.{ok, ended, then', ◌>>=◌, ◌>>◌, give}
use Rattle.word.specs.Sums.{SumRule}
use Rattle.text.specs.Syntax.{Condition, Command}
use Rattle.source.specs.Rules.{State, Rule, Outcomes, charge, tick, truth, loop, exec}
use Rattle.source.specs.Claims.{Again}
use Rattle.source.proofs.Ticks.{Low, low_truth, low_exec}

-- what an outcome that is no end owes
abbrev pub Ends : {A : Type 0} → Outcomes A → (A → State → Type 0) → Type 0
Ends (ok a s) Q = Q a s
Ends (ended e) Q = Unit {0}

pub ends_then : {A B : Type 0} (r : Outcomes A) (f : A → Rule B) (Q : B → State → Type 0)
    → Ends r (λ a s. Ends (f a s) Q) → Ends (then' r f) Q
unfolding then'
ends_then (ok a s) f Q h = h
ends_then (ended e) f Q h = tt

then_cong : {A B : Type 0} (r : Outcomes A) (f g : A → Rule B) → Ends r (λ a s. f a s ≡ g a s)
    → then' r f ≡ then' r g
unfolding then'
then_cong (ok a s) f g h = h
then_cong (ended e) f g h = refl

ends_charge : (n : ℕ) (s : State) (Q : Unit {0} → State → Type 0)
    → ((u : State) → u.left < n → u.store ≡ s.store → Q tt u) → Ends (charge n s) Q
unfolding charge
ends_charge zero s Q h = tt
ends_charge (suc n) s Q h = h _ (omega arith) refl

pub ends_tick : (s : State) (Q : Unit {0} → State → Type 0)
    → ((u : State) → u.left < s.left → u.store ≡ s.store → Q tt u) → Ends (tick s) Q
unfolding tick
ends_tick s Q h = ends_charge s.left s Q h

-- a tick and then f
pub ends_step : {A : Type 0} (s : State) (f : Rule A) (Q : A → State → Type 0)
    → ((u : State) → u.left < s.left → u.store ≡ s.store → Ends (f u) Q)
    → Ends (then' (tick s) (λ _. f)) Q
ends_step s f Q h = ends_then (tick s) (λ _. f) Q (ends_tick s _ h)

pub ends_if : {A : Type 0} (v : Bool) (x y : Rule A) (s : State) (Q : A → State → Type 0)
    → (v ≡ true → Ends (x s) Q) → (v ≡ false → Ends (y s) Q) → Ends ((if v then x else y) s) Q
ends_if true x y s Q h k = h refl
ends_if false x y s Q h k = k refl

if_cong : {A : Type 0} (v : Bool) (x x' y : Rule A) (s : State) → x s ≡ x' s
    → (if v then x else y) s ≡ (if v then x' else y) s
if_cong true x x' y s h = h
if_cong false x x' y s h = refl

-- an outcome with at most n ticks left
ends_low : {A : Type 0} (n : ℕ) (r : Outcomes A) (Q : A → State → Type 0) → Low n r
    → ((a : A) (u : State) → u.left ≤ n → Q a u) → Ends r Q
unfolding Low
ends_low n (ok a u) Q l h = h a u l
ends_low n (ended e) Q l h = tt

-- ---- WHILE is its first pass and then itself

module _ (sum : SumRule) where
  -- a pass of WHILE, with r for the passes after it
  abbrev pub pass : Condition → Command → Rule (Unit {0}) → Rule (Unit {0})
  pass b c r = truth sum b false >>= λ v. if v then (exec sum c >> (tick >> r)) else give tt

  -- r or r', which agree at fewer ticks
  pass_cong : (b : Condition) (c : Command) (r r' : Rule (Unit {0})) (s : State)
      → ((u : State) → u.left < s.left → r u ≡ r' u) → pass b c r s ≡ pass b c r' s
  pass_cong b c r r' s h =
      then_cong (truth sum b false s) _ _
      (ends_low s.left (truth sum b false s) _ (low_truth sum b false s.left s (omega arith)) (λ v s₁ l₁.
      if_cong v _ _ _ s₁
      (then_cong (exec sum c s₁) _ _
      (ends_low s.left (exec sum c s₁) _ (low_exec sum c s.left s₁ l₁) (λ _ s₂ l₂.
      then_cong (tick s₂) _ _ (ends_tick s₂ _ (λ s₃ l₃ e. h s₃ (omega arith))))))))

  loop_passes : (b : Condition) (c : Command) (g g' : ℕ) (s : State) → s.left < g → s.left < g'
      → loop sum g (truth sum b false) (exec sum c) s ≡ loop sum g' (truth sum b false) (exec sum c) s
  unfolding loop
  loop_passes b c zero g' s l l' = absurd (omega arith)
  loop_passes b c (suc g) zero s l l' = absurd (omega arith)
  loop_passes b c (suc g) (suc g') s l l' =
      pass_cong b c _ _ s (λ u k. loop_passes b c g g' u (omega arith) (omega arith))

  pub again : Again sum
  unfolding loop exec
  again b c s =
      pass_cong b c _ _ s (λ u k. loop_passes b c s.left (suc u.left) u (omega arith) (omega arith))
