-- The invariants of the two loops: what the command comes to from here is what it comes to from the start. In
-- `execute` the second command of a sequence takes the place of the sequence; in `repeat` a WHILE does, one pass on.
use mathlib.Core.Path.{◌≡◌, sym, subst, ◌∙◌}
use Prim.Native.Nat.{ℕ, ◌+◌, ◌-◌, ◌≤◌}
use native.Mathlib.Nat.{le_refl}
use native.Mathlib.Omega.{arith}
use mathlib.Core.Bool.{Bool, false}
use mathlib.Core.List.{List}
use Rattle.base.specs.Acts.{Outcome, ok}
use Rattle.text.specs.Syntax.{Condition, Command, ◌⨾◌, WHILE◌DO◌}
use Rattle.base.specs.Answers.{Refusal}
use Rattle.text.specs.Reading.{Reader, command}
use Rattle.text.proofs.Opened.{Two}
use Rattle.source.specs.Rules.{State, Outcomes}
use Rattle.source.proofs.Ticks.{Low, low_truth, low_exec}
use Rattle.source.specs.Calls.{sums}
use Rattle.source_values.specs.Placed.{Read, ◌upto◌, placed}
use Rattle.source_values.proofs.Steps.{gave}
use Rattle.source_values.proofs.Compound.{under}
use Rattle.source_commands.proofs.Commands.{doing, sequence_read, sequence_ok, body_at}

-- ---- The loop of `execute`

pub record Going (text : List ℕ) (start deepest : ℕ) (s₀ : State) (at nest : ℕ) (s : State) : Type 0 where
  pub read : Read (command text nest at)
  pub nested : nest ≤ deepest
  pub same : placed doing (command text nest at) s ≡ placed doing (command text deepest start) s₀

-- after the first command of a sequence
pub second_next : {text : List ℕ} {start deepest at nest next : ℕ} {s₀ s s' : State}
    (g : Going text start deepest s₀ at nest s)
    → (t : Two (command text (nest - 1) (at + 1)) (command text (nest - 1)) ◌⨾◌ g.read.part g.read.end)
    → placed doing (command text (nest - 1) (at + 1)) s ≡ ok (tt upto next) s'
    → Going text start deepest s₀ next (nest - 1) s'
second_next g t p = record {
  read = sequence_read g.read.is t _ p;
  nested = let n = g.nested in omega arith;
  same = sym (sequence_ok g.read.is t _ p) ∙ g.same;
}

-- ---- The loop of `repeat`

abbrev pub Turning : List ℕ → ℕ → ℕ → State → State → Type 0
Turning text at nest s₀ s = placed doing (command text nest at) s ≡ placed doing (command text nest at) s₀

low_left : {A : Type 0} {a : A} {n : ℕ} {s : State} {o : Outcomes A} → o ≡ ok a s → Low n o → s.left ≤ n
unfolding Low
low_left {n = n} e h = subst (Low n) e h

-- A pass does not add to the ticks left.
pub no_higher : {x : Outcome ℕ Refusal Condition} {y : Reader Command} {c : Command} {n : ℕ}
    {whole : Outcome ℕ Refusal Command} → whole ≡ ok c n → (t : Two x y WHILE◌DO◌ c n) (s : State)
    → {v : Bool} {m j : ℕ} {u r : State} → placed (under false) x s ≡ ok (v upto m) u
    → placed doing (y m) u ≡ ok (tt upto j) r → r.left ≤ s.left
no_higher w t s {u = u} p q =
    let h = low_left (gave (under false) s t.first p).0 (low_truth sums t.one false s.left s (le_refl _)) in
    low_left (gave doing u (body_at w t s p) q).0 (low_exec sums t.two s.left u h)
