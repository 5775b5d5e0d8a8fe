-- The count of a run of the source rules is the number of its ticks, and at most the budget. A run that is not spent
-- and has charged k ticks needs exactly k: under any budget of k or more it ends alike, with the same mark and the rest
-- of the budget left, and under any smaller one it is spent. The proof of the same spelling stands in proofs/.
use Rattle.std.specs.Prelude.{◌≡◌, ℕ, ◌+◌, ◌≤◌, ◌<◌}
use Rattle.base.specs.Ends.{End, result}
use Rattle.word.specs.Sums.{SumRule}
use Rattle.text.specs.Syntax.{Command}
use Rattle.source.specs.Rules.{Store, run_rules}
use Rattle.source.specs.Calls.{sums}

-- What a run of c from s under the budget n, by a rule for sums, says of its ticks
pub record Ticks (sum : SumRule) (c : Command) (n : ℕ) (s : Store) : Type 0 where
  pub most : (run_rules sum c n s).left ≤ n
  pub spent_all : (run_rules sum c n s).end ≡ End.spent → (run_rules sum c n s).left ≡ 0
  pub enough : ((run_rules sum c n s).end ≡ End.spent → ⊥) → (k : ℕ) → k + (run_rules sum c n s).left ≡ n → (more : ℕ)
      → let r = run_rules sum c n s in run_rules sum c (k + more) s ≡ result r.end more r.mark r.leaves
  pub fewer : ((run_rules sum c n s).end ≡ End.spent → ⊥) → (k : ℕ) → k + (run_rules sum c n s).left ≡ n
      → (j : ℕ) → j < k → (run_rules sum c j s).end ≡ End.spent

-- So it is by the rule for sums that all calls name.
abbrev pub Ticked : Type 0
Ticked = (c : Command) (n : ℕ) (s : Store) → Ticks sums c n s
