-- What the code's answer for a command says: an outcome of the rules on a store, with the position after the command.
-- The ticks left and the mark stand beside the answer, as they are lent; commands stand on an empty stack.
use Rattle.std.specs.Prelude.{ℕ, ℤ, Option, Some, None}
use Rattle.base.specs.Acts.{ok, ended, ◌>>◌}
use Rattle.source.specs.Rules.{spent, Store, Rule, Outcomes, state, ending, tick, lower, assign}
use Rattle.source_values.specs.Placed.{Reached, ◌upto◌}

abbrev pub went : Option ℕ → ℕ → ℕ → Store → Outcomes (Reached (Unit {0}))
went (Some next) left mark store = ok (tt upto next) (state left 0 mark store)
went None left mark store = ended (spent, ending left mark store)

-- What is done once an assignment's expression has its value
abbrev pub storing : ℕ → ℤ → Rule (Unit {0})
storing v z = do tick; lower 1; assign v z
