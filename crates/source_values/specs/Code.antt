-- What the code's answers say: an outcome of the rules on a store, with the position after the part. The ticks left and
-- the mark stand beside the answer, as they are lent.
use Rattle.std.specs.Prelude.{Bool, true, false, ◌≡◌, ℕ, suc, ◌+◌, ◌≤◌, max, ℤ, Option, Some, None, Result, Ok, Err}
use Rattle.std.specs.Int.Signed.{lt_z}
use Rattle.base.specs.Acts.{ok, ended, ◌>>◌, give}
use Rattle.source.specs.Rules.{spent, Store, Rule, Outcomes, state, ending, tick, lower, add}
use Rattle.source.specs.Calls.{sums}
use Rattle.source_values.specs.Placed.{Reached, ◌upto◌}
use Rattle.source_values.specs.declared.Evaluated.{Evaluated}
use Rattle.source_values.specs.declared.Spent.{Spent}
use Rattle.source_values.specs.declared.Tested.{Tested}
use Rattle.source_values.specs.declared.Tested.TheVariants.{True, False}

-- ---- Expressions

-- At the height h and with a mark before it: the expression had at most `high` values more than h on the stack, and
-- leaves one
abbrev pub valued : Result Evaluated Spent → ℕ → ℕ → ℕ → Store → Outcomes (Reached ℤ)
valued (Ok r) left h mark store = ok (r.value upto r.next) (state left (suc h) (max mark (h + r.high)) store)
valued (Err e) left h mark store = ended (spent, ending left (max mark (h + e.high)) store)

-- With these ticks left before and after it, the expression comes to what the rule says, at any height within the mark
abbrev pub Evaluates : Result Evaluated Spent → ℕ → ℕ → Store → Rule (Reached ℤ) → Type 0
Evaluates r left left' store rule =
    (h mark : ℕ) → h ≤ mark → valued r left' h mark store ≡ rule (state left h mark store)

-- It had no more values than so many, and where it has a value that one
abbrev pub Within : Result Evaluated Spent → ℕ → Type 0
Within (Ok r) most = (1 ≤ r.high) × (r.high ≤ most)
Within (Err e) most = e.high ≤ most

-- What is done once both sides of a Plus, or of a Less, have their values
abbrev pub summing : ℤ → ℤ → Rule ℤ
summing x y = do tick; lower 1; add sums x y

abbrev pub comparing : ℤ → ℤ → Rule Bool
comparing x y = do tick; lower 2; give (lt_z x y)

-- ---- Conditions, which stand on an empty stack

abbrev pub tested : Option Tested → ℕ → ℕ → Store → Outcomes (Reached Bool)
tested (Some (True next)) left mark store = ok (true upto next) (state left 0 mark store)
tested (Some (False next)) left mark store = ok (false upto next) (state left 0 mark store)
tested None left mark store = ended (spent, ending left mark store)
