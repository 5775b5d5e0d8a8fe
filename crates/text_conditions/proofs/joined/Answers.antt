-- Both parts were read, and there is room for their sums; or the first refusal stays.
use Rattle.std.proofs.Common.{arith}
use Rattle.text_conditions.specs.Code.{together, Room}
use Rattle.text_conditions.proofs.joined.Goals as goal

pub returns-in_default : goal.returns-in_default
unfolding together
returns-in_default c = rw c.in_default.is

pub returns-in_default-second : goal.returns-in_default-second
unfolding together
returns-in_default-second c = rw (c.in-Read.is, c.in_default-second.is)

pub overflow_add-result : goal.overflow_add-result
unfolding Room
overflow_add-result c = omega (arith, rw (c.in-Read.is, c.in-Read-second.is) at c.requires)

pub overflow_add-result-2 : goal.overflow_add-result-2
unfolding Room
overflow_add-result-2 c = omega (arith, rw (c.in-Read.is, c.in-Read-second.is) at c.requires)

pub overflow_add-other : goal.overflow_add-other
unfolding Room
overflow_add-other c = omega (arith, rw (c.in-Read.is, c.in-Read-second.is) at c.requires)

pub returns : goal.returns
unfolding together
returns c = rw (c.in-Read.is, c.in-Read-second.is, ← c.max.ensures)
