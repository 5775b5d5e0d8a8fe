-- What is noted is an end, so what the cache knows stays right.
use Rattle.text_ends.proofs.Caching.{stays}
use Rattle.text_ends.proofs.note_ends.Goals as goal

pub loop-at-preserved-in-Some : goal.loop-at-preserved-in-Some
loop-at-preserved-in-Some c = rw c.remember.ensures (stays c.loop-at.invariant _ _ c.in-Some.ensures)
