-- `note_ends` notes ends that are so: what the cache knows is right.
use Rattle.text_ends.specs.Ends.{PartEnds}
use Rattle.text_ends.proofs.note_ends.Given as goal

abbrev pub invariant-loop-at : goal.invariant-loop-at
invariant-loop-at l = PartEnds l.text l.ends
