-- `count_named` counts the notes that are 1. The invariant: so many of those before the index are.
use Rattle.std.proofs.Common.{◌≡◌, ◌≤◌}
use Rattle.text.specs.Sizes.{how_many}
use Rattle.text_read.specs.Noted.{noted}
use Rattle.text_read.proofs.count_named.Given as goal

abbrev pub invariant-loop-note : goal.invariant-loop-note
invariant-loop-note l = (l.n ≤ l.note-index) × (l.n ≡ how_many (noted l.named) l.note-index)
