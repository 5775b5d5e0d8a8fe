-- What the cache knows is right.
use Rattle.std.proofs.Common.{sym, ◌∙◌}
use Rattle.text_ends.proofs.Caching.{is_so}
use Rattle.text_ends.proofs.part_end.Goals as goal

pub returns-in-Some : goal.returns-in-Some
returns-in-Some c = is_so c.requires.part_ends (sym c.recall.ensures ∙ c.in-Some.is)
