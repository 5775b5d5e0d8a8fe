-- What the cache knows is right for every condition that is read there.
use Rattle.std.proofs.Common.{sym}
use Rattle.compile_sizes.proofs.Caching.{known}
use Rattle.compile_sizes.proofs.known_size.Goals as goal

pub returns-in-Some-clause-sized : goal.returns-in-Some-clause-sized
returns-in-Some-clause-sized c =
    known c.requires.condition_sizes c.args.at c.args.nest (sym c.in-Some.ensures)
