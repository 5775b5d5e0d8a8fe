-- A cache with nothing in its slots is right.
use Rattle.compile_sizes.proofs.Caching.{knows_nothing}
use Rattle.compile_sizes.proofs.SizeCache.new.Goals as goal

pub returns : goal.returns
returns c = λ text. knows_nothing text 64
