use Rattle.std.proofs.Common.{w32}
use Rattle.word.specs.Numbers.{number_at}
use Rattle.word.proofs.Laws.{read_back}
use Rattle.word.proofs.number_at.Goals as goal

pub returns : goal.returns
unfolding number_at
returns c = read_back w32 c.number.type_inv c.number.ensures
