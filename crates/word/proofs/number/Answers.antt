use Rattle.std.proofs.Common.{w32}
use Rattle.word.specs.Numbers.{number_of}
use Rattle.word.proofs.Laws.{read_back}
use Rattle.word.proofs.number.Goals as goal

pub returns : goal.returns
unfolding number_of
returns c = read_back w32 c.from_le_bytes.type_inv c.from_le_bytes.ensures
