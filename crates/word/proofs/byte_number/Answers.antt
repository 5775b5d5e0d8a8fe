use Rattle.std.proofs.Common.{◌∙◌, w8, w32}
use Rattle.word.specs.Numbers.{byte_number}
use Rattle.word.proofs.Laws.{read_back}
use Rattle.word.proofs.byte_number.Goals as goal

pub returns : goal.returns
unfolding byte_number
returns c = read_back w32 c.from.type_inv (c.from.ensures ∙ read_back w8 c.cast_signed.type_inv c.cast_signed.ensures)
