-- An operation's name is put, and nothing where there is none.
use Rattle.std.proofs.Common.{arith, Some}
use Rattle.record.specs.Code.{operation_of}
use Rattle.print_ascii.proofs.Puts.{prints_is, prints_none}
use Rattle.print_records.proofs.Texts.{name_length, nothing_named}
use Rattle.print_records.proofs.put_name.Goals as goal

pub put_word-requires : goal.put_word-requires
put_word-requires c = rw c.name.ensures (omega (arith, name_length (operation_of (Some c.in-Some.named))))

pub returns-in_default : goal.returns-in_default
returns-in_default c = prints_is (prints_none (omega arith)) (nothing_named c.args.operation c.in_default.not-Some)
