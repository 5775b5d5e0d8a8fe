-- What an answer of the code says of a command.
use Rattle.std.specs.Prelude.{ℕ, List}
use Rattle.text.specs.Syntax.{Command}
use Rattle.text.specs.Reading.{Reader, CommandByte, expression, condition, command_of, command}
use Rattle.text.specs.Sizes.{records, depth, names}
use Rattle.text_conditions.specs.Code.{Sized}

abbrev pub commands : Sized Command
commands = record { records = records; depth = depth; names = names }

-- A command whose first byte is known, with the nesting left for its parts
abbrev pub command_parts : List ℕ → ℕ → CommandByte → Reader Command
command_parts text nest = command_of text (expression text nest) (condition text nest) (command text nest)
