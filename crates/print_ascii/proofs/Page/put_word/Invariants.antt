-- The bytes of the word before the next are printed.
use Rattle.std.proofs.Common.{take}
use Rattle.print_ascii.specs.Puts.{Prints}
use Rattle.print_ascii.proofs.Page.put_word.Given as goal

abbrev pub invariant-loop-byte : goal.invariant-loop-byte
invariant-loop-byte l = Prints (take l.byte-index l.word) l.initial.self l.self
