-- Each operation has its name.
use Rattle.std.proofs.Common.{refl}
use Rattle.print.specs.Printing.{name_text}
use Rattle.print_records.specs.Lines.{operation_name}
use Rattle.print_records.proofs.name.Goals as goal

pub returns-in-Loadi : goal.returns-in-Loadi
unfolding operation_name name_text
returns-in-Loadi c = rw c.in-Loadi.is refl

pub returns-in-Load : goal.returns-in-Load
unfolding operation_name name_text
returns-in-Load c = rw c.in-Load.is refl

pub returns-in-Add : goal.returns-in-Add
unfolding operation_name name_text
returns-in-Add c = rw c.in-Add.is refl

pub returns-in-Store : goal.returns-in-Store
unfolding operation_name name_text
returns-in-Store c = rw c.in-Store.is refl

pub returns-in-Jmp : goal.returns-in-Jmp
unfolding operation_name name_text
returns-in-Jmp c = rw c.in-Jmp.is refl

pub returns-in-Jmpless : goal.returns-in-Jmpless
unfolding operation_name name_text
returns-in-Jmpless c = rw c.in-Jmpless.is refl

pub returns-in-Jmpge : goal.returns-in-Jmpge
unfolding operation_name name_text
returns-in-Jmpge c = rw c.in-Jmpge.is refl
