-- A record line from the bytes of both codes: what it shows of each is in its five bytes.
use Rattle.std.specs.Prelude.{◌≡◌, ℕ, ◌+◌, ◌*◌, List, [], ◌++◌, ℤ, pos, get_or}
use Rattle.base.specs.Answers.{gives}
use Rattle.word.specs.Numbers.{number_at}
use Rattle.record.specs.Records.{LOADI, LOAD, ADD, STORE, JMP, JMPLESS, JMPGE, AssemblyCode, MachineCode}
use Rattle.record.specs.Bytes.{Operation, loadi, load, add, store, jmp, jmpless, jmpge, unknown, operation}
use Rattle.record.specs.Bytes.{assembly_kind, machine_kind, records_from}
use Rattle.print.specs.Ascii.{ascii, newline}
use Rattle.print.specs.Numbers.{decimal, signed}
use Rattle.print.specs.Printing.{name_text}

-- The name of what a byte stands for; nothing for a byte that stands for nothing
unfoldable pub operation_name : Operation → List ℕ
operation_name loadi = name_text {Name = ℕ} (LOADI (pos 0))
operation_name load = name_text {Name = ℕ} (LOAD 0)
operation_name add = name_text {Name = ℕ} ADD
operation_name store = name_text {Name = ℕ} (STORE 0)
operation_name jmp = name_text {Name = ℕ} (JMP (pos 0))
operation_name jmpless = name_text {Name = ℕ} (JMPLESS (pos 0))
operation_name jmpge = name_text {Name = ℕ} (JMPGE (pos 0))
operation_name unknown = []

-- Its operand after a blank, but for ADD
unfoldable pub operation_operand : Operation → ℤ → List ℕ
operation_operand loadi z = ascii " " ++ signed z
operation_operand load z = ascii " " ++ signed z
operation_operand add z = []
operation_operand store z = ascii " " ++ signed z
operation_operand jmp z = ascii " " ++ signed z
operation_operand jmpless z = ascii " " ++ signed z
operation_operand jmpge z = ascii " " ++ signed z
operation_operand unknown z = ascii " " ++ signed z

-- The text at an index of code whose LOADI is `first`
unfoldable pub text_at : ℕ → List ℕ → ℕ → List ℕ
text_at first code i =
    operation_name (operation first (get_or code (5 * i) 0))
    ++ operation_operand (operation first (get_or code (5 * i) 0)) (number_at code (5 * i + 1))

-- The line of position i: assembly and machine beside each other
unfoldable pub line_at : List ℕ → List ℕ → ℕ → List ℕ
line_at assembly machine i =
    decimal i ++ (ascii " " ++ (text_at 0x40 assembly i ++ (ascii " | M" ++ (text_at 0x50 machine i ++ newline))))

-- P and Q are the records of the two codes, `count` each; n is how many addresses there are
pub record Codes (assembly machine : List ℕ) (count n : ℕ) (P : AssemblyCode) (Q : MachineCode) : Type 0 where
  pub of_assembly : records_from assembly_kind assembly 0 count ≡ gives P
  pub of_machine : records_from (machine_kind n) machine 0 count ≡ gives Q
