-- What is claimed of what is printed. The proof of the same spelling stands in proofs/.
use Rattle.std.specs.Prelude.{◌≡◌, ℕ, List, take}
use Rattle.base.specs.Answers.{gives}
use Rattle.text.specs.Syntax.{Command}
use Rattle.text.specs.Reading.{read_text}
use Rattle.text.specs.Respelling.{Respelled}
use Rattle.print.specs.Printing.{shown}

-- The first 4,097 bytes of an input decide what is printed for it, however long it is: the program reads no more.
abbrev pub FirstBytes : Type 0
FirstBytes = (text : List ℕ) → shown text ≡ shown (take 4097 text)

-- The same is printed for two accepted texts that differ in the spelling of constants alone (document 02, W1).
abbrev pub PrintedAlike : Type 0
PrintedAlike = (text other : List ℕ) (c d : Command) → read_text text ≡ gives c → read_text other ≡ gives d
    → Respelled c d → shown text ≡ shown other
