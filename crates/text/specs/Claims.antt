-- What is claimed of reading. The proof of the same spelling stands in proofs/.
-- A text is accepted exactly when it is the encoding of a command within the limits, and it is then the encoding of
-- that command alone. Every text has exactly one answer: its command, or a refusal of 1 to 6 whose place is in the
-- text.
use Rattle.std.specs.Prelude.{◌≡◌, ◌⊎◌, ◌↔◌, ℕ, ◌≤◌, List, length}
use Rattle.base.specs.Answers.{gives, refused}
use Rattle.text.specs.Syntax.{Command}
use Rattle.text.specs.Reading.{read_text}
use Rattle.text.specs.Encoding.{Bytes, command_bytes, nesting, Within}
use Rattle.text.specs.Sizes.{records, depth, cells}

-- A text is accepted, as the command c, exactly when it is the encoding of c and c is within the limits.
abbrev pub Accepted : Type 0
Accepted = (text : List ℕ) → Bytes text → (c : Command)
    → (read_text text ≡ gives c) ↔ (Within c × (command_bytes c ≡ text))

-- No text is the encoding of two commands within the limits.
abbrev pub OneCommand : Type 0
OneCommand = (c d : Command) → Within c → Within d → command_bytes c ≡ command_bytes d → c ≡ d

-- A refusal of reading: a number of 1 to 6, a place in the text or at its end, and no command that the text encodes
pub record Declined (text : List ℕ) (number place : ℕ) : Type 0 where
  pub answer : read_text text ≡ refused number place
  pub least : 1 ≤ number
  pub most : number ≤ 6
  pub inside : place ≤ length text
  pub none : (c : Command) → Within c → command_bytes c ≡ text → ⊥

-- Every text has exactly one answer.
abbrev pub OneAnswer : Type 0
OneAnswer = (text : List ℕ) → Bytes text
    → ((c : Command) × (read_text text ≡ gives c) × Within c × (command_bytes c ≡ text))
    ⊎ ((number : ℕ) × (place : ℕ) × Declined text number place)

-- ---- Sizes

-- "A text never gives more records than it has bytes."
abbrev pub Short : Type 0
Short = (c : Command) → records c ≤ length (command_bytes c)

-- "D is at most 63", the nesting being 64 at most.
abbrev pub Shallow : Type 0
Shallow = (c : Command) → nesting c ≤ 64 → depth c ≤ 63

-- n is at most 64.
abbrev pub Few : Type 0
Few = (c : Command) → cells c ≤ 64
