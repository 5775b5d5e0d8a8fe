-- Two spellings of a constant (document 02, W1): `13` with one byte "means the same constant as `10` with four".
-- Commands that differ in this alone, and what is claimed of them here: that both are accepted, with the same sizes.
-- What they compile to, how they run and what is printed for them is claimed in compile, source, fitting and print. The
-- proof of the same spelling stands in proofs/.
use Rattle.std.specs.Prelude.{◌≡◌, ◌≤◌, length}
use Rattle.base.specs.Answers.{gives}
use Rattle.text.specs.Syntax.{four_bytes}
use Rattle.text.specs.Syntax.{Expression, Constant, Variable, Plus, Condition, Bc, Not, And, Less, Command}
use Rattle.text.specs.Syntax.{SKIP, ◌:=◌, ◌⨾◌, IF◌THEN◌ELSE◌, WHILE◌DO◌}
use Rattle.text.specs.Reading.{read_text}
use Rattle.text.specs.Encoding.{command_bytes, Valid, Within}
use Rattle.text.specs.Sizes.{sizes}

-- ---- A command with each constant in full, with four bytes

unfoldable pub expression_in_full : Expression → Expression
expression_in_full (Constant w z) = Constant four_bytes z
expression_in_full (Variable v) = Variable v
expression_in_full (Plus a b) = Plus (expression_in_full a) (expression_in_full b)

unfoldable pub condition_in_full : Condition → Condition
condition_in_full (Bc v) = Bc v
condition_in_full (Not b) = Not (condition_in_full b)
condition_in_full (And b c) = And (condition_in_full b) (condition_in_full c)
condition_in_full (Less a b) = Less (expression_in_full a) (expression_in_full b)

unfoldable pub in_full : Command → Command
in_full SKIP = SKIP
in_full (v := a) = v := expression_in_full a
in_full (c ⨾ d) = in_full c ⨾ in_full d
in_full (IF b THEN c ELSE d) = IF condition_in_full b THEN in_full c ELSE in_full d
in_full (WHILE b DO c) = WHILE condition_in_full b DO in_full c

-- Two commands differ in constants' widths alone
abbrev pub Respelled : Command → Command → Type 0
Respelled c d = in_full c ≡ in_full d

-- ---- Claims

-- "Either spelling is accepted": of two commands that differ in constants' widths alone, if the one's text is accepted,
-- so is the other's, where each of its constants fits its width and it has at most 4,096 bytes.
abbrev pub EitherAccepted : Type 0
EitherAccepted = (c d : Command) → Respelled c d → Within c → Valid d → length (command_bytes d) ≤ 4096
    → read_text (command_bytes d) ≡ gives d

-- Four bytes hold whatever one byte holds: in full, each constant fits.
abbrev pub FullFits : Type 0
FullFits = (c : Command) → Valid c → Valid (in_full c)

-- Commands that differ in constants' widths alone have the same record count, D and n.
abbrev pub SameSizes : Type 0
SameSizes = (c d : Command) → Respelled c d → sizes c ≡ sizes d
