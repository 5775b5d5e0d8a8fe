-- What an answer of the code says of a part of a text.
use Rattle.std.specs.Prelude.{◌≡◌, ℕ, ◌+◌, ◌<◌, max, ◌^◌, Bool, false, List, eqb, ℤ, length, get_or, if◌then◌else◌}
use Rattle.std.specs.Bool.{beq}
use Rattle.base.specs.Acts.{Outcome, ok, ended}
use Rattle.text.specs.Syntax.{Expression, Condition}
use Rattle.base.specs.Answers.{Refusal, refusal}
use Rattle.base.specs.Code.{number_of}
use Rattle.base.specs.declared.Reason.{Reason}
use Rattle.text.specs.Reading.{Reader, ExpressionByte, ConditionByte}
use Rattle.text.specs.Reading.{expression_of, expression, condition_of, condition}
use Rattle.text.specs.Sizes.{expression_records, condition_records, expression_depth, condition_depth}
use Rattle.text.specs.Sizes.{expression_names, condition_names}
use Rattle.text_conditions.specs.declared.PartReading.{PartReading}
use Rattle.text_conditions.specs.declared.PartReading.TheVariants.{Read, Refused}

-- What an answer tells of a part: its record count, its depth bound and the variables that it names
pub record Sized (A : Type 0) : Type 0 where
  pub records : A → ℕ
  pub depth : A → ℕ
  pub names : A → ℕ → Bool

abbrev pub expressions : Sized Expression
expressions = record { records = expression_records; depth = expression_depth; names = expression_names }

-- a condition under a flag
abbrev pub conditions : Bool → Sized Condition
conditions flag =
    record { records = λ b. condition_records b flag; depth = condition_depth; names = condition_names }

-- The operands, each with the record that is made of it: a constant's number, a variable, Bc's byte under a flag
abbrev pub numbers : Sized ℤ
numbers = record { records = λ z. 1; depth = λ z. 1; names = λ z w. false }

abbrev pub variables : Sized ℕ
variables = record { records = λ v. 1; depth = λ v. 1; names = eqb }

abbrev pub values : Bool → Sized ℕ
values flag =
    record { records = λ v. if beq (eqb v 1) flag then 1 else 0; depth = λ v. 0; names = λ v w. false }

-- The names noted before and after a part: 1 at each variable that it names, and as before elsewhere
pub record Noted (named : ℕ → Bool) (before after : List ℕ) : Type 0 where
  pub kept : length after ≡ length before
  pub at : (w : ℕ) → w < 64 → get_or after w 0 ≡ (if named w then 1 else get_or before w 0)

-- An answer that a part was read: the position after it, its sizes, and the names noted before and after it
pub record ReadAs (answer : PartReading) (next records depth : ℕ) (named : ℕ → Bool) (before after : List ℕ)
    : Type 0 where
  pub is : answer ≡ Read records depth next
  pub noted : Noted named before after

-- An answer that a part was refused, with this number at this place
pub record RefusedAs (answer : PartReading) (number place : ℕ) : Type 0 where
  pub reason : Reason
  pub is : answer ≡ Refused reason place
  pub numbered : number_of reason ≡ number

-- The code's answer to a reading. A refusal leaves the noted names free
unfoldable pub Answered : {A : Type 0} → Sized A → Outcome ℕ Refusal A → PartReading → List ℕ → List ℕ → Type 0
Answered size (ok a next) answer before after =
    ReadAs answer next (size.records a) (size.depth a) (size.names a) before after
Answered size (ended (refusal number place)) answer before after = RefusedAs answer number place

-- A construct whose first byte is known, with the nesting left for its parts
abbrev pub expression_parts : List ℕ → ℕ → ExpressionByte → Reader Expression
expression_parts text nest = expression_of text (expression text nest)

abbrev pub condition_parts : List ℕ → ℕ → ConditionByte → Reader Condition
condition_parts text nest = condition_of text (expression text nest) (condition text nest)

-- Two parts as one, with `more` records besides, the second's depth raised by `lift`; a refusal stays a refusal
unfoldable pub together : PartReading → PartReading → ℕ → ℕ → PartReading
together (Read k d i) (Read l e j) more lift = Read (k + l + more) (max d (e + lift)) j
together (Read k d i) (Refused reason place) more lift = Refused reason place
together (Refused reason place) second more lift = Refused reason place

-- its numbers are within 16 bits
unfoldable pub Room : PartReading → PartReading → ℕ → ℕ → Type 0
Room (Read k d i) (Read l e j) more lift = (k + l + more < 2 ^ 16) × (e + lift < 2 ^ 16)
Room (Read k d i) (Refused reason place) more lift = Unit {0}
Room (Refused reason place) second more lift = Unit {0}
