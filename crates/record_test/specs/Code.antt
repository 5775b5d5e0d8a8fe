-- What the code's kinds and its test of code say.
use Rattle.std.specs.Prelude as Std
use Rattle.std.specs.Prelude.{◌≡◌, ℕ, ◌<◌, Bool, true, false, ◌&&◌, List, Some, None, eqb, leb, if◌then◌else◌}
use Rattle.std.proofs.Math.Option.{Option, none, some}
use Rattle.base.specs.Answers.{gives, refused}
use Rattle.record.specs.Records.{Record}
use Rattle.record.specs.Bytes as Bytes
use Rattle.record.specs.Bytes.{Operation, loadi, load, add, store, jmp, jmpless, jmpge, unknown, records_from}
use Rattle.record_test.specs.declared.Kind.{Kind}

-- ---- Kinds as numbers

-- The kind that three numbers say, over plain numbers as names
abbrev pub kind_of : Kind → Bytes.Kind ℕ
kind_of k = record {
  first = k.first;
  is_name = λ u. leb k.least u && leb u k.most;
  name = λ u. u;
  number = λ u. u;
}

-- "Variables count from 0 to 63, addresses from 1 to n"
abbrev pub assembly_numbers : Kind
assembly_numbers = record { first = 0x40; least = 0; most = 63 }

abbrev pub machine_numbers : ℕ → Kind
machine_numbers n = record { first = 0x50; least = 1; most = n }

-- A kind that three numbers say: its first byte, and which numbers are names
pub record SameKind {Name : Type 0} (numbers : Kind) (k : Bytes.Kind Name) : Type 0 where
  pub first_same : numbers.first ≡ k.first
  pub names_same : (u : ℕ) → (kind_of numbers).is_name u ≡ k.is_name u

-- ---- The test

abbrev pub is_some : {A : Type 0} → Option A → Bool
is_some none = false
is_some (some a) = true

-- The operations by number, LOADI's 0 to JMPGE's 6
unfoldable pub numbered : ℕ → Operation
numbered j =
    if eqb j 0 then loadi else
    if eqb j 1 then load else
    if eqb j 2 then add else
    if eqb j 3 then store else
    if eqb j 4 then jmp else
    if eqb j 5 then jmpless else
    if eqb j 6 then jmpge else unknown

-- What the test of `count` records finds says: an index, which is below `count`, is the place of refusal 10; where none
-- is found, these are records
pub record Tested {Name : Type 0} (k : Bytes.Kind Name) (code : List ℕ) (count : ℕ) (found : Std.Option ℕ) : Type 0
  where
    pub fails : (index : ℕ) → found ≡ Some index → (index < count) × (records_from k code 0 count ≡ refused 10 index)
    pub passes : found ≡ None → (P : List (Record Name)) × (records_from k code 0 count ≡ gives P)
