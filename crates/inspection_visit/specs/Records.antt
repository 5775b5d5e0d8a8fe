-- What a record comes to at a height, by its bytes, and code that passed the tests of records.
use Rattle.std.specs.Prelude.{◌≡◌, ℕ, suc, ◌+◌, ◌-◌, ◌*◌, ◌≤◌, ◌<◌, ◌&&◌, List, [], ◌∷◌, eqb, leb, ltb, ℤ, length}
use Rattle.std.specs.Prelude.{get_or, if◌then◌else◌, Option, Some, None}
use Rattle.base.specs.Answers.{gives}
use Rattle.word.specs.Numbers.{number_at}
use Rattle.word.specs.Targets.{target}
use Rattle.record.specs.Records.{MachineCode}
use Rattle.record.specs.Bytes.{machine_kind, records_from}
use Rattle.inspection.specs.Heights.{Way, on, by, either, Effect, takes◌puts◌then◌}
use Rattle.inspection_visit.specs.declared.Checked.{Checked}
use Rattle.inspection_visit.specs.declared.Checked.TheVariants.{Leads, Forks}

-- ---- A record

-- Where it leads from p, in code that ends at position `last`, from the height that it leaves
abbrev pub goes : ℕ → ℕ → ℕ → Way → Checked
goes last p after on = Leads after (Some (suc p))
goes last p after (by i) = Leads after (target p i last)
goes last p after (either i) = Forks after (target p i last) (Some (suc p))

-- What it comes to at height k; none where it takes more than that or pushes past D
unfoldable pub checked : ℕ → ℕ → ℕ → ℕ → Effect → Option Checked
checked D last p k e =
    let after = k - e.takes + e.puts in
    if leb e.takes k && leb after D then Some (goes last p after e.way) else None

-- What the record of a number takes and puts, LOADI's 0 to JMPGE's 6, and its way with the operand i
abbrev pub numbered_effect : ℕ → ℤ → Effect
numbered_effect j i =
    takes get_or (0 ∷ 0 ∷ 2 ∷ 1 ∷ 0 ∷ 2 ∷ 2 ∷ []) j 0
    puts get_or (1 ∷ 1 ∷ 1 ∷ 0 ∷ 0 ∷ 0 ∷ 0 ∷ []) j 0
    then (if ltb j 4 then on else if eqb j 4 then by i else either i)

-- What the bytes at position p come to
abbrev pub checked_at : List ℕ → ℕ → ℕ → ℕ → ℕ → Option Checked
checked_at code last D p k =
    checked D last p k (numbered_effect (get_or code (5 * p) 0 - 0x50) (number_at code (5 * p + 1)))

-- What is known of them before
pub record Known (code : List ℕ) (last p k : ℕ) : Type 0 where
  pub inside : p < last
  pub few : last ≤ 4096
  pub low : k ≤ 64
  pub bytes : 5 * last ≤ length code
  pub first : 0x50 ≤ get_or code (5 * p) 0
  pub last_one : get_or code (5 * p) 0 ≤ 0x56

-- ---- Code

-- Code whose `last` records passed the test, for some n
pub record Given (code : List ℕ) (last : ℕ) : Type 0 where
  pub n : ℕ
  pub records : MachineCode
  pub given : records_from (machine_kind n) code 0 last ≡ gives records
