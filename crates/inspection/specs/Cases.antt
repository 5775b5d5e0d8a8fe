-- Small codes that pass or do not, one for each condition, and where the call declines (document 02, W5).
use Rattle.std.specs.Prelude.{ℕ, [], ◌∷◌, ◌++◌, pos, negsuc, replicate}
use Rattle.base.specs.Answers.{gives, refused}
use Rattle.record.specs.Records.{MachineCode, LOADI, ADD, STORE, JMP, JMPGE, address}
use Rattle.record.specs.Cases.{five}
use Rattle.inspection.specs.Heights.{Passing}
use Rattle.inspection.specs.Calls.{Inspected}

-- ---- Heights

-- Machine code that passes with this D, and that does not
abbrev pub Passes : ℕ → MachineCode → Type 0
Passes D P = Passing D P

abbrev pub Fails : ℕ → MachineCode → Type 0
Fails D P = Passing D P → ⊥

pub record CodesPass : Type 0 where
  -- no records: position 0 is the end
  pub nothing : Passes 0 []
  -- heights 0, 1 and 2; the comparing jump goes back to position 0 or on to the end, both at height 0
  pub loop : Passes 2 (LOADI (pos 0) ∷ LOADI (pos 1) ∷ JMPGE (negsuc 2) ∷ [])
  -- a record that no jump and no step reaches may be anything
  pub skipped : Passes 0 (JMP (pos 1) ∷ ADD ∷ [])
  -- the end is not reached: a value is pushed, and the jump leads to itself
  pub endless : Passes 1 (LOADI (pos 7) ∷ JMP (negsuc 0) ∷ [])

pub record CodesFail : Type 0 where
  -- "No such record takes more than its height"
  pub takes_more : Fails 64 (ADD ∷ [])
  -- "none pushes past D"
  pub past_D : Fails 0 (LOADI (pos 7) ∷ STORE (address 1) ∷ [])
  -- "each successor has the height left by the record": 0 by the jump, 1 by the step; 0 at first, 1 by the jump back
  pub two_heights : Fails 64 (LOADI (pos 0) ∷ LOADI (pos 1) ∷ JMPGE (pos 1) ∷ LOADI (pos 7) ∷ [])
  pub back_higher : Fails 64 (LOADI (pos 7) ∷ JMP (negsuc 1) ∷ [])
  -- "no such jump lands below 0 or past the end position", also where it is never taken
  pub below : Fails 64 (JMP (negsuc 1) ∷ [])
  pub past_end : Fails 64 (LOADI (pos 0) ∷ LOADI (pos 1) ∷ JMPGE (pos 1) ∷ [])
  -- "the end has height 0 if reached"
  pub high_end : Fails 64 (LOADI (pos 7) ∷ [])

-- ---- Where the call declines: 9, 10, 11, 13

-- After the code stand D and n. Where two refusals are due, the first in order is given.
pub record InspectDeclines : Type 0 where
  -- no records: none to count
  pub nothing : Inspected [] 0 0 (gives 0)
  -- 9: 4 bytes
  pub nine : Inspected (replicate 4 0x50) 2 1 (refused 9 0)
  -- 10: `52 01 00 00 00`; the addresses 0 and n + 1; after MLOADI 0, at index 1
  pub ten : Inspected (five 0x52 1) 2 1 (refused 10 0)
  pub ten_address_0 : Inspected (five 0x51 0) 2 1 (refused 10 0)
  pub ten_address_2 : Inspected (five 0x51 2) 2 1 (refused 10 0)
  pub ten_second : Inspected (five 0x50 0 ++ (five 0x52 1 ++ five 0x51 0)) 2 1 (refused 10 1)
  -- 11: D 65; n 65; D 64 and n 64 are not above 64
  pub eleven_D : Inspected [] 65 1 (refused 11 0)
  pub eleven_n : Inspected [] 2 65 (refused 11 0)
  pub not_eleven : Inspected [] 64 64 (gives 0)
  -- 13: an ADD with nothing on the stack
  pub thirteen : Inspected (five 0x52 0) 2 1 (refused 13 0)
  -- 9, and 10: `52 01 00 00 00` and a byte more
  pub nine_ten : Inspected (five 0x52 1 ++ (0x50 ∷ [])) 2 1 (refused 9 0)
  -- 10, and 11: `52 01 00 00 00`, and D 65; the address 66, and n 65
  pub ten_eleven : Inspected (five 0x52 1) 65 1 (refused 10 0)
  pub ten_eleven_n : Inspected (five 0x51 66) 2 65 (refused 10 0)
  -- 10, and 13: an ADD with nothing on the stack, and `52 01 00 00 00`
  pub ten_thirteen : Inspected (five 0x52 0 ++ five 0x52 1) 2 1 (refused 10 1)
  -- 11, and 13: an ADD with nothing on the stack, and D 65
  pub eleven_thirteen : Inspected (five 0x52 0) 65 1 (refused 11 0)
