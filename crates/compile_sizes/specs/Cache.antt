-- A cache of sizes, in 64 slots: how many records a condition has under false, by the condition's position. A
-- position's slot is its remainder by 64, so a later one may take an earlier one's. Whatever stands in it is right.
use Rattle.std.specs.Prelude.{◌≡◌, false, List, ℕ, ◌+◌, ◌-◌, ◌*◌, ◌/◌, ◌%◌, ◌==◌, ◌&&◌, ltb, get_or, set}
use Rattle.std.specs.Prelude.{Option, Some, None, if◌then◌else◌}
use Rattle.text.specs.Reading.{condition}
use Rattle.text.specs.Sizes.{condition_records}
use Rattle.compile_sizes.specs.Parts.{Sized}
use Rattle.compile_sizes.specs.declared.Measured.{Measured}
use Rattle.compile_sizes.specs.declared.SizeCache.{SizeCache}

-- The condition that a slot's number stands for: its position · 65536, and one more than its records; 0 is nothing
abbrev pub measured : ℕ → Option Measured
measured slot =
    if slot % 65536 == 0 then None else Some (record { at = slot / 65536; records = slot % 65536 - 1 })

-- The records of what stands in a slot, if it is of that position
abbrev pub records_at : ℕ → Option Measured → Option ℕ
records_at i None = None
records_at i (Some known) = if known.at == i then Some known.records else None

-- What stands in a position's slot, if it is of that position
unfoldable pub looked_up : SizeCache → ℕ → Option ℕ
looked_up cache i = records_at i (measured (get_or cache.slots (i % 64) 0))

-- The cache with the size of a position in the position's slot, where there is room for both
unfoldable pub size_noted : SizeCache → ℕ → ℕ → SizeCache
size_noted cache i records =
    if ltb i 65536 && ltb records 65535
    then record { slots = set cache.slots (i % 64) (i * 65536 + records + 1) }
    else cache

-- What stands in a slot is right for every condition that can be read at its position
pub record ConditionSizes (text : List ℕ) (cache : SizeCache) : Type 0 where
  pub right : (slot : ℕ) (known : Measured) → measured (get_or cache.slots slot 0) ≡ Some known → (nest : ℕ)
      → Sized (λ b. condition_records b false) (condition text nest known.at) known.records
