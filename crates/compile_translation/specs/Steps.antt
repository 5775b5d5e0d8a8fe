-- What the steps of translating do, on bytes and on a table.
use Rattle.std.specs.Prelude.{ℕ, ◌+◌, ◌-◌, ◌*◌, Bool, ◌||◌, List, eqb, get_or, set, if◌then◌else◌}
use Rattle.std.specs.Prelude.{Option, Some, None}
use Rattle.record.specs.Records.{variable}
use Rattle.record.specs.declared.Variable.{Variable}

-- LOAD and STORE, by their numbers
abbrev pub has_name : ℕ → Bool
has_name number = eqb number 1 || eqb number 3

-- The first record of a buffer with another kind's first byte, its name looked up among `names`
unfoldable pub renamed_front : ℕ → ℕ → List ℕ → List ℕ → List ℕ
renamed_front from to names code =
    let number = get_or code 0 0 - from in
    let first = set code 0 (to + number) in
    if has_name number then set first 1 (get_or names (get_or first 1 0) 0) else first

-- The variable that the assembly record at an index names
unfoldable pub mention_at : List ℕ → ℕ → Option Variable
mention_at code i =
    if has_name (get_or code (5 * i) 0 - 0x40) then Some (variable (get_or code (5 * i + 1) 0)) else None

-- n variables have addresses in a table; variable v gets the next one, if it has none
unfoldable pub addressed : ℕ → ℕ → List ℕ → ℕ × List ℕ
addressed v n t = if eqb (get_or t v 0) 0 then (n + 1, set t v (n + 1)) else (n, t)
