-- Which variables are noted as named, as the code counts them.
use Rattle.std.specs.Prelude.{ℕ, Bool, List, eqb, get_or}

-- Whether a variable is noted
abbrev pub noted : List ℕ → ℕ → Bool
noted notes w = eqb (get_or notes w 0) 1
