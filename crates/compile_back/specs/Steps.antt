-- What a step of going back makes of a table.
use Rattle.std.specs.Prelude.{ℕ, zero, suc, List, [], ◌∷◌}
use Rattle.compile.specs.Table.{variable_at}

-- the variables of k addresses from a on
unfoldable pub inverse : List ℕ → ℕ → ℕ → List ℕ
inverse t a zero = []
inverse t a (suc k) = variable_at t 0 a ∷ inverse t (suc a) k
