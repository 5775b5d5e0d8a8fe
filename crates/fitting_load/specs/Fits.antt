-- What the two loops of loading and reading back rest on.
use Rattle.std.specs.Prelude.{◌≡◌, ℕ, ◌+◌, ◌<◌, ◌≤◌, List, ℤ, length, get_or}
use Rattle.source.specs.Rules.{Store}

-- 64 entries, 64 variables, and a cell for each entry's address
pub record Fits (t : List ℕ) (store : Store) (D : ℕ) (memory : List ℤ) : Type 0 where
  pub entries : length t ≡ 64
  pub variables : length store ≡ 64
  pub deep : D ≤ 64
  pub inside : (v : ℕ) → D + get_or t v 0 < length memory
