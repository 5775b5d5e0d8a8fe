-- What the search promises, and what it begins with.
use Rattle.std.specs.Prelude.{◌≡◌, ℕ, ◌*◌, ◌≤◌, ◌<◌, Bool, true, false, List, length, get_or}
use Rattle.inspection.specs.Heights.{Passing}
use Rattle.inspection_visit.specs.Records.{Given}

-- Code that passed the tests
pub record Ready (code : List ℕ) (last D : ℕ) : Type 0 where
  pub few : last ≤ 4096
  pub deep : D ≤ 64
  pub bytes : 5 * last ≤ length code
  pub passes : Given code last

-- and that has at most n positions, no more than any code has
pub record ReadyAmong (n : ℕ) (code : List ℕ) (last D : ℕ) : Type 0 where
  pub ready : Ready code last D
  pub covered : last < n
  pub few : n ≤ 4097

-- No position has a label, and each has a place for it.
pub record Blank (code : List ℕ) (last D : ℕ) (ls o : List ℕ) : Type 0 where
  pub ready : Ready code last D
  pub covered : last < length ls
  pub wide : length o ≡ length ls
  pub small : length ls ≤ 4097
  pub blank : (p : ℕ) → get_or ls p 0 ≡ 0

-- What is found: whether heights can be given
abbrev pub Searched : List ℕ → ℕ → ℕ → Bool → Type 0
Searched code last D true = (x : Given code last) → Passing D x.records
Searched code last D false = (x : Given code last) → Passing D x.records → ⊥
