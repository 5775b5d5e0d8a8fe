-- A cache: what was worked out at positions of a text, 0 where nothing is known. Whatever stands in it is right, so it
-- stays right whatever is added to it that is right, and nobody has to say which positions were visited.
use Rattle.std.specs.Prelude.{ℕ, List, ◌≡◌, get_or}

-- What it knows at each position is so
pub record Right (so : ℕ → ℕ → Type 0) (cache : List ℕ) : Type 0 where
  pub right : (i : ℕ) → (get_or cache i 0 ≡ 0 → ⊥) → so i (get_or cache i 0)
