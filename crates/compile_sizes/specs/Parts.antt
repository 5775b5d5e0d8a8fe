-- What the functions that measure a part of a text are asked, and what they tell: how many records the part has. A part
-- is what is read at a place of the text with some nesting left; `read` is that reading.
use Rattle.std.specs.Prelude.{◌≡◌, ℕ, ◌<◌}
use Rattle.base.specs.Acts.{Outcome, ok}
use Rattle.base.specs.Answers.{Refusal}
use Rattle.compile_sizes.specs.declared.PartSize.{PartSize}

-- Asked: a part is read, and its records are few
pub record Countable {A : Type 0} (records : A → ℕ) (read : Outcome ℕ Refusal A) : Type 0 where
  pub part : A
  pub next : ℕ
  pub is : read ≡ ok part next
  pub few : records part < 2147483648

-- Told: the position after the part, and how many records it has
abbrev pub Counts : {A : Type 0} → (A → ℕ) → Outcome ℕ Refusal A → PartSize → Type 0
Counts {A} records read told = (a : A) (n : ℕ) → read ≡ ok a n → (told.next ≡ n) × (told.records ≡ records a)

-- The size of whatever is read there
abbrev pub Sized : {A : Type 0} → (A → ℕ) → Outcome ℕ Refusal A → ℕ → Type 0
Sized {A} records read size = (a : A) (n : ℕ) → read ≡ ok a n → size ≡ records a
