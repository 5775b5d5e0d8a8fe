-- What the exported functions hand to the C host: an answer as a number, beside the lent buffers as they are left.
use Rattle.std.specs.Prelude.{ℕ}

abbrev pub beside : {A B : Type 0} → (A → ℕ) → A × B → ℕ × B
beside pack (a, b) = (pack a, b)
