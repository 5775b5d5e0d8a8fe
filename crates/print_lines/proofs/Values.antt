-- The value lines are the lines of all variables, in a row.
use mathlib.Core.Path.{◌≡◌, refl, ap}
use mathlib.Core.List.{List, [], ◌++◌}
use Prim.Native.Nat.{ℕ, zero, suc}
use native.Mathlib.Omega.{arith}
use lib.IntN.{ℤ, pos}
use lib.ListN.{get_or}
use Rattle.print.specs.Ascii.{ascii, newline}
use Rattle.print.specs.Numbers.{decimal, signed}
use Rattle.print_ascii.proofs.Rows.{rows}
use Rattle.print.specs.Printing.{value_line, value_lines}

-- A variable without an address has no line,
pub unnamed : (v a : ℕ) (z : ℤ) → a ≡ 0 → value_line v a z ≡ []
unfolding value_line
unnamed v zero z e = refl
unnamed v (suc a) z e = absurd (omega arith)

-- and any other has one.
pub named_value : (v a : ℕ) (z : ℤ) → (a ≡ 0 → ⊥) → value_line v a z ≡ decimal v ++ (ascii " " ++ (signed z ++ newline))
unfolding value_line
named_value v zero z h = absurd (h refl)
named_value v (suc a) z h = refl

module _ (t : List ℕ) (s : List ℤ) where
  -- The line of variable v
  abbrev pub value_at : ℕ → List ℕ
  value_at v = value_line v (get_or t v 0) (get_or s v (pos 0))

  -- The value lines are these, in a row.
  pub value_rows : (v count : ℕ) → value_lines t s v count ≡ rows value_at v count
  unfolding value_lines rows
  value_rows v zero = refl
  value_rows v (suc count) = ap (λ (l : List ℕ). value_at v ++ l) (value_rows (suc v) count)
