-- Lines in a row, as a loop prints them: one line more at the end, at most so many bytes for each.
use mathlib.Core.Path.{◌≡◌, sym, ap, ◌∙◌}
use mathlib.Core.List.{List, [], ◌++◌, append_assoc, append-nil}
use Prim.Native.Nat.{ℕ, zero, suc, ◌+◌, ◌*◌, ◌<◌, ◌≤◌}
use native.Mathlib.Nat.{zero-add, add-zero, add-suc, suc-add, mul-suc}
use native.Mathlib.Numerals.{add-one}
use native.Mathlib.Omega.{arith}
use lib.ListN.{length, length-append}
use Rattle.print_ascii.specs.declared.Page.{Page}
use Rattle.print_ascii.specs.Puts.{Prints}
use Rattle.print_ascii.proofs.Puts.{prints_is, prints_both}

-- `count` lines from index i on
unfoldable pub rows : (ℕ → List ℕ) → ℕ → ℕ → List ℕ
rows line i zero = []
rows line i (suc count) = line i ++ rows line (suc i) count

module _ (line : ℕ → List ℕ) where
  more : (i count : ℕ) → rows line i (suc count) ≡ rows line i count ++ line (i + count)
  unfolding rows
  more i zero = append-nil (line i) ∙ ap line (sym (add-zero i))
  more i (suc count) =
      ap
      (λ (l : List ℕ). line i ++ l)
      (more (suc i) count ∙ ap (λ (n : ℕ). rows line (suc i) count ++ line n) (rw (suc-add, ← add-suc)))
      ∙ sym (append_assoc (line i) (rows line (suc i) count) (line (i + suc count)))

  -- The next line, printed behind the lines before it, is one line more.
  pub rows_next : (i : ℕ) {page later last : Page} → Prints (rows line 0 i) page later → Prints (line i) later last
      → Prints (rows line 0 (i + 1)) page last
  rows_next i p q =
      prints_is (prints_both p q) (rw add-one (more 0 i ∙ ap (λ (n : ℕ). rows line 0 i ++ line n) (zero-add i)))

  -- At most `most` bytes for each line
  pub rows_length : (most last : ℕ) → ((j : ℕ) → j < last → length (line j) ≤ most)
      → (i count : ℕ) → i + count ≤ last → length (rows line i count) ≤ most * count
  unfolding rows
  rows_length most last h i zero e = omega arith
  rows_length most last h i (suc count) e =
      omega (
        arith,
        length-append (line i) (rows line (suc i) count),
        h i (omega arith),
        mul-suc most count,
        rows_length most last h (suc i) count (omega arith),
      )
