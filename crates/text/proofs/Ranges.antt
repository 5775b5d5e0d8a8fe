-- The numbers that the call `read` answers are small: a text's sizes are limited by its length and its nesting, and a
-- refusal's place is in the text, which is short unless the refusal is 6.
use Prim.Native.Nat.{ℕ, ◌≤◌, ◌<◌}
use native.Mathlib.Omega.{arith}
use mathlib.Core.Path.{◌≡◌, refl}
use mathlib.Core.Bool.{Bool, true, false}
use mathlib.Core.Logic.{◌⊎◌, inl, inr}
use mathlib.Core.List.{List}
use lib.Dec.{leb}
use lib.ListN.{length}
use borrow.Author.Tests.{leb-true, leb-false, lt-leb}
use Rattle.base.specs.Answers.{Answer, gives, refused, and_then}
use Rattle.text.specs.Syntax.{Command}
use Rattle.text.specs.Reading.{read_text}
use Rattle.text.specs.Encoding.{Bytes, command_bytes, Within}
use Rattle.text.specs.declared.Sizes.{Sizes}
use Rattle.text.specs.Calls.{read_call}
use Rattle.text.specs.Claims.{Declined}
use Rattle.text.proofs.Accepted.{one_answer}
use Rattle.text.proofs.Limits.{shallow, short, few}

-- A text that is too long is refused 6.
pub too_long : (text : List ℕ) → 4096 < length text → refused 6 0 ≡ read_call text
unfolding read_call read_text and_then
too_long text h = rw (lt-leb (length text) 4096 h)

-- An answer of reading with small numbers
abbrev pub InRange : Answer Sizes → Type 0
InRange (gives z) = (z.records ≤ 4096) × (z.depth ≤ 63) × (z.cells ≤ 64)
InRange (refused number place) = (number ≤ 6) × (place ≤ 4096)

pub in_range : (text : List ℕ) → Bytes text → InRange (read_call text)
unfolding read_call and_then
in_range text small = by (leb (length text) 4096) refl
  where
    answered : length text ≤ 4096
        → ((c : Command) × (read_text text ≡ gives c) × Within c × (command_bytes c ≡ text))
        ⊎ ((number : ℕ) × (place : ℕ) × Declined text number place)
        → InRange (read_call text)
    answered n (inl (c, e, w, same)) = rw e (omega (arith, short c, w.short), shallow c w.nested, few c)
    answered n (inr (number, place, d)) = rw d.answer (d.most, omega (arith, d.inside))

    by : (t : Bool) → leb (length text) 4096 ≡ t → InRange (read_call text)
    by true e = answered (leb-true (length text) 4096 e) (one_answer text small)
    by false e = rw (← too_long text (leb-false (length text) 4096 e)) (omega arith)
