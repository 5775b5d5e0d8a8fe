-- A text of at most 4,097 bytes is its first 4,097 bytes; a longer one is refused 6, and so are they.
use mathlib.Core.Path.{◌≡◌, refl, sym, ap, ◌∙◌}
use mathlib.Core.Bool.{Bool, true, false}
use Prim.Native.Nat.{ℕ}
use native.Mathlib.Omega.{arith}
use mathlib.Core.List.{List}
use lib.Dec.{leb}
use lib.ListN.{length, take, length-take}
use lib.Seq.{take_all}
use borrow.Author.Tests.{leb-true, leb-false, lt-leb}
use Rattle.text.specs.Reading.{read_text}
use Rattle.print.specs.Printing.{refusal_line, answer_lines, shown}
use Rattle.print.specs.Claims.{FirstBytes}

too_long : (text : List ℕ) → leb (length text) 4096 ≡ false → shown text ≡ refusal_line 6 0
unfolding read_text answer_lines
too_long text e = simp e

pub first_bytes : FirstBytes
first_bytes text = by (leb (length text) 4096) refl
  where
    by : (b : Bool) → leb (length text) 4096 ≡ b → shown text ≡ shown (take 4097 text)
    by true e = ap shown (sym (take_all 4097 text (omega (arith, leb-true (length text) 4096 e))))
    by false e =
        too_long text e
        ∙ sym (too_long (take 4097 text)
        (lt-leb (length (take 4097 text)) 4096
        (omega (arith, leb-false (length text) 4096 e, length-take 4097 text))))
