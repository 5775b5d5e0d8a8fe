-- The sign and the size: below 0 a minus comes first.
use mir.Syntax.{w32}
use mir.Facts.{to_z-of_z}
use Rattle.std.specs.Prelude.{unsigned_abs}
use Rattle.std.proofs.Common.{◌≡◌, ap, ◌∙◌}
use Rattle.print_ascii.proofs.Puts.{prints_is, prints_both}
use Rattle.print_ascii.proofs.Decimals.{signed_plain, signed_minus}
use Rattle.print_ascii.proofs.Page.put_signed.Goals as goal
use Rattle.print_ascii.proofs.Page.put_signed.Goals.{then-z-lt0, else-z-lt0}

pub returns : goal.returns
returns c =
    let z = c.args.z in
    let same = to_z-of_z {w = w32} c.ranges.z in
    let size : c.unsigned_abs.result ≡ unsigned_abs z =
    c.unsigned_abs.ensures.value ∙ ap unsigned_abs same in
    elim c.if-z-lt0.branch [
      | then-z-lt0 w ↦
          prints_is (prints_both w.put_byte.ensures (rw w.self-is at c.put_decimal.ensures))
          (signed_minus z size (rw same at w.if-z-lt0.true))
      | else-z-lt0 w ↦
          prints_is (rw w.self-is at c.put_decimal.ensures)
          (signed_plain z size (rw same at w.if-z-lt0.false))
    ]
