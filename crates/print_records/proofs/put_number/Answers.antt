-- The blank and the operand, one after the other
use mir.Facts.{to_z-of_z}
use Rattle.std.proofs.Common.{sym}
use Rattle.print_ascii.proofs.Puts.{prints_both}
use Rattle.print_records.proofs.put_number.Goals as goal

pub returns : goal.returns
returns c = prints_both c.put_byte.ensures (rw (sym (to_z-of_z c.ranges.operand)) c.put_signed.ensures)
