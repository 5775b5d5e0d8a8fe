-- The word is printed byte by byte.
use Rattle.std.proofs.Common.{refl, add-one, arith, take-suc}
use Rattle.print_ascii.proofs.Puts.{prints_is, prints_both}
use Rattle.print_ascii.proofs.Page.put_word.Goals as goal

pub loop-byte-preserved : goal.loop-byte-preserved
loop-byte-preserved c =
    prints_is (prints_both c.loop-byte.invariant c.put_byte.ensures)
    (rw (add-one, take-suc c.args.word.now c.loop-byte.byte-index 0 (omega arith)) refl)
