-- The count goes up at a byte that is WHILE's, and at no other.
use Rattle.std.proofs.Common.{◌<◌, length, arith}
use Rattle.text_ends.proofs.Finding.{one_more, no_more, none_left}
use Rattle.text_ends.proofs.loop_bytes.Goals as goal
use Rattle.text_ends.proofs.loop_bytes.Goals.{then-byte-eq-WHILE, else-byte-eq-WHILE}

pub loop-byte-preserved : goal.loop-byte-preserved
loop-byte-preserved c =
    let t = c.args.text.now in
    let i = c.loop-byte.byte-index in
    let h : i < length t = omega arith in
    elim c.if-byte-eq-WHILE.branch [
      | then-byte-eq-WHILE w ↦ (omega arith, omega (arith, one_more 0x04 t i h w.if-byte-eq-WHILE.true))
      | else-byte-eq-WHILE w ↦ (omega arith, omega (arith, no_more 0x04 t i h w.if-byte-eq-WHILE.false))
    ]

pub returns : goal.returns
returns c = omega (arith, none_left 0x04 c.args.text.now c.loop-byte.byte-index (omega arith))
