-- `mark_all` gathers the address marks and counts the entries that are not 0: an entry is 0, an address, or above 64.
use Rattle.std.proofs.Common.{arith}
use Rattle.compile_table.proofs.Marking.{seen_zero, seen_address, seen_above, seen_all}
use Rattle.compile_table.proofs.mark_all.Goals as goal
use Rattle.compile_table.proofs.mark_all.Goals.{then-a-ne0+then-a-le-WORD_BITS, then-a-ne0+else-a-le-WORD_BITS}
use Rattle.compile_table.proofs.mark_all.Goals.{else-a-ne0}

pub loop-entry-preserved : goal.loop-entry-preserved
loop-entry-preserved c =
    let seen = c.loop-entry.invariant in
    let h = c.loop-entry-test.true in
    elim c.if-a-ne0.branch [
      | then-a-ne0+then-a-le-WORD_BITS w ↦
          rw (w.word-is, w.count-is, c.from-a.ensures)
          (seen_address seen h (rw c.from-a.ensures at w.if-a-ne0.true)
          (omega (arith, w.if-a-le-WORD_BITS.true, c.from-a.ensures)))
      | then-a-ne0+else-a-le-WORD_BITS w ↦
          rw (w.word-is, w.count-is)
          (seen_above seen h (rw c.from-a.ensures at w.if-a-ne0.true)
          (rw c.from-a.ensures at w.if-a-le-WORD_BITS.false))
      | else-a-ne0 w ↦ rw (w.word-is, w.count-is) (seen_zero seen h (rw c.from-a.ensures at w.if-a-ne0.false))
    ]

pub returns : goal.returns
returns c = seen_all c.loop-entry.invariant (omega arith)
