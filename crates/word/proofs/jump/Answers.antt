-- What is tried for a position is the operand added to the next position (the law `reached`), and the code's two tests
-- are the cases of `within`.
use Rattle.std.proofs.Common.{◌∙◌, ap, arith}
use Rattle.word.specs.Targets.{target, within}
use Rattle.word.proofs.Laws.{reached, within_inside, within_below, within_past}
use Rattle.word.proofs.jump.Goals as goal
use Rattle.word.proofs.jump.Goals.{else-reached-ge0-via-then-reached-ge0+else-reached-last}
use Rattle.word.proofs.jump.Goals.{else-reached-ge0-via-else-reached-ge0}

pub returns-then-reached-last : goal.returns-then-reached-last
unfolding target
returns-then-reached-last c =
    let a = c.args in
    within_inside _ a.last c.requires.1 c.if-reached-ge0.true c.if-reached-last.true
    ∙ ap (within a.last) (reached a.position (omega arith) c.ranges.operand c.from.ensures)

pub returns-else-reached-ge0 : goal.returns-else-reached-ge0
unfolding target
returns-else-reached-ge0 c =
    let a = c.args in
    elim c.else-reached-ge0.branch [
      | else-reached-ge0-via-then-reached-ge0+else-reached-last w ↦
          within_past _ a.last c.requires.1 w.if-reached-last.false
          ∙ ap (within a.last) (reached a.position (omega arith) c.ranges.operand c.from.ensures)
      | else-reached-ge0-via-else-reached-ge0 w ↦ within_below _ a.last w.if-reached-ge0.false
          ∙ ap (within a.last) (reached a.position (omega arith) c.ranges.operand c.from.ensures)
    ]
