-- Each arm is one turn, past a construct's own bytes.
use Rattle.std.proofs.Common.{arith, rules}
use Rattle.text_ends.proofs.Passing.{byte_inside, turn_skip, turn_assign, turn_choice, turn_not, turn_constant}
use Rattle.text_ends.proofs.Passing.{turn_leaf, turn_rest}
use Rattle.text_ends.proofs.scan_end.Goals as goal

pub bounds-text-at : goal.bounds-text-at
bounds-text-at c = byte_inside c.loop-due.invariant c.loop-due-test.true

pub loop-due-smaller-in-0 : goal.loop-due-smaller-in-0
loop-due-smaller-in-0 c =
    let t = turn_skip c.loop-due.invariant c.loop-due-test.true c.in-0.is in
    omega (arith, t.inside)

pub loop-due-preserved-in-0 : goal.loop-due-preserved-in-0
loop-due-preserved-in-0 c = (turn_skip c.loop-due.invariant c.loop-due-test.true c.in-0.is).goes_on

pub loop-due-preserved-in-1 : goal.loop-due-preserved-in-1
loop-due-preserved-in-1 c = (turn_assign c.loop-due.invariant c.loop-due-test.true c.in-1.is).goes_on

pub overflow_add-due : goal.overflow_add-due
overflow_add-due c =
    let t = turn_choice c.loop-due.invariant c.loop-due-test.true c.in-3.is in
    omega (arith, t.inside)

pub loop-due-preserved-in-3 : goal.loop-due-preserved-in-3
loop-due-preserved-in-3 c = (turn_choice c.loop-due.invariant c.loop-due-test.true c.in-3.is).goes_on

pub loop-due-preserved-in-16 : goal.loop-due-preserved-in-16
loop-due-preserved-in-16 c =
    rw c.constant_width.ensures (turn_constant c.loop-due.invariant c.loop-due-test.true c.in-16.is).goes_on

pub loop-due-preserved-in-17 : goal.loop-due-preserved-in-17
loop-due-preserved-in-17 c = (turn_leaf c.loop-due.invariant c.loop-due-test.true c.in-17.is).goes_on

pub loop-due-preserved-in-33 : goal.loop-due-preserved-in-33
loop-due-preserved-in-33 c = (turn_not c.loop-due.invariant c.loop-due-test.true c.in-33.is).goes_on

pub overflow_add-due-in_default : goal.overflow_add-due-in_default
overflow_add-due-in_default c =
    let t = turn_rest c.loop-due.invariant c.loop-due-test.true (search rules) (search rules) (search rules)
    (search rules) (λ e. search rules) (λ e. search rules) (search rules) in
    omega (arith, t.inside)

pub loop-due-preserved : goal.loop-due-preserved
loop-due-preserved c =
    (turn_rest c.loop-due.invariant c.loop-due-test.true (search rules) (search rules) (search rules) (search rules)
    (λ e. search rules) (λ e. search rules) (search rules)).goes_on
