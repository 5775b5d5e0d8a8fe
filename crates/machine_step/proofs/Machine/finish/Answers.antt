-- The run's loop: each turn makes one step of the run, so the run from here on comes to what the whole run comes to;
-- the ticks left fall.
use mathlib.Core.Path.{◌≡◌, ap, ◌∙◌}
use mathlib.Core.Option.{some}
use native.Mathlib.Omega.{arith}
use lib.ListN.{length}
use Rattle.record.specs.Records.{Record}
use Rattle.record.specs.Bytes.{record_at}
use Rattle.machine_step.specs.Code.{step_of}
use Rattle.machine_step.specs.Steps.{on_lent}
use Rattle.machine_step.proofs.Running.{ends_done, ends_spent, going_on, ends_by}
use Rattle.machine_step.proofs.Looping.{begins, passes}
use Rattle.machine_step.proofs.Machine.finish.Given.{Over}
use Rattle.machine_step.proofs.Machine.finish.Goals as goal
use Rattle.machine_step.proofs.Machine.finish.Goals.{After-step}

-- the step did the record that the code has at first
did : (g : Over) (c : After-step g) → let x = g.L.Layout.lent c.args.limits.layout in
    let l = c.loop-machine in
    (r : Record g.row.L-Name.Denot)
    → record_at (x.kind (length c.args.stack.now)) c.args.code.now l.machine.position ≡ some r
    → step_of c.step.result (x.memory c.step.new.store c.step.new.stack)
    ≡ on_lent x c.args.limits.last l.machine l.store l.stack r
did g c r there =
    let x = g.L.Layout.lent c.args.limits.layout in
    c.step.ensures r
    (ap (λ k. record_at (x.kind k) c.args.code.now c.loop-machine.machine.position) c.loop-machine.auto.stack ∙ there)

pub loop-machine-init : goal.loop-machine-init
loop-machine-init g c = begins _ c.requires.starts

pub returns-then-machine-limits : goal.returns-then-machine-limits
returns-then-machine-limits g c =
    let i = c.loop-machine.invariant in
    let p = c.requires.passed in
    record {
      runs = λ P given. ends_done (i.going P given) c.if-machine-limits.true;
      count_le_limit = (i.going p.records p.given).used;
    }

pub returns-then-machine-limit : goal.returns-then-machine-limit
returns-then-machine-limit g c =
    let i = c.loop-machine.invariant in
    let p = c.requires.passed in
    record {
      runs = λ P given. ends_spent (i.going P given) c.if-machine-limits.false c.if-machine-limit.true;
      count_le_limit = (i.going p.records p.given).used;
    }

pub step-requires : goal.step-requires
step-requires g c =
    let l = c.loop-machine in
    let s = c.requires in
    let on = passes l.store l.stack l.auto.store l.auto.stack s.passed in
    let now = l.invariant.going s.passed.records s.passed.given in
    record {
      ready = record {
        long = (g.met.L.Layout.laws c.args.limits.layout).deep (length l.store) (length l.stack) on.fits;
        few = s.starts.few;
        placed = omega (arith, now.placed, c.if-machine-limits.false);
        held = now.held;
        marked = now.marked;
        room = omega (arith, now.used, c.if-machine-limit.false, c.ranges.limit.fits);
      };
      passed = on;
    }

pub loop-machine-preserved : goal.loop-machine-preserved
loop-machine-preserved g c =
    let i = c.loop-machine.invariant in
    let s = (goal.at.loop-machine-preserved g c).After-step in
    record {
      going =
          λ P given. (going_on (i.going P given) c.if-machine-limits.false c.if-machine-limit.false c.in-Ok.is
          (did g s)).0;
    }

pub loop-machine-smaller : goal.loop-machine-smaller
loop-machine-smaller g c =
    let p = c.requires.passed in
    let s = (goal.at.loop-machine-smaller g c).After-step in
    (going_on (c.loop-machine.invariant.going p.records p.given) c.if-machine-limits.false c.if-machine-limit.false
    c.in-Ok.is (did g s)).1

pub returns-in-Err : goal.returns-in-Err
returns-in-Err g c =
    let i = c.loop-machine.invariant in
    let p = c.requires.passed in
    let s = (goal.at.returns-in-Err g c).After-step in
    record {
      runs =
          λ P given. (ends_by (i.going P given) c.if-machine-limits.false c.if-machine-limit.false c.in-Err.is
          (did g s)).0;
      count_le_limit =
          (ends_by (i.going p.records p.given) c.if-machine-limits.false c.if-machine-limit.false c.in-Err.is
          (did g s)).1;
    }
