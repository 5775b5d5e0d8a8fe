-- A run from a fresh machine, whose state passes whatever the budget, told without a state.
use Rattle.std.proofs.Common.{◌≡◌, ℕ, ◌+◌, ap, arith}
use Rattle.machine.specs.Calls.{fresh_state}
use Rattle.machine.specs.declared.State.{State}
use Rattle.machine.proofs.Calls.{without_state_of, fresh_tested, from_fresh}
use Rattle.machine_run.proofs.run_tested.Goals as goal

-- its count is 0
from_0 : {s : State} → s ≡ fresh_state → (budget : ℕ) → budget ≡ s.count + budget
from_0 is budget = omega (arith, ap (λ (s : State). s.count) is)

pub run_from-requires : goal.run_from-requires
run_from-requires c =
    let s = c.args in (
      c.requires.0,
      s.budget,
      (
        fresh_tested s.code.now s.memory.now s.depth c.requires.0 s.budget c.fresh.ensures c.requires.1,
        from_0 c.fresh.ensures s.budget,
      ),
    )

pub returns : goal.returns
returns c n tested =
    let s = c.args in
    without_state_of c.without_state.ensures
    (from_fresh s.code.now s.memory.now s.depth n s.budget c.fresh.ensures
    (c.run_from.ensures n s.budget (
      fresh_tested s.code.now s.memory.now s.depth n s.budget c.fresh.ensures tested,
      from_0 c.fresh.ensures s.budget,
    )))
