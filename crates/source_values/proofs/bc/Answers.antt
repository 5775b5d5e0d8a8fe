-- A tick if the value equals the flag.
use Rattle.std.proofs.Common.{◌≡◌, Bool, true, false, ◌+◌, eqb, get_or, sym, ap, ap₂, ◌∙◌, arith}
use mathlib.Core.Bool.{beq}
use Rattle.std.specs.Prelude.{if◌then◌else◌}
use Rattle.base.specs.Acts.{ok, then', ◌>>◌, give}
use Rattle.text.specs.Syntax.{Bc}
use Rattle.source.specs.Rules.{State, state, tick, truth}
use Rattle.source.specs.Calls.{sums}
use Rattle.source_values.specs.Placed.{◌upto◌, reaching}
use Rattle.source_values.specs.Code.{tested}
use Rattle.source_values.proofs.Steps.{none_left, some_left, spends, goes}
use Rattle.source_values.proofs.bc.Goals as goal
use Rattle.source_values.proofs.bc.Goals.{then-value-flag+in_ok-tick, else-value-flag}

-- what the rule does where the value equals the flag, and where it does not
ticks : (v flag : Bool) (s : State) → beq v flag ≡ true → truth sums (Bc v) flag s ≡ (do tick; give v) s
unfolding truth
ticks v flag s e = ap (λ b. (if b then (do tick; give v) else give v) s) e

costs_none : (v flag : Bool) (s : State) → beq v flag ≡ false → truth sums (Bc v) flag s ≡ give v s
unfolding truth
costs_none v flag s e = ap (λ b. (if b then (do tick; give v) else give v) s) e

pub returns-in_err-tick : goal.returns-in_err-tick
returns-in_err-tick c = λ μ m.
    let none = none_left _ _ c.tick.ensures.some c.in_err-tick.was in
    let same : c.tick.new.left ≡ c.args.left.now = omega arith in
    ap₂ (λ t n. tested t n μ m) c.from_residual.ensures same
    ∙ sym (ap (reaching _) (ticks _ _ _ c.if-value-flag.true) ∙ spends _ _ _ none)

pub returns : goal.returns
unfolding then' give
returns c = λ μ m.
    let v = eqb (get_or c.args.text.now (c.args.at + 1) 0) 1 in
    elim c.if-value-flag.branch [
      | then-value-flag+in_ok-tick w ↦
          c.of.ensures _ μ m
          ∙ ap (λ n. ok (v upto (c.args.at + 2)) (state n 0 μ m)) (w.left-is ∙ w.tick.ensures.taken)
          ∙ sym (ap (reaching _) (ticks _ _ _ w.if-value-flag.true)
          ∙ goes _ _ _ (some_left _ _ w.tick.ensures.some w.in_ok-tick.was))
      | else-value-flag w ↦
          c.of.ensures _ μ m ∙ ap (λ n. ok (v upto (c.args.at + 2)) (state n 0 μ m)) w.left-is
          ∙ sym (ap (reaching _) (costs_none _ _ _ w.if-value-flag.false))
    ]
