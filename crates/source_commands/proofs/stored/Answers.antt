-- No tick is left, or one is taken and the cell is set.
use Rattle.std.proofs.Common.{◌≡◌, sym, ap₂, ◌∙◌, arith, w32}
use lib.ListN.{set}
use mir.Facts.{to_z-of_z}
use Rattle.base.specs.Acts.{ok, then', give}
use Rattle.source.specs.Rules.{state, lower, assign}
use Rattle.source_values.specs.Placed.{◌upto◌}
use Rattle.source_values.proofs.Steps.{none_left, some_left, spends, goes}
use Rattle.source_commands.specs.Code.{went}
use Rattle.source_commands.proofs.stored.Goals as goal

pub returns-in_err-tick : goal.returns-in_err-tick
returns-in_err-tick c = λ μ.
    let none = none_left _ _ c.tick.ensures.some c.in_err-tick.was in
    let same : c.tick.new.left ≡ c.args.left.now = omega arith in
    ap₂ (λ r n. went r n μ c.args.store.now) c.from_residual.ensures same ∙ sym (spends _ _ _ none)

pub returns : goal.returns
unfolding then' give lower assign
returns c = λ μ.
    let a = c.args in
    let some = some_left _ _ c.tick.ensures.some c.in_ok-tick.was in
    let z = to_z-of_z {w = w32} c.ranges.z in
    ap₂ (λ z n. ok (tt upto a.next) (state n 0 μ (set a.store.now a.v z))) z c.tick.ensures.taken
    ∙ sym (goes _ _ _ some)
