-- No tick is left, or one is taken and the numbers are compared.
use Rattle.std.proofs.Common.{◌≡◌, sym, ap₂, ◌∙◌, arith, w32}
use lib.Signed.{lt_z}
use mir.Facts.{to_z-of_z}
use Rattle.base.specs.Acts.{ok, then', give}
use Rattle.source.specs.Rules.{state, lower}
use Rattle.source_values.specs.Placed.{◌upto◌}
use Rattle.source_values.specs.Code.{tested}
use Rattle.source_values.proofs.Steps.{none_left, some_left, spends, goes}
use Rattle.source_values.proofs.compared.Goals as goal

pub returns-in_err-tick : goal.returns-in_err-tick
returns-in_err-tick c = λ μ m.
    let none = none_left _ _ c.tick.ensures.some c.in_err-tick.was in
    let same : c.tick.new.left ≡ c.args.left.now = omega arith in
    ap₂ (λ t n. tested t n μ m) c.from_residual.ensures same ∙ sym (spends _ _ _ none)

pub returns : goal.returns
unfolding then' give lower
returns c = λ μ m.
    let f = c.ranges in
    let some = some_left _ _ c.tick.ensures.some c.in_ok-tick.was in
    let e = c.less.ensures ∙ ap₂ lt_z (to_z-of_z {w = w32} f.x) (to_z-of_z {w = w32} f.y) in
    c.of.ensures _ μ m
    ∙ ap₂ (λ v n. ok (v upto c.args.next) (state n 0 μ m)) e c.tick.ensures.taken ∙ sym (goes _ _ _ some)
