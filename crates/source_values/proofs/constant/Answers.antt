-- No tick is left, or one is taken and the value is the constant's (text_shape).
use Rattle.std.proofs.Common.{◌≡◌, suc, ◌+◌, max, get_or, sym, ap, ap₂, ◌∙◌, arith, rules, w32, to_z, of_z}
use Rattle.base.specs.Acts.{ok, then', give}
use Rattle.text_shape.specs.Shape.{constant_width}
use Rattle.source.specs.Rules.{state, raise, value}
use Rattle.source_values.specs.Placed.{◌upto◌}
use Rattle.source_values.specs.Code.{valued}
use Rattle.source_values.proofs.Steps.{none_left, some_left, refused_so, spends, goes, stays_marked, pushed_one}
use Rattle.source_values.proofs.constant.Goals as goal

pub returns-in_err-ok_or-clause-evaluates : goal.returns-in_err-ok_or-clause-evaluates
unfolding value
returns-in_err-ok_or-clause-evaluates c = λ m h μ l.
    let refused = c.in_err-ok_or.ensures in
    let none = none_left _ _ c.tick.ensures.some refused.ok_part in
    let same : c.tick.new.left ≡ c.args.left.now = omega arith in
    let r = refused_so _ _ c.from_residual.ensures.1 refused.value refused.ok_part in
    ap₂ (λ r n. valued r n h μ m) r same ∙ stays_marked _ h μ m l ∙ sym (spends _ _ _ none)

pub returns-clause-evaluates : goal.returns-clause-evaluates
unfolding value then' give raise
returns-clause-evaluates c = λ m h μ l.
    let a = c.args in
    let r = c.constant_at-constant.result in
    let some = some_left _ _ c.tick.ensures.some c.in_ok-ok_or.ensures.ok_part in
    let fits : to_z w32 (of_z w32 r.value) ≡ r.value = search rules in
    let next : a.at + 1 + r.width ≡ a.at + (1 + constant_width (get_or a.text.now a.at 0)) =
    omega (arith, ap (λ r. r.width) c.constant_at-constant.ensures) in
    ap (λ j. ok (to_z w32 (of_z w32 r.value) upto j) (state c.tick.new.left (suc h) (max μ (h + 1)) m)) next
    ∙ pushed_one h μ m c.tick.ensures.taken (fits ∙ ap (λ r. r.value) c.constant_at-constant.ensures)
    ∙ sym (goes _ _ _ some)
