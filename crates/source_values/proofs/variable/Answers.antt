-- No tick is left, or one is taken and the cell is the value.
use Rattle.std.proofs.Common.{◌≡◌, ◌+◌, get_or, pos, sym, ap₂, ◌∙◌, arith, rules, w32, to_z, of_z}
use Rattle.base.specs.Acts.{then', give}
use Rattle.source.specs.Rules.{raise, cell, value}
use Rattle.source_values.specs.Code.{valued}
use Rattle.source_values.proofs.Steps.{none_left, some_left, refused_so, spends, goes, stays_marked, pushed_one}
use Rattle.source_values.proofs.variable.Goals as goal

pub returns-in_err-ok_or-clause-evaluates : goal.returns-in_err-ok_or-clause-evaluates
unfolding value
returns-in_err-ok_or-clause-evaluates c = λ h μ l.
    let refused = c.in_err-ok_or.ensures in
    let none = none_left _ _ c.tick.ensures.some refused.ok_part in
    let same : c.tick.new.left ≡ c.args.left.now = omega arith in
    let r = refused_so _ _ c.from_residual.ensures.1 refused.value refused.ok_part in
    ap₂ (λ r n. valued r n h μ c.args.store.now) r same ∙ stays_marked _ h μ _ l ∙ sym (spends _ _ _ none)

pub returns-clause-evaluates : goal.returns-clause-evaluates
unfolding value then' give raise cell
returns-clause-evaluates c = λ h μ l.
    let a = c.args in
    let some = some_left _ _ c.tick.ensures.some c.in_ok-ok_or.ensures.ok_part in
    let x = get_or a.store.now (get_or a.text.now (a.at + 1) 0) (pos 0) in
    let z : to_z w32 (of_z w32 x) ≡ x = search rules in
    rw c.from.ensures (pushed_one h μ a.store.now c.tick.ensures.taken z ∙ sym (goes _ _ _ some))
