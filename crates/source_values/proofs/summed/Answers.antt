-- No tick is left, or one is taken and the sum is the value.
use Rattle.std.proofs.Common.{◌≡◌, suc, ◌+◌, ◌-◌, ◌+ℤ◌, max, sym, ap₂, ◌∙◌, arith, w32}
use mir.Facts.{to_z-of_z}
use Rattle.base.specs.Acts.{ok, then', give}
use Rattle.word.specs.Sums.{clamped, holding}
use Rattle.source.specs.Rules.{state, lower, in_range, add}
use Rattle.source_values.specs.Placed.{◌upto◌}
use Rattle.source_values.specs.Code.{valued}
use Rattle.source_values.proofs.Steps.{none_left, some_left, refused_so, spends, goes}
use Rattle.source_values.proofs.summed.Goals as goal

pub returns-in_err-ok_or-clause-summed : goal.returns-in_err-ok_or-clause-summed
returns-in_err-ok_or-clause-summed c = λ h μ m.
    let refused = c.in_err-ok_or.ensures in
    let none = none_left _ _ c.tick.ensures.some refused.ok_part in
    let same : c.tick.new.left ≡ c.args.left.now = omega arith in
    let r = refused_so _ _ c.from_residual.ensures.1 refused.value refused.ok_part in
    ap₂ (λ r n. valued r n h μ m) r same ∙ sym (spends _ _ _ none)

pub returns-clause-summed : goal.returns-clause-summed
unfolding then' give lower in_range add holding
returns-clause-summed c = λ h μ m.
    let a = c.args in
    let f = c.ranges in
    let some = some_left _ _ c.tick.ensures.some c.in_ok-ok_or.ensures.ok_part in
    let z =
    to_z-of_z {w = w32} (record { sfits = c.add.type_inv }) ∙ c.add.ensures
    ∙ ap₂ (λ x y. clamped (x +ℤ y)) (to_z-of_z {w = w32} f.x) (to_z-of_z {w = w32} f.y) in
    let n = c.tick.new.left in
    let less : suc h ≡ suc (suc h) - 1 = omega arith in
    let taken : state n (suc h) (max μ (h + a.high)) m
    ≡ state (a.left.now - 1) (suc (suc h) - 1) (max μ (h + a.high)) m = cc in
    ap₂ (λ z s. ok (z upto a.next) s) z taken ∙ sym (goes _ _ _ some)
