-- A constant, a variable and a Plus are what their first byte says (Opened); a Plus comes to what its sides come to
-- (Compound).
use Rattle.std.proofs.Common.{◌≡◌, ◌≤◌, suc, ◌+◌, max, sym, ap, ◌∙◌, inl, arith, rules, w32, to_z, of_z}
use Rattle.base.specs.Acts.{ended}
use Rattle.text.proofs.Opened.{expression_opened, variable_at}
use Rattle.text.proofs.Opened.{plus_at as sides_of_plus}
use Rattle.text_shape.proofs.Constants.{constant_read, last_sum, last_constant}
use Rattle.source.specs.Rules.{spent, state, ending}
use Rattle.source_values.specs.Placed.{reaching}
use Rattle.source_values.specs.Code.{summing, valued}
use Rattle.source_values.proofs.Steps.{value_told, was_read, placed_is, within_more, joined, carried}
use Rattle.source_values.proofs.Compound.{valuing, plus_does, first_ended, right_read}
use Rattle.source_values.proofs.Compound.{second_ended, both_ok}
use Rattle.source_values.proofs.+evaluate_plus.Goals as goal

-- ---- The expression of any kind

pub evaluate-bounds-text-at : goal.evaluate-bounds-text-at
evaluate-bounds-text-at t c =
    let w = (expression_opened _ _ _ c.requires.read.is).inside in omega (arith, c.told-text)

pub evaluate-constant-requires : goal.evaluate-constant-requires
evaluate-constant-requires t c =
    record { at_in_bounds = (constant_read _ _ _ c.requires.read.is (inl c.in-16.is)).inside }

pub evaluate-variable-requires-clause-operand_inside : goal.evaluate-variable-requires-clause-operand_inside
evaluate-variable-requires-clause-operand_inside t c =
    let w = (variable_at _ _ _ c.requires.read.is c.in-17.is).1.inside in omega (arith, c.told-text)

pub evaluate-variable-requires-clause-variable_bound : goal.evaluate-variable-requires-clause-variable_bound
evaluate-variable-requires-clause-variable_bound t c =
    let v = (variable_at _ _ _ c.requires.read.is c.in-17.is).0 in omega arith

pub evaluate-plus-requires : goal.evaluate-plus-requires
evaluate-plus-requires t c =
    let e = c.requires.read.is in
    let b = c.if-op-lt-ONE_BYTE_CONSTANT.true in
    (omega arith, (last_sum _ _ _ e (λ f. omega arith) (λ f. omega arith) b, c.requires.read))

pub evaluate-constant-requires-else-op-lt-ONE_BYTE_CONSTANT :
    goal.evaluate-constant-requires-else-op-lt-ONE_BYTE_CONSTANT
evaluate-constant-requires-else-op-lt-ONE_BYTE_CONSTANT t c =
    let e = c.requires.read.is in
    let b = c.if-op-lt-ONE_BYTE_CONSTANT.false in
    record { at_in_bounds = (constant_read _ _ _ e (last_constant _ _ _ e (λ f. omega arith) b)).inside }

pub evaluate-returns-in-16-clause-evaluates : goal.evaluate-returns-in-16-clause-evaluates
evaluate-returns-in-16-clause-evaluates t c = λ h μ l.
    let p = constant_read _ _ _ c.requires.read.is (inl c.in-16.is) in
    c.constant.ensures.evaluates _ h μ l ∙ sym (placed_is valuing _ p.read)

pub evaluate-returns-in-16-clause-within : goal.evaluate-returns-in-16-clause-within
evaluate-returns-in-16-clause-within t c =
    within_more c.constant.result 1 c.args.nest (expression_opened _ _ _ c.requires.read.is).nested
    c.constant.ensures.within

pub evaluate-returns-in-17-clause-evaluates : goal.evaluate-returns-in-17-clause-evaluates
evaluate-returns-in-17-clause-evaluates t c = λ h μ l.
    let p = variable_at _ _ _ c.requires.read.is c.in-17.is in
    c.variable.ensures.evaluates h μ l ∙ sym (placed_is valuing _ p.1.read)

pub evaluate-returns-in-17-clause-within : goal.evaluate-returns-in-17-clause-within
evaluate-returns-in-17-clause-within t c =
    within_more c.variable.result 1 c.args.nest (expression_opened _ _ _ c.requires.read.is).nested
    c.variable.ensures.within

pub evaluate-returns-else-op-lt-ONE_BYTE_CONSTANT-clause-evaluates :
    goal.evaluate-returns-else-op-lt-ONE_BYTE_CONSTANT-clause-evaluates
evaluate-returns-else-op-lt-ONE_BYTE_CONSTANT-clause-evaluates t c = λ h μ l.
    let e = c.requires.read.is in
    let b = last_constant _ _ _ e (λ f. omega arith) c.if-op-lt-ONE_BYTE_CONSTANT.false in
    let p = constant_read _ _ _ e b in
    c.constant-else-op-lt-ONE_BYTE_CONSTANT.ensures.evaluates _ h μ l ∙ sym (placed_is valuing _ p.read)

pub evaluate-returns-else-op-lt-ONE_BYTE_CONSTANT-clause-within :
    goal.evaluate-returns-else-op-lt-ONE_BYTE_CONSTANT-clause-within
evaluate-returns-else-op-lt-ONE_BYTE_CONSTANT-clause-within t c =
    let k = c.constant-else-op-lt-ONE_BYTE_CONSTANT in
    within_more k.result 1 c.args.nest (expression_opened _ _ _ c.requires.read.is).nested k.ensures.within

-- ---- The sum

pub plus-overflow_sub-nest : goal.plus-overflow_sub-nest
plus-overflow_sub-nest t c = (expression_opened _ _ _ c.requires.read.is).nested

pub plus-evaluate-requires : goal.plus-evaluate-requires
plus-evaluate-requires t c =
    let e = c.requires.read.is in
    let n = (expression_opened _ _ _ e).nested in
    (omega arith, was_read (sides_of_plus _ _ _ e c.requires.first_byte).first)

pub plus-returns-in_err-x-clause-evaluates : goal.plus-returns-in_err-x-clause-evaluates
plus-returns-in_err-x-clause-evaluates t c = λ h μ l.
    let e = c.requires.read.is in
    let sides = sides_of_plus _ _ _ e c.requires.first_byte in
    let stops = value_told _ h μ _ c.in_err-x.was (c.evaluate.ensures.evaluates h μ l) in
    ap (λ r. valued r c.evaluate.new.left h μ c.args.store.now) (carried _ c.from_residual.ensures.1)
    ∙ sym (first_ended valuing summing plus_does e sides _ stops)

pub plus-evaluate-requires-2 : goal.plus-evaluate-requires-2
plus-evaluate-requires-2 t c =
    let e = c.requires.read.is in
    let n = (expression_opened _ _ _ e).nested in
    let sides = sides_of_plus _ _ _ e c.requires.first_byte in
    let left = value_told _ 0 0 _ c.in_ok-x.was (c.evaluate.ensures.evaluates 0 0 (omega arith)) in
    (omega arith, right_read valuing summing plus_does e sides _ left)

pub plus-returns-in-Err-clause-evaluates : goal.plus-returns-in-Err-clause-evaluates
plus-returns-in-Err-clause-evaluates t c = λ h μ l.
    let x = c.in_ok-x.x in
    let high = c.in-Err.spent.high in
    let e = c.requires.read.is in
    let sides = sides_of_plus _ _ _ e c.requires.first_byte in
    let some : 1 ≤ x.high = c.in_ok-x.ensures.within.0 in
    let left = value_told _ h μ _ c.in_ok-x.was (c.evaluate.ensures.evaluates h μ l) in
    let stops = value_told _ (suc h) _ _ c.in-Err.is
    (c.evaluate-2.ensures.evaluates (suc h) (max μ (h + x.high)) (omega arith)) in
    ap (λ k. ended (spent, ending c.evaluate-2.new.left k c.args.store.now))
    (joined h μ x.high high c.max.ensures)
    ∙ sym (second_ended valuing summing plus_does e sides _ left stops)

pub plus-returns-in-Ok-clause-evaluates : goal.plus-returns-in-Ok-clause-evaluates
plus-returns-in-Ok-clause-evaluates t c = λ h μ l.
    let x = c.in_ok-x.x in
    let y = c.in-Ok.y in
    let e = c.requires.read.is in
    let m = c.args.store.now in
    let sides = sides_of_plus _ _ _ e c.requires.first_byte in
    let some : 1 ≤ x.high = c.in_ok-x.ensures.within.0 in
    let left = value_told _ h μ _ c.in_ok-x.was (c.evaluate.ensures.evaluates h μ l) in
    let right = value_told _ (suc h) _ _ c.in-Ok.is
    (c.evaluate-2.ensures.evaluates (suc h) (max μ (h + x.high)) (omega arith)) in
    let x_fits : to_z w32 (of_z w32 x.value) ≡ x.value = search rules in
    let y_fits : to_z w32 (of_z w32 y.value) ≡ y.value = search rules in
    let high = joined h μ x.high y.high c.max-in-Ok.ensures in
    c.summed.ensures.summed h μ m
    ∙ (λ i. reaching y.next (summing (x_fits i) (y_fits i) (state c.evaluate-2.new.left (suc (suc h)) (high i) m)))
    ∙ sym (both_ok valuing summing plus_does e sides _ left right)
