-- A Less comes to what its sides come to, and then one tick (Compound).
use Rattle.std.proofs.Common.{◌≡◌, ◌≤◌, ◌+◌, false, max, sym, ap, ◌∙◌, arith, rules, w32, to_z, of_z}
use Rattle.base.specs.Acts.{ended}
use Rattle.text.proofs.Opened.{condition_opened, less_at}
use Rattle.source.specs.Rules.{spent, state, ending}
use Rattle.source_values.specs.Placed.{reaching}
use Rattle.source_values.specs.Code.{comparing}
use Rattle.source_values.proofs.Steps.{value_told, was_read}
use Rattle.source_values.proofs.Compound.{under, less_does, first_ended, right_read, second_ended, both_ok}
use Rattle.source_values.proofs.smaller.Goals as goal

pub overflow_sub-nest : goal.overflow_sub-nest
overflow_sub-nest c = (condition_opened _ _ _ c.requires.read.is).nested

pub evaluate-requires : goal.evaluate-requires
evaluate-requires c = record { read = was_read (less_at _ _ _ c.requires.read.is c.requires.first_byte).first }

pub evaluate-requires-in-Ok : goal.evaluate-requires-in-Ok
evaluate-requires-in-Ok c =
    let e = c.requires.read.is in
    let sides = less_at _ _ _ e c.requires.first_byte in
    let left = value_told _ 0 0 _ c.in-Ok.is (c.evaluate.ensures.evaluates 0 0 (omega arith)) in
    record { read = right_read (under false) comparing (less_does false) e sides _ left }

pub returns-in-Err : goal.returns-in-Err
returns-in-Err c = λ flag.
    let e = c.requires.read.is in
    let sides = less_at _ _ _ e c.requires.first_byte in
    let μ = c.args.mark.now in
    let stops = value_told _ 0 μ _ c.in-Err.is (c.evaluate.ensures.evaluates 0 μ (omega arith)) in
    let high : c.max.result ≡ max μ (0 + c.in-Err.spent.high) = omega (arith, c.max.ensures) in
    ap (λ k. ended (spent, ending c.evaluate.new.left k c.args.store.now)) high
    ∙ sym (first_ended (under flag) comparing (less_does flag) e sides _ stops)

pub returns-in-Err-evaluate : goal.returns-in-Err-evaluate
returns-in-Err-evaluate c = λ flag.
    let e = c.requires.read.is in
    let sides = less_at _ _ _ e c.requires.first_byte in
    let μ = c.args.mark.now in
    let a = c.in-Ok.x.high in
    let b = c.in-Err-evaluate.spent.high in
    let some : 1 ≤ a = c.in-Ok.ensures.within.0 in
    let left = value_told _ 0 μ _ c.in-Ok.is (c.evaluate.ensures.evaluates 0 μ (omega arith)) in
    let stops = value_told _ 1 _ _ c.in-Err-evaluate.is
    (c.evaluate-in-Ok.ensures.evaluates 1 (max μ (0 + a)) (omega arith)) in
    let high : c.max-in-Err-evaluate-2.result ≡ max (max μ (0 + a)) (1 + b) =
    omega (arith, c.max-in-Err-evaluate.ensures, c.max-in-Err-evaluate-2.ensures) in
    ap (λ k. ended (spent, ending c.evaluate-in-Ok.new.left k c.args.store.now)) high
    ∙ sym (second_ended (under flag) comparing (less_does flag) e sides _ left stops)

pub returns-in-Ok-evaluate : goal.returns-in-Ok-evaluate
returns-in-Ok-evaluate c = λ flag.
    let e = c.requires.read.is in
    let sides = less_at _ _ _ e c.requires.first_byte in
    let μ = c.args.mark.now in
    let m = c.args.store.now in
    let x = c.in-Ok.x in
    let y = c.in-Ok-evaluate.y in
    let some : 1 ≤ x.high = c.in-Ok.ensures.within.0 in
    let left = value_told _ 0 μ _ c.in-Ok.is (c.evaluate.ensures.evaluates 0 μ (omega arith)) in
    let right = value_told _ 1 _ _ c.in-Ok-evaluate.is
    (c.evaluate-in-Ok.ensures.evaluates 1 (max μ (0 + x.high)) (omega arith)) in
    let high : c.max-in-Ok-evaluate-2.result ≡ max (max μ (0 + x.high)) (1 + y.high) =
    omega (arith, c.max-in-Ok-evaluate.ensures, c.max-in-Ok-evaluate-2.ensures) in
    let x_fits : to_z w32 (of_z w32 x.value) ≡ x.value = search rules in
    let y_fits : to_z w32 (of_z w32 y.value) ≡ y.value = search rules in
    c.compared.ensures _ m
    ∙ (λ i. reaching y.next (comparing (x_fits i) (y_fits i) (state c.evaluate-in-Ok.new.left 2 (high i) m)))
    ∙ sym (both_ok (under flag) comparing (less_does flag) e sides _ left right)
