-- The expression, then one tick to store (Commands).
use Rattle.std.proofs.Common.{◌≡◌, ◌+◌, max, get_or, sym, ap, ◌∙◌, arith, rules, w32, to_z, of_z}
use Rattle.base.specs.Acts.{ended}
use Rattle.text.proofs.Opened.{command_opened, assignment_at}
use Rattle.source.specs.Rules.{spent, state, ending}
use Rattle.source_values.specs.Placed.{reaching}
use Rattle.source_values.proofs.Steps.{value_told, was_read}
use Rattle.source_commands.specs.Code.{storing}
use Rattle.source_commands.proofs.Commands.{assign_ended, assign_ok}
use Rattle.source_commands.proofs.assignment.Goals as goal

pub overflow_sub-nest : goal.overflow_sub-nest
overflow_sub-nest c = (command_opened _ _ _ c.requires.read.is).nested

pub right_side-requires : goal.right_side-requires
right_side-requires c = record { read = was_read (assignment_at _ _ _ c.requires.read.is c.requires.first_byte).2.read }

pub bounds-text-at : goal.bounds-text-at
bounds-text-at c =
    let w = (assignment_at _ _ _ c.requires.read.is c.requires.first_byte).0 in omega (arith, c.told-text)

pub stored-requires : goal.stored-requires
stored-requires c =
    let v = (assignment_at _ _ _ c.requires.read.is c.requires.first_byte).1 in omega arith

pub returns-in-Err : goal.returns-in-Err
returns-in-Err c =
    let e = c.requires.read.is in
    let part = (assignment_at _ _ _ e c.requires.first_byte).2 in
    let μ = c.args.mark.now in
    let stops = value_told _ 0 μ _ c.in-Err.is (c.right_side.ensures 0 μ (omega arith)) in
    let high : c.max.result ≡ max μ (0 + c.in-Err.spent.high) = omega (arith, c.max.ensures) in
    ap (λ k. ended (spent, ending c.right_side.new.left k c.args.store.now)) high ∙ sym (assign_ended _ e part _ stops)

pub returns-in-Ok : goal.returns-in-Ok
returns-in-Ok c =
    let a = c.args in
    let e = c.requires.read.is in
    let part = (assignment_at _ _ _ e c.requires.first_byte).2 in
    let μ = a.mark.now in
    let x = c.in-Ok.x in
    let value = value_told _ 0 μ _ c.in-Ok.is (c.right_side.ensures 0 μ (omega arith)) in
    let high : c.max-in-Ok.result ≡ max μ (0 + x.high) = omega (arith, c.max-in-Ok.ensures) in
    let fits : to_z w32 (of_z w32 x.value) ≡ x.value = search rules in
    c.stored.ensures _
    ∙ (λ i. reaching x.next (storing (c.from.ensures i) (fits i) (state c.right_side.new.left 1 (high i) a.store.now)))
    ∙ sym (assign_ok _ e part _ value)
