-- Each answer is a law of its construct (Commands) or of a loop (Loops).
use Rattle.std.proofs.Common.{Some, refl, ◌≡◌, ℕ, Option, sym, ap, ap₂, ◌∙◌, arith}
use Rattle.base.specs.Acts.{ok, then', give}
use Rattle.text.specs.Reading.{command}
use Rattle.text.proofs.Opened.{command_opened, skip_at, sequence_at, choice_at, while_at, last_command}
use Rattle.text_ends.proofs.Passing.{command_end, command_ends}
use Rattle.source.specs.Rules.{Store, Outcomes, state}
use Rattle.source_values.specs.Placed.{Reached, ◌upto◌, placed, reaching}
use Rattle.source_values.proofs.Steps.{none_left, some_left, tick_none, tick_one, truth_told, was_read}
use Rattle.source_commands.specs.Code.{went}
use Rattle.source_commands.proofs.Commands.{doing, skip_is, sequence_ended, choice_ended, first_at, first_stops}
use Rattle.source_commands.proofs.Commands.{other_at, first_done, else_at, else_is, while_ended, body_at}
use Rattle.source_commands.proofs.Commands.{while_done, body_stops, turn_spent, turn_again}
use Rattle.source_commands.proofs.Loops.{second_next, no_higher}
use Rattle.source_commands.proofs.+choice_execute_repeat.Goals as goal

went_told : (left μ : ℕ) (m : Store) {r r' : Option ℕ} {o : Outcomes (Reached (Unit {0}))} → r ≡ r'
    → went r left μ m ≡ o → o ≡ went r' left μ m
went_told left μ m e f = sym f ∙ ap (λ r. went r left μ m) e

-- ---- IF

pub choice-overflow_sub-nest : goal.choice-overflow_sub-nest
choice-overflow_sub-nest t c = (command_opened _ _ _ c.requires.read.is).nested

pub choice-test-requires-clause-read : goal.choice-test-requires-clause-read
choice-test-requires-clause-read t c = was_read (choice_at _ _ _ c.requires.read.is c.requires.first_byte).first

pub choice-returns-in_err-first : goal.choice-returns-in_err-first
choice-returns-in_err-first t c =
    let e = c.requires.read.is in
    let parts = choice_at _ _ _ e c.requires.first_byte in
    let lent = c.test.new in
    let stops = truth_told _ _ _ c.in_err-first.was c.test.ensures in
    ap (λ r. went r lent.left lent.mark c.args.store.now) c.from_residual.ensures
    ∙ sym (choice_ended e parts _ stops)

pub choice-part_end-second-requires-clause-row : goal.choice-part_end-second-requires-clause-row
choice-part_end-second-requires-clause-row t c =
    let e = c.requires.read.is in
    let chosen = truth_told _ _ _ (c.in_ok-first.was ∙ ap Some c.in-False.is) c.test.ensures in
    command_ends _ _ _ (first_at e (choice_at _ _ _ e c.requires.first_byte) _ chosen)

pub choice-overflow_sub-nest-in-False : goal.choice-overflow_sub-nest-in-False
choice-overflow_sub-nest-in-False t c = (command_opened _ _ _ c.requires.read.is).nested

pub choice-execute-requires : goal.choice-execute-requires
choice-execute-requires t c =
    let e = c.requires.read.is in
    let n = (command_opened _ _ _ e).nested in
    let parts = choice_at _ _ _ e c.requires.first_byte in
    let chosen = truth_told _ _ _ (c.in_ok-first.was ∙ ap Some c.in-False.is) c.test.ensures in
    let middle = command_end _ _ _ (first_at e parts _ chosen) c.part_end-second.ensures in
    let read = was_read (else_at e parts _ chosen _ middle) in
    (omega arith, (read, c.requires.part_ends))

pub choice-returns-in-False : goal.choice-returns-in-False
choice-returns-in-False t c =
    let e = c.requires.read.is in
    let parts = choice_at _ _ _ e c.requires.first_byte in
    let chosen = truth_told _ _ _ (c.in_ok-first.was ∙ ap Some c.in-False.is) c.test.ensures in
    let middle = command_end _ _ _ (first_at e parts _ chosen) c.part_end-second.ensures in
    c.execute.ensures ∙ sym (else_is e parts _ chosen _ middle refl)

pub choice-overflow_sub-nest-in-True : goal.choice-overflow_sub-nest-in-True
choice-overflow_sub-nest-in-True t c = (command_opened _ _ _ c.requires.read.is).nested

pub choice-execute-requires-in-True : goal.choice-execute-requires-in-True
choice-execute-requires-in-True t c =
    let e = c.requires.read.is in
    let n = (command_opened _ _ _ e).nested in
    let chosen = truth_told _ _ _ (c.in_ok-first.was ∙ ap Some c.in-True.is) c.test.ensures in
    let read = was_read (first_at e (choice_at _ _ _ e c.requires.first_byte) _ chosen) in
    (omega arith, (read, c.requires.part_ends))

pub choice-returns-in_err-second-in-True : goal.choice-returns-in_err-second-in-True
choice-returns-in_err-second-in-True t c =
    let e = c.requires.read.is in
    let parts = choice_at _ _ _ e c.requires.first_byte in
    let lent = c.execute-in-True.new in
    let chosen = truth_told _ _ _ (c.in_ok-first.was ∙ ap Some c.in-True.is) c.test.ensures in
    let stops = went_told _ _ _ c.in_err-second-in-True.was c.execute-in-True.ensures in
    ap (λ r. went r lent.left lent.mark lent.store) c.from_residual-in_err-second-in-True.ensures
    ∙ sym (first_stops e parts _ chosen refl stops)

pub choice-returns-in_err-tick-in-True : goal.choice-returns-in_err-tick-in-True
unfolding then' give
choice-returns-in_err-tick-in-True t c =
    let e = c.requires.read.is in
    let parts = choice_at _ _ _ e c.requires.first_byte in
    let lent = c.execute-in-True.new in
    let chosen = truth_told _ _ _ (c.in_ok-first.was ∙ ap Some c.in-True.is) c.test.ensures in
    let first = went_told _ _ _ c.in_ok-second-in-True.was c.execute-in-True.ensures in
    let none = none_left _ _ c.tick.ensures.some c.in_err-tick-in-True.was in
    let same : c.tick.new.left ≡ lent.left = omega arith in
    ap₂ (λ r n. went r n lent.mark lent.store) c.from_residual-in_err-tick-in-True.ensures same
    ∙ sym (first_done e parts _ chosen first refl
    ∙ ap (reaching _) (tick_none _ none))

pub choice-part_end-requires-clause-row : goal.choice-part_end-requires-clause-row
choice-part_end-requires-clause-row t c =
    let e = c.requires.read.is in
    let chosen = truth_told _ _ _ (c.in_ok-first.was ∙ ap Some c.in-True.is) c.test.ensures in
    let first = went_told _ _ _ c.in_ok-second-in-True.was c.execute-in-True.ensures in
    command_ends _ _ _ (other_at e (choice_at _ _ _ e c.requires.first_byte) _ chosen first)

pub choice-returns-in_ok-tick-in-True : goal.choice-returns-in_ok-tick-in-True
unfolding then' give
choice-returns-in_ok-tick-in-True t c =
    let e = c.requires.read.is in
    let parts = choice_at _ _ _ e c.requires.first_byte in
    let lent = c.execute-in-True.new in
    let chosen = truth_told _ _ _ (c.in_ok-first.was ∙ ap Some c.in-True.is) c.test.ensures in
    let first = went_told _ _ _ c.in_ok-second-in-True.was c.execute-in-True.ensures in
    let end = command_end _ _ _ (other_at e parts _ chosen first) c.part_end.ensures in
    let some = some_left _ _ c.tick.ensures.some c.in_ok-tick-in-True.was in
    ap₂ (λ j n. ok (tt upto j) (state n 0 lent.mark lent.store)) end c.tick.ensures.taken
    ∙ sym (first_done e parts _ chosen first refl ∙ ap (reaching _) (tick_one _ some))

-- ---- A command of any kind, and the loop over sequences

pub execute-bounds-text-at : goal.execute-bounds-text-at
execute-bounds-text-at t c =
    let w = (command_opened _ _ _ c.loop-store.invariant.read.is).inside in omega (arith, c.told-text)

pub execute-overflow_add-result : goal.execute-overflow_add-result
execute-overflow_add-result t c =
    let w = (command_opened _ _ _ c.loop-store.invariant.read.is).inside in omega (arith, c.told-text)

pub execute-returns-in-0 : goal.execute-returns-in-0
execute-returns-in-0 t c =
    let i = c.loop-store.invariant in sym (skip_is _ (skip_at _ _ _ i.read.is c.in-0.is).read) ∙ i.same

pub execute-overflow_sub-nest : goal.execute-overflow_sub-nest
execute-overflow_sub-nest t c = (command_opened _ _ _ c.loop-store.invariant.read.is).nested

pub execute-execute-requires : goal.execute-execute-requires
execute-execute-requires t c =
    let i = c.loop-store.invariant in
    let m = i.nested in
    let n = (command_opened _ _ _ i.read.is).nested in
    let read = was_read (sequence_at _ _ _ i.read.is c.in-2.is).first in
    (omega arith, (read, c.requires.part_ends))

pub execute-returns-in_err-at-in-2 : goal.execute-returns-in_err-at-in-2
execute-returns-in_err-at-in-2 t c =
    let i = c.loop-store.invariant in
    let lent = c.execute.new in
    let two = sequence_at _ _ _ i.read.is c.in-2.is in
    let stops = went_told _ _ _ c.in_err-at-in-2.was c.execute.ensures in
    ap (λ r. went r lent.left lent.mark lent.store) c.from_residual.ensures
    ∙ sym (sequence_ended i.read.is two _ stops) ∙ i.same

pub execute-overflow_sub-nest-in-2 : goal.execute-overflow_sub-nest-in-2
execute-overflow_sub-nest-in-2 t c = (command_opened _ _ _ c.loop-store.invariant.read.is).nested

pub execute-loop-store-smaller : goal.execute-loop-store-smaller
execute-loop-store-smaller t c =
    let n = (command_opened _ _ _ c.loop-store.invariant.read.is).nested in omega arith

pub execute-loop-store-preserved : goal.execute-loop-store-preserved
execute-loop-store-preserved t c =
    let i = c.loop-store.invariant in
    let first = went_told _ _ _ c.in_ok-at-in-2.was c.execute.ensures in
    second_next i (sequence_at _ _ _ i.read.is c.in-2.is) first

pub execute-repeat-requires : goal.execute-repeat-requires
execute-repeat-requires t c =
    let i = c.loop-store.invariant in
    let m = i.nested in
    let b = last_command _ _ _ i.read.is (λ e. omega arith) (λ e. omega arith) (λ e. omega arith) (λ e. omega arith) in
    (omega arith, (b, (i.read, c.requires.part_ends)))

-- ---- WHILE

pub repeat-overflow_sub-nest : goal.repeat-overflow_sub-nest
repeat-overflow_sub-nest t c = (command_opened _ _ _ c.requires.read.is).nested

pub repeat-guard-requires-clause-read : goal.repeat-guard-requires-clause-read
repeat-guard-requires-clause-read t c = was_read (while_at _ _ _ c.requires.read.is c.requires.first_byte).first

pub repeat-returns-in_err-body : goal.repeat-returns-in_err-body
repeat-returns-in_err-body t c =
    let e = c.requires.read.is in
    let lent = c.guard.new in
    let stops = truth_told _ _ _ c.in_err-body.was c.guard.ensures in
    ap (λ r. went r lent.left lent.mark c.loop-body.store) c.from_residual.ensures
    ∙ sym (while_ended e (while_at _ _ _ e c.requires.first_byte) _ stops) ∙ c.loop-body.invariant

pub repeat-part_end-requires-clause-row : goal.repeat-part_end-requires-clause-row
repeat-part_end-requires-clause-row t c =
    let e = c.requires.read.is in
    let truth = truth_told _ _ _ (c.in_ok-body.was ∙ ap Some c.in-False.is) c.guard.ensures in
    command_ends _ _ _ (body_at e (while_at _ _ _ e c.requires.first_byte) _ truth)

pub repeat-returns-in-False : goal.repeat-returns-in-False
repeat-returns-in-False t c =
    let e = c.requires.read.is in
    let parts = while_at _ _ _ e c.requires.first_byte in
    let lent = c.guard.new in
    let truth = truth_told _ _ _ (c.in_ok-body.was ∙ ap Some c.in-False.is) c.guard.ensures in
    let end = command_end _ _ _ (body_at e parts _ truth) c.part_end.ensures in
    ap (λ n. ok (tt upto n) (state lent.left 0 lent.mark c.loop-body.store)) end
    ∙ sym (while_done e parts _ truth refl) ∙ c.loop-body.invariant

pub repeat-overflow_sub-nest-in-True : goal.repeat-overflow_sub-nest-in-True
repeat-overflow_sub-nest-in-True t c = (command_opened _ _ _ c.requires.read.is).nested

pub repeat-execute-requires : goal.repeat-execute-requires
repeat-execute-requires t c =
    let e = c.requires.read.is in
    let n = (command_opened _ _ _ e).nested in
    let truth = truth_told _ _ _ (c.in_ok-body.was ∙ ap Some c.in-True.is) c.guard.ensures in
    let read = was_read (body_at e (while_at _ _ _ e c.requires.first_byte) _ truth) in
    (omega arith, (read, c.requires.part_ends))

pub repeat-returns-in_err-execute-in-True : goal.repeat-returns-in_err-execute-in-True
repeat-returns-in_err-execute-in-True t c =
    let e = c.requires.read.is in
    let parts = while_at _ _ _ e c.requires.first_byte in
    let lent = c.execute.new in
    let truth = truth_told _ _ _ (c.in_ok-body.was ∙ ap Some c.in-True.is) c.guard.ensures in
    let stops = went_told _ _ _ c.in_err-execute-in-True.was c.execute.ensures in
    ap (λ r. went r lent.left lent.mark lent.store) c.from_residual-in_err-execute-in-True.ensures
    ∙ sym (body_stops e parts _ truth refl stops) ∙ c.loop-body.invariant

pub repeat-loop-body-smaller : goal.repeat-loop-body-smaller
repeat-loop-body-smaller t c =
    let e = c.requires.read.is in
    let truth = truth_told _ _ _ (c.in_ok-body.was ∙ ap Some c.in-True.is) c.guard.ensures in
    let went_on = went_told _ _ _ c.in_ok-execute-in-True.was c.execute.ensures in
    let h = no_higher e (while_at _ _ _ e c.requires.first_byte) _ truth went_on in
    let some = some_left _ _ c.tick.ensures.some c.in_ok-tick-in-True.was in
    omega arith

pub repeat-loop-body-preserved : goal.repeat-loop-body-preserved
repeat-loop-body-preserved t c =
    let e = c.requires.read.is in
    let parts = while_at _ _ _ e c.requires.first_byte in
    let truth = truth_told _ _ _ (c.in_ok-body.was ∙ ap Some c.in-True.is) c.guard.ensures in
    let went_on = went_told _ _ _ c.in_ok-execute-in-True.was c.execute.ensures in
    let some = some_left _ _ c.tick.ensures.some c.in_ok-tick-in-True.was in
    let again = turn_again e parts _ truth refl went_on some in
    let a = c.args in
    let lent = c.execute.new in
    ap (λ n. placed doing (command a.text.now a.nest a.at) (state n 0 lent.mark lent.store)) c.tick.ensures.taken
    ∙ sym again ∙ c.loop-body.invariant

pub repeat-returns-in_err-tick-in-True : goal.repeat-returns-in_err-tick-in-True
repeat-returns-in_err-tick-in-True t c =
    let e = c.requires.read.is in
    let parts = while_at _ _ _ e c.requires.first_byte in
    let lent = c.execute.new in
    let truth = truth_told _ _ _ (c.in_ok-body.was ∙ ap Some c.in-True.is) c.guard.ensures in
    let went_on = went_told _ _ _ c.in_ok-execute-in-True.was c.execute.ensures in
    let none = none_left _ _ c.tick.ensures.some c.in_err-tick-in-True.was in
    let same : c.tick.new.left ≡ lent.left = omega arith in
    ap₂ (λ r n. went r n lent.mark lent.store) c.from_residual-in_err-tick-in-True.ensures same
    ∙ sym (turn_spent e parts _ truth refl went_on none)
    ∙ c.loop-body.invariant
