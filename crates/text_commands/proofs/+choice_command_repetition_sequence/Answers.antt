-- `command` is settled by what its first byte begins, and its helpers by their parts, of which each but the last was
-- read or is the command's refusal.
use Rattle.std.proofs.Common.{ℕ, ◌+◌, List, false, get_or, refl, arith, rules}
use Rattle.base.specs.Acts.{then', ◌>>◌, give}
use Rattle.text.specs.Syntax.{Condition, Command, SKIP, ◌⨾◌, IF◌THEN◌ELSE◌, WHILE◌DO◌}
use Rattle.text.specs.Reading.{decline, pass, condition, command, command_of}
use Rattle.text.specs.Sizes.{records, depth, names}
use Rattle.text.proofs.Heads as heads
use Rattle.text.proofs.Heads.{is_skip, is_assignment, is_sequence, is_choice, is_loop, is_no_command}
use Rattle.text_conditions.specs.Code.{conditions, Answered}
use Rattle.text_conditions.specs.declared.PartReading.TheVariants.{Read}
use Rattle.text_conditions.proofs.Parts.{noted_none, declines, tells, after, Alike}
use Rattle.text_conditions.proofs.Parts.{two, three, first_ends, second_ends}
use Rattle.text_conditions.proofs.Bounds.{room, small_together, condition_small}
use Rattle.text_commands.specs.Code.{commands}
use Rattle.text_commands.proofs.Bounds.{command_small}
use Rattle.text_commands.proofs.+choice_command_repetition_sequence.Goals as goal

-- ---- Sizes

skip_told : (text : List ℕ) (i : ℕ) (m : List ℕ)
    → Answered commands ((do pass text 1; give SKIP) i) (Read 0 0 (i + 1)) m m
unfolding pass give then' records depth names
skip_told text i m = tells commands SKIP (i + 1) m m (noted_none m)

sequence_alike : (c : Command) → Alike (after commands c commands 0 0) commands (λ d. c ⨾ d)
unfolding records depth names
sequence_alike c = record { records = λ d. omega arith; depth = λ d. omega arith; names = λ d w. refl }

choice_alike : (b : Condition) (c : Command)
    → Alike (after (conditions false) b (after commands c commands 0 0) 1 0) commands (λ d. IF b THEN c ELSE d)
unfolding records depth names
choice_alike b c = record { records = λ d. omega arith; depth = λ d. omega arith; names = λ d w. refl }

loop_alike : (b : Condition) → Alike (after (conditions false) b commands 1 0) commands (λ c. WHILE b DO c)
unfolding records depth names
loop_alike b = record { records = λ c. omega arith; depth = λ c. omega arith; names = λ c w. refl }

-- ---- `command`

pub command-returns-then-text-at : goal.command-returns-then-text-at
command-returns-then-text-at t c =
    rw (heads.command_past _ _ _ c.if-text-at.true) (declines _ _ _ c.decline.ensures)

pub command-returns-then-nest-eq0 : goal.command-returns-then-nest-eq0
command-returns-then-nest-eq0 t c =
    rw (heads.command_deep _ _ _ c.if-text-at.false c.if-nest-eq0.true)
    (declines _ _ _ c.decline-then-nest-eq0.ensures)

pub command-returns-in-0 : goal.command-returns-in-0
unfolding command_of
command-returns-in-0 t c =
    rw (heads.command_at _ _ _ c.if-text-at.false c.if-nest-eq0.false, is_skip c.in-0.is) (skip_told _ _ _)

pub command-returns-in-1 : goal.command-returns-in-1
command-returns-in-1 t c =
    rw (heads.command_at _ _ _ c.if-text-at.false c.if-nest-eq0.false, is_assignment c.in-1.is) c.assignment.ensures

pub command-returns-in-2 : goal.command-returns-in-2
command-returns-in-2 t c =
    rw (heads.command_at _ _ _ c.if-text-at.false c.if-nest-eq0.false, is_sequence c.in-2.is) c.sequence.ensures

pub command-returns-in-3 : goal.command-returns-in-3
command-returns-in-3 t c =
    rw (heads.command_at _ _ _ c.if-text-at.false c.if-nest-eq0.false, is_choice c.in-3.is) c.choice.ensures

pub command-returns-in-4 : goal.command-returns-in-4
command-returns-in-4 t c =
    rw (heads.command_at _ _ _ c.if-text-at.false c.if-nest-eq0.false, is_loop c.in-4.is) c.repetition.ensures

pub command-returns-in_default : goal.command-returns-in_default
unfolding command_of decline
command-returns-in_default t c =
    let byte = get_or c.args.text.now c.args.at 0 in
    rw (
      heads.command_at _ _ _ c.if-text-at.false c.if-nest-eq0.false,
      is_no_command {b = byte} (search rules) (search rules) (search rules) (search rules) (search rules),
    )
    (declines _ _ _ c.decline-in_default.ensures)

-- ---- `sequence`

pub sequence-returns-in_default : goal.sequence-returns-in_default
unfolding command_of
sequence-returns-in_default t c =
    first_ends _ commands commands (command _ _) _ _ _ _ _ _ c.command-first.ensures c.in_default.is

pub sequence-joined-requires : goal.sequence-joined-requires
sequence-joined-requires t c =
    let short = c.requires.short in
    room 4096 4096 _ _ _ _ (omega arith)
    (rw c.in-Read.is at (command_small _ (λ i. (c.type_inv.text i).fits) short _ _ _ _ _ c.command-first.ensures))
    (command_small _ (λ i. (c.type_inv.text i).fits) short _ _ _ _ _ c.command.ensures)

pub sequence-returns : goal.sequence-returns
unfolding command_of
sequence-returns t c =
    two _ commands commands commands ◌⨾◌ (command _ _) (command _ _) _ _ _ _ _ 0 0 sequence_alike
    c.command-first.ensures c.in-Read.is c.command.ensures c.joined.ensures

-- ---- `choice`

pub choice-returns-in_default : goal.choice-returns-in_default
unfolding command_of
choice-returns-in_default t c =
    first_ends _ commands (conditions false) (condition _ _) _ _ _ _ _ _ c.condition-test.ensures c.in_default.is

pub choice-returns-in_default-first : goal.choice-returns-in_default-first
unfolding command_of
choice-returns-in_default-first t c =
    second_ends _ commands (conditions false) commands (condition _ _) (command _ _) _ _ _ _ _ _
    c.condition-test.ensures c.in-Read.is c.command-first.ensures c.in_default-first.is

pub choice-joined-requires : goal.choice-joined-requires
choice-joined-requires t c =
    let short = c.requires.short in
    room 4096 4096 _ _ _ _ (omega arith)
    (rw c.in-Read-first.is at (command_small _ (λ i. (c.type_inv.text i).fits) short _ _ _ _ _ c.command-first.ensures))
    (command_small _ (λ i. (c.type_inv.text i).fits) short _ _ _ _ _ c.command-second.ensures)

pub choice-joined-requires-2 : goal.choice-joined-requires-2
choice-joined-requires-2 t c =
    let short = c.requires.short in
    rw c.joined.ensures
    (room 4096 8192 _ _ _ _ (omega arith)
    (rw c.in-Read.is at (condition_small _ (λ i. (c.type_inv.text i).fits) short _ _ _ _ _ _ c.condition-test.ensures))
    (small_together 4096 4096 _ _
    (rw c.in-Read-first.is at (command_small _ (λ i. (c.type_inv.text i).fits) short _ _ _ _ _ c.command-first.ensures))
    (command_small _ (λ i. (c.type_inv.text i).fits) short _ _ _ _ _ c.command-second.ensures)))

pub choice-returns : goal.choice-returns
unfolding command_of
choice-returns t c =
    three _ commands (conditions false) commands commands IF◌THEN◌ELSE◌ (condition _ _) (command _ _) (command _ _)
    _ _ _ _ _ _ 1 0 choice_alike c.condition-test.ensures c.in-Read.is c.command-first.ensures c.in-Read-first.is
    c.command-second.ensures c.joined.ensures c.joined-2.ensures

-- ---- `repetition`

pub repetition-returns-in_default : goal.repetition-returns-in_default
unfolding command_of
repetition-returns-in_default t c =
    first_ends _ commands (conditions false) (condition _ _) _ _ _ _ _ _ c.condition-test.ensures c.in_default.is

pub repetition-joined-requires : goal.repetition-joined-requires
repetition-joined-requires t c =
    let short = c.requires.short in
    room 4096 4096 _ _ _ _ (omega arith)
    (rw c.in-Read.is at (condition_small _ (λ i. (c.type_inv.text i).fits) short _ _ _ _ _ _ c.condition-test.ensures))
    (command_small _ (λ i. (c.type_inv.text i).fits) short _ _ _ _ _ c.command.ensures)

pub repetition-returns : goal.repetition-returns
unfolding command_of
repetition-returns t c =
    two _ commands (conditions false) commands WHILE◌DO◌ (condition _ _) (command _ _) _ _ _ _ _ 1 0 loop_alike
    c.condition-test.ensures c.in-Read.is c.command.ensures c.joined.ensures
