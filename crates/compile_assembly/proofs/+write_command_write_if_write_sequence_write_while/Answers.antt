-- A sequence's commands stand in a row (Rows); IF's and WHILE's condition leads over a command (Guards).
use Rattle.std.proofs.Common.{◌≡◌, ◌∙◌, refl, sym, ap, ℕ, ◌+◌, ◌-◌, ◌<◌, List, [], ◌∷◌, ◌++◌, get_or, append-nil, arith}
use mir.Syntax.{w32}
use mir.Facts.{to_z_pos}
use Rattle.base.specs.Acts.{ok}
use Rattle.word.proofs.Laws.{read_back}
use Rattle.text.specs.Syntax.{◌⨾◌, IF◌THEN◌ELSE◌}
use Rattle.text.specs.Reading.{condition, command}
use Rattle.text.proofs.Opened as text_says
use Rattle.compile.specs.Compilation.{ccomp}
use Rattle.compile_conditions.specs.Parts.{Writable}
use Rattle.compile_conditions.proofs.Rows as rows
use Rattle.compile_conditions.proofs.Rows.{Row}
use Rattle.compile_conditions.proofs.Fronts as fronts
use Rattle.compile_assembly.proofs.Guards as guards
use Rattle.compile_assembly.proofs.Guards.{Guard, jump_back, jump_over}
use Rattle.compile_assembly.proofs.+write_command_write_if_write_sequence_write_while.Goals as goal

-- ---- Every command

pub write_command-bounds-text-at : goal.write_command-bounds-text-at
write_command-bounds-text-at t c = (text_says.command_opened _ _ _ c.requires.writable.is).inside

pub write_command-overflow_add-result : goal.write_command-overflow_add-result
write_command-overflow_add-result t c =
    let o = text_says.command_opened _ _ _ c.requires.writable.is in
    record { fits = omega (arith, o.inside, c.well_formed.0.0) }

pub write_command-write_while-requires : goal.write_command-write_while-requires
write_command-write_while-requires t c =
    let at_first : ℕ = get_or c.args.text.now c.args.at 0 in
    let no_skip : at_first ≡ 0x00 → ⊥ = λ e. omega (arith, e) in
    let no_assignment : at_first ≡ 0x01 → ⊥ = λ e. omega (arith, e) in
    let no_sequence : at_first ≡ 0x02 → ⊥ = λ e. omega (arith, e) in
    let no_if : at_first ≡ 0x03 → ⊥ = λ e. omega (arith, e) in
    let q = c.requires.writable in
    let byte =
    text_says.last_command c.args.text.now c.args.nest c.args.at q.is no_skip no_assignment no_sequence no_if in
    (omega (arith, c.decreases), (byte, (q, c.requires.condition_sizes)))

pub write_command-returns-in-0-clause-writes : goal.write_command-returns-in-0-clause-writes
unfolding ccomp
write_command-returns-in-0-clause-writes t c =
    let q = c.requires.writable in
    let k = text_says.skip_at _ _ _ q.is c.in-0.is in
    rows.nothing q (ap ccomp k.is) k.ends refl

-- ---- Sequence

commands : (text : List ℕ) (at nest : ℕ) (out : List ℕ) → get_or text at 0 ≡ 0x02
    → (q : Writable ccomp 0 (command text nest at) out)
    → Row (command text (nest - 1)) (command text (nest - 1)) ◌⨾◌ q.part ccomp ccomp [] (ccomp q.part) (at + 1) q.next
    out
unfolding ccomp
commands text at nest out byte q =
    let p = text_says.sequence_at text nest at q.is byte in
    let none_behind = ap (λ l. ccomp p.one ++ l) (sym (append-nil (ccomp p.two))) in
    record { parts = p; is = ap ccomp p.is ∙ none_behind; room = q.room; few = omega (arith, q.few) }

pub write_sequence-overflow_sub-inner : goal.write_sequence-overflow_sub-inner
write_sequence-overflow_sub-inner t c = (text_says.command_opened _ _ _ c.requires.writable.is).nested

pub write_sequence-write_command-first-requires : goal.write_sequence-write_command-first-requires
write_sequence-write_command-first-requires t c =
    let q = c.requires.writable in
    let row = commands _ _ _ _ c.requires.first_byte q in (
      text_says.down (text_says.command_opened _ _ _ q.is) c.decreases,
      (rows.first_writable row, c.requires.condition_sizes),
    )

pub write_sequence-overflow_mul-rest : goal.write_sequence-overflow_mul-rest
write_sequence-overflow_mul-rest t c =
    let row = commands _ _ _ _ c.requires.first_byte c.requires.writable in
    record { fits = omega (arith, rows.first_few row c.write_command-first.ensures.writes) }

pub write_sequence-slice_bounds-rest-count : goal.write_sequence-slice_bounds-rest-count
write_sequence-slice_bounds-rest-count t c =
    rows.second_start (commands _ _ _ _ c.requires.first_byte c.requires.writable) c.write_command-first.ensures.writes

pub write_sequence-slice_bounds-rest-start : goal.write_sequence-slice_bounds-rest-start
write_sequence-slice_bounds-rest-start t c =
    rows.second_start (commands _ _ _ _ c.requires.first_byte c.requires.writable) c.write_command-first.ensures.writes

pub write_sequence-write_command-second-requires :
    goal.write_sequence-write_command-second-requires
write_sequence-write_command-second-requires t c =
    let q = c.requires.writable in
    let row = commands _ _ _ _ c.requires.first_byte q in
    let w = c.write_command-first.ensures in (
      text_says.down (text_says.command_opened _ _ _ q.is) c.decreases,
      (rows.second_writable row w.writes, w.condition_sizes_after),
    )

pub write_sequence-overflow_add-result : goal.write_sequence-overflow_add-result
write_sequence-overflow_add-result t c =
    let row = commands _ _ _ _ c.requires.first_byte c.requires.writable in
    let size = rows.counted row c.write_command-first.ensures.writes c.write_command-second.ensures.writes in
    record { fits = omega (arith, size.few) }

pub write_sequence-returns-clause-writes : goal.write_sequence-returns-clause-writes
write_sequence-returns-clause-writes t c =
    let q = c.requires.writable in
    let row = commands _ _ _ _ c.requires.first_byte q in
    let w = c.write_command-first.ensures.writes in
    let v = c.write_command-second.ensures.writes in
    let size = rows.counted row w v in
    rows.wrote_all q (rows.wrote size.ends (omega (arith, size.all)) (rows.in_a_row row w v))

-- ---- WHILE

module _ (text : List ℕ) (at nest : ℕ) (out : List ℕ) (byte : get_or text at 0 ≡ 0x04)
    (q : Writable ccomp 0 (command text nest at) out) where
  loop : let p = text_says.while_at text nest at q.is byte in
      Guard (condition text (nest - 1)) (command text (nest - 1)) p.one p.two (jump_back p.one p.two ∷ [])
      (ccomp q.part) (at + 1) q.next out
  loop = guards.loop (text_says.while_at text nest at q.is byte) q.room (omega (arith, q.few))

pub write_while-overflow_sub-inner : goal.write_while-overflow_sub-inner
write_while-overflow_sub-inner t c = (text_says.command_opened _ _ _ c.requires.writable.is).nested

pub write_while-condition_size-test-requires-clause-countable :
    goal.write_while-condition_size-test-requires-clause-countable
write_while-condition_size-test-requires-clause-countable t c =
    fronts.countable (guards.front (loop _ _ _ _ c.requires.first_byte c.requires.writable))

pub write_while-overflow_mul-behind_test : goal.write_while-overflow_mul-behind_test
write_while-overflow_mul-behind_test t c =
    let g = loop _ _ _ _ c.requires.first_byte c.requires.writable in
    record { fits = omega (arith, fronts.test_few (guards.front g) c.condition_size-test.ensures.counts) }

pub write_while-slice_bounds-behind_test-count : goal.write_while-slice_bounds-behind_test-count
write_while-slice_bounds-behind_test-count t c =
    let g = loop _ _ _ _ c.requires.first_byte c.requires.writable in
    fronts.start (guards.front g) c.condition_size-test.ensures.counts

pub write_while-slice_bounds-behind_test-start : goal.write_while-slice_bounds-behind_test-start
write_while-slice_bounds-behind_test-start t c =
    let g = loop _ _ _ _ c.requires.first_byte c.requires.writable in
    fronts.start (guards.front g) c.condition_size-test.ensures.counts

pub write_while-write_command-body-requires : goal.write_while-write_command-body-requires
write_while-write_command-body-requires t c =
    let q = c.requires.writable in
    let g = loop _ _ _ _ c.requires.first_byte q in
    let m = c.condition_size-test.ensures in (
      text_says.down (text_says.command_opened _ _ _ q.is) c.decreases,
      (guards.body_writable g m.counts, m.condition_sizes_after),
    )

pub write_while-overflow_add-jump : goal.write_while-overflow_add-jump
write_while-overflow_add-jump t c =
    let g = loop _ _ _ _ c.requires.first_byte c.requires.writable in
    let few = guards.all_few g c.condition_size-test.ensures.counts c.write_command-body.ensures.writes in
    record { fits = omega (arith, few) }

pub write_while-back_over-requires : goal.write_while-back_over-requires
write_while-back_over-requires t c =
    let g = loop _ _ _ _ c.requires.first_byte c.requires.writable in
    omega (arith, guards.all_few g c.condition_size-test.ensures.counts c.write_command-body.ensures.writes)

pub write_while-put_record-requires : goal.write_while-put_record-requires
write_while-put_record-requires t c =
    let g = loop _ _ _ _ c.requires.first_byte c.requires.writable in
    guards.more_room g c.condition_size-test.ensures.counts c.write_command-body.ensures.writes

pub write_while-write_condition-requires-clause-writable :
    goal.write_while-write_condition-requires-clause-writable
write_while-write_condition-requires-clause-writable t c =
    let g = loop _ _ _ _ c.requires.first_byte c.requires.writable in
    let m = c.condition_size-test.ensures.counts in
    let w = c.write_command-body.ensures.writes in
    let number = read_back w32 c.back_over.type_inv c.back_over.ensures in
    fronts.test_writable (guards.front_told g m w) m (guards.with_jump_back g m w c.put_record.ensures number)

pub write_while-returns-clause-writes : goal.write_while-returns-clause-writes
write_while-returns-clause-writes t c =
    let q = c.requires.writable in
    let g = loop _ _ _ _ c.requires.first_byte q in
    let m = c.condition_size-test.ensures.counts in
    let w = c.write_command-body.ensures.writes in
    let number = read_back w32 c.back_over.type_inv c.back_over.ensures in
    let inside = guards.with_jump_back g m w c.put_record.ensures number in
    let all = fronts.whole (guards.front_told g m w) m inside c.write_condition.ensures.writes in
    rows.wrote_all q (rows.wrote (guards.body_ends g m w) (guards.all g m w) all)

-- ---- IF

module _ (text : List ℕ) (at nest : ℕ) (out : List ℕ) (byte : get_or text at 0 ≡ 0x03)
    (q : Writable ccomp 0 (command text nest at) out) where
  parts : text_says.Three (condition text (nest - 1) (at + 1)) (command text (nest - 1)) (command text (nest - 1))
      IF◌THEN◌ELSE◌ q.part q.next
  parts = text_says.choice_at text nest at q.is byte

  choice : let d = parts.others.two in
      Guard (condition text (nest - 1)) (command text (nest - 1)) parts.one parts.others.one (jump_over d ∷ ccomp d)
      (ccomp q.part) (at + 1) parts.others.middle out
  choice = guards.choice parts q.room (omega (arith, q.few))

  -- where the second branch is read
  second : command text (nest - 1) parts.others.middle ≡ ok parts.others.two q.next
  second = parts.others.second

pub write_if-overflow_sub-inner : goal.write_if-overflow_sub-inner
write_if-overflow_sub-inner t c = (text_says.command_opened _ _ _ c.requires.writable.is).nested

pub write_if-condition_size-test-requires-clause-countable :
    goal.write_if-condition_size-test-requires-clause-countable
write_if-condition_size-test-requires-clause-countable t c =
    fronts.countable (guards.front (choice _ _ _ _ c.requires.first_byte c.requires.writable))

pub write_if-overflow_mul-behind_test : goal.write_if-overflow_mul-behind_test
write_if-overflow_mul-behind_test t c =
    let g = choice _ _ _ _ c.requires.first_byte c.requires.writable in
    record { fits = omega (arith, fronts.test_few (guards.front g) c.condition_size-test.ensures.counts) }

pub write_if-slice_bounds-behind_test-count : goal.write_if-slice_bounds-behind_test-count
write_if-slice_bounds-behind_test-count t c =
    let g = choice _ _ _ _ c.requires.first_byte c.requires.writable in
    fronts.start (guards.front g) c.condition_size-test.ensures.counts

pub write_if-slice_bounds-behind_test-start : goal.write_if-slice_bounds-behind_test-start
write_if-slice_bounds-behind_test-start t c =
    let g = choice _ _ _ _ c.requires.first_byte c.requires.writable in
    fronts.start (guards.front g) c.condition_size-test.ensures.counts

pub write_if-write_command-yes-requires : goal.write_if-write_command-yes-requires
write_if-write_command-yes-requires t c =
    let q = c.requires.writable in
    let g = choice _ _ _ _ c.requires.first_byte q in
    let m = c.condition_size-test.ensures in (
      text_says.down (text_says.command_opened _ _ _ q.is) c.decreases,
      (guards.body_writable g m.counts, m.condition_sizes_after),
    )

pub write_if-overflow_add-jump : goal.write_if-overflow_add-jump
write_if-overflow_add-jump t c =
    let g = choice _ _ _ _ c.requires.first_byte c.requires.writable in
    let few = guards.all_few g c.condition_size-test.ensures.counts c.write_command-yes.ensures.writes in
    record { fits = omega (arith, few) }

pub write_if-overflow_add-behind_jump : goal.write_if-overflow_add-behind_jump
write_if-overflow_add-behind_jump t c =
    let g = choice _ _ _ _ c.requires.first_byte c.requires.writable in
    let few = guards.all_few g c.condition_size-test.ensures.counts c.write_command-yes.ensures.writes in
    record { fits = omega (arith, few) }

pub write_if-overflow_mul-behind_jump : goal.write_if-overflow_mul-behind_jump
write_if-overflow_mul-behind_jump t c =
    let g = choice _ _ _ _ c.requires.first_byte c.requires.writable in
    let few = guards.all_few g c.condition_size-test.ensures.counts c.write_command-yes.ensures.writes in
    record { fits = omega (arith, few) }

pub write_if-slice_bounds-behind_jump-count : goal.write_if-slice_bounds-behind_jump-count
write_if-slice_bounds-behind_jump-count t c =
    let q = c.requires.writable in
    let byte = c.requires.first_byte in
    guards.no_start (choice _ _ _ _ byte q) (second _ _ _ _ byte q) c.condition_size-test.ensures.counts
    c.write_command-yes.ensures.writes

pub write_if-slice_bounds-behind_jump-start : goal.write_if-slice_bounds-behind_jump-start
write_if-slice_bounds-behind_jump-start t c =
    let q = c.requires.writable in
    let byte = c.requires.first_byte in
    guards.no_start (choice _ _ _ _ byte q) (second _ _ _ _ byte q) c.condition_size-test.ensures.counts
    c.write_command-yes.ensures.writes

pub write_if-write_command-no-requires : goal.write_if-write_command-no-requires
write_if-write_command-no-requires t c =
    let q = c.requires.writable in
    let byte = c.requires.first_byte in
    let w = c.write_command-yes.ensures in (
      text_says.down (text_says.command_opened _ _ _ q.is) c.decreases,
      (
        guards.no_writable (choice _ _ _ _ byte q) (second _ _ _ _ byte q) c.condition_size-test.ensures.counts
            w.writes,
        w.condition_sizes_after,
      ),
    )

-- how many records there are with the jump behind the first branch and with the second branch
pub write_if-overflow_cast-no : goal.write_if-overflow_cast-no
write_if-overflow_cast-no t c =
    let q = c.requires.writable in
    let byte = c.requires.first_byte in
    let few = guards.choice_few (choice _ _ _ _ byte q) (second _ _ _ _ byte q) c.condition_size-test.ensures.counts
    c.write_command-yes.ensures.writes c.write_command-no.ensures.writes in
    record { sfits = omega (arith, few) }

pub write_if-put_record-requires : goal.write_if-put_record-requires
write_if-put_record-requires t c =
    let q = c.requires.writable in
    let byte = c.requires.first_byte in
    guards.gap_room (choice _ _ _ _ byte q) (second _ _ _ _ byte q) c.condition_size-test.ensures.counts
    c.write_command-yes.ensures.writes c.write_command-no.ensures.writes

pub write_if-write_condition-requires-clause-writable :
    goal.write_if-write_condition-requires-clause-writable
write_if-write_condition-requires-clause-writable t c =
    let q = c.requires.writable in
    let byte = c.requires.first_byte in
    let g = choice _ _ _ _ byte q in
    let read = second _ _ _ _ byte q in
    let m = c.condition_size-test.ensures.counts in
    let w = c.write_command-yes.ensures.writes in
    let v = c.write_command-no.ensures.writes in
    let small : c.write_command-no.result.records < 2147483648 = omega (arith, guards.choice_few g read m w v) in
    let branches = guards.with_jump g read m w v c.put_record.ensures (to_z_pos w32 small) in
    fronts.test_writable (guards.front_told g m w) m branches

pub write_if-overflow_add-result-2 : goal.write_if-overflow_add-result-2
write_if-overflow_add-result-2 t c =
    let q = c.requires.writable in
    let byte = c.requires.first_byte in
    let few = guards.choice_few (choice _ _ _ _ byte q) (second _ _ _ _ byte q) c.condition_size-test.ensures.counts
    c.write_command-yes.ensures.writes c.write_command-no.ensures.writes in
    record { fits = omega (arith, few) }

pub write_if-returns-clause-writes : goal.write_if-returns-clause-writes
write_if-returns-clause-writes t c =
    let q = c.requires.writable in
    let byte = c.requires.first_byte in
    let g = choice _ _ _ _ byte q in
    let read = second _ _ _ _ byte q in
    let m = c.condition_size-test.ensures.counts in
    let w = c.write_command-yes.ensures.writes in
    let v = c.write_command-no.ensures.writes in
    let small : c.write_command-no.result.records < 2147483648 = omega (arith, guards.choice_few g read m w v) in
    let branches = guards.with_jump g read m w v c.put_record.ensures (to_z_pos w32 small) in
    let all = fronts.whole (guards.front_told g m w) m branches c.write_condition.ensures.writes in
    rows.wrote_all q (rows.wrote (guards.no_ends g read m w v) (guards.choice_all g read m w v) all)
