-- An assignment's records: the expression's, with STORE behind them.
use Rattle.std.proofs.Common.{◌≡◌, refl, ap, ℕ, ◌+◌, ◌-◌, List, [], ◌∷◌, get_or, arith}
use mir.Syntax.{w32}
use mir.Facts.{to_z_pos}
use Rattle.text.specs.Reading.{expression, command}
use Rattle.text.proofs.Opened as text_says
use Rattle.record.specs.Records.{STORE, variable}
use Rattle.record.specs.Bytes.{first_byte, operand}
use Rattle.compile.specs.Compilation.{acomp, ccomp}
use Rattle.record.proofs.Filling.{one}
use Rattle.compile_conditions.specs.Parts.{Writable}
use Rattle.compile_conditions.proofs.Rows as rows
use Rattle.compile_conditions.proofs.Rows.{Led}
use Rattle.compile_assembly.proofs.write_assignment.Goals as goal

-- The expression, in front of STORE
value : (text : List ℕ) (at nest : ℕ) (out : List ℕ) → get_or text at 0 ≡ 0x01
    → (q : Writable ccomp 0 (command text nest at) out)
    → Led (expression text (nest - 1)) acomp (STORE (variable (get_or text (at + 1) 0)) ∷ []) (ccomp q.part) (at + 2)
    q.next out
unfolding ccomp
value text at nest out byte q =
    let found = (text_says.assignment_at text nest at q.is byte).2 in
    record { part = found.part; read = found.read; is = ap ccomp found.is; room = q.room; few = omega (arith, q.few) }

pub overflow_sub-nest : goal.overflow_sub-nest
overflow_sub-nest c = (text_says.command_opened _ _ _ c.requires.writable.is).nested

pub write_expression-value-requires : goal.write_expression-value-requires
write_expression-value-requires c = rows.part_writable (value _ _ _ _ c.requires.first_byte c.requires.writable)

pub bounds-text-at : goal.bounds-text-at
bounds-text-at c =
    omega (arith, (text_says.assignment_at _ _ _ c.requires.writable.is c.requires.first_byte).0)

pub put_record-requires : goal.put_record-requires
put_record-requires c =
    rows.rest_room (value _ _ _ _ c.requires.first_byte c.requires.writable) c.write_expression-value.ensures

pub returns : goal.returns
unfolding first_byte operand
returns c =
    let q = c.requires.writable in
    let led = value _ _ _ _ c.requires.first_byte q in
    let w = c.write_expression-value.ensures in
    let v = get_or c.args.text.now (c.args.at + 1) 0 in
    let number = to_z_pos w32 {n = v} (omega (arith, c.type_inv.text (c.args.at + 1))) in
    rows.wrote_all q
    (rows.wrote (rows.part_ends led w) (rows.with_rest led w)
    (rows.rest_written led w
    (one (STORE (variable v)) (rows.rest_room led w) c.put_record.ensures refl (rw c.from.ensures number))))
