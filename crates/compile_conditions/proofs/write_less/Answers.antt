-- A comparison's records: its two sides stand in a row, with the jump under the flag behind them.
use Rattle.std.proofs.Common.{◌≡◌, ◌∙◌, refl, ap, ℕ, ◌+◌, ◌-◌, List, [], ◌∷◌, Bool, true, false, get_or, pos}
use Rattle.std.proofs.Common.{if◌then◌else◌, arith}
use mir.Syntax.{w32}
use mir.Facts.{to_z_pos}
use Rattle.text.specs.Syntax.{Less}
use Rattle.text.specs.Reading.{expression, condition}
use Rattle.text.proofs.Opened as text_says
use Rattle.record.specs.Records.{Record, JMPLESS, JMPGE}
use Rattle.record.specs.Bytes.{assembly_kind, first_byte, operand}
use Rattle.record.specs.declared.Variable.{Variable}
use Rattle.compile.specs.Compilation.{acomp, bcomp}
use Rattle.record.proofs.Filling.{one}
use Rattle.compile_conditions.specs.Parts.{jumping, Writable}
use Rattle.compile_conditions.proofs.Rows as rows
use Rattle.compile_conditions.proofs.Rows.{Row}
use Rattle.compile_conditions.proofs.write_less.Goals as goal

-- The jump under a flag,
abbrev jump : Bool → ℕ → Record Variable
jump flag distance = if flag then JMPLESS (pos distance) else JMPGE (pos distance)

-- its byte and its operand.
jump_byte : (flag : Bool) (distance : ℕ) → (if flag then 0x45 else 0x46) ≡ first_byte assembly_kind (jump flag distance)
unfolding first_byte
jump_byte true distance = refl
jump_byte false distance = refl

jump_operand : (flag : Bool) (distance : ℕ) → pos distance ≡ operand assembly_kind (jump flag distance)
unfolding operand
jump_operand true distance = refl
jump_operand false distance = refl

sides : (text : List ℕ) (at nest : ℕ) (flag : Bool) (distance : ℕ) (out : List ℕ) → get_or text at 0 ≡ 0x23
    → (q : Writable (jumping flag distance) distance (condition text nest at) out)
    → Row (expression text (nest - 1)) (expression text (nest - 1)) Less q.part acomp acomp (jump flag distance ∷ [])
    (jumping flag distance q.part) (at + 1) q.next out
unfolding bcomp
sides text at nest flag distance out byte q =
    let p = text_says.less_at text nest at q.is byte in
    record { parts = p; is = ap (jumping flag distance) p.is; room = q.room; few = omega (arith, q.few) }

pub overflow_sub-inner : goal.overflow_sub-inner
overflow_sub-inner c = (text_says.condition_opened _ _ _ c.requires.writable.is).nested

pub write_side-first-requires : goal.write_side-first-requires
write_side-first-requires c = rows.first_writable (sides _ _ _ _ _ _ c.requires.first_byte c.requires.writable)

pub overflow_mul-rest : goal.overflow_mul-rest
overflow_mul-rest c =
    let row = sides _ _ _ _ _ _ c.requires.first_byte c.requires.writable in
    record { fits = omega (arith, rows.first_few row c.write_side-first.ensures) }

pub slice_bounds-rest-count : goal.slice_bounds-rest-count
slice_bounds-rest-count c =
    rows.second_start (sides _ _ _ _ _ _ c.requires.first_byte c.requires.writable) c.write_side-first.ensures

pub slice_bounds-rest-start : goal.slice_bounds-rest-start
slice_bounds-rest-start c =
    rows.second_start (sides _ _ _ _ _ _ c.requires.first_byte c.requires.writable) c.write_side-first.ensures

pub write_side-second-requires : goal.write_side-second-requires
write_side-second-requires c =
    rows.second_writable (sides _ _ _ _ _ _ c.requires.first_byte c.requires.writable) c.write_side-first.ensures

pub overflow_add-sides : goal.overflow_add-sides
overflow_add-sides c =
    let row = sides _ _ _ _ _ _ c.requires.first_byte c.requires.writable in
    let size = rows.counted row c.write_side-first.ensures c.write_side-second.ensures in
    record { fits = omega (arith, size.few) }

pub put_record-requires : goal.put_record-requires
put_record-requires c =
    let row = sides _ _ _ _ _ _ c.requires.first_byte c.requires.writable in
    rows.last_room row c.write_side-first.ensures c.write_side-second.ensures

pub returns : goal.returns
returns c =
    let q = c.requires.writable in
    let row = sides _ _ _ _ _ _ c.requires.first_byte q in
    let w = c.write_side-first.ensures in
    let v = c.write_side-second.ensures in
    let size = rows.counted row w v in
    let flag = c.args.flag in
    let distance = c.args.distance in
    let number = to_z_pos w32 {n = distance} (omega (arith, q.few)) ∙ jump_operand flag distance in
    let all = rows.with_last row w v
    (one (jump flag distance) (rows.last_room row w v) c.put_record.ensures
    (c.compare.ensures ∙ jump_byte flag distance) number) in
    rows.wrote_all q (rows.wrote size.ends size.all all)
