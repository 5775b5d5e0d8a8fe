-- A sum's two sides stand in a row, and ADD behind them.
use Rattle.std.proofs.Common.{◌≡◌, refl, ap, ℕ, ◌+◌, ◌-◌, ◌*◌, ◌≤◌, List, [], ◌∷◌, get_or, length, pos, arith}
use Rattle.word.specs.Numbers.{bytes_of}
use Rattle.text.specs.Syntax.{Plus}
use Rattle.text.specs.Reading.{expression}
use Rattle.text.proofs.Opened as text_says
use Rattle.record.specs.Records.{ADD}
use Rattle.record.specs.Bytes.{assembly_kind, first_byte, operand}
use Rattle.record.specs.Buffer.{into}
use Rattle.compile.specs.Compilation.{acomp}
use Rattle.record.proofs.Filling.{Filled, one}
use Rattle.compile_conditions.specs.Parts.{Writable}
use Rattle.compile_conditions.proofs.Rows as rows
use Rattle.compile_conditions.proofs.Rows.{Row}
use Rattle.compile_conditions.proofs.+write_expression_write_side.Goals as goal

-- ADD was written.
add_stands : {index : ℕ} {xs ys : List ℕ} → 5 * index + 5 ≤ length xs
    → ys ≡ into (5 * index) (0x42 ∷ bytes_of (pos 0)) xs → Filled assembly_kind index (ADD ∷ []) xs ys
unfolding first_byte operand
add_stands h e = one ADD h e refl refl

-- a sum's sides
sides : (text : List ℕ) (at nest : ℕ) (out : List ℕ) → get_or text at 0 ≡ 0x12
    → (q : Writable acomp 0 (expression text nest at) out)
    → Row (expression text (nest - 1)) (expression text (nest - 1)) Plus q.part acomp acomp (ADD ∷ []) (acomp q.part)
    (at + 1) q.next out
unfolding acomp
sides text at nest out byte q =
    let p = text_says.plus_at text nest at q.is byte in
    record { parts = p; is = ap acomp p.is; room = q.room; few = omega (arith, q.few) }

pub write_expression-bounds-text-at : goal.write_expression-bounds-text-at
write_expression-bounds-text-at t c = (text_says.expression_opened _ _ _ c.requires.is).inside

pub write_expression-overflow_sub-inner : goal.write_expression-overflow_sub-inner
write_expression-overflow_sub-inner t c = (text_says.expression_opened _ _ _ c.requires.is).nested

pub write_expression-write_side-first-requires : goal.write_expression-write_side-first-requires
write_expression-write_side-first-requires t c = (
  text_says.down (text_says.expression_opened _ _ _ c.requires.is) c.decreases,
  rows.first_writable (sides _ _ _ _ c.if-text-at-ne-PLUS.false c.requires),
)

pub write_expression-overflow_mul-rest : goal.write_expression-overflow_mul-rest
write_expression-overflow_mul-rest t c =
    let row = sides _ _ _ _ c.if-text-at-ne-PLUS.false c.requires in
    record { fits = omega (arith, rows.first_few row c.write_side-first.ensures) }

pub write_expression-slice_bounds-rest-count : goal.write_expression-slice_bounds-rest-count
write_expression-slice_bounds-rest-count t c =
    rows.second_start (sides _ _ _ _ c.if-text-at-ne-PLUS.false c.requires) c.write_side-first.ensures

pub write_expression-slice_bounds-rest-start : goal.write_expression-slice_bounds-rest-start
write_expression-slice_bounds-rest-start t c =
    rows.second_start (sides _ _ _ _ c.if-text-at-ne-PLUS.false c.requires) c.write_side-first.ensures

pub write_expression-write_side-second-requires : goal.write_expression-write_side-second-requires
write_expression-write_side-second-requires t c = (
  text_says.down (text_says.expression_opened _ _ _ c.requires.is) c.decreases,
  rows.second_writable (sides _ _ _ _ c.if-text-at-ne-PLUS.false c.requires) c.write_side-first.ensures,
)

pub write_expression-overflow_add-sides : goal.write_expression-overflow_add-sides
write_expression-overflow_add-sides t c =
    let row = sides _ _ _ _ c.if-text-at-ne-PLUS.false c.requires in
    let size = rows.counted row c.write_side-first.ensures c.write_side-second.ensures in
    record { fits = omega (arith, size.few) }

pub write_expression-put_record-requires : goal.write_expression-put_record-requires
write_expression-put_record-requires t c =
    let row = sides _ _ _ _ c.if-text-at-ne-PLUS.false c.requires in
    rows.last_room row c.write_side-first.ensures c.write_side-second.ensures

pub write_expression-returns : goal.write_expression-returns
write_expression-returns t c =
    let row = sides _ _ _ _ c.if-text-at-ne-PLUS.false c.requires in
    let w = c.write_side-first.ensures in
    let v = c.write_side-second.ensures in
    let size = rows.counted row w v in
    let all = rows.with_last row w v (add_stands (rows.last_room row w v) c.put_record.ensures) in
    rows.wrote_all c.requires (rows.wrote size.ends size.all all)

pub write_side-bounds-text-at : goal.write_side-bounds-text-at
write_side-bounds-text-at t c = (text_says.expression_opened _ _ _ c.requires.is).inside
