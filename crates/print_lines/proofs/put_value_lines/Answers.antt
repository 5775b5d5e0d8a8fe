-- The lines are printed one by one; each takes at most 15 bytes, so the next has room.
use Rattle.std.proofs.Common.{◌≡◌, ap, ◌∙◌, get_or, arith, rules}
use Rattle.print_ascii.proofs.Puts.{prints_is, prints_none}
use Rattle.print_ascii.proofs.Rows.{rows, rows_next}
use Rattle.print.specs.Printing.{value_line}
use Rattle.print_lines.proofs.Values.{value_at, value_rows}
use Rattle.print_lines.proofs.Lengths.{value_lines_length}
use Rattle.print_lines.proofs.put_value_lines.Goals as goal

pub loop-v-init : goal.loop-v-init
unfolding rows
loop-v-init c = prints_none (omega arith)

-- The next line has room.
pub put_value_line-requires : goal.put_value_line-requires
put_value_line-requires c =
    let used = value_lines_length c.args.table.now c.args.store.now 0 c.loop-v.v (omega arith) in
    (omega (arith, rw value_rows at used), omega arith)

pub loop-v-preserved : goal.loop-v-preserved
loop-v-preserved c =
    let v = c.loop-v.v in
    rows_next (value_at c.args.table.now c.args.store.now) v c.loop-v.invariant
    (prints_is c.put_value_line.ensures (ap (value_line v (get_or c.args.table.now v 0)) (search rules)))

pub returns : goal.returns
returns c =
    let t = c.args.table.now in
    let s = c.args.store.now in
    let all : 64 ≡ c.loop-v.v = omega arith in
    prints_is c.loop-v.invariant (value_rows t s 0 64 ∙ ap (rows (value_at t s) 0) all)
