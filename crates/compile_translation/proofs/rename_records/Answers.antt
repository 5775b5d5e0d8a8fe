-- `rename_records` renames record after record: there are bytes from record i on, and the turn renames the record
-- there.
use Rattle.std.proofs.Common.{◌<◌, length, arith}
use Rattle.compile_translation.proofs.Rows.{rows_start, rows_front, rows_next, rows_end}
use Rattle.compile_translation.proofs.Standing.{stand_long}
use Rattle.compile_translation.proofs.rename_records.Goals as goal

pub loop-i-init : goal.loop-i-init
loop-i-init c P lent stands = rows_start _ _ _ _ _ stands

pub overflow_mul-i : goal.overflow_mul-i
overflow_mul-i c = omega (arith, stand_long _ c.requires.holds.1.1, c.loop-i-test.true)

pub slice_bounds-rename_front-count : goal.slice_bounds-rename_front-count
slice_bounds-rename_front-count c =
    omega (arith, stand_long _ c.requires.holds.1.1, c.loop-i.auto.code, c.loop-i-test.true)

pub slice_bounds-rename_front-start : goal.slice_bounds-rename_front-start
slice_bounds-rename_front-start c =
    omega (arith, stand_long _ c.requires.holds.1.1, c.loop-i.auto.code, c.loop-i-test.true)

pub rename_front-requires : goal.rename_front-requires
rename_front-requires c =
    let stands = c.requires.holds.1.1 in
    let h : c.loop-i.i < length c.requires.holds.0 = omega (arith, stands.all, c.loop-i-test.true) in
    rows_front _ _ _ _ _ (c.loop-i.invariant _ _ stands) h stands c.requires.renames (λ x. (c.type_inv.names x).fits)

pub loop-i-preserved : goal.loop-i-preserved
loop-i-preserved c P lent stands =
    let h : c.loop-i.i < length P = omega (arith, stands.all, c.loop-i-test.true) in
    rows_next _ _ _ _ _ (c.loop-i.invariant P lent stands) h stands c.requires.renames (λ x. (c.type_inv.names x).fits)
    c.rename_front.ensures

pub returns : goal.returns
returns c P lent stands =
    rows_end _ _ _ _ _ (c.loop-i.invariant P lent stands) (omega (arith, stands.all, c.loop-i-test.false))
