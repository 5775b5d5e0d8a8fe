-- `compile` is the call's definition: its tests, and where they pass the text's assembly, which is then translated.
use Rattle.std.proofs.Common.{refl, ap}
use Rattle.std.proofs.lemmas.Result.{err_from_is_err_and}
use Rattle.text.specs.Encoding.{Bytes}
use Rattle.compile.specs.Calls.{compile}
use Rattle.compile_assembly.proofs.Calls.{declines, given, settles}
use Rattle.compile_machine.proofs.Laws.{passed, assembles, stands, done}
use Rattle.compile_machine.proofs.compile.Goals as goal

pub returns-in_err-sizes : goal.returns-in_err-sizes
unfolding compile
returns-in_err-sizes c =
    let e = err_from_is_err_and c.from_residual.result c.from_residual.ensures.1 in
    rw (e.1, e.2)
    (declines _ c.test.ensures _ _ c.in_err-sizes.was)

pub write-requires : goal.write-requires
write-requires c =
    let g = given _ c.test.ensures c.in_ok-sizes.was in
    (g.command, assembles (passed _ _ _ g.passed))

pub translate-requires-clause-table_len : goal.translate-requires-clause-table_len
translate-requires-clause-table_len c = (passed _ _ _ (given _ c.test.ensures c.in_ok-sizes.was).passed).long

pub translate-requires-clause-holds : goal.translate-requires-clause-holds
translate-requires-clause-holds c =
    let bytes : Bytes c.args.text.now = λ i. (c.type_inv.text i).fits in
    let g = given _ c.test.ensures c.in_ok-sizes.was in
    let p = passed _ _ _ g.passed in
    (_, (_, stands p bytes (c.write.ensures _ (assembles p)) (ap (λ z. z.records) g.tells)))

pub returns : goal.returns
unfolding compile
returns c =
    let bytes : Bytes c.args.text.now = λ i. (c.type_inv.text i).fits in
    let g = given _ c.test.ensures c.in_ok-sizes.was in
    let p = passed _ _ _ g.passed in
    let there = stands p bytes (c.write.ensures _ (assembles p)) (ap (λ z. z.records) g.tells) in
    settles _ c.test.ensures _ _ c.in_ok-sizes.was g (done p bytes (c.translate.ensures _ _ there))
