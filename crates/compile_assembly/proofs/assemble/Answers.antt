-- `assemble` is the call's definition: its tests, and where they pass the text's records.
use Rattle.std.proofs.lemmas.Result.{err_from_is_err_and}
use Rattle.compile.specs.Calls.{assemble}
use Rattle.compile_assembly.proofs.Calls.{declines, given, settles}
use Rattle.compile_assembly.proofs.assemble.Goals as goal

pub returns-in_err-sizes : goal.returns-in_err-sizes
unfolding assemble
returns-in_err-sizes c =
    let e = err_from_is_err_and c.from_residual.result c.from_residual.ensures.1 in
    rw (e.1, e.2)
    (declines _ c.test.ensures _ _ c.in_err-sizes.was)

pub write-requires : goal.write-requires
write-requires c = let g = given _ c.test.ensures c.in_ok-sizes.was in (g.command, g.passed)

pub returns : goal.returns
unfolding assemble
returns c =
    let g = given _ c.test.ensures c.in_ok-sizes.was in
    settles _ c.test.ensures _ _ c.in_ok-sizes.was g (c.write.ensures _ g.passed)
