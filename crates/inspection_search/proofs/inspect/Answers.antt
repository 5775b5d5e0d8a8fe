-- The call: a refusal is that of its tests; where they give records, the search tells whether heights can be given.
use Rattle.std.proofs.Common.{ℕ, List, subst}
use Rattle.std.proofs.lemmas.Result.{err_from_is_err_and}
use Rattle.inspection.proofs.Calls.{refused_tests, InspectFound, inspect_found}
use Rattle.inspection.proofs.Calls.{inspected_refused, inspected_passes, inspected_fails}
use Rattle.inspection_visit.specs.Records.{Given}
use Rattle.inspection_search.specs.Search.{Ready, Searched}
use Rattle.inspection_search.proofs.inspect.Goals as goal

-- What the tests found
module _ {code : List ℕ} {depth cells last : ℕ} (f : InspectFound code depth cells last) where
  abbrev given : Given code last
  given = record { n = cells; records = f.records; given = f.code_is.given }

  ready : Ready code last depth
  ready = record { few = f.code_is.few; deep = f.deep; bytes = f.code_is.whole; passes = given }

pub passes-requires : goal.passes-requires
passes-requires c = ready (inspect_found c.args.code.now c.args.depth c.args.cells c.in_ok-last.was c.test.ensures)

pub returns-in_err-last : goal.returns-in_err-last
returns-in_err-last c =
    let e = err_from_is_err_and c.from_residual.result c.from_residual.ensures.1 in
    rw (e.1, e.2)
    (inspected_refused c.args.code.now c.args.depth c.args.cells
    (refused_tests _ _ _ c.in_err-last.was c.test.ensures))

pub returns-then-not-passes : goal.returns-then-not-passes
returns-then-not-passes c =
    let a = c.args in
    let f = inspect_found a.code.now a.depth a.cells c.in_ok-last.was c.test.ensures in
    rw c.at.ensures
    (inspected_fails _ _ _ f
    (subst (Searched a.code.now c.in_ok-last.last a.depth) c.if-not-passes.true c.passes.ensures (given f)))

pub returns : goal.returns
returns c =
    let a = c.args in
    let f = inspect_found a.code.now a.depth a.cells c.in_ok-last.was c.test.ensures in
    inspected_passes _ _ _ f
    (subst (Searched a.code.now c.in_ok-last.last a.depth) c.if-not-passes.false c.passes.ensures (given f))
