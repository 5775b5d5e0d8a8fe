-- `translate` makes the table and then renames by it: what both calls ensure goes to the laws of `Translating`.
use Rattle.compile_translation.proofs.Translating.{still_holds, translated}
use Rattle.compile_translation.proofs.translate.Goals as goal

pub rename_records-requires-clause-holds : goal.rename_records-requires-clause-holds
rename_records-requires-clause-holds c =
    let stands = c.requires.holds.1.1 in
    rw c.assembly.ensures (still_holds (c.number_variables-n.ensures _ _ stands) stands)

pub returns : goal.returns
returns c P lent stands =
    translated (c.number_variables-n.ensures P lent stands) stands
    (rw (c.assembly.ensures, c.machine.ensures) at c.rename_records.ensures)
