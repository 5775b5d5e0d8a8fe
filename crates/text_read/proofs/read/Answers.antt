-- `read` meets its contract: it answers by what its command's answer says.
use Rattle.std.proofs.Common.{refl}
use Rattle.text.proofs.Ranges.{too_long}
use Rattle.text_read.proofs.Whole.{call_refused, call_left_over, call_accepted}
use Rattle.text_read.proofs.read.Goals as goal

pub returns-then-text-gt-LONGEST : goal.returns-then-text-gt-LONGEST
returns-then-text-gt-LONGEST c = rw c.at.ensures (too_long _ c.if-text-gt-LONGEST.true)

pub returns-in-Refused : goal.returns-in-Refused
returns-in-Refused c =
    rw c.at-in-Refused.ensures
    (call_refused _ c.if-text-gt-LONGEST.false _ refl _ _ c.command.ensures c.in-Refused.is)

pub returns-in-Read : goal.returns-in-Read
returns-in-Read c =
    rw c.at-in-Read.ensures
    (call_left_over _ c.if-text-gt-LONGEST.false _ refl _ _ c.command.ensures c.in-Read.is c.if-next-text.true)

pub returns-in-Read-2 : goal.returns-in-Read-2
returns-in-Read-2 c =
    rw (c.from.ensures, c.from-in-Read-2.ensures, c.count_named.ensures)
    (call_accepted _ c.if-text-gt-LONGEST.false _ refl _ c.command.ensures c.in-Read.is c.if-next-text.false)
