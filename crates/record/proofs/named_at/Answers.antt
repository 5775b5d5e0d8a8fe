-- `named_at` gives the name of LOAD and STORE, told by their operation.
use Rattle.std.proofs.Common.{Some, true, false, ap, ◌∙◌}
use Rattle.record.specs.Code.{operation_of, has_name}
use Rattle.record.proofs.Naming.{named_by, has_one, has_none}
use Rattle.record.proofs.named_at.Goals as goal

pub returns-in_err-of : goal.returns-in_err-of
returns-in_err-of c =
    c.from_residual.ensures
    ∙ named_by _ _ _ c.of.result c.byte_at.ensures c.of.ensures false
    (ap (λ o. has_name (operation_of o)) c.in_err-of.was)

pub returns-in-Load : goal.returns-in-Load
returns-in-Load c =
    ap Some c.name_at.ensures
    ∙ named_by _ _ _ c.of.result c.byte_at.ensures c.of.ensures true
    (ap (λ o. has_name (operation_of o)) c.in_ok-of.was ∙ has_one _ c.in-Load.is)

pub returns-in_default : goal.returns-in_default
returns-in_default c =
    named_by _ _ _ c.of.result c.byte_at.ensures c.of.ensures false
    (ap (λ o. has_name (operation_of o)) c.in_ok-of.was ∙ has_none _ c.in_default.not-Load c.in_default.not-Store)
