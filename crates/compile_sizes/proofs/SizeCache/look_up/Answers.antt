-- What the position's slot stands for, if it is of that position.
use Rattle.std.proofs.Common.{◌∙◌, sym}
use Rattle.compile_sizes.proofs.Caching.{looks_up, looks_up_some}
use Rattle.compile_sizes.proofs.SizeCache.look_up.Goals as goal

pub returns-in_err-known : goal.returns-in_err-known
returns-in_err-known c =
    c.from_residual.ensures ∙ looks_up c.args.self.now c.args.at (sym c.in_err-known.was ∙ c.from_slot.ensures)

pub returns : goal.returns
returns c =
    c.then_some.ensures
    ∙ looks_up_some c.args.self.now c.args.at c.from_slot.ensures c.in_ok-known.known c.in_ok-known.was
