-- A taken jump lands where `word::jump` says: each of its two answers is a case of `landed`.
use Rattle.std.proofs.Common.{◌≡◌, sym, ap, ◌∙◌, rules}
use Rattle.word.specs.Targets.{target}
use Rattle.machine_step.specs.Code.{landed}
use Rattle.machine_step.proofs.Machine.jumps.Goals as goal

pub returns-in-Some : goal.returns-in-Some
returns-in-Some c =
    let aimed : c.jump.result ≡ target c.args.self.position c.args.operand c.args.last = search rules in
    c.moves.ensures ∙ ap (landed c.args.self c.args.size) (sym c.in-Some.is ∙ aimed)

pub returns-in-None : goal.returns-in-None
returns-in-None c =
    let aimed : c.jump.result ≡ target c.args.self.position c.args.operand c.args.last = search rules in
    c.stops.ensures ∙ ap (landed c.args.self c.args.size) (sym c.in-None.is ∙ aimed)
