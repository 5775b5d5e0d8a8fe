-- JMPLESS and JMPGE: short; taken where the comparison is the flag, else on to the next record. Both pop two values.
use mir.Syntax.{w32}
use mir.Facts.{to_z-of_z}
use Rattle.word.proofs.Laws.{read_back}
use Rattle.machine_step.proofs.Doing.{place, second, top, compared, same_flag, other_flag}
use Rattle.machine_step.proofs.Doing.{compare_stops, compare_landed, compare_passes}
use Rattle.machine_step.proofs.Machine.compare.Goals as goal

pub returns-then-size-lt2 : goal.returns-then-size-lt2
returns-then-size-lt2 g c store =
    let l = c.args.limits in
    let here = place (g.L.Layout.lent l.layout) l.last c.args.self c.requires.held store c.args.stack.now in
    compare_stops here c.args.flag c.args.operand c.stops.ensures c.if-size-lt2.true

pub returns-then-less-flag : goal.returns-then-less-flag
returns-then-less-flag g c store =
    let l = c.args.limits in
    let here = place (g.L.Layout.lent l.layout) l.last c.args.self c.requires.held store c.args.stack.now in
    compare_landed here c.args.flag c.jumps.ensures (to_z-of_z c.ranges.operand) c.if-size-lt2.false
    (compared here c.less.ensures (read_back w32 {v = second here} c.peek-second.type_inv (c.peek-second.ensures store))
    (read_back w32 {v = top here} c.peek-top.type_inv (c.peek-top.ensures store)) (same_flag _ _ c.if-less-flag.true))

pub returns : goal.returns
returns g c store =
    let l = c.args.limits in
    let here = place (g.L.Layout.lent l.layout) l.last c.args.self c.requires.held store c.args.stack.now in
    compare_passes here c.args.flag c.args.operand c.moves.ensures c.if-size-lt2.false
    (compared here c.less.ensures (read_back w32 {v = second here} c.peek-second.type_inv (c.peek-second.ensures store))
    (read_back w32 {v = top here} c.peek-top.type_inv (c.peek-top.ensures store)) (other_flag _ _ c.if-less-flag.false))
