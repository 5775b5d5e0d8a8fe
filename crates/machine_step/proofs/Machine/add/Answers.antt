-- ADD: short, or the sum in the second value's place.
use mir.Syntax.{w32}
use Rattle.word.proofs.Laws.{read_back}
use Rattle.machine_step.proofs.Doing.{place, second, top, summed, add_stops, add_pushed}
use Rattle.machine_step.proofs.Machine.add.Goals as goal

pub returns-then-size-lt2 : goal.returns-then-size-lt2
returns-then-size-lt2 g c store =
    let l = c.args.limits in
    let here = place (g.L.Layout.lent l.layout) l.last c.args.self c.requires.held store c.args.stack.now in
    add_stops here c.stops.ensures c.if-size-lt2.true

pub returns : goal.returns
returns g c store =
    let l = c.args.limits in
    let here = place (g.L.Layout.lent l.layout) l.last c.args.self c.requires.held store c.args.stack.now in
    add_pushed here c.moves.ensures (c.poke.ensures store) c.if-size-lt2.false c.requires.marked
    (summed here (read_back w32 c.add.type_inv c.add.ensures)
    (read_back w32 {v = second here} c.peek-second.type_inv (c.peek-second.ensures store))
    (read_back w32 {v = top here} c.peek-top.type_inv (c.peek-top.ensures store)))
