-- STORE: short, or the top value kept; its slot keeps the value.
use mir.Syntax.{w32}
use Rattle.word.proofs.Laws.{read_back}
use Rattle.machine_step.proofs.Doing.{place, top, store_stops, store_saved}
use Rattle.machine_step.proofs.Machine.store.Goals as goal

pub returns-then-size-lt1 : goal.returns-then-size-lt1
returns-then-size-lt1 g c =
    let l = c.args.limits in
    let store = c.args.store.now in
    let here = place (g.L.Layout.lent l.layout) l.last c.args.self c.requires.ready.held store c.args.stack.now in
    store_stops here c.args.name c.stops.ensures c.if-size-lt1.true

pub returns : goal.returns
returns g c =
    let l = c.args.limits in
    let store = c.args.store.now in
    let here = place (g.L.Layout.lent l.layout) l.last c.args.self c.requires.ready.held store c.args.stack.now in
    store_saved here c.args.name c.moves.ensures c.save.ensures
    (read_back w32 {v = top here} c.peek-z.type_inv (c.peek-z.ensures store)) c.if-size-lt1.false
