-- LOADI: the number pushed below the mark, which stays; full; or the number pushed at the mark, which rises with it.
use native.Mathlib.Omega.{arith}
use mir.Facts.{to_z-of_z}
use Rattle.machine_step.proofs.Doing.{place, loadi_full, loadi_pushed}
use Rattle.machine_step.proofs.Machine.loadi.Goals as goal

pub returns-then-size-self : goal.returns-then-size-self
returns-then-size-self g c store =
    let l = c.args.limits in
    let here = place (g.L.Layout.lent l.layout) l.last c.args.self c.requires.held store c.args.stack.now in
    loadi_pushed here c.moves.ensures (omega (arith, c.if-size-self.true)) (c.poke.ensures store)
    (to_z-of_z c.ranges.z) (omega (arith, c.if-size-self.true, c.requires.marked))

pub returns-then-depth-size : goal.returns-then-depth-size
returns-then-depth-size g c store =
    let l = c.args.limits in
    let here = place (g.L.Layout.lent l.layout) l.last c.args.self c.requires.held store c.args.stack.now in
    loadi_full here c.args.z c.stops.ensures (omega (arith, c.depth.ensures, c.if-depth-size.true))

pub returns : goal.returns
returns g c store =
    let l = c.args.limits in
    let here = place (g.L.Layout.lent l.layout) l.last c.args.self c.requires.held store c.args.stack.now in
    loadi_pushed here c.moves-2.ensures (omega (arith, c.if-size-self.false)) (c.poke-2.ensures store)
    (to_z-of_z c.ranges.z) (omega (arith, c.depth.ensures, c.if-depth-size.false))
