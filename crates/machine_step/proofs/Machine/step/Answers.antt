-- One step: the byte at the position tells which record is due, and that record's function does it. Where LOAD or
-- STORE is due, the test of the code gives that its name is in the slices.
use mathlib.Core.Path.{sym, ap, ◌∙◌}
use mathlib.Core.Bool.{true, false}
use native.Mathlib.Omega.{arith}
use mir.Syntax.{w32}
use lib.ListN.{length}
use Rattle.word.proofs.Laws.{read_back}
use Rattle.record.specs.Records.{LOADI}
use Rattle.record.proofs.Decoding.{Due, record_due}
use Rattle.machine_step.specs.Steps.{comparing}
use Rattle.machine_step.proofs.Doing.{Place, place, load_pushed, jmp_landed, as_due}
use Rattle.machine_step.proofs.Due.{Spot, not_below, loadi_due, load_due, add_due, store_due, jmp_due, jmpless_due}
use Rattle.machine_step.proofs.Due.{jmpge_due}
use Rattle.machine_step.proofs.Machine.step.Given.{Over}
use Rattle.machine_step.proofs.Machine.step.Goals as goal
use Rattle.machine_step.proofs.Machine.step.Goals.{After-ABOVE}

module _ (g : Over) (c : After-ABOVE g) where
  -- where the record is done
  abbrev here : Place g.L.Layout.Memory g.row.L-Name.Denot
  here =
      place (g.L.Layout.lent c.args.limits.layout) c.args.limits.last c.args.self c.requires.ready.held
      c.args.store.now c.args.stack.now

  -- where it is due: the byte read there, less ABOVE
  abbrev spot : Spot g.L.Layout.Memory g.row.L-Name.Denot
  spot = record {
    lent = g.L.Layout.lent c.args.limits.layout;
    above = g.L.Layout.ABOVE;
    laws = g.met.L.Layout.laws c.args.limits.layout;
    store = c.args.store.now;
    stack = c.args.stack.now;
    fits = c.requires.passed.fits;
    code = c.args.code.now;
    index = c.args.self.position;
    byte = c.byte_at.result;
    read = c.byte_at.ensures;
  }

  -- the record that is due, by the test
  abbrev due : Due (spot.lent.kind (length spot.stack)) spot.code c.requires.passed.records spot.index
  due =
      record_due (spot.lent.kind (length spot.stack)) spot.code c.requires.passed.records c.args.limits.last spot.index
      c.requires.passed.given c.requires.ready.placed

pub overflow_sub-byte_at : goal.overflow_sub-byte_at
overflow_sub-byte_at g c = let d = due g c in omega (arith, c.ABOVE.ensures, not_below (spot g c) d.due d.there)

pub load-z-requires : goal.load-z-requires
load-z-requires g c =
    let b = (goal.at.load-z-requires g c).After-ABOVE in
    let d = due g b in
    (load_due (spot g b) d.due d.there (rw c.name_at.ensures at c.named-name.ensures (length c.args.stack.now))
    (rw c.ABOVE.ensures at c.in-65.is)).0

pub store-requires-clause-held : goal.store-requires-clause-held
store-requires-clause-held g c =
    let b = (goal.at.store-requires-clause-held g c).After-ABOVE in
    let d = due g b in
    (store_due (spot g b) d.due d.there
    (rw c.name_at-in-67.ensures at c.named-name-in-67.ensures (length c.args.stack.now))
    (rw c.ABOVE.ensures at c.in-67.is)).0

pub returns-in-64 : goal.returns-in-64
returns-in-64 g c r there =
    let b = (goal.at.returns-in-64 g c).After-ABOVE in
    as_due (here g b)
    (ap LOADI (read_back w32 c.operand_at.type_inv c.operand_at.ensures)
    ∙ sym (loadi_due (spot g b) r there (rw c.ABOVE.ensures at c.in-64.is)))
    (c.loadi.ensures c.args.store.now)

pub returns-in-65 : goal.returns-in-65
returns-in-65 g c r there =
    let b = (goal.at.returns-in-65 g c).After-ABOVE in
    as_due (here g b)
    (sym
    (load_due (spot g b) r there (rw c.name_at.ensures at c.named-name.ensures (length c.args.stack.now))
    (rw c.ABOVE.ensures at c.in-65.is)).1)
    (load_pushed (here g b) c.named-name.result (read_back w32 c.load-z.type_inv c.load-z.ensures)
    (c.loadi-in-65.ensures c.args.store.now))

pub returns-in-66 : goal.returns-in-66
returns-in-66 g c r there =
    let b = (goal.at.returns-in-66 g c).After-ABOVE in
    as_due (here g b) (sym (add_due (spot g b) r there (rw c.ABOVE.ensures at c.in-66.is)))
    (c.add.ensures c.args.store.now)

pub returns-in-67 : goal.returns-in-67
returns-in-67 g c r there =
    let b = (goal.at.returns-in-67 g c).After-ABOVE in
    as_due (here g b)
    (sym
    (store_due (spot g b) r there
    (rw c.name_at-in-67.ensures at c.named-name-in-67.ensures (length c.args.stack.now))
    (rw c.ABOVE.ensures at c.in-67.is)).1)
    c.store.ensures

pub returns-in-68 : goal.returns-in-68
returns-in-68 g c r there =
    let b = (goal.at.returns-in-68 g c).After-ABOVE in
    as_due (here g b) (sym (jmp_due (spot g b) r there (rw c.ABOVE.ensures at c.in-68.is)))
    (jmp_landed (here g b) c.jumps.ensures
    (read_back w32 c.operand_at-in-68.type_inv c.operand_at-in-68.ensures))

pub returns-in-69 : goal.returns-in-69
returns-in-69 g c r there =
    let b = (goal.at.returns-in-69 g c).After-ABOVE in
    as_due (here g b)
    (ap (comparing true) (read_back w32 c.operand_at-in-69.type_inv c.operand_at-in-69.ensures)
    ∙ sym (jmpless_due (spot g b) r there (rw c.ABOVE.ensures at c.in-69.is)))
    (c.compare.ensures c.args.store.now)

pub returns-in_default : goal.returns-in_default
returns-in_default g c r there =
    let b = (goal.at.returns-in_default g c).After-ABOVE in
    as_due (here g b)
    (ap (comparing false) (read_back w32 c.operand_at-in_default.type_inv c.operand_at-in_default.ensures)
    ∙ sym
    (jmpge_due (spot g b) r there (λ e. omega (arith, c.ABOVE.ensures)) (λ e. omega (arith, c.ABOVE.ensures))
    (λ e. omega (arith, c.ABOVE.ensures)) (λ e. omega (arith, c.ABOVE.ensures)) (λ e. omega (arith, c.ABOVE.ensures))
    (λ e. omega (arith, c.ABOVE.ensures))))
    (c.compare-in_default.ensures c.args.store.now)
