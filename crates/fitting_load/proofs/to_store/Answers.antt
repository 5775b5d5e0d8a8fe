-- A named variable gets the value at its address; another keeps its own.
use Rattle.std.proofs.Common.{◌+◌, ◌<◌, List, ℤ, pos, length, sym, subst, ◌∙◌, arith, rules}
use Rattle.base.proofs.Sweep.{Swept, swept_set, swept_kept, swept_end}
use Rattle.fitting.specs.Loading.{read_back}
use Rattle.fitting.proofs.Loading.{length_back}
use Rattle.fitting_load.proofs.Cells.{keeps, takes}
use Rattle.fitting_load.proofs.to_store.Goals as goal
use Rattle.fitting_load.proofs.to_store.Goals.{in-Some, in_default}

pub loop-v-preserved : goal.loop-v-preserved
loop-v-preserved c =
    let t = c.args.table.now in
    let old = c.args.store.now in
    let m = c.args.memory.now in
    let v = c.loop-v.v in
    let h : v < length old = omega arith in
    let next : List ℤ → Type 0 = λ x. Swept (pos 0) old (read_back t c.args.depth old m) x (v + 1) in
    elim c.match-address_of.branch [
      | in-Some w ↦ let a = w.in-Some.ensures in
          subst next (sym w.store-is)
          (swept_set c.loop-v.invariant h
          (search rules ∙ takes t c.args.depth old m v h a.0 (λ none. omega (arith, a.1))))
      | in_default w ↦ subst next (sym w.store-is)
          (swept_kept c.loop-v.invariant (keeps t c.args.depth old m v h w.in_default.ensures))
    ]

pub returns : goal.returns
returns c = swept_end c.loop-v.invariant (omega arith) (length_back c.args.table.now c.args.depth _ _)
