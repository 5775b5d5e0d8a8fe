-- `invert` goes through the entries from the last down.
use Rattle.std.proofs.Common.{◌≡◌, ◌-◌, arith}
use Rattle.compile_back.proofs.Finding.{inverted_start, inverted_set, inverted_end}
use Rattle.compile_back.proofs.invert.Goals as goal

pub loop-v-init : goal.loop-v-init
loop-v-init c = inverted_start c.requires.names_zeros

pub loop-v-preserved : goal.loop-v-preserved
loop-v-preserved c =
    rw c.from-a.ensures
    (inverted_set c.loop-v.invariant c.loop-v-test.true (c.requires.entries_inside (c.loop-v.v - 1)))

pub returns : goal.returns
returns c =
    let none_left : c.loop-v.v ≡ 0 = omega (arith, c.loop-v-test.false) in
    inverted_end (rw none_left at c.loop-v.invariant)
