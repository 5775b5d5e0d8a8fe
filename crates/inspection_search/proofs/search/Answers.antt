-- The loop: each turn looks at the next position that was found (Ordering).
use Rattle.inspection_search.proofs.Ordering.{begins, placed, goes_on, stops, all_looked}
use Rattle.inspection_search.proofs.search.Goals as goal

pub loop-i-init : goal.loop-i-init
loop-i-init c = begins c.requires

pub visit-requires : goal.visit-requires
visit-requires c = rw c.from-at.ensures (placed c.loop-i.invariant c.requires.ready c.loop-i-test.true)

pub returns : goal.returns
returns c = all_looked c.loop-i.invariant c.loop-i-test.false

pub returns-then-not-visit : goal.returns-then-not-visit
returns-then-not-visit c =
    stops c.loop-i.invariant c.visit.new.self.labels.now c.visit.new.self.order.now
    (rw c.if-not-visit.true at c.visit.ensures.visited)

pub loop-i-preserved : goal.loop-i-preserved
loop-i-preserved c =
    goes_on c.loop-i.invariant c.loop-i-test.true
    (rw (c.from-at.ensures, c.if-not-visit.false) at c.visit.ensures.visited)
