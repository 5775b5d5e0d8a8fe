-- `search` looks at the next position that was found (Ordering); the positions left fall.
use Rattle.std.proofs.Common.{◌-◌, length}
use Rattle.inspection_search.proofs.Ordering.{Loops}
use Rattle.inspection_search.proofs.search.Given as goal

abbrev pub invariant-loop-i : goal.invariant-loop-i
invariant-loop-i l =
    let p = l.positions in
    Loops l.code l.last l.depth (length l.initial.positions.labels.now) p.labels.now p.order.now p.found l.i

abbrev pub decreases-loop-i : goal.decreases-loop-i
decreases-loop-i l = 4097 - l.i
