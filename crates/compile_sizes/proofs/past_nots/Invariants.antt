-- What `past_nots` ensures, of the Nots passed so far. The nesting left falls.
use Rattle.text.specs.Reading.{condition}
use Rattle.compile_sizes.specs.Nots.{Behind}
use Rattle.compile_sizes.proofs.past_nots.Given as goal

abbrev pub invariant-loop-at : goal.invariant-loop-at
invariant-loop-at l =
    Behind l.text l.deepest l.under (condition l.text l.deepest l.start)
    (record { at = l.at; nest = l.nest; flag = l.flag })

abbrev pub decreases-loop-at : goal.decreases-loop-at
decreases-loop-at l = l.nest
