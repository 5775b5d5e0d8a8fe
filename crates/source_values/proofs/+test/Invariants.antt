use Rattle.source_values.proofs.+test.Given as goal

abbrev pub decreases-test : goal.decreases-test
decreases-test l = l.nest
