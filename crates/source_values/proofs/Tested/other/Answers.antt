use Rattle.base.specs.Acts.{then', give}
use Rattle.source_values.proofs.Tested.other.Goals as goal

pub returns-in-False : goal.returns-in-False
unfolding then' give
returns-in-False c = λ left μ m. simp c.in-False.is

pub returns-in-True : goal.returns-in-True
unfolding then' give
returns-in-True c = λ left μ m. simp c.in-True.is
