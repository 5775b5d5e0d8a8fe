-- What the code's answer of a call on a text says: document 01's number and place, or the three numbers.
use Rattle.std.specs.Prelude.{Result}
use Rattle.base.specs.Answers.{Answer}
use Rattle.base.specs.Code.{answer}
use Rattle.base.specs.declared.Refusal.{Refusal}
use Rattle.text.specs.declared.Sizes.{Sizes}

abbrev pub sizes_answer : Result Sizes Refusal → Answer Sizes
sizes_answer sizes = answer (λ z. z) sizes
