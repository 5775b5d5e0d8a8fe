-- Calls in a row (document 01, "Executors": "Each gets what those before it returned or left"). The state is what the
-- calls are lent; a call that declines ends the row there.
use Rattle.base.specs.Acts.{Outcome, ok, ended, Act}
use Rattle.base.specs.Answers.{Answer, gives, refused, Refusal, refusal}

abbrev pub Row : Type 0 → Type 0 → Type 0
Row Lent A = Act Lent (Refusal × Lent) A

-- One call of a row: what it answers, and what is lent as it leaves it
unfoldable pub call : {Lent A : Type 0} → Answer A → Lent → Outcome Lent (Refusal × Lent) A
call (gives a) l = ok a l
call (refused number place) l = ended (refusal number place, l)

-- What a row answers and leaves
unfoldable pub answered : {Lent A : Type 0} → Outcome Lent (Refusal × Lent) A → Answer A × Lent
answered (ok a l) = (gives a, l)
answered (ended (refusal number place, l)) = (refused number place, l)
