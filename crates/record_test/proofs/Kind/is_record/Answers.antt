-- A byte that stands for nothing is no record.
use Rattle.std.proofs.Common.{ap}
use Rattle.record.specs.Bytes.{record_of}
use Rattle.record_test.specs.Code.{kind_of, is_some}
use Rattle.record_test.proofs.Kind.is_record.Goals as goal

pub returns-in-None : goal.returns-in-None
unfolding record_of
returns-in-None c = let a = c.args in ap (λ o. is_some (record_of (kind_of a.self) o a.operand)) c.in-None.ensures
