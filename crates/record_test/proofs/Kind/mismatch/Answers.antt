-- Where the loop stops at an index, or passes all, the laws of proofs/Testing say what the test of all of them gives.
use Rattle.std.proofs.Common.{w32, arith}
use Rattle.word.proofs.Laws.{read_back}
use Rattle.record_test.specs.Code.{kind_of}
use Rattle.record_test.proofs.Testing.{stopped, passed}
use Rattle.record_test.proofs.Kind.mismatch.Goals as goal

pub returns-then-not-is_record : goal.returns-then-not-is_record
returns-then-not-is_record c =
    let a = c.args in
    let operand = read_back w32 c.operand_at.type_inv c.operand_at.ensures in
    let no = c.if-not-is_record.true in
    stopped (kind_of a.self) a.code.now a.count c.loop-i.i c.loop-i-test.true c.loop-i.invariant (cc)

pub returns : goal.returns
returns c =
    let a = c.args in
    passed (kind_of a.self) a.code.now a.count (λ j h. c.loop-i.invariant j (omega arith))
