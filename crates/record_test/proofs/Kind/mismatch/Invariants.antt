use Rattle.std.proofs.Common.{◌≡◌, ℕ, ◌<◌, true}
use Rattle.record.specs.Bytes.{record_at}
use Rattle.record_test.specs.Code.{kind_of, is_some}
use Rattle.record_test.proofs.Kind.mismatch.Given as goal

-- Each index passed has a record.
abbrev pub invariant-loop-i : goal.invariant-loop-i
invariant-loop-i l = (j : ℕ) → j < l.i → is_some (record_at (kind_of l.self) l.code j) ≡ true
