-- By the room for the value: a position of the cache, and 16 bits.
use Rattle.std.proofs.Common.{sym, arith}
use Rattle.text_ends.proofs.Caching.{noted_in, noted_large, noted_out}
use Rattle.text_ends.proofs.remember.Goals as goal
use Rattle.text_ends.proofs.remember.Goals.{else-at-cache-via-else-at-cache, else-at-cache-via-then-at-cache+in-Err-1}

pub returns-in-Ok : goal.returns-in-Ok
returns-in-Ok c = rw c.in-Ok.ensures.1 (sym (noted_in _ _ _ c.in-Ok.ensures.0))

pub returns-else-at-cache : goal.returns-else-at-cache
returns-else-at-cache c =
    elim c.else-at-cache.branch [
      | else-at-cache-via-else-at-cache w ↦ sym (noted_out _ _ _ w.if-at-cache.false)
      | else-at-cache-via-then-at-cache+in-Err-1 w ↦ sym (noted_large _ _ _ (omega arith))
    ]
