-- The size is put into the position's slot, if there is room for both.
use Rattle.compile_sizes.proofs.Caching.{noted_in, noted_large, noted_far}
use Rattle.compile_sizes.proofs.SizeCache.note.Goals as goal
use Rattle.compile_sizes.proofs.SizeCache.note.Goals.{else-at-lt65536-via-then-at-lt65536+else-records-lt65535}
use Rattle.compile_sizes.proofs.SizeCache.note.Goals.{else-at-lt65536-via-else-at-lt65536}

pub returns-then-records-lt65535 : goal.returns-then-records-lt65535
returns-then-records-lt65535 c =
    noted_in c.args.self.now c.args.at c.args.records c.if-at-lt65536.true c.if-records-lt65535.true

pub returns-else-at-lt65536 : goal.returns-else-at-lt65536
returns-else-at-lt65536 c =
    let cache = c.args.self.now in
    elim c.else-at-lt65536.branch [
      | else-at-lt65536-via-then-at-lt65536+else-records-lt65535 w ↦
          noted_large cache c.args.at c.args.records w.if-at-lt65536.true w.if-records-lt65535.false
      | else-at-lt65536-via-else-at-lt65536 w ↦ noted_far cache c.args.at c.args.records w.if-at-lt65536.false
    ]
