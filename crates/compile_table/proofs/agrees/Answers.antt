-- `agrees` sees the records from the last backwards: the one at hand names nothing, an address that was seen before,
-- the next one, or one out of order.
use Rattle.std.proofs.Common.{arith}
use Rattle.compile_table.proofs.Sights.{seen_start, seen_all, seen_again, seen_next, seen_most, seen_other, seen_none}
use Rattle.compile_table.proofs.agrees.Goals as goal

pub loop-i-init : goal.loop-i-init
loop-i-init c = (omega arith, λ x. seen_start x)

pub returns : goal.returns
returns c x = seen_all x (c.loop-i.invariant.1 x) (omega arith)

pub returns-then-address-seen : goal.returns-then-address-seen
returns-then-address-seen c x =
    seen_other x (c.loop-i.invariant.1 x) c.loop-i-test.true c.loop-i.auto.i c.in-Some.ensures c.if-seen-address.true
    c.if-address-seen.true

pub loop-i-preserved-else-address-seen : goal.loop-i-preserved-else-address-seen
loop-i-preserved-else-address-seen c =
    let inside = c.loop-i-test.true in
    let most = seen_most c.requires (c.loop-i.invariant.1 c.requires) inside c.loop-i.auto.i c.in-Some.ensures in (
      omega (arith, most, c.if-seen-address.true),
      λ x. seen_next x (c.loop-i.invariant.1 x) inside c.loop-i.auto.i c.in-Some.ensures c.if-address-seen.false,
    )

pub loop-i-preserved-else-seen-address : goal.loop-i-preserved-else-seen-address
loop-i-preserved-else-seen-address c = (
  c.loop-i.invariant.0,
  λ x.
      seen_again x (c.loop-i.invariant.1 x) c.loop-i-test.true c.loop-i.auto.i c.in-Some.ensures
      (omega (arith, c.if-seen-address.false)),
)

pub loop-i-preserved : goal.loop-i-preserved
loop-i-preserved c = (
  c.loop-i.invariant.0,
  λ x. seen_none x (c.loop-i.invariant.1 x) c.loop-i-test.true c.loop-i.auto.i c.in_default.ensures,
)
