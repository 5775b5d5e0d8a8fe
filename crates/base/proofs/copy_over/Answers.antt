-- Each turn takes one item over, and leaves what is behind it as it was.
use Rattle.std.proofs.Common.{◌≡◌, ◌++◌, ◌∷◌, [], ◌+◌, ◌<◌, ◌∙◌, refl, sym, ap, length, take, drop, arith}
use Rattle.std.proofs.lemmas.List.{take_more, take_more_set, take_all, take-append-drop, drop-set-lt, drop-drop}
use mathlib.Core.List.{append-nil}
use lib.ListN.{drop_of_length-le}
use Rattle.base.proofs.copy_over.Goals as goal

pub loop-i-init : goal.loop-i-init
loop-i-init g c = (refl, refl)

pub loop-i-preserved : goal.loop-i-preserved
loop-i-preserved g c =
    let items = c.args.items.now in
    let out = c.loop-i.out in
    let i = c.loop-i.i in
    let x = c.index-items-i.result in
    let inside : i < length out = omega (arith, c.loop-i.auto.out, c.requires) in
    let taken : take (i + 1) items ≡ take i items ++ x ∷ [] =
    take_more items i x c.loop-i-test.true ∙ ap (λ y. take i items ++ y ∷ []) (sym c.index-items-i.is) in (
      take_more_set out i x inside ∙ ap (λ l. l ++ x ∷ []) c.loop-i.invariant.0 ∙ sym taken,
      drop-set-lt (i + 1) out i x (omega arith)
          ∙ sym (drop-drop 1 i out) ∙ ap (drop 1) c.loop-i.invariant.1 ∙ drop-drop 1 i c.args.out.now,
    )

pub returns-clause-over : goal.returns-clause-over
returns-clause-over g c =
    let items = c.args.items.now in
    let out = c.loop-i.out in
    let i : c.loop-i.i ≡ length items = omega (arith, c.loop-i-test.false, c.loop-i.auto.i-end) in
    let written : take (length items) out ≡ items =
    (rw i at c.loop-i.invariant.0) ∙ take_all (length items) items (omega arith) in
    sym (take-append-drop (length items) out)
    ∙ ap (λ l. l ++ drop (length items) out) written
    ∙ ap (λ l. items ++ l) (rw i at c.loop-i.invariant.1)

pub returns-clause-whole : goal.returns-clause-whole
returns-clause-whole g c = λ same.
    let items = c.args.items.now in
    returns-clause-over g c
    ∙ ap (λ l. items ++ l) (drop_of_length-le c.args.out.now {i = length items} (omega (arith, same)))
    ∙ append-nil items
