-- The count goes up at a note that is 1, and at no other.
use Rattle.std.proofs.Common.{ℕ, ◌+◌, ◌≡◌, List, length, get_or, refl, arith, add-one}
use borrow.Author.Tests.{eq-eqb, ne_eqb}
use Rattle.text.specs.Sizes.{how_many}
use Rattle.text_read.specs.Noted.{noted}
use Rattle.text_read.proofs.count_named.Goals as goal
use Rattle.text_read.proofs.count_named.Goals.{then-note-eq1, else-note-eq1}

module _ (notes : List ℕ) (i : ℕ) where
  one_more : get_or notes i 0 ≡ 1 → how_many (noted notes) (i + 1) ≡ how_many (noted notes) i + 1
  unfolding how_many
  one_more h = rw (add-one i, eq-eqb (get_or notes i 0) 1 h) (omega arith)

  no_more : (get_or notes i 0 ≡ 1 → ⊥) → how_many (noted notes) (i + 1) ≡ how_many (noted notes) i
  unfolding how_many
  no_more h = rw (add-one i, ne_eqb (get_or notes i 0) 1 h) (omega arith)

pub loop-note-init : goal.loop-note-init
unfolding how_many
loop-note-init c = (omega arith, refl)

pub loop-note-preserved : goal.loop-note-preserved
loop-note-preserved c =
    let t = c.args.named.now in
    let i = c.loop-note.note-index in
    elim c.if-note-eq1.branch [
      | then-note-eq1 w ↦ (omega arith, omega (arith, one_more t i w.if-note-eq1.true))
      | else-note-eq1 w ↦ (omega arith, omega (arith, no_more t i w.if-note-eq1.false))
    ]

pub returns : goal.returns
returns c =
    let end : c.loop-note.note-index ≡ length c.args.named.now = omega arith in
    rw end at c.loop-note.invariant.1
