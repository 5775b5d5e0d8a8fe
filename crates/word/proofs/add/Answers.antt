-- The sum, held at the limits of 32 bits, is a 32-bit number: the law `held_between`.
use Rattle.std.proofs.Common.{◌≡◌, ◌∙◌, ◌+ℤ◌, arith, of_z, to_z, w32, w64}
use Rattle.std.proofs.lemmas.Int.{ints}
use Rattle.std.specs.Int.{int_max, int_min}
use Rattle.word.specs.Sums.{least, greatest}
use Rattle.word.proofs.Laws.{held_between}
use Rattle.word.proofs.add.Goals as goal

pub returns : goal.returns
returns c =
    let x = c.args.x in
    let y = c.args.y in
    let held = c.clamp.result in
    let same : to_z w32 (of_z w32 (to_z w64 (of_z w64 held))) ≡ held = omega (arith, ints) in
    let low : to_z w64 (of_z w64 c.from-3.result) ≡ least = omega (arith, ints) in
    let high : to_z w64 (of_z w64 c.from-4.result) ≡ greatest = omega (arith, ints) in
    let sum : to_z w64 (of_z w64 (to_z w64 (of_z w64 c.from.result) +ℤ to_z w64 (of_z w64 c.from-2.result))) ≡ x +ℤ y =
    omega (arith, ints) in
    same ∙ c.clamp.ensures.value ∙ (λ i. int_max (low i) (int_min (sum i) (high i))) ∙ held_between (x +ℤ y)
