-- `number_variables` makes the table, from the last record back to the first: each turn is one of the stages of
-- `Numbering`.
use Rattle.std.proofs.Common.{◌≡◌, ℕ, replicate, ap, ◌∙◌, arith}
use Rattle.compile_translation.proofs.Mentions.{mentioned_of, mentioned_none}
use Rattle.compile_translation.proofs.Numbering.{stage_start, stage_long, stage_one, stage_none}
use Rattle.compile_translation.proofs.Standing.{stand_long}
use Rattle.compile_translation.proofs.number_variables.Goals as goal

pub loop-i-init : goal.loop-i-init
loop-i-init c P lent stands =
    let zeros : c.fill.new.self ≡ replicate 64 0 =
    c.fill.ensures.after (λ y e. e) ∙ ap (λ (n : ℕ). replicate n 0) c.requires.table_len in
    stage_start P stands.all zeros

pub mentioned-requires : goal.mentioned-requires
mentioned-requires c =
    let stands = c.requires.holds.1.1 in
    let most = (c.loop-i.invariant _ _ stands).most in
    omega (arith, stand_long _ stands, stands.all, most, c.loop-i-test.true)

pub give_address-n-requires : goal.give_address-n-requires
give_address-n-requires c =
    let stands = c.requires.holds.1.1 in
    let x = c.loop-i.invariant _ _ stands in
    let h = mentioned_of stands _ (omega (arith, x.most, c.loop-i-test.true)) c.in-Some.ensures in
    (omega (arith, h.1, stage_long _ x), omega (arith, x.all))

pub loop-i-preserved-in-Some : goal.loop-i-preserved-in-Some
loop-i-preserved-in-Some c P lent stands =
    let x = c.loop-i.invariant P lent stands in
    let h = mentioned_of stands _ (omega (arith, x.most, c.loop-i-test.true)) c.in-Some.ensures in
    stage_one P x c.loop-i-test.true h.0 h.1 c.give_address-n.ensures

pub loop-i-preserved : goal.loop-i-preserved
loop-i-preserved c P lent stands =
    let x = c.loop-i.invariant P lent stands in
    stage_none P x c.loop-i-test.true
    (mentioned_none stands _ (omega (arith, x.most, c.loop-i-test.true)) c.in_default.ensures)
