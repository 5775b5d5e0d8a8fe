-- Each arm is a law of its construct (Noting).
use Rattle.std.proofs.Common.{sym, ◌∙◌, rules}
use Rattle.std.proofs.lemmas.Option.{IfSome_then}
use Rattle.text_ends.proofs.Caching.{if_known}
use Rattle.text_ends.proofs.Noting as noting
use Rattle.text_ends.proofs.end_at.Goals as goal

pub returns-in-0 : goal.returns-in-0
returns-in-0 c = noting.skip_end c.requires.part_ends _ c.requires.at_in_bounds c.in-0.is

pub returns-in-1 : goal.returns-in-1
returns-in-1 c =
    let k = c.requires in
    if_known _ _ c.recall.ensures (λ r f. noting.assign_end k.part_ends _ k.at_in_bounds c.in-1.is f)

pub returns-in_ok-recall-in-3-2 : goal.returns-in_ok-recall-in-3-2
returns-in_ok-recall-in-3-2 c =
    let k = c.requires in
    let first = sym c.recall-in-3.ensures ∙ c.in_ok-recall-in-3.was in
    let second = sym c.recall-in-3-2.ensures ∙ c.in_ok-recall-in-3-2.was in
    if_known _ _ c.recall-in-3-3.ensures
    (λ r f. noting.choice_end k.part_ends _ k.at_in_bounds c.in-3.is first second f)

pub returns-in-16 : goal.returns-in-16
returns-in-16 c =
    let k = c.requires in
    IfSome_then _ c.inside.ensures
    (λ r p. noting.constant_end k.part_ends _ k.at_in_bounds c.in-16.is c.constant_width.ensures p.0 p.1)

pub returns-in-17 : goal.returns-in-17
returns-in-17 c =
    let k = c.requires in
    IfSome_then _ c.inside-in-17.ensures (λ r p. noting.leaf_end k.part_ends _ k.at_in_bounds c.in-17.is p.0 p.1)

pub returns-in-33 : goal.returns-in-33
returns-in-33 c =
    let k = c.requires in
    if_known _ _ c.recall-in-33.ensures (λ r f. noting.not_end k.part_ends _ k.at_in_bounds c.in-33.is f)

pub returns-in_ok-recall-in_default : goal.returns-in_ok-recall-in_default
returns-in_ok-recall-in_default c =
    let k = c.requires in
    let first = sym c.recall-in_default.ensures ∙ c.in_ok-recall-in_default.was in
    if_known _ _ c.recall-in_default-2.ensures
    (λ r f. noting.pair_end k.part_ends _ k.at_in_bounds (search rules) (search rules) (search rules) (search rules)
    (λ e. search rules) (λ e. search rules) (search rules) first f)
