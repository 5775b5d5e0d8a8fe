-- A position is looked at: what the end, a record that breaks its height and the ways of a record come to is
-- Visiting's.
use Rattle.std.proofs.Common.{arith}
use Rattle.inspection_visit.proofs.Visiting.{end_told, known_there, checked_here, breaks, one_way, two_ways}
use Rattle.inspection_visit.proofs.Visiting.{low_label, jump_within, jump_clash, jump_found, pass_within}
use Rattle.inspection_visit.proofs.Visiting.{both_followed, one_followed}
use Rattle.inspection_visit.proofs.Positions.visit.Goals as goal

-- ---- The end

pub returns-then-at-last-clause-visited : goal.returns-then-at-last-clause-visited
returns-then-at-last-clause-visited c = end_told c.requires c.if-at-last.true c.from-label.ensures

-- ---- A record

pub check_record-requires : goal.check_record-requires
check_record-requires c =
    let p = c.requires in
    known_there p (omega (arith, p.at_most, c.if-at-last.false)) _
    (omega (arith, c.from-label.ensures, p.stands.low c.args.at))

pub returns-in_default-clause-visited : goal.returns-in_default-clause-visited
returns-in_default-clause-visited c =
    breaks
    (checked_here c.requires c.if-at-last.false c.from-label.ensures c.check_record.ensures c.in_default.is)

-- ---- One way

pub overflow_add-after : goal.overflow_add-after
overflow_add-after c =
    let w =
    one_way c.requires c.if-at-last.false c.from-label.ensures c.check_record.ensures c.in-Some.is c.in-Leads.is in
    omega (arith, low_label w)

pub overflow_cast-after : goal.overflow_cast-after
overflow_cast-after c =
    let w =
    one_way c.requires c.if-at-last.false c.from-label.ensures c.check_record.ensures c.in-Some.is c.in-Leads.is in
    omega (arith, low_label w)

pub follow-requires-clause-within : goal.follow-requires-clause-within
follow-requires-clause-within c =
    jump_within
    (one_way c.requires c.if-at-last.false c.from-label.ensures c.check_record.ensures c.in-Some.is c.in-Leads.is)

pub returns-in-Leads-clause-visited : goal.returns-in-Leads-clause-visited
returns-in-Leads-clause-visited c =
    one_followed
    (one_way c.requires c.if-at-last.false c.from-label.ensures c.check_record.ensures c.in-Some.is c.in-Leads.is)
    _ c.follow.ensures.followed

-- ---- Two ways

pub overflow_add-label : goal.overflow_add-label
overflow_add-label c =
    let w =
    two_ways c.requires c.if-at-last.false c.from-label.ensures c.check_record.ensures c.in-Some.is c.in-Forks.is in
    omega (arith, low_label w)

pub overflow_cast-label : goal.overflow_cast-label
overflow_cast-label c =
    let w =
    two_ways c.requires c.if-at-last.false c.from-label.ensures c.check_record.ensures c.in-Some.is c.in-Forks.is in
    omega (arith, low_label w)

pub follow-requires-in-Forks-clause-within : goal.follow-requires-in-Forks-clause-within
follow-requires-in-Forks-clause-within c =
    jump_within
    (two_ways c.requires c.if-at-last.false c.from-label.ensures c.check_record.ensures c.in-Some.is c.in-Forks.is)

pub returns-else-follow-clause-visited : goal.returns-else-follow-clause-visited
returns-else-follow-clause-visited c =
    let w =
    two_ways c.requires c.if-at-last.false c.from-label.ensures c.check_record.ensures c.in-Some.is c.in-Forks.is in
    rw c.if-follow.false (jump_clash w (rw c.if-follow.false at c.follow-in-Forks.ensures.followed))

pub follow-requires-then-follow : goal.follow-requires-then-follow
follow-requires-then-follow c =
    let w =
    two_ways c.requires c.if-at-last.false c.from-label.ensures c.check_record.ensures c.in-Some.is c.in-Forks.is in
    let found = rw c.if-follow.true at c.follow-in-Forks.ensures.followed in
    record { room = (jump_found w found).0.stands.room; within = pass_within w found }

pub returns-then-follow-clause-visited : goal.returns-then-follow-clause-visited
returns-then-follow-clause-visited c =
    let w =
    two_ways c.requires c.if-at-last.false c.from-label.ensures c.check_record.ensures c.in-Some.is c.in-Forks.is in
    both_followed w (rw c.if-follow.true at c.follow-in-Forks.ensures.followed) _ c.follow-then-follow.ensures.followed
