-- A successor is followed: its label is looked at, and put where there is none. There is room for it, since each
-- position without a label has its place.
use Rattle.std.proofs.Common.{◌<◌, length, subst, arith}
use Rattle.inspection_visit.specs.Positions.{again, new, other, astray, Within}
use Rattle.inspection_visit.proofs.Labelling.{some_zero, followed_at}
use Rattle.inspection_visit.proofs.Positions.follow.Goals as goal

pub returns-then-old-label-clause-followed : goal.returns-then-old-label-clause-followed
returns-then-old-label-clause-followed c = followed_at c.in-Some.is (again _ c.if-old-label.true)

pub returns-then-old-ne0-clause-followed : goal.returns-then-old-ne0-clause-followed
returns-then-old-ne0-clause-followed c = followed_at c.in-Some.is (other _ c.if-old-ne0.true c.if-old-label.false)

-- The list has a place for it.
pub bounds-self-self : goal.bounds-self-self
bounds-self-self c =
    let p = c.requires.room in
    let labels = c.args.self.now.labels.now in
    let inside : c.in-Some.to < length labels = subst (Within (length labels)) c.in-Some.is c.requires.within in
    omega (arith, p.wide, p.spare, some_zero labels c.in-Some.to inside c.if-old-ne0.false)

pub returns-in-None-clause-followed : goal.returns-in-None-clause-followed
returns-in-None-clause-followed c = followed_at c.in-None.is astray

pub returns-else-old-ne0-clause-followed : goal.returns-else-old-ne0-clause-followed
returns-else-old-ne0-clause-followed c = followed_at c.in-Some.is (new _ c.if-old-ne0.false)
