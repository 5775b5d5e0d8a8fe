-- `condition` is settled by what its first byte begins, and its helpers by their parts.
use Rattle.std.proofs.Common.{Bool, false, get_or, refl, arith, rules}
use Rattle.std.specs.Prelude.{not, eqb}
use Rattle.text.specs.Syntax.{Condition, Bc, Not, And}
use Rattle.text.specs.Reading.{decline, operand, condition, condition_of}
use Rattle.text.specs.Sizes.{condition_records, condition_depth, condition_names}
use Rattle.text.proofs.Heads as heads
use Rattle.text.proofs.Heads.{is_truth, is_negation, is_conjunction, is_comparison, is_no_condition}
use Rattle.text_conditions.specs.Code.{conditions, values}
use Rattle.text_conditions.proofs.Parts.{after, Alike, declines, one, first_ends, two}
use Rattle.text_conditions.proofs.Bounds.{room, condition_small}
use Rattle.text_conditions.proofs.+condition_conjunction_negation.Goals as goal

-- ---- Sizes

value_alike : (flag : Bool) → Alike (values flag) (conditions flag) (λ v. Bc (eqb v 1))
unfolding condition_records condition_depth condition_names
value_alike flag = record { records = λ v. refl; depth = λ v. refl; names = λ v w. refl }

not_alike : (flag : Bool) → Alike (conditions (not flag)) (conditions flag) Not
unfolding condition_records condition_depth condition_names
not_alike flag = record { records = λ b. refl; depth = λ b. refl; names = λ b w. refl }

and_alike : (flag : Bool) (b : Condition)
    → Alike (after (conditions false) b (conditions flag) 0 0) (conditions flag) (And b)
unfolding condition_records condition_depth condition_names
and_alike flag b = record { records = λ c. omega arith; depth = λ c. omega arith; names = λ c w. refl }

-- ---- `condition`

pub condition-returns-then-text-at : goal.condition-returns-then-text-at
condition-returns-then-text-at t c =
    rw (heads.condition_past _ _ _ c.if-text-at.true) (declines _ _ _ c.decline.ensures)

pub condition-returns-then-nest-eq0 : goal.condition-returns-then-nest-eq0
condition-returns-then-nest-eq0 t c =
    rw (heads.condition_deep _ _ _ c.if-text-at.false c.if-nest-eq0.true)
    (declines _ _ _ c.decline-then-nest-eq0.ensures)

pub condition-returns-in-32 : goal.condition-returns-in-32
unfolding condition_of
condition-returns-in-32 t c =
    let flag = c.args.flag in
    rw (heads.condition_at _ _ _ c.if-text-at.false c.if-nest-eq0.false, is_truth c.in-32.is)
    (one _ (conditions flag) (values flag) (λ v. Bc (eqb v 1)) (operand _ 1) _ _ _ _ (value_alike flag)
    (c.value.ensures _))

pub condition-returns-in-33 : goal.condition-returns-in-33
condition-returns-in-33 t c =
    rw (heads.condition_at _ _ _ c.if-text-at.false c.if-nest-eq0.false, is_negation c.in-33.is) c.negation.ensures

pub condition-returns-in-34 : goal.condition-returns-in-34
condition-returns-in-34 t c =
    rw (heads.condition_at _ _ _ c.if-text-at.false c.if-nest-eq0.false, is_conjunction c.in-34.is)
    c.conjunction.ensures

pub condition-returns-in-35 : goal.condition-returns-in-35
condition-returns-in-35 t c =
    rw (heads.condition_at _ _ _ c.if-text-at.false c.if-nest-eq0.false, is_comparison c.in-35.is)
    (c.two_expressions.ensures.as_less _)

pub condition-returns-in_default : goal.condition-returns-in_default
unfolding condition_of decline
condition-returns-in_default t c =
    let byte = get_or c.args.text.now c.args.at 0 in
    rw (
      heads.condition_at _ _ _ c.if-text-at.false c.if-nest-eq0.false,
      is_no_condition {b = byte} (search rules) (search rules) (search rules) (search rules),
    )
    (declines _ _ _ c.decline-in_default.ensures)

-- ---- `conjunction` and `negation`

pub conjunction-returns-in_default : goal.conjunction-returns-in_default
unfolding condition_of
conjunction-returns-in_default t c =
    first_ends _ (conditions c.args.flag) (conditions false) (condition _ _) _ _ _ _ _ _
    c.condition-first.ensures c.in_default.is

pub conjunction-joined-requires : goal.conjunction-joined-requires
conjunction-joined-requires t c =
    let short = c.requires.short in
    room 4096 4096 _ _ _ _ (omega arith)
    (rw c.in-Read.is
    at (condition_small _ (λ i. (c.type_inv.text i).fits) short _ _ _ _ _ _ c.condition-first.ensures))
    (condition_small _ (λ i. (c.type_inv.text i).fits) short _ _ _ _ _ _ c.condition.ensures)

pub conjunction-returns : goal.conjunction-returns
unfolding condition_of
conjunction-returns t c =
    let flag = c.args.flag in
    two _ (conditions flag) (conditions false) (conditions flag) And (condition _ _) (condition _ _) _ _ _ _ _ 0 0
    (and_alike flag) c.condition-first.ensures c.in-Read.is c.condition.ensures c.joined.ensures

pub negation-returns : goal.negation-returns
unfolding condition_of
negation-returns t c =
    let flag = c.args.flag in
    one _ (conditions flag) (conditions (not flag)) Not (condition _ _) _ _ _ _ (not_alike flag) c.condition.ensures
