-- `expression` is settled by what its first byte begins, and `two_expressions` by its parts, of which the first was
-- read or is its refusal.
use Rattle.std.proofs.Common.{Bool, refl, inl, arith}
use Rattle.text.specs.Syntax.{Expression, Variable, Plus, Less}
use Rattle.text.specs.Reading.{operand, expression, expression_of, condition_of}
use Rattle.text.specs.Sizes.{expression_records, expression_depth, expression_names}
use Rattle.text.specs.Sizes.{condition_records, condition_depth, condition_names}
use Rattle.text.proofs.Heads as heads
use Rattle.text.proofs.Heads.{is_variable, is_plus}
use Rattle.text_conditions.specs.Code.{expressions, conditions, variables}
use Rattle.text_conditions.proofs.Parts.{after, Alike, declines, one, first_ends, two, constant_told}
use Rattle.text_conditions.proofs.Bounds.{room, expression_small}
use Rattle.text_conditions.proofs.+expression_two_expressions.Goals as goal

-- ---- Sizes

variable_alike : Alike variables expressions Variable
unfolding expression_records expression_depth expression_names
variable_alike = record { records = λ v. refl; depth = λ v. refl; names = λ v w. refl }

plus_alike : (a : Expression) → Alike (after expressions a expressions 1 1) expressions (Plus a)
unfolding expression_records expression_depth expression_names
plus_alike a = record { records = λ b. refl; depth = λ b. omega arith; names = λ b w. refl }

less_alike : (flag : Bool) (a : Expression) → Alike (after expressions a expressions 1 1) (conditions flag) (Less a)
unfolding condition_records condition_depth condition_names
less_alike flag a = record { records = λ b. refl; depth = λ b. omega arith; names = λ b w. refl }

-- ---- `expression`

pub expression-returns-then-text-at : goal.expression-returns-then-text-at
expression-returns-then-text-at t c =
    rw (heads.expression_past _ _ _ c.if-text-at.true) (declines _ _ _ c.decline.ensures)

pub expression-returns-then-nest-eq0 : goal.expression-returns-then-nest-eq0
expression-returns-then-nest-eq0 t c =
    rw (heads.expression_deep _ _ _ c.if-text-at.false c.if-nest-eq0.true)
    (declines _ _ _ c.decline-then-nest-eq0.ensures)

pub expression-returns-in-16 : goal.expression-returns-in-16
unfolding expression_of
expression-returns-in-16 t c =
    rw (heads.expression_at _ _ _ c.if-text-at.false c.if-nest-eq0.false)
    (constant_told _ _ _ _ _ (inl c.in-16.is) (c.constant.ensures _))

pub expression-returns-in-17 : goal.expression-returns-in-17
unfolding expression_of
expression-returns-in-17 t c =
    rw (heads.expression_at _ _ _ c.if-text-at.false c.if-nest-eq0.false, is_variable c.in-17.is)
    (one _ expressions variables Variable (operand _ 63) _ _ _ _ variable_alike c.variable.ensures)

pub expression-returns-in-18 : goal.expression-returns-in-18
expression-returns-in-18 t c =
    rw (heads.expression_at _ _ _ c.if-text-at.false c.if-nest-eq0.false, is_plus c.in-18.is)
    c.two_expressions.ensures.as_plus

pub expression-returns-in_default : goal.expression-returns-in_default
expression-returns-in_default t c =
    rw (heads.expression_at _ _ _ c.if-text-at.false c.if-nest-eq0.false) (c.one_byte_constant.ensures _ _)

-- ---- `two_expressions`

pub two_expressions-returns-in_default-clause-as_plus : goal.two_expressions-returns-in_default-clause-as_plus
unfolding expression_of
two_expressions-returns-in_default-clause-as_plus t c =
    first_ends _ expressions expressions (expression _ _) _ _ _ _ _ _ c.expression-first.ensures c.in_default.is

pub two_expressions-returns-in_default-clause-as_less : goal.two_expressions-returns-in_default-clause-as_less
unfolding condition_of
two_expressions-returns-in_default-clause-as_less t c =
    λ flag. first_ends _ (conditions flag) expressions (expression _ _) _ _ _ _ _ _ c.expression-first.ensures
    c.in_default.is

pub two_expressions-joined-requires : goal.two_expressions-joined-requires
two_expressions-joined-requires t c =
    let short = c.requires.short in
    room 4096 4096 _ _ _ _ (omega arith)
    (rw c.in-Read.is
    at (expression_small _ (λ i. (c.type_inv.text i).fits) short _ _ _ _ _ c.expression-first.ensures))
    (expression_small _ (λ i. (c.type_inv.text i).fits) short _ _ _ _ _ c.expression.ensures)

pub two_expressions-returns-clause-as_plus : goal.two_expressions-returns-clause-as_plus
unfolding expression_of
two_expressions-returns-clause-as_plus t c =
    two _ expressions expressions expressions Plus (expression _ _) (expression _ _) _ _ _ _ _ 1 1 plus_alike
    c.expression-first.ensures c.in-Read.is c.expression.ensures c.joined.ensures

pub two_expressions-returns-clause-as_less : goal.two_expressions-returns-clause-as_less
unfolding condition_of
two_expressions-returns-clause-as_less t c =
    λ flag. two _ (conditions flag) expressions expressions Less (expression _ _) (expression _ _) _ _ _ _ _ 1 1
    (less_alike flag) c.expression-first.ensures c.in-Read.is c.expression.ensures c.joined.ensures
