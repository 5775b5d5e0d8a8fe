-- It is settled by its expression, or its variable is refused. Its depth bound is the expression's, which is at least
-- the 1 that the code gives a variable.
use Rattle.std.proofs.Common.{ℕ, ◌≤◌, refl, arith}
use Rattle.text.specs.Syntax.{Expression, Constant, Variable, Plus, ◌:=◌}
use Rattle.text.specs.Reading.{command_of, operand, expression}
use Rattle.text.specs.Sizes.{records, expression_depth, depth, names}
use Rattle.text_conditions.specs.Code.{variables, expressions}
use Rattle.text_conditions.proofs.Parts.{after, Alike, first_ends, two}
use Rattle.text_conditions.proofs.Bounds.{room, variable_small, expression_small}
use Rattle.text_commands.specs.Code.{commands}
use Rattle.text_commands.proofs.assignment.Goals as goal

some_depth : (a : Expression) → 1 ≤ expression_depth a
unfolding expression_depth
some_depth (Constant w z) = omega arith
some_depth (Variable v) = omega arith
some_depth (Plus a b) = omega (arith, some_depth a)

assignment_alike : (v : ℕ) → Alike (after variables v expressions 0 0) commands (λ a. v := a)
unfolding records depth names
assignment_alike v =
    record { records = λ a. omega arith; depth = λ a. omega (arith, some_depth a); names = λ a w. refl }

pub returns-in_default : goal.returns-in_default
unfolding command_of
returns-in_default c =
    first_ends _ commands variables (operand _ 63) _ _ _ _ _ _ c.variable-first.ensures c.in_default.is

pub joined-requires : goal.joined-requires
joined-requires c =
    room 4096 4096 _ _ _ _ (omega arith)
    (rw c.in-Read.is at (variable_small (operand _ 63 _) _ _ _ c.variable-first.ensures))
    (expression_small _ (λ i. (c.type_inv.text i).fits) c.requires.short _ _ _ _ _ c.expression.ensures)

pub returns : goal.returns
unfolding command_of
returns c =
    two _ commands variables expressions ◌:=◌ (operand _ 63) (expression _ _) _ _ _ _ _ 0 0 assignment_alike
    c.variable-first.ensures c.in-Read.is c.expression.ensures c.joined.ensures
