-- A condition is what its first byte says (Opened), and Not and And come to what their parts come to (Compound); And's
-- right side is passed over where the left is false.
use Rattle.std.proofs.Common.{Some, refl, false, sym, ap, ◌∙◌, arith}
use Rattle.base.specs.Acts.{ok, then'}
use Rattle.text.proofs.Opened.{condition_opened, bc_at, not_at, and_at, last_condition}
use Rattle.text_ends.proofs.Passing.{condition_end, condition_ends}
use Rattle.source.specs.Rules.{state}
use Rattle.source_values.specs.Placed.{◌upto◌, inverse}
use Rattle.source_values.specs.Code.{tested}
use Rattle.source_values.proofs.Steps.{truth_told, was_read, placed_is}
use Rattle.source_values.proofs.Compound.{under, not_is, and_ended, and_second, and_true, and_false}
use Rattle.source_values.proofs.+test.Goals as goal

pub bounds-text-at : goal.bounds-text-at
bounds-text-at t c =
    let w = (condition_opened _ _ _ c.requires.read.is).inside in omega (arith, c.told-text)

-- ---- Bc

pub bc-requires : goal.bc-requires
bc-requires t c =
    let w = (bc_at _ _ _ c.requires.read.is c.in-32.is).inside in omega (arith, c.told-text)

pub returns-in-32 : goal.returns-in-32
returns-in-32 t c =
    c.bc.ensures _ _ ∙ sym (placed_is (under c.args.flag) _ (bc_at _ _ _ c.requires.read.is c.in-32.is).read)

-- ---- Not

pub overflow_sub-nest : goal.overflow_sub-nest
overflow_sub-nest t c = (condition_opened _ _ _ c.requires.read.is).nested

pub test-requires : goal.test-requires
test-requires t c =
    let e = c.requires.read.is in
    let n = (condition_opened _ _ _ e).nested in
    (omega arith, (was_read (not_at _ _ _ e c.in-33.is).read, c.requires.part_ends))

pub returns-in_err-part-in-33 : goal.returns-in_err-part-in-33
unfolding then'
returns-in_err-part-in-33 t c =
    let e = c.requires.read.is in
    let lent = c.test.new in
    let stops = truth_told _ _ _ c.in_err-part-in-33.was c.test.ensures in
    ap (λ t. tested t lent.left lent.mark c.args.store.now) c.from_residual.ensures
    ∙ sym (not_is c.args.flag e (not_at _ _ _ e c.in-33.is) _ ∙ ap inverse stops)

pub returns-in-33 : goal.returns-in-33
returns-in-33 t c =
    let e = c.requires.read.is in
    let part = truth_told _ _ _ c.in_ok-part-in-33.was c.test.ensures in
    c.other.ensures _ _ c.args.store.now
    ∙ sym (not_is c.args.flag e (not_at _ _ _ e c.in-33.is) _ ∙ ap inverse part)

-- ---- And

pub overflow_sub-nest-in-34 : goal.overflow_sub-nest-in-34
overflow_sub-nest-in-34 t c = (condition_opened _ _ _ c.requires.read.is).nested

pub test-requires-in-34 : goal.test-requires-in-34
test-requires-in-34 t c =
    let e = c.requires.read.is in
    let n = (condition_opened _ _ _ e).nested in
    (omega arith, (was_read (and_at _ _ _ e c.in-34.is).first, c.requires.part_ends))

pub returns-in_err-next-in-34 : goal.returns-in_err-next-in-34
returns-in_err-next-in-34 t c =
    let e = c.requires.read.is in
    let sides = and_at _ _ _ e c.in-34.is in
    let lent = c.test-in-34.new in
    let stops = truth_told _ _ _ c.in_err-next-in-34.was c.test-in-34.ensures in
    ap (λ t. tested t lent.left lent.mark c.args.store.now) c.from_residual-in_err-next-in-34.ensures
    ∙ sym (and_ended c.args.flag e sides _ stops)

pub part_end-requires-clause-row : goal.part_end-requires-clause-row
part_end-requires-clause-row t c =
    let e = c.requires.read.is in
    let left = truth_told _ _ _ (c.in_ok-next-in-34.was ∙ ap Some c.in-False.is) c.test-in-34.ensures in
    condition_ends _ _ _ (and_second c.args.flag e (and_at _ _ _ e c.in-34.is) _ left)

pub returns-in-False : goal.returns-in-False
returns-in-False t c =
    let e = c.requires.read.is in
    let sides = and_at _ _ _ e c.in-34.is in
    let lent = c.test-in-34.new in
    let left = truth_told _ _ _ (c.in_ok-next-in-34.was ∙ ap Some c.in-False.is) c.test-in-34.ensures in
    let end = condition_end _ _ _ (and_second c.args.flag e sides _ left) c.part_end.ensures in
    ap (λ n. ok (false upto n) (state lent.left 0 lent.mark c.args.store.now)) end
    ∙ sym (and_false c.args.flag e sides _ left refl)

pub overflow_sub-nest-in-True : goal.overflow_sub-nest-in-True
overflow_sub-nest-in-True t c = (condition_opened _ _ _ c.requires.read.is).nested

pub test-requires-in-True : goal.test-requires-in-True
test-requires-in-True t c =
    let e = c.requires.read.is in
    let n = (condition_opened _ _ _ e).nested in
    let left = truth_told _ _ _ (c.in_ok-next-in-34.was ∙ ap Some c.in-True.is) c.test-in-34.ensures in
    let second = was_read (and_second c.args.flag e (and_at _ _ _ e c.in-34.is) _ left) in
    (omega arith, (second, c.requires.part_ends))

pub returns-in-True : goal.returns-in-True
returns-in-True t c =
    let e = c.requires.read.is in
    let left = truth_told _ _ _ (c.in_ok-next-in-34.was ∙ ap Some c.in-True.is) c.test-in-34.ensures in
    c.test-in-True.ensures ∙ sym (and_true c.args.flag e (and_at _ _ _ e c.in-34.is) _ left refl)

-- ---- Less

pub smaller-requires-clause-first_byte : goal.smaller-requires-clause-first_byte
smaller-requires-clause-first_byte t c =
    last_condition _ _ _ c.requires.read.is (λ e. omega arith) (λ e. omega arith) (λ e. omega arith)

pub returns-in_default : goal.returns-in_default
returns-in_default t c = c.smaller.ensures c.args.flag
