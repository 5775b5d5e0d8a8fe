-- A constant's or a variable's record: what is neither a sum nor a variable is a constant.
use Rattle.std.proofs.Common.{◌≡◌, refl, ap, ℕ, ◌+◌, List, [], ◌∷◌, get_or, arith, rules}
use mir.Syntax.{w32}
use mir.Facts.{to_z_pos}
use Rattle.word.proofs.Laws.{read_back}
use Rattle.text.specs.Reading.{expression}
use Rattle.text.proofs.Opened as text_says
use Rattle.text_shape.specs.Shape.{constant_at}
use Rattle.text_shape.proofs.Constants.{ConstantRead, constant_read}
use Rattle.record.specs.Records.{LOADI, LOAD, variable}
use Rattle.record.specs.Bytes.{first_byte, operand}
use Rattle.compile.specs.Compilation.{acomp}
use Rattle.record.proofs.Filling.{one}
use Rattle.compile_conditions.specs.Parts.{Writable}
use Rattle.compile_conditions.proofs.Rows as rows
use Rattle.compile_conditions.proofs.write_leaf.Goals as goal

module _ (text : List ℕ) (at nest : ℕ) {out : List ℕ} (q : Writable acomp 0 (expression text nest at) out) where
  -- a variable
  load : get_or text at 0 ≡ 0x11 → acomp q.part ≡ LOAD (variable (get_or text (at + 1) 0)) ∷ []
  unfolding acomp
  load byte = ap acomp (text_says.variable_at text nest at q.is byte).1.is

  -- a constant
  module _ (no_variable : get_or text at 0 ≡ 0x11 → ⊥) (no_plus : get_or text at 0 ≡ 0x12 → ⊥) where
    constant : ConstantRead text nest at q.part q.next
    constant =
        let neither = text_says.last_expression text nest at q.is no_variable no_plus in
        constant_read text nest at q.is neither

    loadi : acomp q.part ≡ LOADI (constant_at text at).value ∷ []
    unfolding acomp
    loadi = ap acomp constant.is

pub bounds-text-at : goal.bounds-text-at
bounds-text-at c = (text_says.expression_opened _ _ _ c.requires.writable.is).inside

pub bounds-text-at-then-text-at-eq-VARIABLE : goal.bounds-text-at-then-text-at-eq-VARIABLE
bounds-text-at-then-text-at-eq-VARIABLE c =
    omega (arith, (text_says.variable_at _ _ _ c.requires.writable.is c.if-text-at-eq-VARIABLE.true).1.inside)

pub put_record-requires : goal.put_record-requires
put_record-requires c =
    let q = c.requires.writable in
    rows.leaf_room q _ (load _ _ _ q c.if-text-at-eq-VARIABLE.true)

pub returns-then-text-at-eq-VARIABLE : goal.returns-then-text-at-eq-VARIABLE
unfolding first_byte operand
returns-then-text-at-eq-VARIABLE c =
    let text = c.args.text.now in
    let q = c.requires.writable in
    let byte = c.if-text-at-eq-VARIABLE.true in
    let is = load _ _ _ q byte in
    let v = get_or text (c.args.at + 1) 0 in
    let number = to_z_pos w32 {n = v} (omega (arith, c.type_inv.text (c.args.at + 1))) in
    rows.leaf q (LOAD (variable v)) is (text_says.variable_at _ _ _ q.is byte).1.ends refl
    (one {index = 0} _ (rows.leaf_room q _ is) c.put_record.ensures refl (rw c.from.ensures number))

pub constant_at-constant-requires : goal.constant_at-constant-requires
constant_at-constant-requires c =
    (constant _ _ _ c.requires.writable c.if-text-at-eq-VARIABLE.false c.requires.no_plus).inside

pub put_record-requires-2 : goal.put_record-requires-2
put_record-requires-2 c =
    let q = c.requires.writable in
    rows.leaf_room q _ (loadi _ _ _ q c.if-text-at-eq-VARIABLE.false c.requires.no_plus)

pub overflow_add-result-2 : goal.overflow_add-result-2
overflow_add-result-2 c =
    let o = text_says.expression_opened _ _ _ c.requires.writable.is in
    record { fits = omega (arith, o.inside, c.well_formed.0.0) }

pub overflow_add-result-3 : goal.overflow_add-result-3
overflow_add-result-3 c =
    let width = ap (λ x. x.width) c.constant_at-constant.ensures in
    let k = constant _ _ _ c.requires.writable c.if-text-at-eq-VARIABLE.false c.requires.no_plus in
    record { fits = omega (arith, width, k.inside, c.well_formed.0.0) }

pub returns : goal.returns
unfolding first_byte operand
returns c =
    let q = c.requires.writable in
    let k = constant _ _ _ q c.if-text-at-eq-VARIABLE.false c.requires.no_plus in
    let is = loadi _ _ _ q c.if-text-at-eq-VARIABLE.false c.requires.no_plus in
    let told = c.constant_at-constant.ensures in
    let width = ap (λ x. x.width) told in
    let value = read_back w32 (search rules) (ap (λ x. x.value) told) in
    rows.leaf q (LOADI (constant_at c.args.text.now c.args.at).value) is (omega (arith, width, k.ends)) refl
    (one {index = 0} _ (rows.leaf_room q _ is) c.put_record-2.ensures refl value)
