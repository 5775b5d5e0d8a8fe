-- An expression's size by its first byte, and that of two sides in a row.
use Rattle.std.proofs.Common.{◌≡◌, ◌∙◌, sym, ap, inl, ℕ, ◌+◌, ◌-◌, List, get_or, arith}
use Rattle.base.specs.Acts.{ok, then'}
use Rattle.text.specs.Syntax.{Expression, Plus}
use Rattle.text.specs.Reading.{plus, pass, expression_of, expression}
use Rattle.text.specs.Sizes.{expression_records}
use Rattle.text.proofs.Heads as heads
use Rattle.text.proofs.Opened as text_says
use Rattle.text_shape.specs.Shape.{constant_width}
use Rattle.text_shape.proofs.Constants.{Begins, constant_read, last_sum, last_constant}
use Rattle.text_conditions.specs.Code.{expression_parts}
use Rattle.compile_sizes.specs.Parts.{Countable, Counts}
use Rattle.compile_sizes.specs.declared.PartSize.{PartSize}
use Rattle.compile_sizes.proofs.Counting.{told, Pair, first_countable, second_countable, both}
use Rattle.compile_sizes.proofs.+expression_size_two_sizes.Goals as goal

-- ---- An expression

module _ (text : List ℕ) (nest i : ℕ) (q : Countable expression_records (expression text nest i)) where
  -- a constant
  constant_told : Begins (get_or text i 0) → {r : PartSize} → r.next ≡ i + (1 + constant_width (get_or text i 0))
      → r.records ≡ 1 → Counts expression_records (expression text nest i) r
  unfolding expression_records
  constant_told b e f =
      let k = constant_read text nest i q.is b in
      told q (omega (arith, k.ends)) (f ∙ sym (ap expression_records k.is))

  -- a variable
  variable_told : get_or text i 0 ≡ 0x11
      → Counts expression_records (expression text nest i) (record { next = i + 2; records = 1 })
  unfolding expression_records
  variable_told byte =
      let k = (text_says.variable_at text nest i q.is byte).1 in
      told q k.ends (sym (ap expression_records k.is))

  -- a sum
  sum : get_or text i 0 ≡ 0x12 → expression text nest i ≡ expression_parts text (nest - 1) plus i
  sum byte =
      let o = text_says.expression_opened text nest i q.is in
      let nested : nest ≡ 0 → ⊥ = λ e. omega (arith, o.nested) in
      rw (heads.expression_at _ _ _ o.inside nested, heads.is_plus byte)

pub expression_size-bounds-text-at : goal.expression_size-bounds-text-at
expression_size-bounds-text-at t c = (text_says.expression_opened _ _ _ c.requires.is).inside

pub expression_size-constant_size-requires : goal.expression_size-constant_size-requires
expression_size-constant_size-requires t c =
    (constant_read _ _ _ c.requires.is (inl c.if-byte-eq-CONSTANT.true)).inside

pub expression_size-returns-then-byte-eq-CONSTANT :
    goal.expression_size-returns-then-byte-eq-CONSTANT
expression_size-returns-then-byte-eq-CONSTANT t c =
    let r = c.constant_size.ensures in
    constant_told _ _ _ c.requires (inl c.if-byte-eq-CONSTANT.true) r.next_after r.one_record

pub expression_size-returns-then-byte-eq-VARIABLE :
    goal.expression_size-returns-then-byte-eq-VARIABLE
expression_size-returns-then-byte-eq-VARIABLE t c = variable_told _ _ _ c.requires c.if-byte-eq-VARIABLE.true

pub expression_size-overflow_sub-nest : goal.expression_size-overflow_sub-nest
expression_size-overflow_sub-nest t c = (text_says.expression_opened _ _ _ c.requires.is).nested

pub expression_size-two_sizes-requires : goal.expression_size-two_sizes-requires
expression_size-two_sizes-requires t c =
    let q = c.requires in
    let byte = last_sum _ _ _ q.is c.if-byte-eq-CONSTANT.false c.if-byte-eq-VARIABLE.false
    c.if-byte-lt-ONE_BYTE_CONSTANT.true in
    (omega (arith, (text_says.expression_opened _ _ _ q.is).nested, c.decreases), rw (sum _ _ _ q byte) at q)

pub expression_size-returns-then-byte-lt-ONE_BYTE_CONSTANT :
    goal.expression_size-returns-then-byte-lt-ONE_BYTE_CONSTANT
expression_size-returns-then-byte-lt-ONE_BYTE_CONSTANT t c =
    let q = c.requires in
    let byte = last_sum _ _ _ q.is c.if-byte-eq-CONSTANT.false c.if-byte-eq-VARIABLE.false
    c.if-byte-lt-ONE_BYTE_CONSTANT.true in
    rw (sum _ _ _ q byte) c.two_sizes.ensures

pub expression_size-constant_size-requires-2 : goal.expression_size-constant_size-requires-2
expression_size-constant_size-requires-2 t c =
    let last = last_constant _ _ _ c.requires.is c.if-byte-eq-VARIABLE.false c.if-byte-lt-ONE_BYTE_CONSTANT.false in
    (constant_read _ _ _ c.requires.is last).inside

pub expression_size-returns : goal.expression_size-returns
expression_size-returns t c =
    let last = last_constant _ _ _ c.requires.is c.if-byte-eq-VARIABLE.false c.if-byte-lt-ONE_BYTE_CONSTANT.false in
    let r = c.constant_size-2.ensures in
    constant_told _ _ _ c.requires last r.next_after r.one_record

-- ---- Two sides

plus_read : (text : List ℕ) (left i : ℕ) {a : Expression} {n : ℕ} → expression_parts text left plus i ≡ ok a n
    → text_says.Two (expression text left (i + 1)) (expression text left) Plus a n
unfolding expression_of pass then'
plus_read text left i e = text_says.two (expression text left (i + 1)) (expression text left) Plus e

sides : (text : List ℕ) (nest i : ℕ) (q : Countable expression_records (expression_parts text nest plus i))
    → Pair (expression text nest) (expression text nest) Plus q.part expression_records expression_records 1 (i + 1)
    q.next (expression_records q.part)
unfolding expression_records
sides text nest i q =
    let p = plus_read text nest i q.is in
    record { parts = p; sum = ap expression_records p.is; few = q.few }

pub two_sizes-overflow_add-at : goal.two_sizes-overflow_add-at
two_sizes-overflow_add-at t c =
    let s = sides _ _ _ c.requires in
    let o = text_says.expression_opened _ _ _ s.parts.first in
    record { fits = omega (arith, o.inside, c.well_formed.0.0) }

pub two_sizes-expression_size-first-requires : goal.two_sizes-expression_size-first-requires
two_sizes-expression_size-first-requires t c =
    (omega (arith, c.decreases), first_countable (sides _ _ _ c.requires))

pub two_sizes-expression_size-second-requires : goal.two_sizes-expression_size-second-requires
two_sizes-expression_size-second-requires t c =
    (omega (arith, c.decreases), second_countable (sides _ _ _ c.requires) c.expression_size-first.ensures)

pub two_sizes-overflow_add-result : goal.two_sizes-overflow_add-result
two_sizes-overflow_add-result t c =
    let b = both (sides _ _ _ c.requires) c.expression_size-first.ensures c.expression_size-second.ensures in
    record { fits = omega (arith, b.few) }

pub two_sizes-overflow_add-result-2 : goal.two_sizes-overflow_add-result-2
two_sizes-overflow_add-result-2 t c =
    let b = both (sides _ _ _ c.requires) c.expression_size-first.ensures c.expression_size-second.ensures in
    record { fits = omega (arith, b.few) }

pub two_sizes-returns : goal.two_sizes-returns
two_sizes-returns t c =
    let b = both (sides _ _ _ c.requires) c.expression_size-first.ensures c.expression_size-second.ensures in
    told c.requires b.ends b.all
