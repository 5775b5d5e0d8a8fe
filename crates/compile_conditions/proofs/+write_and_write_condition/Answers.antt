-- And's sides stand in a row (Sides); every condition is written behind the Nots in front of it (Nots).
use Rattle.std.proofs.Common.{◌≡◌, ◌∙◌, refl, sym, ap, subst, ℕ, ◌+◌, ◌-◌, ◌*◌, List, [], ◌∷◌, Bool, true, false}
use Rattle.std.proofs.Common.{get_or, pos, if◌then◌else◌, arith}
use lib.Dec.{eqb}
use mathlib.Core.Bool.{beq}
use mir.Syntax.{w32}
use mir.Facts.{to_z_pos}
use mir.Val.{to_z}
use Rattle.word.specs.Numbers.{bytes_of}
use Rattle.record.specs.Buffer.{into}
use Rattle.compile_sizes.specs.declared.PartSize.{PartSize}
use Rattle.text.specs.Reading.{condition}
use Rattle.text.proofs.Opened as text_says
use Rattle.record.specs.Records.{AssemblyCode, JMP}
use Rattle.record.specs.Bytes.{first_byte, operand}
use Rattle.compile.specs.Compilation.{bcomp}
use Rattle.record.proofs.Filling.{one}
use Rattle.compile_sizes.specs.Parts.{Sized}
use Rattle.compile_sizes.proofs.Counting.{size}
use Rattle.compile_sizes.proofs.Nots.{sized_behind}
use Rattle.compile_conditions.specs.Parts.{jumping, Writable, Writes}
use Rattle.compile_conditions.proofs.Nots as nots
use Rattle.compile_conditions.proofs.Rows as rows
use Rattle.compile_conditions.proofs.Sides as sides
use Rattle.compile_conditions.proofs.Sides.{Sides}
use Rattle.compile_conditions.proofs.+write_and_write_condition.Goals as goal
use Rattle.compile_conditions.proofs.+write_and_write_condition.Goals.{write_condition-then-records-eq1}
use Rattle.compile_conditions.proofs.+write_and_write_condition.Goals.{write_condition-else-records-eq1}

-- ---- And

-- An And's two sides
both : (text : List ℕ) (at nest : ℕ) (flag : Bool) (distance whole : ℕ) (out : List ℕ) → get_or text at 0 ≡ 0x22
    → (q : Writable (jumping flag distance) distance (condition text nest at) out)
    → Sized (size flag) (condition text nest at) whole
    → Sides (condition text (nest - 1)) flag distance whole (at + 1) q.next q.part out
both text at nest flag distance whole out byte q sized =
    record { parts = text_says.and_at text nest at q.is byte; count = sized _ _ q.is; room = q.room; few = q.few }

pub write_and-overflow_sub-inner : goal.write_and-overflow_sub-inner
write_and-overflow_sub-inner t c = (text_says.condition_opened _ _ _ c.requires.writable.is).nested

pub write_and-known_size-left-requires-clause-countable :
    goal.write_and-known_size-left-requires-clause-countable
write_and-known_size-left-requires-clause-countable t c =
    let r = c.requires in
    sides.left_countable (both _ _ _ _ _ _ _ r.first_byte r.writable r.sized)

pub write_and-overflow_sub-right : goal.write_and-overflow_sub-right
write_and-overflow_sub-right t c =
    let r = c.requires in
    sides.left_fits (both _ _ _ _ _ _ _ r.first_byte r.writable r.sized) c.known_size-left.ensures.sized

pub write_and-reach-over-requires : goal.write_and-reach-over-requires
write_and-reach-over-requires t c =
    let r = c.requires in
    sides.reach_fits (both _ _ _ _ _ _ _ r.first_byte r.writable r.sized) c.known_size-left.ensures.sized

pub write_and-write_condition-first-requires : goal.write_and-write_condition-first-requires
write_and-write_condition-first-requires t c =
    let r = c.requires in
    let s = both _ _ _ _ _ _ _ r.first_byte r.writable r.sized in
    let k = c.known_size-left.ensures in (
      text_says.down (text_says.condition_opened _ _ _ r.writable.is) c.decreases,
      (sides.left_writable s k.sized c.reach-over.ensures, (k.sized, k.condition_sizes_after)),
    )

pub write_and-overflow_mul-rest : goal.write_and-overflow_mul-rest
write_and-overflow_mul-rest t c =
    let r = c.requires in
    let s = both _ _ _ _ _ _ _ r.first_byte r.writable r.sized in
    let row = sides.sides s c.known_size-left.ensures.sized c.reach-over.ensures in
    record { fits = omega (arith, rows.first_few row c.write_condition-first.ensures.writes) }

pub write_and-slice_bounds-rest-count :
    goal.write_and-slice_bounds-rest-count
write_and-slice_bounds-rest-count t c =
    let r = c.requires in
    let s = both _ _ _ _ _ _ _ r.first_byte r.writable r.sized in
    let row = sides.sides s c.known_size-left.ensures.sized c.reach-over.ensures in
    rows.second_start row c.write_condition-first.ensures.writes

pub write_and-slice_bounds-rest-start :
    goal.write_and-slice_bounds-rest-start
write_and-slice_bounds-rest-start t c =
    let r = c.requires in
    let s = both _ _ _ _ _ _ _ r.first_byte r.writable r.sized in
    let row = sides.sides s c.known_size-left.ensures.sized c.reach-over.ensures in
    rows.second_start row c.write_condition-first.ensures.writes

pub write_and-write_condition-second-requires : goal.write_and-write_condition-second-requires
write_and-write_condition-second-requires t c =
    let r = c.requires in
    let s = both _ _ _ _ _ _ _ r.first_byte r.writable r.sized in
    let k = c.known_size-left.ensures.sized in
    let far = c.reach-over.ensures in
    let w = c.write_condition-first.ensures in (
      text_says.down (text_says.condition_opened _ _ _ r.writable.is) c.decreases,
      (
        sides.right_writable s k far w.writes,
        (sides.right_sized s k far w.writes, w.condition_sizes_after),
      ),
    )

pub write_and-returns-clause-writes : goal.write_and-returns-clause-writes
write_and-returns-clause-writes t c =
    let r = c.requires in
    let s = both _ _ _ _ _ _ _ r.first_byte r.writable r.sized in
    let row = sides.sides s c.known_size-left.ensures.sized c.reach-over.ensures in
    let w = c.write_condition-first.ensures.writes in
    let v = c.write_condition-second.ensures.writes in
    rows.wrote_all r.writable (rows.wrote (rows.counted row w v).ends (sides.all s) (rows.in_a_row row w v))

-- ---- Bc: no record, or the jump

-- by the size that was told of it
none : (t : Bool) (P : AssemblyCode) {n : ℕ} → n ≡ (if t then 1 else 0) → (n ≡ 1 → ⊥) → (if t then P else []) ≡ []
none true P e f = absurd (f e)
none false P e f = refl

some : (t : Bool) (P : AssemblyCode) {n : ℕ} → n ≡ (if t then 1 else 0) → n ≡ 1 → (if t then P else []) ≡ P
some true P e f = refl
some false P e f = absurd (omega arith)

no_size : (t : Bool) {n : ℕ} → n ≡ (if t then 1 else 0) → (n ≡ 1 → ⊥) → n ≡ 0
no_size true e f = absurd (f e)
no_size false e f = e

module _ (text : List ℕ) (at nest : ℕ) (flag : Bool) (distance : ℕ) {out : List ℕ}
    (q : Writable (jumping flag distance) distance (condition text nest at) out) (byte : get_or text at 0 ≡ 0x20) where
  -- whether its value is the flag
  abbrev equal : Bool
  equal = beq (eqb (get_or text (at + 1) 0) 1) flag

  value_code : jumping flag distance q.part ≡ (if equal then JMP (pos distance) ∷ [] else [])
  unfolding bcomp
  value_code = ap (jumping flag distance) (text_says.bc_at text nest at q.is byte).is

  module _ {n : ℕ} (size : n ≡ (if equal then 1 else 0)) where
    jump : n ≡ 1 → jumping flag distance q.part ≡ JMP (pos distance) ∷ []
    jump one_record = value_code ∙ some equal _ size one_record

    wrote_none : (n ≡ 1 → ⊥)
        → Writes (jumping flag distance) (condition text nest at) out out (record { next = at + 2; records = n })
    wrote_none no_record =
        let ends = (text_says.bc_at text nest at q.is byte).ends in
        rows.nothing q (value_code ∙ none equal _ size no_record) ends (no_size equal size no_record)

    wrote_jump : n ≡ 1 → {new : List ℕ} → new ≡ into (5 * 0) (0x44 ∷ bytes_of (to_z w32 distance)) out
        → Writes (jumping flag distance) (condition text nest at) out new (record { next = at + 2; records = n })
    unfolding first_byte operand
    wrote_jump one_record put =
        let is = jump one_record in
        let ends = (text_says.bc_at text nest at q.is byte).ends in
        let number = to_z_pos w32 {n = distance} (omega (arith, q.few)) in
        rows.leaf q (JMP (pos distance)) is ends one_record
        (one {index = 0} _ (rows.leaf_room q _ is) put refl number)

-- ---- Every condition

pub write_condition-bounds-text-here : goal.write_condition-bounds-text-here
write_condition-bounds-text-here t c =
    let q = nots.writable c.past_nots-bare.ensures.behind _ c.requires.writable in
    (text_says.condition_opened _ _ _ q.is).inside

pub write_condition-bounds-text-here-in-32 : goal.write_condition-bounds-text-here-in-32
write_condition-bounds-text-here-in-32 t c =
    let q = nots.writable c.past_nots-bare.ensures.behind _ c.requires.writable in
    omega (arith, (text_says.bc_at _ _ _ q.is c.in-32.is).inside)

pub write_condition-put_record-requires : goal.write_condition-put_record-requires
write_condition-put_record-requires t c =
    let text = c.args.text.now in
    let bare = c.past_nots-bare.result in
    let distance = c.args.distance in
    let q = nots.writable c.past_nots-bare.ensures.behind distance c.requires.writable in
    let size = c.value_size-records.ensures in
    let is = jump text bare.at bare.nest bare.flag distance q c.in-32.is size c.if-records-eq1.true in
    rows.leaf_room q _ is

pub write_condition-write_and-requires : goal.write_condition-write_and-requires
write_condition-write_and-requires t c =
    let behind = c.past_nots-bare.ensures.behind in
    let r = c.requires in (
      omega (arith, (behind _ _ r.writable.is).nest, c.decreases),
      (
        c.in-34.is,
        (
          nots.writable behind _ r.writable,
          (sized_behind behind r.writable.is r.sized, r.condition_sizes),
        ),
      ),
    )

pub write_condition-write_less-requires-clause-first_byte :
    goal.write_condition-write_less-requires-clause-first_byte
write_condition-write_less-requires-clause-first_byte t c =
    let q = nots.writable c.past_nots-bare.ensures.behind _ c.requires.writable in
    let bare = c.past_nots-bare.result in
    let no_bc : get_or c.args.text.now bare.at 0 ≡ 0x20 → ⊥ = λ e. omega (arith, e) in
    let no_and : get_or c.args.text.now bare.at 0 ≡ 0x22 → ⊥ = λ e. omega (arith, e) in
    text_says.last_condition c.args.text.now bare.nest bare.at q.is no_bc c.past_nots-bare.ensures.no_not no_and

pub write_condition-write_less-requires-clause-writable :
    goal.write_condition-write_less-requires-clause-writable
write_condition-write_less-requires-clause-writable t c =
    nots.writable c.past_nots-bare.ensures.behind _ c.requires.writable

pub write_condition-returns-after-records-eq1-clause-writes :
    goal.write_condition-returns-after-records-eq1-clause-writes
write_condition-returns-after-records-eq1-clause-writes t c =
    let text = c.args.text.now in
    let bare = c.past_nots-bare.result in
    let distance = c.args.distance in
    let old = c.args.out.now in
    let behind = c.past_nots-bare.ensures.behind in
    let q = nots.writable behind distance c.requires.writable in
    let size = c.value_size-records.ensures in
    let told : PartSize = record { next = bare.at + 2; records = c.value_size-records.result } in
    let wrote : List ℕ → Type 0 =
    λ new. Writes (jumping bare.flag distance) (condition text bare.nest bare.at) old new told in
    nots.writes behind distance
    (elim c.if-records-eq1.branch [
      | write_condition-then-records-eq1 w ↦ subst wrote (sym w.out-is)
          (wrote_jump text bare.at bare.nest bare.flag distance q c.in-32.is size w.if-records-eq1.true
          w.put_record.ensures)
      | write_condition-else-records-eq1 w ↦ subst wrote (sym w.out-is)
          (wrote_none text bare.at bare.nest bare.flag distance q c.in-32.is size w.if-records-eq1.false)
    ])

pub write_condition-returns-in-34-clause-writes : goal.write_condition-returns-in-34-clause-writes
write_condition-returns-in-34-clause-writes t c =
    nots.writes c.past_nots-bare.ensures.behind c.args.distance c.write_and.ensures.writes

pub write_condition-returns-in_default-clause-writes :
    goal.write_condition-returns-in_default-clause-writes
write_condition-returns-in_default-clause-writes t c =
    nots.writes c.past_nots-bare.ensures.behind c.args.distance c.write_less.ensures
