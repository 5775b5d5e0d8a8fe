-- Parts that are written front to back: a leaf's record, one part with a record behind it, and two parts in a row with
-- more records behind them. Each part's writer is lent the rest; where the part before it ended is where it is read and
-- where its records stand.
use mathlib.Core.Path.{◌≡◌, refl, sym, ap, ◌∙◌}
use mathlib.Core.List.{List, [], ◌∷◌, ◌++◌}
use Prim.Native.Nat.{ℕ, ◌+◌, ◌*◌, ◌≤◌, ◌<◌}
use native.Mathlib.Omega.{arith}
use lib.ListN.{length, length-append}
use Rattle.base.specs.Acts.{Outcome, ok}
use Rattle.base.specs.Answers.{Refusal}
use Rattle.text.specs.Reading.{Reader}
use Rattle.text.proofs.Opened.{Two}
use Rattle.record.specs.Records.{Record, AssemblyCode}
use Rattle.record.specs.Bytes.{assembly_kind, code_bytes}
use Rattle.record.specs.declared.Variable.{Variable}
use Rattle.record.proofs.Filling.{Filled, rest, back, rest_size, kept, at_start, from_start, none, behind, after}
use Rattle.compile_sizes.specs.declared.PartSize.{PartSize}
use Rattle.compile_conditions.specs.Parts.{Writable, Wrote, Writes}

-- ---- One part

-- What was written of the part that was asked for was written of every part that is read there.
pub wrote_all : {A : Type 0} {code : A → AssemblyCode} {distance : ℕ} {read : Outcome ℕ Refusal A} {old new : List ℕ}
    (q : Writable code distance read old) {told : PartSize} → Wrote (code q.part) q.next old new told
    → Writes code read old new told
wrote_all {code = code} {old = old} {new = new} q {told} w a n e =
    let h = q.is in
    let part : q.part ≡ a = cc in
    let next : q.next ≡ n = cc in
    rw (sym part, sym next) w

-- Records that stand at the start of a buffer were written.
pub wrote : {P : AssemblyCode} {n : ℕ} {old new : List ℕ} {told : PartSize} → told.next ≡ n → told.records ≡ length P
    → Filled assembly_kind 0 P old new → Wrote P n old new told
wrote e f w = record { next = e; records = f; holds = from_start w }

-- What was written stands at the start of the buffer.
pub stands : {P : AssemblyCode} {n : ℕ} {old new : List ℕ} {told : PartSize} → 5 * length P ≤ length old
    → Wrote P n old new told → Filled assembly_kind 0 P old new
stands h w = at_start h w.holds

-- A part with no records
pub nothing : {A : Type 0} {code : A → AssemblyCode} {distance : ℕ} {read : Outcome ℕ Refusal A} {old : List ℕ}
    (q : Writable code distance read old) {told : PartSize} → code q.part ≡ [] → told.next ≡ q.next
    → told.records ≡ 0 → Writes code read old old told
unfolding code_bytes
nothing q e f g = wrote_all q (rw e (record { next = f; records = g; holds = refl }))

-- A part of one record, r
module _ {A : Type 0} {code : A → AssemblyCode} {distance : ℕ} {read : Outcome ℕ Refusal A} {old : List ℕ}
    (q : Writable code distance read old) (r : Record Variable) (e : code q.part ≡ r ∷ []) where
  pub leaf_room : 5 ≤ length old
  leaf_room = omega (arith, q.room, ap length e)

  pub leaf : {new : List ℕ} {told : PartSize} → told.next ≡ q.next → told.records ≡ 1
      → Filled assembly_kind 0 (r ∷ []) old new → Writes code read old new told
  leaf f g w = wrote_all q (rw e (wrote f g w))

-- A part that is read from i up to n, in front of the records R; T are the records of the whole
pub record Led {A : Type 0} (r : Reader A) (P : A → AssemblyCode) (R T : AssemblyCode) (i n : ℕ) (old : List ℕ) : Type 0
  where
    pub part : A
    pub read : r i ≡ ok part n
    pub is : T ≡ P part ++ R
    pub room : 5 * length T ≤ length old
    pub few : length T < 2147483648

module _ {A : Type 0} {r : Reader A} {P : A → AssemblyCode} {R T : AssemblyCode} {i n : ℕ} {old : List ℕ}
    (l : Led r P R T i n old) where
  led_sizes : length T ≡ length (P l.part) + length R
  led_sizes = ap length l.is ∙ length-append (P l.part) R

  pub part_writable : Writable P 0 (r i) old
  part_writable = record {
    part = l.part;
    next = n;
    is = l.read;
    room = omega (arith, led_sizes, l.room);
    few = omega (arith, led_sizes, l.few);
  }

  -- The part was written
  module _ {xs : List ℕ} {t : PartSize} (w : Writes P (r i) old xs t) where
    part_wrote : Wrote (P l.part) n old xs t
    part_wrote = w l.part n l.read

    part_stands : Filled assembly_kind 0 (P l.part) old xs
    part_stands = stands (omega (arith, led_sizes, l.room)) part_wrote

    pub part_ends : t.next ≡ n
    part_ends = part_wrote.next

    pub with_rest : t.records + length R ≡ length T
    with_rest = omega (arith, led_sizes, part_wrote.records)

    pub with_rest_few : t.records + length R < 2147483648
    with_rest_few = omega (arith, with_rest, l.few)

    -- R has room, and where it was written, the whole was.
    pub rest_room : 5 * t.records + 5 * length R ≤ length xs
    rest_room = omega (arith, with_rest, l.room, kept part_stands)

    pub rest_written : {zs : List ℕ} → Filled assembly_kind t.records R xs zs → Filled assembly_kind 0 T old zs
    rest_written v = rw l.is (after (omega (arith, part_wrote.records)) part_stands v)

-- ---- Two parts in a row

-- The two parts, read from i up to n, and what is asked of the records T of the whole: these are the first part's, the
-- second's, and R
pub record Row {A B C : Type 0} (r : Reader A) (s : Reader B) (f : A → B → C) (c : C) (P : A → AssemblyCode)
    (Q : B → AssemblyCode) (R T : AssemblyCode) (i n : ℕ) (old : List ℕ) : Type 0 where
  pub parts : Two (r i) s f c n
  pub is : T ≡ P parts.one ++ (Q parts.two ++ R)
  pub room : 5 * length T ≤ length old
  pub few : length T < 2147483648

module _ {A B C : Type 0} {r : Reader A} {s : Reader B} {f : A → B → C} {c : C} {P : A → AssemblyCode}
    {Q : B → AssemblyCode} {R T : AssemblyCode} {i n : ℕ} {old : List ℕ} (row : Row r s f c P Q R T i n old) where
  sizes : length T ≡ length (P row.parts.one) + (length (Q row.parts.two) + length R)
  sizes = ap length row.is ∙ simp length-append

  -- a first part that jumps, and one that does not
  pub first_jumping : (distance : ℕ) → distance + length (P row.parts.one) < 2147483648
      → Writable P distance (r i) old
  first_jumping distance near = record {
    part = row.parts.one;
    next = row.parts.middle;
    is = row.parts.first;
    room = omega (arith, sizes, row.room);
    few = near;
  }

  pub first_writable : Writable P 0 (r i) old
  first_writable = first_jumping 0 (omega (arith, sizes, row.few))

  -- What both parts and R come to
  pub record Counted (t u : PartSize) : Type 0 where
    pub ends : u.next ≡ n
    pub all : t.records + u.records + length R ≡ length T
    pub few : t.records + u.records + length R < 2147483648

  -- The first part was written
  module _ {xs : List ℕ} {t : PartSize} (w : Writes P (r i) old xs t) where
    first_wrote : Wrote (P row.parts.one) row.parts.middle old xs t
    first_wrote = w row.parts.one row.parts.middle row.parts.first

    first_stands : Filled assembly_kind 0 (P row.parts.one) old xs
    first_stands = stands (omega (arith, sizes, row.room)) first_wrote

    pub first_few : t.records < 2147483648
    first_few = omega (arith, first_wrote.records, sizes, row.few)

    pub second_start : 5 * t.records ≤ length xs
    second_start = omega (arith, first_wrote.records, kept first_stands, sizes, row.room)

    second_room : 5 * length (Q row.parts.two) ≤ length (rest t.records xs)
    second_room =
        omega (arith, rest_size t.records xs, first_wrote.records, kept first_stands, sizes, row.room)

    pub second_read : s t.next ≡ ok row.parts.two n
    second_read = rw first_wrote.next row.parts.second

    -- a second part that jumps, and one that does not
    pub second_jumping : (distance : ℕ) → distance + length (Q row.parts.two) < 2147483648
        → Writable Q distance (s t.next) (rest t.records xs)
    second_jumping distance near =
        record { part = row.parts.two; next = n; is = second_read; room = second_room; few = near }

    pub second_writable : Writable Q 0 (s t.next) (rest t.records xs)
    second_writable = second_jumping 0 (omega (arith, sizes, row.few))

    -- The second was written
    module _ {ys : List ℕ} {u : PartSize} (v : Writes Q (s t.next) (rest t.records xs) ys u) where
      second_wrote : Wrote (Q row.parts.two) n (rest t.records xs) ys u
      second_wrote = v row.parts.two n second_read

      second_stands : Filled assembly_kind t.records (Q row.parts.two) xs (back t.records xs ys)
      second_stands = behind second_start (stands second_room second_wrote)

      count : t.records + u.records + length R ≡ length T
      count = omega (arith, first_wrote.records, second_wrote.records, sizes)

      pub counted : Counted t u
      counted = record { ends = second_wrote.next; all = count; few = omega (arith, count, row.few) }

      -- R has room,
      pub last_room : 5 * (t.records + u.records) + 5 * length R ≤ length (back t.records xs ys)
      last_room = omega (arith, count, row.room, kept first_stands, kept second_stands)

      -- and where R was written, the whole was.
      pub with_last : {zs : List ℕ} → Filled assembly_kind (t.records + u.records) R (back t.records xs ys) zs
          → Filled assembly_kind 0 T old zs
      with_last w' =
          let both = after (omega (arith, second_wrote.records)) second_stands w' in
          let all = after (omega (arith, first_wrote.records)) first_stands both in
          rw row.is all

-- Two parts with nothing behind them stand in a row when both are written.
pub in_a_row : {A B C : Type 0} {r : Reader A} {s : Reader B} {f : A → B → C} {c : C} {P : A → AssemblyCode}
    {Q : B → AssemblyCode} {T : AssemblyCode} {i n : ℕ} {old xs ys : List ℕ} {t u : PartSize}
    (row : Row r s f c P Q [] T i n old) → Writes P (r i) old xs t
    → Writes Q (s t.next) (rest t.records xs) ys u → Filled assembly_kind 0 T old (back t.records xs ys)
in_a_row row w v = with_last row w v (none (omega (arith, last_room row w v)))
