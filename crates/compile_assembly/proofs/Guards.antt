-- IF and WHILE: a condition, a command behind it, and more records behind the command, over which and whose first jump
-- the condition leads. The command is written where it will stand, then the others, then the condition.
use mathlib.Core.Path.{◌≡◌, refl, ap, ◌∙◌}
use mathlib.Core.Bool.{false}
use mathlib.Core.List.{List, [], ◌∷◌, ◌++◌}
use Prim.Native.Nat.{ℕ, suc, ◌+◌, ◌*◌, ◌≤◌, ◌<◌}
use native.Mathlib.Omega.{arith}
use lib.IntN.{ℤ, pos, negsuc}
use lib.ListN.{length, length-append}
use Rattle.base.specs.Acts.{ok}
use Rattle.word.specs.Numbers.{bytes_of}
use Rattle.text.specs.Syntax.{Condition, Command, IF◌THEN◌ELSE◌, WHILE◌DO◌}
use Rattle.text.specs.Reading.{Reader}
use Rattle.text.proofs.Opened.{Two, Three}
use Rattle.record.specs.Records.{Record, AssemblyCode, JMP}
use Rattle.record.specs.Bytes.{assembly_kind, first_byte, operand}
use Rattle.record.specs.Buffer.{into}
use Rattle.record.specs.declared.Variable.{Variable}
use Rattle.compile.specs.Compilation.{ccomp}
use Rattle.compile.proofs.Sizes.{condition_count}
use Rattle.record.proofs.Filling.{Filled, rest, back, rest_size, kept, one, behind, after, before}
use Rattle.compile_sizes.specs.Parts.{Counts}
use Rattle.compile_sizes.specs.declared.PartSize.{PartSize}
use Rattle.compile_sizes.proofs.Counting.{size}
use Rattle.compile_conditions.specs.Parts.{jumping, Writable, Wrote, Writes}
use Rattle.compile_conditions.proofs.Rows.{stands}
use Rattle.compile_conditions.proofs.Fronts.{Front, others_room, start}

-- A condition and a command that are read in a row, from i up to j; T are their records and then R
pub record Guard (r : Reader Condition) (s : Reader Command) (test : Condition) (body : Command) (R T : AssemblyCode)
    (i j : ℕ) (old : List ℕ) : Type 0 where
  pub middle : ℕ
  pub read_test : r i ≡ ok test middle
  pub read_body : s middle ≡ ok body j
  pub is : T ≡ jumping false (suc (length (ccomp body))) test ++ (ccomp body ++ R)
  pub more : 1 ≤ length R
  pub room : 5 * length T ≤ length old
  pub few : length T < 2147483648

module _ {r : Reader Condition} {s : Reader Command} {test : Condition} {body : Command} {R T : AssemblyCode}
    {i j : ℕ} {old : List ℕ} (g : Guard r s test body R T i j old) where
  sizes : length T ≡ size false test + (length (ccomp body) + length R)
  sizes =
      let far = suc (length (ccomp body)) in
      ap length g.is
      ∙ length-append (jumping false far test) (ccomp body ++ R)
      ∙ (λ k. condition_count test false (pos far) k + length-append (ccomp body) R k)

  -- The condition in front, as far as it is told to jump
  front_over : (distance : ℕ) → distance ≡ suc (length (ccomp body)) → Front r distance (ccomp body ++ R) T i old
  front_over distance e = record {
    test = test;
    middle = g.middle;
    read = g.read_test;
    is = rw e g.is;
    room = g.room;
    few = g.few;
    near = omega (arith, sizes, g.few, g.more);
  }

  pub front : Front r (suc (length (ccomp body))) (ccomp body ++ R) T i old
  front = front_over (suc (length (ccomp body))) refl

  -- The condition was measured
  module _ {t : PartSize} (m : Counts (size false) (r i) t) where
    body_read : s t.next ≡ ok body j
    body_read = rw (m test g.middle g.read_test).0 g.read_body

    test_records : t.records ≡ size false test
    test_records = (m test g.middle g.read_test).1

    body_room : 5 * length (ccomp body) ≤ length (rest t.records old)
    body_room = omega (arith, others_room front m, length-append (ccomp body) R)

    pub body_writable : Writable ccomp 0 (s t.next) (rest t.records old)
    body_writable =
        record { part = body; next = j; is = body_read; room = body_room; few = omega (arith, sizes, g.few) }

    -- The command was written
    module _ {xs : List ℕ} {u : PartSize} (w : Writes ccomp (s t.next) (rest t.records old) xs u) where
      body_wrote : Wrote (ccomp body) j (rest t.records old) xs u
      body_wrote = w body j body_read

      body_stands : Filled assembly_kind t.records (ccomp body) old (back t.records old xs)
      body_stands = behind (start front m) (stands body_room body_wrote)

      pub body_ends : u.next ≡ j
      body_ends = body_wrote.next

      pub all : t.records + u.records + length R ≡ length T
      all = omega (arith, test_records, body_wrote.records, sizes)

      pub all_few : t.records + u.records + length R < 2147483648
      all_few = omega (arith, all, g.few)

      pub more_room : 5 * (t.records + u.records) + 5 * length R ≤ length (back t.records old xs)
      more_room = omega (arith, all, g.room, kept body_stands)

      pub with_more : {ys : List ℕ} → Filled assembly_kind (t.records + u.records) R (back t.records old xs) ys
          → Filled assembly_kind t.records (ccomp body ++ R) old ys
      with_more v = after (omega (arith, body_wrote.records)) body_stands v

      -- Where the jump behind the command stands
      pub jump_index : t.records + u.records
          ≡ length (jumping false (suc (length (ccomp body))) test) + length (ccomp body)
      jump_index =
          let size = condition_count test false (pos (suc (length (ccomp body)))) in
          omega (arith, test_records, size, body_wrote.records)

      -- The condition, as far as it is told to jump
      pub front_told : Front r (u.records + 1) (ccomp body ++ R) T i old
      front_told = front_over (u.records + 1) (omega (arith, body_wrote.records))

-- ---- WHILE: behind the body the jump back, over the body, the condition and the jump itself

abbrev pub jump_back : Condition → Command → Record Variable
jump_back b c = JMP (negsuc (length (jumping false (suc (length (ccomp c))) b) + length (ccomp c)))

module _ {r : Reader Condition} {s : Reader Command} {test : Condition} {body : Command} {T : AssemblyCode} {i j : ℕ}
    {old : List ℕ} (g : Guard r s test body (jump_back test body ∷ []) T i j old) {t : PartSize}
    (m : Counts (size false) (r i) t) {xs : List ℕ} {u : PartSize}
    (w : Writes ccomp (s t.next) (rest t.records old) xs u) where
  -- The jump was written, behind the body.
  pub with_jump_back : {ys : List ℕ} {z : ℤ}
      → ys ≡ into (5 * (t.records + u.records)) (0x44 ∷ bytes_of z) (back t.records old xs)
      → z ≡ negsuc (t.records + u.records)
      → Filled assembly_kind t.records (ccomp body ++ (jump_back test body ∷ [])) old ys
  unfolding first_byte operand
  with_jump_back e f =
      with_more g m w (one (jump_back test body) (more_room g m w) e refl (f ∙ ap negsuc (jump_index g m w)))

pub loop : {r : Reader Condition} {s : Reader Command} {i n : ℕ} {c : Command} {old : List ℕ}
    (p : Two (r i) s WHILE◌DO◌ c n) → 5 * length (ccomp c) ≤ length old → length (ccomp c) < 2147483648
    → Guard r s p.one p.two (jump_back p.one p.two ∷ []) (ccomp c) i n old
unfolding ccomp
loop p h f = record {
  middle = p.middle;
  read_test = p.first;
  read_body = p.second;
  is = ap ccomp p.is;
  more = omega arith;
  room = h;
  few = f;
}

-- ---- IF: behind the first branch the jump over the second, and the second

abbrev pub jump_over : Command → Record Variable
jump_over d = JMP (pos (length (ccomp d)))

pub choice : {r : Reader Condition} {s : Reader Command} {i n : ℕ} {c : Command} {old : List ℕ}
    (p : Three (r i) s s IF◌THEN◌ELSE◌ c n) → 5 * length (ccomp c) ≤ length old → length (ccomp c) < 2147483648
    → let d = p.others.two in
    Guard r s p.one p.others.one (jump_over d ∷ ccomp d) (ccomp c) i p.others.middle old
unfolding ccomp
choice p h f = record {
  middle = p.end;
  read_test = p.first;
  read_body = p.others.first;
  is = ap ccomp p.others.is;
  more = omega arith;
  room = h;
  few = f;
}

module _ {r : Reader Condition} {s : Reader Command} {test : Condition} {body d : Command} {T : AssemblyCode}
    {i j n : ℕ} {old : List ℕ} (g : Guard r s test body (jump_over d ∷ ccomp d) T i j old) (read : s j ≡ ok d n)
    {t : PartSize} (m : Counts (size false) (r i) t) {xs : List ℕ} {u : PartSize}
    (w : Writes ccomp (s t.next) (rest t.records old) xs u) where
  -- the buffer with the first branch in it, and the place behind the jump
  abbrev half : List ℕ
  half = back t.records old xs

  abbrev place : ℕ
  place = t.records + u.records + 1

  pub no_start : 5 * place ≤ length half
  no_start = omega (arith, more_room g m w)

  no_read : s u.next ≡ ok d n
  no_read = rw (body_ends g m w) read

  no_room : 5 * length (ccomp d) ≤ length (rest place half)
  no_room = omega (arith, more_room g m w, rest_size place half)

  pub no_writable : Writable ccomp 0 (s u.next) (rest place half)
  no_writable =
      record { part = d; next = n; is = no_read; room = no_room; few = omega (arith, all_few g m w) }

  -- The second branch was written
  module _ {ys : List ℕ} {o : PartSize} (v : Writes ccomp (s u.next) (rest place half) ys o) where
    no_wrote : Wrote (ccomp d) n (rest place half) ys o
    no_wrote = v d n no_read

    no_stands : Filled assembly_kind place (ccomp d) half (back place half ys)
    no_stands = behind no_start (stands no_room no_wrote)

    pub no_ends : o.next ≡ n
    no_ends = no_wrote.next

    no_records : o.records ≡ length (ccomp d)
    no_records = no_wrote.records

    pub choice_all : place + o.records ≡ length T
    choice_all = omega (arith, all g m w, no_records)

    pub choice_few : place + o.records < 2147483648
    choice_few = omega (arith, choice_all, g.few)

    pub gap_room : 5 * (t.records + u.records) + 5 ≤ length (back place half ys)
    gap_room = omega (arith, more_room g m w, kept no_stands)

    -- and the jump in front of it.
    pub with_jump : {zs : List ℕ} {z : ℤ}
        → zs ≡ into (5 * (t.records + u.records)) (0x44 ∷ bytes_of z) (back place half ys) → z ≡ pos o.records
        → Filled assembly_kind t.records (ccomp body ++ (jump_over d ∷ ccomp d)) old zs
    unfolding first_byte operand
    with_jump e f =
        with_more g m w
        (before refl no_stands (one (jump_over d) gap_room e refl (f ∙ ap pos no_records)))
