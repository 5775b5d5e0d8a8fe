-- The calls where their tests pass: what the tests give, and what each call then gives and leaves; and the other way,
-- what was found where the tests gave a command. The tests are true one after the other; what reading gives is within
-- the limits of texts.
use mathlib.Core.Path.{◌≡◌, sym, ◌∙◌, ap, ap₂}
use mathlib.Core.Bool.{true}
use Prim.Native.Nat.{ℕ, ◌*◌, ◌≤◌}
use native.Mathlib.Omega.{arith}
use mathlib.Core.List.{List}
use lib.Dec.{eqb, leb}
use lib.ListN.{length, take, drop, length-map}
use lib.Seq.{take_at}
use borrow.Author.Tests.{eq-eqb, le-leb, leb-true}
use Rattle.base.specs.Answers.{Answer, gives, unless◌refuse◌at◌else◌, and_then, settle}
use Rattle.base.proofs.Answers.{gives_one}
use Rattle.base.proofs.Settled.{unless_passed, needed, gave}
use Rattle.text.specs.Syntax.{Command}
use Rattle.text.specs.Encoding.{Bytes, Valid}
use Rattle.text.specs.Reading.{read_text}
use Rattle.text.specs.Sizes.{records, cells, sizes}
use Rattle.text.specs.declared.Sizes.{Sizes}
use Rattle.text.proofs.Accepted.{accepted}
use Rattle.text.proofs.Limits.{short}
use Rattle.record.specs.Records.{MachineCode}
use Rattle.record.specs.Bytes.{assembly_kind, machine_kind, code_bytes, over, whole_records, records_of}
use Rattle.record.proofs.Bytes.{five_bytes, length_over}
use Rattle.compile.specs.Calls.{assemble_tests, assemble, compile_tests, machine_bytes, Compiled, compile}
use Rattle.compile.specs.Calls.{go_back_tests, go_back}
use Rattle.compile.specs.Compilation.{ccomp}
use Rattle.compile.specs.Table.{to_m_prog, table, named_in, is_table, to_assembly}
use Rattle.compile.proofs.Sizes.{record_count}

-- A text that is read is a valid command of at most 4,096 records.
pub read_fits : (text : List ℕ) → Bytes text → {c : Command} → read_text text ≡ gives c
    → Valid c × (records c ≤ 4096)
read_fits text bytes {c} e =
    let within = ((accepted text bytes c).0 e).0 in
    (within.valid, omega (arith, short c, within.short))

-- ---- assemble

pub assemble_gives : (text out : List ℕ) {c : Command} → read_text text ≡ gives c → 5 * records c ≤ length out
    → assemble_tests text out ≡ gives c
unfolding assemble_tests and_then
assemble_gives text out {c} e room = simp (e, le-leb (5 * records c) (length out) room)

pub assembled : (text out : List ℕ) {c : Command} → read_text text ≡ gives c → 5 * records c ≤ length out
    → assemble text out ≡ (gives (sizes c), over (code_bytes assembly_kind (ccomp c)) out)
unfolding assemble settle
assembled text out e room = simp (assemble_gives text out e room)

-- There is room for the records of what was read, if the last test, of the output's length, gave it.
room_passed : (out : List ℕ) {c d : Command} → (unless leb (5 * records d) (length out) refuse 7 at 0 else gives d)
    ≡ gives c
    → (gives d ≡ gives c) × (5 * records c ≤ length out)
room_passed out {c} {d} e =
    let u = unless_passed (leb (5 * records d) (length out)) 7 0 (gives d) e in
    (u.1, rw (gives_one d c u.1) at (leb-true (5 * records d) (length out) u.0))

pub assemble_passed : (text out : List ℕ) {c : Command} → assemble_tests text out ≡ gives c
    → (read_text text ≡ gives c) × (5 * records c ≤ length out)
unfolding assemble_tests
assemble_passed text out e =
    let n = needed (read_text text) _ e in
    let u = room_passed out n.then_gives in
    (n.given ∙ u.0, u.1)

-- ---- compile

pub compile_gives : (text code t : List ℕ) {c : Command} → read_text text ≡ gives c → length t ≡ 64
    → 5 * records c ≤ length code → compile_tests text code t ≡ gives c
unfolding compile_tests and_then
compile_gives text code t {c} e long room =
    simp (e, eq-eqb (length t) 64 long, le-leb (5 * records c) (length code) room)

pub compiled : (text : List ℕ) (lent : Compiled) {c : Command} → read_text text ≡ gives c → length lent.table ≡ 64
    → 5 * records c ≤ length lent.code
    → compile text lent
    ≡ (gives (sizes c), record { code = over (machine_bytes c) lent.code; table = table (ccomp c) })
unfolding compile settle
compiled text lent e long room = simp (compile_gives text lent.code lent.table e long room)

pub compile_passed : (text code t : List ℕ) {c : Command} → compile_tests text code t ≡ gives c
    → (read_text text ≡ gives c) × (5 * records c ≤ length code)
unfolding compile_tests
compile_passed text code t e =
    let n = needed (read_text text) _ e in
    let u = room_passed code (unless_passed (eqb (length t) 64) 8 0 _ n.then_gives).1 in
    (n.given ∙ u.0, u.1)

-- The machine code is as many records as reading says, of five bytes,
pub machine_count : (c : Command) → length (to_m_prog (ccomp c)) ≡ records c
machine_count c = length-map (ccomp c) _ ∙ record_count c

pub machine_length : (c : Command) → length (machine_bytes c) ≡ 5 * records c
machine_length c =
    five_bytes _ (machine_kind (cells c)) (to_m_prog (ccomp c)) ∙ ap (λ n. 5 * n) (machine_count c)

-- and what is written over a buffer stands at its start.
pub taken_over : (new old : List ℕ) (n : ℕ) → length new ≡ n → take n (over new old) ≡ new
taken_over new old n e = take_at new (drop (length new) old) n e

-- What `compile` gave and left, by the command that was read
pub record Wrote (text : List ℕ) (left : Compiled) (z : Sizes) : Type 0 where
  pub command : Command
  pub reads : read_text text ≡ gives command
  pub sizes_are : z ≡ sizes command
  pub code_is : take (5 * z.records) left.code ≡ machine_bytes command
  pub table_is : left.table ≡ table (ccomp command)

pub wrote : (text : List ℕ) (lent left : Compiled) (z : Sizes) → compile text lent ≡ (gives z, left)
    → Wrote text left z
unfolding compile
wrote text lent left z e =
    let g = gave (compile_tests text lent.code lent.table) sizes _ lent (sym e) in
    let c : Command = g.value in
    let size : 5 * z.records ≡ 5 * records c = ap (λ (z : Sizes). 5 * z.records) g.tells in
    record {
      command = c;
      reads = (compile_passed text lent.code lent.table g.passed).0;
      sizes_are = g.tells;
      code_is = ap₂ (λ (k : ℕ) (l : Compiled). take k l.code) size g.leaves
          ∙ taken_over (machine_bytes c) lent.code (5 * records c) (machine_length c);
      table_is = ap (λ (l : Compiled). l.table) g.leaves;
    }

-- ---- What was written is within the output as it is left

pub assembly_length : (c : Command) → length (code_bytes assembly_kind (ccomp c)) ≡ 5 * records c
assembly_length c = five_bytes _ assembly_kind (ccomp c) ∙ ap (λ n. 5 * n) (record_count c)

over_room : (new old now : List ℕ) (n : ℕ) → length new ≡ n → n ≤ length old → now ≡ over new old → n ≤ length now
over_room new old now n e room f =
    omega (arith, room, ap (λ (l : List ℕ). length l) f, length_over new old (omega arith))

pub assemble_room : (text out : List ℕ) {out' : List ℕ} {x : Answer Sizes} {z : Sizes} → (x, out') ≡ assemble text out
    → x ≡ gives z → 5 * z.records ≤ length out'
unfolding assemble
assemble_room text out {out' = out'} e f =
    let g = gave (assemble_tests text out) sizes _ _ ((λ i. (sym f i, out')) ∙ e) in
    let c = g.value in
    let left =
    over_room (code_bytes assembly_kind (ccomp c)) out out' (5 * records c) (assembly_length c)
    (assemble_passed text out g.passed).1 g.leaves in
    omega (arith, left, ap (λ (z : Sizes). z.records) g.tells)

pub compile_room : (text : List ℕ) (l : Compiled) {l' : Compiled} {x : Answer Sizes} {z : Sizes}
    → (x, l') ≡ compile text l → x ≡ gives z → 5 * z.records ≤ length l'.code
unfolding compile
compile_room text l {l' = l'} e f =
    let g = gave (compile_tests text l.code l.table) sizes _ _ ((λ i. (sym f i, l')) ∙ e) in
    let c = g.value in
    let left =
    over_room (machine_bytes c) l.code l'.code (5 * records c) (machine_length c)
    (compile_passed text l.code l.table g.passed).1 (ap (λ (l : Compiled). l.code) g.leaves) in
    omega (arith, left, ap (λ (z : Sizes). z.records) g.tells)

-- ---- go_back

pub go_back_gives : (code t out : List ℕ) {P : MachineCode} → whole_records code ≡ true → length t ≡ 64 → is_table t
    ≡ true
    → records_of (machine_kind (named_in t)) code ≡ gives P → 5 * length P ≤ length out
    → go_back_tests code t out ≡ gives P
unfolding go_back_tests and_then
go_back_gives code t out {P} w long passes e room =
    simp (w, eq-eqb (length t) 64 long, passes, e, le-leb (5 * length P) (length out) room)

pub gone_back : (code t out : List ℕ) {P : MachineCode} → go_back_tests code t out ≡ gives P
    → go_back code t out ≡ (gives (length P), over (code_bytes assembly_kind (to_assembly t P)) out)
unfolding go_back settle
gone_back code t out e = simp e
