-- The tests of going back: the answer to which each of the code's tests leads, and what holds where the answer is n.
use mathlib.Core.Path.{◌≡◌, refl, sym, ap, ◌∙◌}
use mathlib.Core.Bool.{true, false}
use mathlib.Core.List.{List, [], ◌++◌, append-nil}
use Prim.Native.Nat.{ℕ, ◌+◌, ◌*◌, ◌%◌, ◌≤◌, ◌<◌}
use native.Mathlib.Omega.{arith}
use lib.Dec.{eqb, leb}
use lib.ListN.{length, get_or, drop, drop_of_length-le}
use borrow.Author.Tests.{eqb-true, leb-true, le-leb, lt-leb, eq-eqb, ne_eqb}
use Rattle.std.specs.Prelude as Std
use Rattle.std.specs.Prelude.{Result, Ok, Err, Some, None}
use Rattle.base.specs.Answers.{Answer, gives, refused, and_then}
use Rattle.base.specs.Code.{number_of, count_answer}
use Rattle.base.specs.declared.Refusal.{Refusal}
use Rattle.base.proofs.Settled.{unless_passed, needed, both}
use Rattle.record.specs.Records.{MachineCode}
use Rattle.record.specs.Bytes.{machine_kind, code_bytes, over, record_count, whole_records, records_of}
use Rattle.record_test.specs.Code.{kind_of, machine_numbers, Tested}
use Rattle.record_test.specs.declared.Kind.{Kind}
use Rattle.record.proofs.Tested.{records_length, records_at}
use Rattle.record_test.proofs.Testing.{tested_told, machine_same}
use Rattle.compile.specs.Calls.{go_back_tests}
use Rattle.compile.specs.Table.{named_in, is_table}
use Rattle.compile.proofs.Passing.{entries_most}
use Rattle.compile_table.specs.Tested.{tested}
use Rattle.compile_table.proofs.Tested.{table_found, none_found}
use Rattle.compile_translation.specs.Standing.{Stands}
use Rattle.compile_back.proofs.Read.{records_stand}

-- ---- The answer of each of the code's tests

-- Whole records, and a table of 64 bytes that passes and names n variables
pub record Tabled (code t : List ℕ) (n : ℕ) : Type 0 where
  pub is_whole : whole_records code ≡ true
  pub bytes : length t ≡ 64
  pub passes : is_table t ≡ true
  pub count : n ≡ named_in t

pub tabled : {code t : List ℕ} {n : ℕ} → whole_records code ≡ true → length t ≡ 64 → Some n ≡ tested t → Tabled code t n
tabled {t = t} whole long e =
    let both = table_found t (sym e) in
    record { is_whole = whole; bytes = long; passes = both.0; count = both.1 }

module _ (code t out : List ℕ) where
  -- n, or the refusal
  abbrev pub tests : Answer ℕ
  tests = and_then (go_back_tests code t out) (λ P. gives (named_in t))

  pub not_whole : whole_records code ≡ false → refused 9 0 ≡ tests
  unfolding go_back_tests and_then
  not_whole h = simp h

  pub no_bytes : whole_records code ≡ true → (length t ≡ 64 → ⊥) → refused 8 0 ≡ tests
  unfolding go_back_tests and_then
  no_bytes w h = simp (w, ne_eqb (length t) 64 h)

  pub no_table : whole_records code ≡ true → length t ≡ 64 → None ≡ tested t → refused 12 0 ≡ tests
  unfolding go_back_tests and_then
  no_table w long e = simp (w, eq-eqb (length t) 64 long, none_found t (sym e))

  module _ {n : ℕ} (x : Tabled code t n) where
    -- The test of the records
    found : {numbers : Kind} {first : Std.Option ℕ} → numbers ≡ machine_numbers n
        → Tested (kind_of numbers) code (record_count code) first
        → Tested (machine_kind (named_in t)) code (record_count code) first
    found {numbers} e f =
        tested_told numbers (machine_kind (named_in t)) (rw (e, x.count) (machine_same (named_in t))) code
        (record_count code) f

    pub mismatched : {numbers : Kind} {first : Std.Option ℕ} {place : ℕ} → numbers ≡ machine_numbers n
        → Tested (kind_of numbers) code (record_count code) first → first ≡ Some place → refused 10 place ≡ tests
    unfolding go_back_tests and_then
    mismatched {place} e f is =
        simp (x.is_whole, eq-eqb (length t) 64 x.bytes, x.passes, ((found e f).fails place is).1)

    module _ {numbers : Kind} {first : Std.Option ℕ} (e : numbers ≡ machine_numbers n)
        (f : Tested (kind_of numbers) code (record_count code) first) (is : first ≡ None) where
      -- the records, and their number
      given : (P : MachineCode) × (records_of (machine_kind (named_in t)) code ≡ gives P)
      given = (found e f).passes is

      size : length given.0 ≡ record_count code
      size = records_length (machine_kind (named_in t)) code 0 (record_count code) given.1

      pub no_room : length out < 5 * record_count code → refused 7 0 ≡ tests
      unfolding go_back_tests and_then
      no_room l =
          simp (
            x.is_whole,
            eq-eqb (length t) 64 x.bytes,
            x.passes,
            given.1,
            lt-leb (5 * length given.0) (length out) (omega (arith, size)),
          )

      pub accepts : 5 * record_count code ≤ length out → gives n ≡ tests
      unfolding go_back_tests and_then
      accepts l =
          ap gives x.count
          ∙ simp (
            x.is_whole,
            eq-eqb (length t) 64 x.bytes,
            x.passes,
            given.1,
            le-leb (5 * length given.0) (length out) (omega (arith, size)),
          )

-- A refusal is the tests' refusal.
pub tests_refuse : (code t out : List ℕ) {r : Result ℕ Refusal} {x : Refusal} → count_answer r ≡ tests code t out
    → r ≡ Err x
    → go_back_tests code t out ≡ refused (number_of x.reason) x.place
unfolding and_then
tests_refuse code t out {r} {x} e is = by (go_back_tests code t out) (sym e ∙ ap count_answer is)
  where
    by : (a : Answer MachineCode) → and_then a (λ P. gives (named_in t)) ≡ refused (number_of x.reason) x.place
        → a ≡ refused (number_of x.reason) x.place
    by (gives P) e = let no : ◌≡◌ {A = ℕ} 0 1 = cc in absurd (omega arith)
    by (refused _ _) e = cc

-- ---- What holds where the answer is n

pub record Passed (code t out : List ℕ) (n : ℕ) : Type 0 where
  pub records : MachineCode
  pub given : go_back_tests code t out ≡ gives records
  pub bytes : length t ≡ 64
  pub few : n ≤ 64
  pub entries : (v : ℕ) → get_or t v 0 < 65
  pub size : length records ≡ record_count code
  pub whole_size : length code ≡ 5 * record_count code
  pub room : length code ≤ length out
  pub read : records_of (machine_kind n) code ≡ gives records

pub passed : (code t out : List ℕ) {r : Result ℕ Refusal} {n : ℕ} → count_answer r ≡ tests code t out → r ≡ Ok n
    → Passed code t out n
unfolding go_back_tests
passed code t out {r} {n} e is =
    let x = needed (go_back_tests code t out) (λ P. gives (named_in t)) (sym e ∙ ap count_answer is) in
    let same : named_in t ≡ n = cc x.then_gives in
    let w = unless_passed (whole_records code) 9 0 _ x.given in
    let long = unless_passed (eqb (length t) 64) 8 0 _ w.1 in
    let table = unless_passed (is_table t) 12 0 _ long.1 in
    let y = needed (records_of (machine_kind (named_in t)) code) _ table.1 in
    let fits = unless_passed (leb (5 * length y.value) (length out)) 7 0 _ y.then_gives in
    let P_is : y.value ≡ x.value = cc fits.1 in
    let count : length x.value ≡ record_count code =
    ap length (sym P_is) ∙ records_length (machine_kind (named_in t)) code 0 (record_count code) y.given in
    let is_whole : length code % 5 ≡ 0 =
    eqb-true (length code % 5) 0 (both (eqb (length code % 5) 0) (leb (record_count code) 4096) w.0).0 in
    let bytes : length t ≡ 64 = eqb-true (length t) 64 long.0 in
    let room : 5 * length y.value ≤ length out = leb-true _ _ fits.0 in
    record {
      records = x.value;
      given = x.given;
      bytes = bytes;
      few = omega arith;
      entries = λ v. omega (arith, entries_most t table.0 v);
      size = count;
      whole_size = omega arith;
      room = omega (arith, ap length P_is);
      read = ap (λ (m : ℕ). records_of (machine_kind m) code) (sym same) ∙ y.given ∙ ap gives P_is;
    }

-- A copy of the code is its records, over what the output held.
pub copied : {code t out : List ℕ} {n : ℕ} (p : Passed code t out n) → ((i : ℕ) → get_or code i 0 < 256)
    → Stands (machine_kind n) p.records out (record_count code) (over code out)
copied {code} {t} {out} {n} p bytes =
    let P : MachineCode = p.records in
    let there =
    records_stand (machine_kind n) (λ u. refl) code bytes P 0 (omega (arith, p.size, p.whole_size))
    (λ j l. records_at (machine_kind n) code 0 (record_count code) p.read j (omega (arith, p.size))) in
    let none_left : drop (5 * (0 + length P)) code ≡ [] =
    drop_of_length-le code {i = 5 * (0 + length P)} (omega (arith, p.size, p.whole_size)) in
    let all : code ≡ code_bytes (machine_kind n) P =
    there.0 ∙ ap (λ l. code_bytes (machine_kind n) P ++ l) none_left ∙ append-nil (code_bytes (machine_kind n) P) in
    record { stand = ap (λ l. over l out) all; fit = there.1; all = p.size }
