-- The tests of `run_paired`: the answer to which each of the code's tests leads.
use mathlib.Core.Path.{◌≡◌, sym, ap, ◌∙◌}
use Prim.Native.Nat.{ℕ, ◌≤◌, ◌<◌}
use mathlib.Core.Bool.{true, false}
use mathlib.Core.List.{List}
use lib.ListN.{length}
use borrow.Author.Tests.{le-leb, lt-leb}
use Rattle.std.specs.Prelude.{Result, Ok, Err}
use Rattle.base.specs.Answers.{Answer, gives, refused, and_then}
use Rattle.base.specs.Code.{number_of, count_answer}
use Rattle.base.specs.declared.Refusal.{Refusal}
use Rattle.base.proofs.Settled.{needed, refused_first}
use Rattle.text.specs.Sizes.{sized}
use Rattle.text.specs.declared.Sizes.{Sizes}
use Rattle.source.specs.Rules.{Store}
use Rattle.record.specs.Records.{MachineCode}
use Rattle.record.specs.Bytes.{machine_kind, whole_records, records_of}
use Rattle.record_test.specs.Tests.{code_tests}
use Rattle.machine.proofs.Calls.{number_given, counted, refused_by, code_found}
use Rattle.compile.specs.Table.{agrees}
use Rattle.compile_table.specs.Sights.{Passed}
use Rattle.fitting.specs.Calls.{table_tests}
use Rattle.fitting.specs.Paired.{pair_tests, paired_tests}

-- ---- With the table's n: 10, 14, 11

module _ (code : List ℕ) (n D : ℕ) (whole : whole_records code ≡ true) where
  -- Of whole records 10 alone is tested.
  all_tests : code_tests code n true ≡ and_then (records_of (machine_kind n) code) (λ P. gives P)
  all_tests = rw whole

  pub no_record : {r : Result ℕ Refusal} {why : Refusal} → r ≡ Err why
      → count_answer r ≡ number_given (code_tests code n true)
      → refused (number_of why.reason) why.place ≡ pair_tests code n D
  unfolding and_then
  no_record is e =
      let no = refused_first (records_of (machine_kind n) code) (λ P. P)
      (sym all_tests ∙ refused_by (code_tests code n true) is e) in
      rw no

  -- The records that were counted
  pub record Counted (count : ℕ) : Type 0 where
    pub records : MachineCode
    pub given : records_of (machine_kind n) code ≡ gives records
    pub all : length records ≡ count

  pub counted_records : {r : Result ℕ Refusal} {count : ℕ} → r ≡ Ok count
      → count_answer r ≡ number_given (code_tests code n true) → Counted count
  counted_records is e =
      let c = counted (code_tests code n true) is e in
      let x = needed (records_of (machine_kind n) code) (λ P. gives P) (sym all_tests ∙ c.1) in
      record { records = c.0; given = x.given ∙ x.then_gives; all = c.2 }

  module _ {count : ℕ} (c : Counted count) where
    abbrev pub passes : n ≤ 64 → Passed code count n
    passes few =
        let f = code_found (machine_kind n) code whole c.given c.all in
        record { records = c.records; given = f.given; bytes = f.whole; few = few }

    pub disagree : agrees c.records n ≡ false → refused 14 0 ≡ pair_tests code n D
    unfolding and_then
    disagree e = rw (c.given, e)

    pub too_deep : agrees c.records n ≡ true → 64 < D → refused 11 0 ≡ pair_tests code n D
    unfolding and_then
    too_deep e h = rw (c.given, e, lt-leb D 64 h)

    pub all_passed : agrees c.records n ≡ true → D ≤ 64 → gives (sized count D n) ≡ pair_tests code n D
    unfolding and_then
    all_passed e h = rw (c.given, e, le-leb D 64 h) (ap (λ k. gives (sized k D n)) (sym c.all))

-- ---- In front of them: 9, 8, 12

module _ (code t : List ℕ) (store : Store) (D : ℕ) where
  pub not_whole : whole_records code ≡ false → refused 9 0 ≡ paired_tests code t store D
  unfolding paired_tests
  not_whole e = rw e

  module _ (whole : whole_records code ≡ true) where
    pub no_names : {number place : ℕ} → table_tests t store ≡ refused number place
        → refused number place ≡ paired_tests code t store D
    unfolding paired_tests and_then
    no_names e = rw (whole, e)

    pub with_names : {n : ℕ} {x : Answer Sizes} → table_tests t store ≡ gives n → x ≡ pair_tests code n D
        → x ≡ paired_tests code t store D
    unfolding paired_tests and_then
    with_names e f = f ∙ rw (whole, e)
