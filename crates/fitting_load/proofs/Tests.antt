-- The tests of both calls: the answer to which each of the code's tests leads, and what holds where the answer is n.
use mathlib.Core.Path.{◌≡◌, refl, sym, ◌∙◌, ap}
use mathlib.Core.Bool.{Bool, true, false}
use mathlib.Core.List.{List}
use Prim.Native.Nat.{ℕ, ◌+◌, ◌≤◌, ◌<◌}
use native.Mathlib.Omega.{arith}
use lib.Dec.{leb}
use lib.IntN.{ℤ, pos}
use lib.ListN.{length, replicate}
use borrow.Author.Tests.{eqb-true, leb-true, le-leb, lt-leb, eq-eqb, ne_eqb}
use Rattle.std.specs.Prelude.{Option, Some, None, Result, if◌then◌else◌, ok_or}
use Rattle.base.specs.Answers.{gives, refused, unless◌refuse◌at◌else◌, and_then}
use Rattle.base.specs.Code.{count_answer, refusal_at}
use Rattle.base.specs.declared.Reason.TheVariants.{NoTable}
use Rattle.base.specs.declared.Refusal.{Refusal}
use Rattle.base.proofs.Answers.{gives_one}
use Rattle.base.proofs.Settled.{unless_passed, needed, both}
use Rattle.source.specs.Rules.{Store}
use Rattle.machine.specs.Calls.{memory_fits}
use Rattle.compile.specs.Table.{is_table, named_in}
use Rattle.compile.proofs.Passing.{entries_most}
use Rattle.compile_table.specs.Tested.{tested}
use Rattle.fitting.specs.Loading.{fill, loaded}
use Rattle.fitting.specs.Calls.{table_tests, pod_tests}
use Rattle.fitting.proofs.Calls.{Tabled, tabled}
use Rattle.fitting_load.specs.Fits.{Fits}

-- ---- A table and a store

module _ (t : List ℕ) (store : Store) where
  -- the answer of each of the code's tests
  pub no_bytes : (length t ≡ 64 → ⊥) → refused 8 0 ≡ table_tests t store
  unfolding table_tests
  no_bytes h = simp (ne_eqb (length t) 64 h)

  pub no_cells : length t ≡ 64 → (length store ≡ 64 → ⊥) → refused 8 0 ≡ table_tests t store
  unfolding table_tests
  no_cells e h = simp (eq-eqb (length t) 64 e, ne_eqb (length store) 64 h)

  -- and what the code finds of the table last
  pub named : {o : Option ℕ} {r : Result ℕ Refusal} {why : Refusal} → length t ≡ 64 → length store ≡ 64 → o ≡ tested t
      → why ≡ refusal_at NoTable 0 → r ≡ ok_or o why → count_answer r ≡ table_tests t store
  unfolding table_tests tested
  named e f found is made =
      ap count_answer (made ∙ (λ i. ok_or (found i) (is i))) ∙ by (is_table t)
      ∙ sym (simp (eq-eqb (length t) 64 e, eq-eqb (length store) 64 f))
    where
      by : (b : Bool) → count_answer (ok_or (if b then Some (named_in t) else None) (refusal_at NoTable 0))
          ≡ (unless b refuse 12 at 0 else gives (named_in t))
      by true = refl
      by false = refl

-- ---- And a memory

module _ (t : List ℕ) (store : Store) (D : ℕ) (memory : List ℤ) where
  pub no_names : {number place : ℕ} → table_tests t store ≡ refused number place
      → refused number place ≡ pod_tests t store D memory
  unfolding pod_tests and_then
  no_names e = rw e

  module _ {n : ℕ} (e : table_tests t store ≡ gives n) where
    -- With a table that passes 11 alone is left.
    left : pod_tests t store D memory ≡ unless memory_fits D n memory refuse 11 at 0 else gives n
    unfolding pod_tests and_then
    left = rw e

    few : leb n 64 ≡ true
    few = let x = tabled t store e in le-leb n 64 (omega (arith, x.bytes, x.count))

    pub too_deep : 64 < D → refused 11 0 ≡ pod_tests t store D memory
    too_deep h = sym (left ∙ simp (lt-leb D 64 h))

    pub no_room : D ≤ 64 → (length memory ≡ D + 1 + n → ⊥) → refused 11 0 ≡ pod_tests t store D memory
    no_room h k = sym (left ∙ simp (le-leb D 64 h, few, ne_eqb (length memory) (D + 1 + n) k))

    pub accepts : D ≤ 64 → length memory ≡ D + 1 + n → gives n ≡ pod_tests t store D memory
    accepts h k = sym (left ∙ simp (le-leb D 64 h, few, eq-eqb (length memory) (D + 1 + n) k))

-- ---- What holds where the answer is n

pub record Passed (t : List ℕ) (store : Store) (D : ℕ) (memory : List ℤ) (n : ℕ) : Type 0 where
  pub tables : Tabled t store n
  pub deep : D ≤ 64
  pub room : length memory ≡ D + 1 + n

pub passed : (t : List ℕ) (store : Store) (D : ℕ) (memory : List ℤ) {n : ℕ} → pod_tests t store D memory ≡ gives n
    → Passed t store D memory n
unfolding pod_tests
passed t store D memory {n} e =
    let x = needed (table_tests t store) _ e in
    let fits = unless_passed (memory_fits D x.value memory) 11 0 _ x.then_gives in
    let deep = both (leb D 64) _ fits.0 in
    let room = both (leb x.value 64) _ deep.1 in
    let same : x.value ≡ n = gives_one _ _ fits.1 in
    record {
      tables = tabled t store (x.given ∙ ap gives same);
      deep = leb-true D 64 deep.0;
      room = eqb-true (length memory) (D + 1 + x.value) room.1 ∙ ap (λ (k : ℕ). D + 1 + k) same;
    }

module _ {t : List ℕ} {store : Store} {D : ℕ} {memory : List ℤ} {n : ℕ} (p : Passed t store D memory n) where
  -- The loops' demands are met, by any memory of that length.
  pub fits : {cells : List ℤ} → length cells ≡ length memory → Fits t store D cells
  fits e =
      record {
        entries = p.tables.bytes;
        variables = p.tables.cells;
        deep = p.deep;
        inside = λ v. omega (arith, p.room, p.tables.count, entries_most t p.tables.passes v);
      }

  -- Zeros, and then each named variable at its address: the memory is loaded.
  pub loads : {zeros cells : List ℤ} → zeros ≡ replicate (length memory) (pos 0) → cells ≡ fill t D store zeros
      → cells ≡ loaded t D n store
  loads e f = f ∙ ap (fill t D store) (e ∙ ap (λ (k : ℕ). replicate k (pos 0)) p.room)
