-- Previews (Previews: SourcePreviewed, MachinePreviewed, PreviewsFitted): each call's law (Calls), in both directions;
-- and the row that ends with a preview comes to what the four calls come to (Rows).
use mathlib.Core.Path.{◌≡◌, refl, sym, ◌∙◌, ap}
use Prim.Native.Nat.{ℕ}
use mathlib.Core.List.{List}
use lib.IntN.{ℤ}
use Rattle.base.specs.Answers.{gives}
use Rattle.base.specs.Ends.{Result, Ran, report}
use Rattle.base.proofs.Settled.{needed, gave, preview_made, preview_gave}
use Rattle.text.specs.Encoding.{Within}
use Rattle.text.proofs.Accepted.{accepted}
use Rattle.source.specs.Rules.{Store, run_rules}
use Rattle.source.specs.Calls.{sums, source_tests, run_source, preview_source}
use Rattle.source.proofs.Calls.{source_runs}
use Rattle.machine.specs.Calls.{machine_tests, run_machine, without_state}
use Rattle.machine.proofs.Calls.{fresh_run}
use Rattle.compile.specs.Table.{named_in}
use Rattle.compile.specs.Calls.{Compiled}
use Rattle.fitting.specs.Calls.{table_tests, pod_tests, read_back_call, preview_tests, preview_machine}
use Rattle.fitting.specs.Previews.{SourcePreviewed, MachinePreviewed, PreviewsFitted}
use Rattle.fitting.proofs.Calls.{names_own, PreviewPassed, preview_passed, reads_back, previews}
use Rattle.fitting.proofs.Memories.{translated}
use Rattle.fitting.proofs.Rows.{preview_row}

-- ---- The source

-- a run that gives has passed its tests, and is then its preview
run_previewed : (text : List ℕ) (store : Store) (budget : ℕ) {ran : Ran} {s : Store}
    → run_source text store budget ≡ (gives ran, s) → preview_source text store budget ≡ (gives ran, s)
unfolding preview_source run_source
run_previewed text store budget e =
    let g = gave (source_tests text store) _ _ store (sym e) in
    sym (preview_made (source_tests text store) _ g.passed) ∙ e

pub source_previewed : SourcePreviewed
unfolding preview_source
source_previewed text store budget ran s = (
  λ e. (preview_gave (source_tests text store) (run_source text store budget) e).2,
  run_previewed text store budget,
)

-- ---- The machine

module _ (code : List ℕ) (memory : List ℤ) (D : ℕ) (t : List ℕ) (store : Store) (budget : ℕ) (ran : Ran) (s : Store)
  where
    abbrev Made : Type 0
    Made = (m : List ℤ) × (without_state (run_machine code memory D (named_in t) budget) ≡ (gives ran, m))
        × (read_back_call t m D store ≡ (gives (named_in t), s))

    made : preview_machine code memory D t store budget ≡ (gives ran, s) → Made
    unfolding preview_machine
    made e =
        let g = preview_gave (preview_tests code memory D t store) _ e in
        let p = preview_passed code memory D t store g.1 in
        let run = without_state (run_machine code memory D (named_in t) budget) in
        let back = reads_back code memory D t store p budget refl in
        (run.1, (λ i. ((g.2 i).0, run.1)), (λ i. ((sym back i).0, (g.2 i).1)))

    previewed_by : Made → preview_machine code memory D t store budget ≡ (gives ran, s)
    unfolding read_back_call pod_tests
    previewed_by (m, runs, reads) =
        let g = gave (machine_tests code memory D (named_in t)) _ _ memory
        (sym runs ∙ fresh_run code memory D (named_in t) budget) in
        let h = gave (pod_tests t store D m) _ _ store (sym reads) in
        let x = needed (table_tests t store) _ h.passed in
        let p : PreviewPassed code memory D t store g.value =
        record { names = x.given ∙ ap gives (names_own t store x.given); records = g.passed } in
        let back = reads_back code memory D t store p budget (sym runs) ∙ reads in
        sym (previews code memory D t store p budget (sym runs)) ∙ (λ i. (gives ran, (back i).1))

pub machine_previewed : MachinePreviewed
machine_previewed code memory D t store budget ran s =
    (made code memory D t store budget ran s, previewed_by code memory D t store budget ran s)

-- ---- Demand 3

pub previews_fitted : PreviewsFitted
previews_fitted text bytes c read l ready budget =
    let lent : Compiled = record { code = l.code; table = l.table } in
    let w : Within c = ((accepted text bytes c).0 read).0 in
    let rules = run_rules sums c budget l.store in
    let run = source_runs text c l.store budget read ready.store_cells in
    let row = preview_row text c read w lent l.memory l.store ready budget in
    record {
      tell = report budget rules;
      leave = rules.leaves;
      by_source = run_previewed text l.store budget run;
      by_machine =
          ap (λ x. x.0) row
          ∙ ap (λ (r : Result Store). gives (report budget r, r.leaves))
          (translated sums c w.valid l.store ready.store_cells budget);
      by_run = run;
      store_stays = ap (λ x. x.1.store) row;
      memory_stays = ap (λ x. x.1.memory) row;
    }
