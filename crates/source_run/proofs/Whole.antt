-- The call `run_source` and its preview: their tests, from what reading comes to; the run, from what the text's command
-- came to at the text's start; and that a text in its buffer runs as the text does.
use mathlib.Core.Path.{◌≡◌, sym, ap, subst, ◌∙◌}
use Prim.Native.Nat.{ℕ, ◌≤◌}
use native.Mathlib.Nat.{le_refl}
use mathlib.Core.List.{List, ◌++◌}
use Rattle.std.specs.Prelude.{Option, Some, None, Result, Ok, Err}
use lib.Dec.{eqb}
use lib.IntN.{pos}
use lib.ListN.{length, drop, replicate}
use borrow.Author.Tests.{eq-eqb, eqb-true, ne_eqb}
use Rattle.base.specs.Acts.{ok}
use Rattle.base.specs.Answers.{Answer, gives, refused, and_then}
use Rattle.base.specs.Ends.{Ran, report}
use Rattle.base.specs.Code.{number_of}
use Rattle.base.specs.declared.Refusal.{Refusal}
use Rattle.base.proofs.Answers.{gives_one}
use Rattle.base.proofs.Settled.{needed, unless_passed, refused_first, declined, preview_made, preview_declined}
use Rattle.text.specs.Syntax.{Command}
use Rattle.text.specs.Reading.{command, read_text}
use Rattle.text.specs.Sizes.{sizes}
use Rattle.text.specs.declared.Sizes.{Sizes}
use Rattle.text.specs.Code.{sizes_answer}
use Rattle.text.specs.Calls.{read_call}
use Rattle.text.proofs.Opened.{taken, read_gives, read_refuses}
use Rattle.text.proofs.Longer.{command_longer}
use Rattle.text_ends.specs.Ends.{PartEnds}
use Rattle.text_ends.proofs.Longer.{ends_longer}
use Rattle.source.specs.Rules.{Store, start, Outcomes, end_of, result_of}
use Rattle.source.specs.Calls.{sums, source_tests, run_source, preview_source}
use Rattle.source.proofs.Calls.{source_runs}
use Rattle.source.proofs.Ticks.{Low, low_exec}
use Rattle.source_values.specs.Placed.{Read, placed}
use Rattle.source_values.proofs.Steps.{was_read, gave, stopped}
use Rattle.source_commands.specs.Code.{went}
use Rattle.source_commands.proofs.Commands.{doing}
use Rattle.source_run.specs.Code.{told, runs, Runs, Laid}

-- ---- The tests

module _ (text : List ℕ) (store : Store) where
  abbrev pub tests : Answer Sizes
  tests = and_then (source_tests text store) (λ c. gives (sizes c))

  -- by what reading comes to,
  module _ {r : Result Sizes Refusal} (reads : sizes_answer r ≡ read_call text) where
    pub tests_refused : {why : Refusal} → r ≡ Err why → refused (number_of why.reason) why.place ≡ tests
    unfolding source_tests and_then
    tests_refused is = simp (read_refuses text (sym (ap sizes_answer is) ∙ reads))

    pub tests_wrong_length : {s : Sizes} → r ≡ Ok s → (length store ≡ 64 → ⊥) → refused 8 0 ≡ tests
    unfolding source_tests and_then
    tests_wrong_length is h =
        simp ((read_gives text (sym (ap sizes_answer is) ∙ reads)).1, ne_eqb (length store) 64 h)

    pub tests_passed : {s : Sizes} → r ≡ Ok s → length store ≡ 64 → gives s ≡ tests
    unfolding source_tests and_then read_call
    tests_passed is h =
        let e = sym (ap sizes_answer is) ∙ reads in e ∙ simp ((read_gives text e).1, eq-eqb (length store) 64 h)

  -- and what they say: the call declines, and so does its preview,
  module _ (budget : ℕ) {x : Result Sizes Refusal} {why : Refusal} (tested : sizes_answer x ≡ tests)
      (declines : x ≡ Err why) where
    refuses : source_tests text store ≡ refused (number_of why.reason) why.place
    refuses = refused_first (source_tests text store) sizes (sym tested ∙ ap sizes_answer declines)

    pub run_declines : (refused (number_of why.reason) why.place, store) ≡ run_source text store budget
    unfolding run_source
    run_declines = declined (source_tests text store) _ _ store refuses

    pub preview_declines : (refused (number_of why.reason) why.place, replicate 64 (pos 0))
        ≡ preview_source text store budget
    unfolding preview_source
    preview_declines = preview_declined (source_tests text store) _ refuses

  -- or they are passed: the text is accepted and the store has its cells.
  pub record Passed : Type 0 where
    pub text_command : Command
    pub given : source_tests text store ≡ gives text_command
    pub is : read_text text ≡ gives text_command
    pub long : length store ≡ 64

  pub passed : {x : Result Sizes Refusal} {z : Sizes} → sizes_answer x ≡ tests → x ≡ Ok z → Passed
  unfolding source_tests
  passed tested accepts =
      let all = needed (source_tests text store) (λ c. gives (sizes c)) (sym tested ∙ ap sizes_answer accepts) in
      let read = needed (read_text text) _ all.given in
      let fits = unless_passed (eqb (length store) 64) 8 0 _ read.then_gives in
      record {
        text_command = read.value;
        given = all.given ∙ sym fits.1;
        is = read.given;
        long = eqb-true (length store) 64 fits.0;
      }

  -- Then the run of its command is what the call answers and leaves, and what its preview gives.
  module _ (p : Passed) (budget : ℕ) where
    pub runs_source : runs p.text_command budget store ≡ run_source text store budget
    runs_source = sym (source_runs text p.text_command store budget p.is p.long)

    pub runs_preview : runs p.text_command budget store ≡ preview_source text store budget
    unfolding preview_source
    runs_preview = runs_source ∙ preview_made (source_tests text store) (run_source text store budget) p.given

-- ---- The run

-- Where a text's command was read at its start, the ticks left and what is told of it, from what it came to
pub record Tells (c : Command) (budget : ℕ) (store : Store) (r : Option ℕ) (left μ : ℕ) (m : Store) : Type 0 where
  pub few : left ≤ budget
  pub same : (gives (told r budget left μ), m) ≡ runs c budget store

module _ (text : List ℕ) {c : Command} {n : ℕ} (part : command text 64 0 ≡ ok c n) (budget : ℕ) (store : Store) where
  by_rules : (o : Outcomes (Unit {0})) → doing c (start budget store) ≡ o
      → (gives (report budget (result_of o)), (result_of o).leaves) ≡ runs c budget store
  by_rules o d = sym (ap (λ o. (gives (report budget (result_of o)), (result_of o).leaves)) d)

  low : (o : Outcomes (Unit {0})) → doing c (start budget store) ≡ o → Low budget o
  low o d = subst (Low budget) d (low_exec sums c budget (start budget store) (le_refl budget))

  pub tells : (r : Option ℕ) (left μ : ℕ) (m : Store)
      → went r left μ m ≡ placed doing (command text 64 0) (start budget store) → Tells c budget store r left μ m
  unfolding Low end_of result_of
  tells (Some next) left μ m e =
      let d = (gave doing _ part (sym e)).0 in record { few = low _ d; same = by_rules _ d }
  tells None left μ m e =
      let d = stopped doing _ part (sym e) in record { few = low _ d; same = by_rules _ d }

-- ---- A text in its buffer

module _ {text buffer : List ℕ} (l : Laid text buffer) where
  -- its command is read there,
  pub laid_part : (n : ℕ) × (command buffer 64 0 ≡ ok l.text_command n)
  laid_part =
      let t = taken text l.is in (t.end, rw l.holds (command_longer text l.behind 64 0 t.part))

  pub laid_read : Read (command buffer 64 0)
  laid_read = was_read laid_part.1

  -- and part ends that are right of the text are right there.
  pub laid_ends : {ends : List ℕ} → PartEnds text ends → PartEnds buffer ends
  laid_ends p = rw l.holds (ends_longer text l.behind p)

-- An accepted text over the start of a buffer
pub laid : (text old : List ℕ) {buffer : List ℕ} {c : Command} → read_text text ≡ gives c
    → buffer ≡ text ++ drop (length text) old → Laid text buffer
laid text old {c = c} is holds = record {
  text_command = c;
  is = is;
  behind = drop (length text) old;
  holds = holds;
}

-- What is run of a buffer is run of its text.
pub runs_laid : {text buffer : List ℕ} (budget : ℕ) (store : Store) {x : Answer Ran × Store} → Laid text buffer
    → Runs buffer budget store x → (c : Command) → read_text text ≡ gives c → x ≡ runs c budget store
runs_laid budget store l h c is =
    h l.text_command (laid_part l).0 (laid_part l).1 ∙ ap (λ c. runs c budget store)
    (gives_one _ _ (sym l.is ∙ is))
