-- What the call run_source comes to for an accepted text: with a store of 64 cells the run of its command, and else 8.
use mathlib.Core.Path.{◌≡◌}
use Prim.Native.Nat.{ℕ}
use mathlib.Core.List.{List}
use lib.ListN.{length}
use borrow.Author.Tests.{eq-eqb, ne_eqb}
use Rattle.base.specs.Answers.{gives, refused, and_then, settle}
use Rattle.base.specs.Ends.{report}
use Rattle.text.specs.Syntax.{Command}
use Rattle.text.specs.Reading.{read_text}
use Rattle.source.specs.Rules.{Store, run_rules}
use Rattle.source.specs.Calls.{sums, source_tests, run_source}

pub source_runs : (text : List ℕ) (c : Command) (store : Store) (budget : ℕ) → read_text text ≡ gives c
    → length store ≡ 64
    → run_source text store budget
    ≡ (gives (report budget (run_rules sums c budget store)), (run_rules sums c budget store).leaves)
unfolding run_source source_tests settle and_then
source_runs text c store budget read long = simp (read, eq-eqb (length store) 64 long)

pub source_declines : (text : List ℕ) (c : Command) (store : Store) (budget : ℕ) → read_text text ≡ gives c
    → (length store ≡ 64 → ⊥) → run_source text store budget ≡ (refused 8 0, store)
unfolding run_source source_tests settle and_then
source_declines text c store budget read short = simp (read, ne_eqb (length store) 64 short)
