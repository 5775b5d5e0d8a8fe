-- No call and no row gives a run that ended out of range (NeverOut: NeverOut): no run of records does (machine's
-- `never_out`), so no run of the source rules, which have the same result; and a call gives what its run tells.
use mathlib.Core.Path.{◌≡◌, sym, ◌∙◌, ap}
use Prim.Native.Nat.{ℕ}
use mathlib.Core.List.{List, [], ◌∷◌}
use lib.IntN.{ℤ, pos}
use lib.ListN.{length, replicate, length-replicate}
use Rattle.base.specs.Acts.{Outcome, ok, ended, Act, then', ◌>>◌, give}
use Rattle.base.specs.Answers.{Answer, gives, refused, Refusal, refusal, and_then, settle, previewed}
use Rattle.base.specs.Ends.{Fault, fault, Result, Ran}
use Rattle.base.specs.Rows.{call, answered}
use Rattle.text.specs.Syntax.{Command}
use Rattle.text.specs.Sizes.{depth}
use Rattle.text.specs.declared.Sizes.{Sizes}
use Rattle.source.specs.Rules.{Store, run_rules}
use Rattle.source.specs.Calls.{sums, source_tests, run_source, preview_source}
use Rattle.machine.specs.Machine.{fresh}
use Rattle.machine.specs.Memories.{Assembly, assembly, machine_cells}
use Rattle.machine.specs.Calls.{assembly_tests, run_assembly, fresh_state, Told, finished, paused}
use Rattle.machine.specs.Calls.{state_tests, go_on_by, go_on, run_machine, ran_of, without_state}
use Rattle.machine.specs.Pieces.{after_piece, in_pieces}
use Rattle.machine.specs.declared.State.{State}
use Rattle.machine.proofs.SumRules.{never_out as no_run_out}
use Rattle.machine.proofs.Calls.{told_ran}
use Rattle.compile.specs.Compilation.{ccomp}
use Rattle.fitting.specs.Calls.{preview_tests, preview_machine}
use Rattle.fitting.specs.Rows.{Lent, running, reading_back, load_run_read, fit, load_and_preview}
use Rattle.fitting.specs.Rows.{assemble_and_run}
use Rattle.fitting.specs.Paired.{run_paired}
use Rattle.fitting.specs.Pieces.{running_in_pieces, fit_in_pieces}
use Rattle.fitting.specs.NeverOut.{Given, NotOut, NeverOut}
use Rattle.fitting.proofs.Memories.{assembled}

-- ---- The source rules, by their assembly

pub rules_never_out : (c : Command) (budget : ℕ) (s : Store)
    → (run_rules sums c budget s).end ≡ fault Fault.out_of_range → ⊥
rules_never_out c budget s e =
    let m : Assembly = record { stack = replicate (depth c) (pos 0); store = s } in
    no_run_out (depth c) assembly (ccomp c) budget 0 (fresh m)
    (ap (λ (r : Result Store). r.end) (assembled sums c budget m (length-replicate (depth c) (pos 0))) ∙ e)

-- ---- Calls

given_settled : {A R B : Type 0} (P : R → Type 0) (tests : Answer A) (result : A → R) (buffers : A → B) (old : B)
    → ((a : A) → P (result a)) → Given P (settle tests result buffers old).0
unfolding settle
given_settled P (gives a) result buffers old h = h a
given_settled P (refused number place) result buffers old h = tt

given_previewed : {A R : Type 0} (P : R → Type 0) (tests : Answer A) (x : Answer R × List ℤ) → Given P x.0
    → Given P (previewed tests x).0
unfolding previewed
given_previewed P (gives a) x h = h
given_previewed P (refused number place) x h = tt

-- of what an answer gives
given_of : {A B : Type 0} (P : B → Type 0) (x : Answer A) (f : A → B) → Given (λ a. P (f a)) x
    → Given P (and_then x (λ a. gives (f a)))
unfolding and_then
given_of P (gives a) f h = h
given_of P (refused number place) f h = tt

from_source : (text : List ℕ) (store : Store) (budget : ℕ) → Given NotOut (run_source text store budget).0
unfolding run_source
from_source text store budget =
    given_settled NotOut (source_tests text store) _ _ store (λ c. rules_never_out c budget store)

from_assembly : (code : List ℕ) (m : Assembly) (budget : ℕ) → Given NotOut (run_assembly code m budget).0
unfolding run_assembly
from_assembly code m budget =
    given_settled NotOut (assembly_tests code m) _ _ m
    (λ P. no_run_out (length m.stack) assembly P budget 0 (fresh m))

-- what a call on machine code tells
abbrev NotTold : Told → Type 0
NotTold p = NotOut (ran_of p)

from_state : (code : List ℕ) (memory : List ℤ) (D n : ℕ) (s : State) (budget : ℕ)
    → Given NotTold (go_on code memory D n s budget).0
unfolding go_on_by
from_state code memory D n s budget =
    given_settled NotTold (state_tests code memory D n s budget) _ _ memory
    (λ P e. no_run_out D (machine_cells D) P budget s.mark _
    (sym (ap (λ (r : Ran). r.end) (told_ran _ _ _ _)) ∙ e))

after_given : (x : Answer Told × List ℤ) (next : State → List ℤ → Answer Told × List ℤ) → Given NotTold x.0
    → ((s : State) (memory : List ℤ) → Given NotTold (next s memory).0) → Given NotTold (after_piece x next).0
unfolding after_piece
after_given (gives (paused s), memory) next h k = k s memory
after_given (gives (finished r), memory) next h k = h
after_given (refused number place, memory) next h k = tt

from_pieces : (code : List ℕ) (memory : List ℤ) (D n : ℕ) (s : State) (b : ℕ) (bs : List ℕ)
    → Given NotTold (in_pieces code memory D n s b bs).0
unfolding in_pieces
from_pieces code memory D n s b [] = from_state code memory D n s b
from_pieces code memory D n s b (b' ∷ bs) =
    after_given (go_on code memory D n s b) _ (from_state code memory D n s b)
    (λ s' memory'. from_pieces code memory' D n s' b' bs)

state_aside : (x : Answer Told × List ℤ) → Given NotTold x.0 → Given NotOut (without_state x).0
state_aside x h = given_of NotOut x.0 ran_of h

from_fresh : (code : List ℕ) (memory : List ℤ) (D n budget : ℕ)
    → Given NotOut (without_state (run_machine code memory D n budget)).0
unfolding run_machine
from_fresh code memory D n budget =
    state_aside (run_machine code memory D n budget) (from_state code memory D n fresh_state budget)

-- ---- Rows

-- what a row gives is so
GivenRow : {L A : Type 0} → (A → Type 0) → Outcome L (Refusal × L) A → Type 0
GivenRow P (ok a l) = P a
GivenRow P (ended e) = Unit {0}

called : {L A : Type 0} (P : A → Type 0) (x : Answer A) (l : L) → Given P x → GivenRow P (call x l)
unfolding call GivenRow
called P (gives a) l h = h
called P (refused number place) l h = tt

-- what follows, where the act before gave something
follows : {L A B : Type 0} (Q : A → Type 0) (P : B → Type 0) (x : Outcome L (Refusal × L) A)
    (f : A → Act L (Refusal × L) B) → GivenRow Q x → ((a : A) → Q a → (l : L) → GivenRow P (f a l))
    → GivenRow P (then' x f)
unfolding GivenRow then'
follows Q P (ok a l) f h k = k a h l
follows Q P (ended e) f h k = tt

-- whatever it gave
anything : {L A : Type 0} (x : Outcome L (Refusal × L) A) → GivenRow (λ _. Unit {0}) x
unfolding GivenRow
anything (ok a l) = tt
anything (ended e) = tt

answers : {L A : Type 0} (P : A → Type 0) (x : Outcome L (Refusal × L) A) → GivenRow P x → Given P (answered x).0
unfolding GivenRow answered
answers P (ok a l) h = h
answers P (ended (refusal number place, l)) h = tt

-- a run, and then reading back
then_back : (z : Sizes) (x : Outcome Lent (Refusal × Lent) Ran) → GivenRow NotOut x
    → GivenRow NotOut (then' x (λ ran. reading_back z >> give ran))
unfolding give GivenRow
then_back z x h =
    follows NotOut NotOut x (λ ran. reading_back z >> give ran) h
    (λ r k l.
    follows (λ _. Unit {0}) NotOut (reading_back z l) (λ _. give r) (anything (reading_back z l)) (λ _ _ l. k))

from_row : (z : Sizes) (budget : ℕ) (l : Lent) → GivenRow NotOut (load_run_read z budget l)
from_row z budget l =
    follows (λ _. Unit {0}) NotOut _ _ (anything _)
    (λ _ _ l. then_back z (running z budget l) (called NotOut _ _ (from_fresh _ _ _ _ budget)))

pub never_out : NeverOut
unfolding preview_source preview_machine run_paired fit fit_in_pieces load_and_preview assemble_and_run
never_out = record {
  source = from_source;
  source_preview = λ text store budget.
      given_previewed NotOut (source_tests text store) _ (from_source text store budget);
  assembly = from_assembly;
  machine = from_fresh;
  state = λ code memory D n s budget.
      state_aside (go_on code memory D n s budget) (from_state code memory D n s budget);
  pieces = λ code memory D n s b bs.
      state_aside (in_pieces code memory D n s b bs) (from_pieces code memory D n s b bs);
  machine_preview = λ code memory D t store budget.
      given_previewed NotOut (preview_tests code memory D t store) _ (from_fresh code memory D _ budget);
  paired = λ code t store D budget.
      answers NotOut _ (follows (λ _. Unit {0}) NotOut _ _ (anything _) (λ z _ l. from_row z budget l));
  row = λ text l budget.
      answers NotOut _ (follows (λ _. Unit {0}) NotOut _ _ (anything _) (λ z _ l. from_row z budget l));
  row_in_pieces = λ text l b bs.
      answers NotOut _ (follows (λ _. Unit {0}) NotOut _ _ (anything _) (λ z _ l.
      follows (λ _. Unit {0}) NotOut _ _ (anything _) (λ _ _ l.
      then_back z (running_in_pieces z b bs l) (called NotOut _ _
      (state_aside (in_pieces _ _ _ _ fresh_state b bs) (from_pieces _ _ _ _ fresh_state b bs))))));
  row_preview = λ text l budget.
      answers (λ (r, s). NotOut r) _ (follows (λ _. Unit {0}) _ _ _ (anything _) (λ z _ l.
      follows (λ _. Unit {0}) _ _ _ (anything _) (λ _ _ l.
      called (λ (r, s). NotOut r) _ l (given_of _ _ (λ r. (r, _))
      (given_previewed NotOut (preview_tests _ _ _ _ _) _ (from_fresh _ _ _ _ budget))))));
  row_assembly = λ text l budget.
      answers NotOut _ (follows (λ _. Unit {0}) NotOut _ _ (anything _) (λ z _ l.
      called NotOut _ _ (from_assembly _ _ budget)));
}
