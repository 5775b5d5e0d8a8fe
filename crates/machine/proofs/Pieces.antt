-- Pausing and going on (Pieces: Pieces, PiecesFrom, GoesOn, HandsOut, FifteenAlone). The idea: a run with a + b ticks
-- is a run with a ticks, gone on with b where those were spent (`cut`); the state that is handed out stands within its
-- bounds (`inside`), so the next call takes it.
use mathlib.Core.Path.{◌≡◌, refl, sym, ◌∙◌, ap}
use mathlib.Core.Logic.{inl, inr}
use Prim.Native.Nat.{ℕ, ◌+◌, ◌-◌, ◌≤◌}
use native.Mathlib.Omega.{arith}
use mathlib.Core.Bool.{Bool, true, false, ◌&&◌}
use mathlib.Core.List.{List, [], ◌∷◌}
use lib.Dec.{leb, eqb}
use lib.IntN.{ℤ}
use lib.ListN.{length}
use borrow.Author.Tests.{leb-true}
use Rattle.base.specs.Answers.{Answer, gives, refused, unless◌refuse◌at◌else◌, and_then}
use Rattle.base.specs.Ends.{End, fault, Result, Ran, ran}
use Rattle.base.proofs.Settled.{not_both, Gave, gave}
use Rattle.word.proofs.Claims.{steady_sums}
use Rattle.record.specs.Records.{MachineCode}
use Rattle.record.specs.Bytes.{machine_kind, whole_records, records_of}
use Rattle.machine.specs.Machine.{Machine, at as machine_at, run}
use Rattle.machine.specs.Memories.{machine_cells}
use Rattle.machine.specs.Claims.{resume, InBounds}
use Rattle.machine.specs.Calls.{sums, machine_tests, run_from, Told, finished, paused, tell, piece_told, Unfit}
use Rattle.machine.specs.Calls.{fresh_state, state_fits, state_tests, go_on_by, go_on, run_machine, ran_of}
use Rattle.machine.specs.Pieces.{after_piece, in_pieces, total, Pieces, PiecesFrom, GoesOn, HandsOut}
use Rattle.machine.specs.Pieces.{FifteenAlone}
use Rattle.machine.specs.declared.State.{State}
use Rattle.machine.proofs.Exact.{left_most, spent_all, cut}
use Rattle.machine.proofs.Inside.{inside}
use Rattle.machine.proofs.Marks.{highest}
use Rattle.machine.proofs.Calls.{length_kept, StateFound, state_passed, state_passes, first_refused, bounded}
use Rattle.machine.proofs.Calls.{unfit_fails, unfit_or_fits, fits_or_unfit, state_declines, state_runs, told_ran}

-- ---- Tests

-- The tests of a call look at the memory's length alone
same_tests : (code : List ℕ) (D n : ℕ) (m m' : List ℤ) → length m ≡ length m'
    → machine_tests code m D n ≡ machine_tests code m' D n
unfolding machine_tests
same_tests code D n m m' h = λ i.
    unless whole_records code refuse 9 at 0 else
    and_then (records_of (machine_kind n) code) (λ P.
    unless leb D 64 && (leb n 64 && eqb (h i) (D + 1 + n)) refuse 11 at 0 else
    gives P)

-- ---- What a call from a state gives

-- what was found by one that gives p, and the run that it is of
module _ (code : List ℕ) (m : List ℤ) (D n : ℕ) (s : State) (budget : ℕ) (p : Told) (m' : List ℤ)
    (e : go_on code m D n s budget ≡ (gives p, m')) where
  gone : Gave (state_tests code m D n s budget) (λ P. piece_told s budget (run_from sums P m D s budget))
      (λ P. (run_from sums P m D s budget).leaves.memory) p m'
  unfolding go_on_by
  gone = gave (state_tests code m D n s budget) _ _ m (sym e)

  abbrev P : MachineCode
  P = gone.value

  abbrev r : Result (Machine (List ℤ))
  r = run_from sums P m D s budget

  found : StateFound code m D n s budget P
  found = state_passed code m D n s budget gone.passed

  stays : InBounds sums D (machine_cells D) P r.mark r.leaves
  stays = inside sums D (machine_cells D) P budget s.mark (machine_at s.position s.size m)
      (bounded code m D n s budget found)

  as_long : length m' ≡ length m
  as_long = ap length gone.leaves ∙ length_kept P m D s budget (bounded code m D n s budget found)

pub goes_on : GoesOn
goes_on code m D n s budget p m' e = record {
  counts_on = omega (arith, ap (λ (x : Ran). x.count) is);
  within_budget = omega (arith, ap (λ (x : Ran). x.count) is);
  marks_on = omega (arith, ap (λ (x : Ran). x.mark) is, high);
  within_depth = omega (arith, ap (λ (x : Ran). x.mark) is, (stays code m D n s budget p m' e).marked);
}
  where
    res : Result (Machine (List ℤ))
    res = r code m D n s budget p m' e

    is : ran_of p ≡ ran res.end (s.count + (budget - res.left)) res.mark
    is = ap ran_of (gone code m D n s budget p m' e).tells ∙ told_ran _ _ _ _

    high : s.mark ≤ res.mark
    high = (highest sums D (machine_cells D) (P code m D n s budget p m' e) budget s.mark
        (machine_at s.position s.size m) (found code m D n s budget p m' e).held).kept

-- ---- A pause

-- the state of a pause, or else s
state_or : State → Told → State
state_or s (paused t) = t
state_or s (finished r) = s

-- what the run that paused left
record Paused (s : State) (e : End) (k mark : ℕ) (m : Machine (List ℤ)) : Type 0 where
  spent : e ≡ End.spent
  state_is : s ≡ record { position = m.position; size = m.size; count = k; mark = mark }

pause_of : (s : State) (e : End) (k mark : ℕ) (m : Machine (List ℤ)) → paused s ≡ tell e k mark m → Paused s e k mark m
unfolding tell state_or
pause_of s End.done k mark m h = absurd (let no : ◌≡◌ {A = ℕ} 0 1 = cc in omega arith)
pause_of s End.spent k mark m h = record { spent = refl; state_is = ap (state_or s) h }
pause_of s (fault e) k mark m h = absurd (let no : ◌≡◌ {A = ℕ} 0 1 = cc in omega arith)

pub hands_out : HandsOut
hands_out code m D n s budget s' m' e = record {
  all_spent = count;
  passes = λ more fits. (
    P code m D n s budget (paused s') m' e,
    state_passes code m' D n s' more (record {
      records = same_tests code D n m' m (as_long code m D n s budget (paused s') m' e)
          ∙ (found code m D n s budget (paused s') m' e).records;
      placed = omega (arith, ap (λ (t : State). t.position) is, in_bounds.placed);
      held = omega (arith, ap (λ (t : State). t.size) is, ap (λ (t : State). t.mark) is, in_bounds.held);
      marked = omega (arith, ap (λ (t : State). t.mark) is, in_bounds.marked);
      room = omega arith;
    }),
  );
}
  where
    res : Result (Machine (List ℤ))
    res = r code m D n s budget (paused s') m' e

    in_bounds : InBounds sums D (machine_cells D) (P code m D n s budget (paused s') m' e) res.mark res.leaves
    in_bounds = stays code m D n s budget (paused s') m' e

    pause : Paused s' res.end (s.count + (budget - res.left)) res.mark res.leaves
    pause = pause_of s' _ _ _ _ (gone code m D n s budget (paused s') m' e).tells

    is : s' ≡ record {
      position = res.leaves.position;
      size = res.leaves.size;
      count = s.count + (budget - res.left);
      mark = res.mark;
    }
    is = pause.state_is

    count : s'.count ≡ s.count + budget
    count =
        let none_left : res.left ≡ 0 =
        spent_all sums D (machine_cells D) (P code m D n s budget (paused s') m' e) budget s.mark
        (machine_at s.position s.size m) pause.spent in
        omega (arith, ap (λ (t : State). t.count) is)

-- ---- Two pieces are one

module _ (a b : ℕ) (code : List ℕ) (m : List ℤ) (D n : ℕ) (s : State) (k : s.count + (a + b) ≤ 4294967295) where
  abbrev two_calls : Answer Told × List ℤ
  two_calls = after_piece (go_on code m D n s a) (λ s' m'. go_on code m' D n s' b)

  module _ (P : MachineCode) (f : StateFound code m D n s a P) where
    abbrev told_of : Result (Machine (List ℤ)) → Answer Told × List ℤ
    told_of r = (gives (piece_told s (a + b) r), r.leaves.memory)

    -- by the end of the first
    by_end : (x : End) (left h : ℕ) (t : Machine (List ℤ)) → (x ≡ End.spent → left ≡ 0)
        → InBounds sums D (machine_cells D) P h t → length t.memory ≡ length m
        → after_piece (gives (tell x (s.count + (a - left)) h t), t.memory) (λ s' m'. go_on code m' D n s' b)
        ≡ told_of (resume sums D (machine_cells D) P b x left h t)
    unfolding tell after_piece resume
    by_end End.done left h t z i l =
        let same : s.count + (a - left) ≡ s.count + (a + b - (left + b)) = omega arith in
        ap (λ c. (gives (finished (ran End.done c h)), t.memory)) same
    by_end (fault e) left h t z i l =
        let same : s.count + (a - left) ≡ s.count + (a + b - (left + b)) = omega arith in
        ap (λ c. (gives (finished (ran (fault e) c h)), t.memory)) same
    by_end End.spent left h t z i l =
        let none_left : left ≡ 0 = z refl in
        let s' : State = record { position = t.position; size = t.size; count = s.count + (a - left); mark = h } in
        let r = run sums D (machine_cells D) P b h t in
        let most : r.left ≤ b = left_most sums D (machine_cells D) P b h t in
        let on : s.count + (a - left) + (b - r.left) ≡ s.count + (a + b - r.left) = omega arith in
        sym (state_runs code t.memory D n s' b (state_passes code t.memory D n s' b (record {
          records = same_tests code D n t.memory m l ∙ f.records;
          placed = i.placed;
          held = i.held;
          marked = i.marked;
          room = omega arith;
        })))
        ∙ ap (λ c. (gives (tell r.end c r.mark r.leaves), r.leaves.memory)) on

    in_two : two_calls ≡ go_on code m D n s (a + b)
    in_two =
        let here = machine_at s.position s.size m in
        let r = run_from sums P m D s a in
        let in_bounds = bounded code m D n s a f in
        ap (λ x. after_piece x (λ s' m'. go_on code m' D n s' b))
        (sym (state_runs code m D n s a (state_passes code m D n s a f)))
        ∙ by_end r.end r.left r.mark r.leaves (spent_all sums D (machine_cells D) P a s.mark here)
        (inside sums D (machine_cells D) P a s.mark here in_bounds) (length_kept P m D s a in_bounds)
        ∙ ap told_of (sym (cut sums D (machine_cells D) P steady_sums.holds a b s.mark here))
        ∙ state_runs code m D n s (a + b) (state_passes code m D n s (a + b) (record {
          records = f.records;
          placed = f.placed;
          held = f.held;
          marked = f.marked;
          room = omega arith;
        }))

  -- both decline alike
  both_decline : (number place : ℕ) → state_tests code m D n s a ≡ refused number place
      → state_tests code m D n s (a + b) ≡ refused number place → two_calls ≡ go_on code m D n s (a + b)
  unfolding after_piece
  both_decline number place e e' =
      ap (λ x. after_piece x (λ s' m'. go_on code m' D n s' b)) (sym (state_declines code m D n s a e))
      ∙ state_declines code m D n s (a + b) e'

  by_place : (P : MachineCode) → machine_tests code m D n ≡ gives P → (p q d : Bool) → leb s.position (length P) ≡ p
      → leb s.size s.mark ≡ q → leb s.mark D ≡ d → two_calls ≡ go_on code m D n s (a + b)
  unfolding state_tests and_then
  by_place P e true true true p q d = in_two P (record {
    records = e;
    placed = leb-true s.position (length P) p;
    held = leb-true s.size s.mark q;
    marked = leb-true s.mark D d;
    room = omega arith;
  })
  by_place P e true true false p q d = both_decline 15 0 (simp (e, p, q, d)) (simp (e, p, q, d))
  by_place P e true false d' p q d = both_decline 15 0 (simp (e, p, q)) (simp (e, p, q))
  by_place P e false q' d' p q d = both_decline 15 0 (simp (e, p)) (simp (e, p))

  by_tests : (x : Answer MachineCode) → machine_tests code m D n ≡ x → two_calls ≡ go_on code m D n s (a + b)
  by_tests (gives P) e =
      by_place P e (leb s.position (length P)) (leb s.size s.mark) (leb s.mark D) refl refl refl
  by_tests (refused number place) e =
      both_decline number place (first_refused code m D n s a e) (first_refused code m D n s (a + b) e)

  joined : two_calls ≡ go_on code m D n s (a + b)
  joined = by_tests (machine_tests code m D n) refl

-- ---- Pieces

-- what follows a piece may use what the pause says
after_same : (x : Answer Told × List ℤ) (f g : State → List ℤ → Answer Told × List ℤ)
    → ((s : State) (m : List ℤ) → x ≡ (gives (paused s), m) → f s m ≡ g s m) → after_piece x f ≡ after_piece x g
unfolding after_piece
after_same (gives (paused s), m) f g h = h s m refl
after_same (gives (finished r), m) f g h = refl
after_same (refused number place, m) f g h = refl

pub pieces_from : PiecesFrom
unfolding in_pieces total
pieces_from code m D n s b [] k = refl
pieces_from code m D n s b (b' ∷ bs) k =
    after_same (go_on code m D n s b) _ (λ s' m'. go_on code m' D n s' (total b' bs))
    (λ s' m' e.
    let fits : s'.count + total b' bs ≤ 4294967295 = omega (arith, k, (hands_out code m D n s b s' m' e).all_spent) in
    pieces_from code m' D n s' b' bs fits)
    ∙ joined b (total b' bs) code m D n s k

pub pieces : Pieces
unfolding run_machine
pieces code m D n b bs k =
    let fits : 0 + total b bs ≤ 4294967295 = omega (arith, k) in
    pieces_from code m D n fresh_state b bs fits

-- ---- Refusals

module _ (code : List ℕ) (m : List ℤ) (D n : ℕ) (s : State) (budget : ℕ) (small : budget ≤ 4294967295)
    (P : MachineCode) (e : machine_tests code m D n ≡ gives P) where
  unfit_refused : Unfit s (length P) D budget → state_tests code m D n s budget ≡ refused 15 0
  unfolding state_tests and_then
  unfit_refused u = simp (e, unfit_fails s (length P) D budget small u)

  fit_passes : state_fits s (length P) D budget ≡ true → state_tests code m D n s budget ≡ gives P
  unfolding state_tests and_then
  fit_passes f = simp (e, f)

  fit_runs : state_fits s (length P) D budget ≡ true → let r = run_from sums P m D s budget in
      go_on code m D n s budget ≡ (gives (piece_told s budget r), r.leaves.memory)
  fit_runs f = sym (state_runs code m D n s budget (fit_passes f))

  refused_unfit : go_on code m D n s budget ≡ (refused 15 0, m) → Unfit s (length P) D budget
  refused_unfit h = elim (unfit_or_fits s (length P) D budget small) [
    | inl u ↦ u
    | inr f ↦ not_both (ap (λ x. x.0) (sym h ∙ fit_runs f))
  ]

  else_run : (Unfit s (length P) D budget → ⊥) → let r = run_from sums P m D s budget in
      go_on code m D n s budget ≡ (gives (piece_told s budget r), r.leaves.memory)
  else_run none = fit_runs ((fits_or_unfit s (length P) D budget small).1 none)

pub fifteen_alone : FifteenAlone
fifteen_alone code m D n s budget small = record {
  after_eleven = λ number place e. sym (state_declines code m D n s budget (first_refused code m D n s budget e));
  fifteen = λ P e. (
    refused_unfit code m D n s budget small P e,
    λ u. sym (state_declines code m D n s budget (unfit_refused code m D n s budget small P e u)),
  );
  else_runs = else_run code m D n s budget small;
}
