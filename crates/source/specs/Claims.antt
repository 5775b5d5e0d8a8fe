-- What is claimed of the source rules. The proof of the same spelling stands in proofs/. WHILE is the printed rule; two
-- rules for sums that agree give the same runs; the source rules lead to the stores to which the published big-step
-- rules lead, wherever no budget brings a sum past a limit; and a constant's width changes no run.
use Rattle.std.specs.Prelude.{◌≡◌, ◌↔◌, false, ℕ, List, length, if◌then◌else◌}
use Rattle.base.specs.Acts.{ok, ended, ◌>>=◌, ◌>>◌, give}
use Rattle.base.specs.Answers.{gives}
use Rattle.base.specs.Ends.{End, ran}
use Rattle.word.specs.Sums.{SumRule, stopping, holding, stopping_at, Extends}
use Rattle.text.specs.Syntax.{Condition, Command, WHILE◌DO◌}
use Rattle.text.specs.Reading.{read_text}
use Rattle.text.specs.Respelling.{Respelled}
use Rattle.source.specs.BigStep.{BigStep}
use Rattle.source.specs.Calls.{sums, run_source}
use Rattle.source.specs.Rules.{Early, State, Store, start, Ending, tick, truth, exec, run_rules}

-- ---- WHILE

-- "WHILE: the condition; if true the body, one tick, and again". The rule itself: `exec` allows so many passes that the
-- bound is never met.
abbrev pub Again : SumRule → Type 0
Again sum = (b : Condition) (c : Command) (s : State)
    → exec sum (WHILE b DO c) s
    ≡ (do t ← truth sum b false; if t then (do exec sum c; tick; exec sum (WHILE b DO c)) else give tt) s

-- ---- Two rules for sums

-- Two rules of which the second gives what the first gives wherever that fits: a run that does not end out of range
-- by the first is the same by the second.
abbrev pub AgreedBy : SumRule → SumRule → Type 0
AgreedBy first second = Extends first second
    → (c : Command) (s : State) → ((u : Ending) → exec first c s ≡ ended (Early.out_of_range, u) → ⊥)
    → exec second c s ≡ exec first c s

-- The budget n "brings a sum past a limit" (document 02, W8): under it a run of c from s comes to a sum whose exact
-- value is past a limit, with k ticks left after that sum's tick. The other sums hold; that this one comes up is seen
-- by a rule that stops at it
abbrev pub BringsPast : Command → Store → ℕ → ℕ → Type 0
BringsPast c s n k = (u : Ending) × (exec (stopping_at k) c (start n s) ≡ ended (Early.out_of_range, u))

-- These are the texts, stores and budgets of document 01's condition: a run by the stopping rule ends out of range.
abbrev pub SameCondition : Type 0
SameCondition = (c : Command) (s : Store) (n : ℕ)
    → ((k : ℕ) × BringsPast c s n k) ↔ ((u : Ending) × (exec stopping c (start n s) ≡ ended (Early.out_of_range, u)))

-- A run in which no sum passes a limit is the same by both rules: its end, its ticks left, its mark and its store.
abbrev pub Agreed : Type 0
Agreed = (c : Command) (s : Store) (n : ℕ) → ((k : ℕ) → BringsPast c s n k → ⊥)
    → run_rules holding c n s ≡ run_rules stopping c n s

-- ---- The published big-step rules

-- "For a text and starting store for which no budget ends out of range, some budget ends done (budgets in this sentence
-- being of any size) with a store exactly when the published big-step rules lead to that store": by every rule that is
-- exact where it fits, as the stopping rule is.
abbrev pub PublishedBy : SumRule → Type 0
PublishedBy sum = (c : Command) (s : Store)
    → ((n : ℕ) (u : Ending) → exec sum c (start n s) ≡ ended (Early.out_of_range, u) → ⊥)
    → (t : Store) → ((n : ℕ) × (u : State) × (exec sum c (start n s) ≡ ok tt u) × (u.store ≡ t)) ↔ BigStep c s t

-- "The comparison with the published big-step rules keeps to texts and starting stores for which no budget of any size
-- brings a sum past a limit" (document 02, W8): by the calls' rule.
abbrev pub Published : Type 0
Published = (c : Command) (s : Store) → ((n k : ℕ) → BringsPast c s n k → ⊥)
    → (t : Store) → ((n : ℕ) × (u : State) × (exec sums c (start n s) ≡ ok tt u) × (u.store ≡ t)) ↔ BigStep c s t

-- The same of texts and of the call run_source, which runs by that rule.
pub record PublishedText (text : List ℕ) (c : Command) (s : Store) : Type 0 where
  pub same : ((n k : ℕ) → BringsPast c s n k → ⊥)
      → (t : Store)
      → ((budget : ℕ) × (k : ℕ) × (mark : ℕ) × (run_source text s budget ≡ (gives (ran End.done k mark), t)))
      ↔ BigStep c s t

abbrev pub PublishedTexts : Type 0
PublishedTexts = (text : List ℕ) (c : Command) → read_text text ≡ gives c → (s : Store) → length s ≡ 64
    → PublishedText text c s

-- ---- Two spellings of constants

-- `13` "means the same constant as `10` with four" (document 02, W1): commands that differ in constants' widths alone
-- run alike, whatever the rule for sums.
abbrev pub SameRuns : SumRule → Type 0
SameRuns sum = (c d : Command) → Respelled c d → exec sum c ≡ exec sum d
