-- What is claimed of runs, on any memory, of any code and under any rule for sums. A run's count is the number of its
-- steps, its mark the most values that its stack held; it stays within its code and its stack; two rules for sums that
-- agree give the same runs; a run goes on where it was spent. The proof of the same spelling stands in proofs/.
use Rattle.std.specs.Prelude.{◌≡◌, ◌⊎◌, ℕ, suc, ◌+◌, ◌≤◌, List, length}
use Rattle.std.proofs.Math.Option.{none, some}
use Rattle.std.proofs.Math.ListN.{get_elem?}
use Rattle.base.specs.Acts.{ok, ended}
use Rattle.word.specs.Sums.{SumRule, stopping, holding, stopping_at, Extends}
use Rattle.record.specs.Records.{Record}
use Rattle.base.specs.Ends.{Fault, End, fault, Result, result}
use Rattle.machine.specs.Machine.{Memory, Machine, act, run}

-- ---- Runs as steps

module _ {M Name : Type 0} (sum : SumRule) (D : ℕ) (o : Memory M Name) (code : List (Record Name)) where
  -- `Walk n n' s s'`: steps lead from s with n ticks left to s' with n' left, one tick a step
  pub data Walk : ℕ → ℕ → Machine M → Machine M → Type 0 where
    stay : {n : ℕ} {s : Machine M} → Walk n n s s
    step : {n n' : ℕ} {s s' s'' : Machine M} (r : Record Name) → get_elem? code s.position ≡ some r
        → act (sum n) D o (length code) r s ≡ ok tt s' → Walk n n' s' s'' → Walk (suc n) n' s s''

  -- what a result with n' ticks left in the machine s' says of the steps made
  abbrev pub Made : ℕ → Machine M → End → ℕ → Machine M → Type 0
  Made n s End.done n' s' = Walk n n' s s' × (get_elem? code s'.position ≡ none)
  Made n s End.spent n' s' = Walk n n' s s' × (n' ≡ 0) × (r : Record Name) × (get_elem? code s'.position ≡ some r)
  Made n s (fault e) n' s' = Walk n (suc n') s s'
      × (r : Record Name) × (get_elem? code s'.position ≡ some r)
      × (act (sum n') D o (length code) r s' ≡ ended e)

  -- A run's count is the number of steps that it made, the record that brought a fault counted too.
  abbrev pub Counted : Type 0
  Counted = (n mark : ℕ) (s : Machine M) → let r = run sum D o code n mark s in Made n s r.end r.left r.leaves

  -- `Most n mark s high`: on the way from s with n ticks `high` is the most, the mark before counted too: no machine
  -- that steps lead to has more values on its stack, and one of them has so many, or the mark was so high before
  pub record Most (n mark : ℕ) (s : Machine M) (high : ℕ) : Type 0 where
    pub kept : mark ≤ high
    pub no_more : (n' : ℕ) (s' : Machine M) → Walk n n' s s' → s'.size ≤ high
    pub reached : (high ≡ mark) ⊎ ((n' : ℕ) × (s' : Machine M) × Walk n n' s s' × (s'.size ≡ high))

  -- "the most values that the stack held during the run" (document 02, W2) is what a run's mark is.
  abbrev pub Highest : Type 0
  Highest = (n mark : ℕ) (s : Machine M) → s.size ≤ mark → Most n mark s (run sum D o code n mark s).mark

  -- A machine that stands at most at its code's end position, with at most as many values on its stack as its mark, and
  -- that at most D: as a fresh one does, with mark 0
  pub record InBounds (mark : ℕ) (s : Machine M) : Type 0 where
    pub placed : s.position ≤ length code
    pub held : s.size ≤ mark
    pub marked : mark ≤ D

  -- A run from such a machine, at any budget and whatever the code, leaves such a machine.
  abbrev pub Inside : Type 0
  Inside = (n mark : ℕ) (s : Machine M) → InBounds mark s
      → let r = run sum D o code n mark s in InBounds r.mark r.leaves

-- ---- Two rules for sums (document 02, W8)

-- A run with n ticks from a machine with a mark, of the code on a memory with D stack slots, by a rule for sums
module _ {M Name : Type 0} (D : ℕ) (o : Memory M Name) (code : List (Record Name)) where
  -- Two rules of which the second gives what the first gives wherever that fits: a run that does not end out of range
  -- by the first is the same by the second.
  abbrev pub AgreedBy : SumRule → SumRule → Type 0
  AgreedBy first second = Extends first second → (n mark : ℕ) (s : Machine M)
      → ((run first D o code n mark s).end ≡ fault Fault.out_of_range → ⊥)
      → run second D o code n mark s ≡ run first D o code n mark s

  -- The run comes to a sum whose exact value is past a limit, with k ticks left after that record. The other sums hold;
  -- that this one comes up is seen by a rule that stops at it
  abbrev pub BringsPast : ℕ → ℕ → Machine M → ℕ → Type 0
  BringsPast n mark s k = (run (stopping_at k) D o code n mark s).end ≡ fault Fault.out_of_range

  -- A run in which no sum passes a limit is the same by both rules: its end, its ticks left, its mark, and the machine
  -- that it leaves.
  abbrev pub Agreed : Type 0
  Agreed = (n mark : ℕ) (s : Machine M) → ((k : ℕ) → BringsPast n mark s k → ⊥)
      → run holding D o code n mark s ≡ run stopping D o code n mark s

  -- "No run ends out of range from now on": of any code, on any memory, from any machine, under any budget.
  abbrev pub NeverOut : Type 0
  NeverOut = (n mark : ℕ) (s : Machine M) → (run holding D o code n mark s).end ≡ fault Fault.out_of_range → ⊥

-- ---- A run in two parts

-- In the first of two parts a rule for sums is asked with fewer ticks left than in the whole run. So the first part has
-- the rule that counts the b ticks of the second as left too.
abbrev pub ahead : ℕ → SumRule → SumRule
ahead b sum = λ n x y. sum (n + b) x y

module _ {M Name : Type 0} (sum : SumRule) (D : ℕ) (o : Memory M Name) (code : List (Record Name)) where
  -- A first part gone on with b ticks more: where it was spent, the machine that it left runs on with them, from its
  -- mark; any other end stays, with b ticks more left.
  unfoldable pub resume : ℕ → End → ℕ → ℕ → Machine M → Result (Machine M)
  resume b End.done n mark s = result End.done (n + b) mark s
  resume b End.spent n mark s = run sum D o code b mark s
  resume b (fault e) n mark s = result (fault e) (n + b) mark s

  -- A run with a + b ticks is the run with a ticks, gone on with b more: the same end, count, mark and machine. Runs in
  -- pieces rest on it (document 02, W7).
  abbrev pub Split : Type 0
  Split = (a b mark : ℕ) (s : Machine M) → let r = run (ahead b sum) D o code a mark s in
      run sum D o code (a + b) mark s ≡ resume b r.end r.left r.mark r.leaves
