-- What each record does, counted, in the form in which the executors' code has it: r is the step that the code hands
-- back, and the numbers read and written come with what they are. Over any memory, from the laws of Steps.
use mathlib.Core.Path.{◌≡◌, refl, sym, ◌∙◌, ap, ap₂}
use Prim.Native.Nat.{ℕ, ◌+◌, ◌-◌, ◌≤◌, ◌<◌, max}
use native.Mathlib.Omega.{arith}
use mathlib.Core.Bool.{Bool, true, false, not, beq}
use mathlib.Core.List.{List}
use lib.IntN.{ℤ, ◌+ℤ◌}
use lib.Signed.{lt_z}
use Rattle.base.specs.Acts.{ok, then'}
use Rattle.base.specs.declared.End.TheVariants.{Short, Full}
use Rattle.word.specs.Sums.{fits, clamped, holding}
use Rattle.word.specs.Targets.{target}
use Rattle.record.specs.Records.{Record, LOADI, LOAD, ADD, STORE, JMP}
use Rattle.machine.specs.Machine.{Memory, at, held, act}
use Rattle.machine_cells.specs.Lents.{Lent}
use Rattle.machine_step.specs.Code.{Step, stopped, moved, landed, Stepped, step_of, counted, does}
use Rattle.machine_step.specs.Steps.{comparing}
use Rattle.machine_step.specs.declared.Machine.{Machine}
use Rattle.machine_step.proofs.Running.{moves_to, moves_below, landed_is}
use Rattle.machine.proofs.Steps.{push_on, push_full, add_short, add_fits, store_short, store_on}
use Rattle.machine.proofs.Steps.{compare_stopped, compare_taken, compare_passed}
use Rattle.machine.specs.Calls.{sums}

-- What the test of two Bools says.
pub same_flag : (b flag : Bool) → beq b flag ≡ true → b ≡ flag
same_flag true true e = refl
same_flag true false e = sym e
same_flag false true e = e
same_flag false false e = refl

pub other_flag : (b flag : Bool) → beq b flag ≡ false → b ≡ not flag
other_flag true true e = e
other_flag true false e = refl
other_flag false true e = refl
other_flag false false e = sym e

-- Where a record is done: D, the memory's form, the code's end position, the machine, with its values within its mark,
-- and its memory
pub record Place (M Name : Type 0) : Type 0 where
  pub depth : ℕ
  pub form : Memory M Name
  pub last : ℕ
  pub machine : Machine
  pub held : machine.size ≤ machine.mark
  pub memory : M

-- in slices that are lent
abbrev pub place : {M Name : Type 0} (x : Lent M Name) (last : ℕ) (s : Machine) → s.size ≤ s.mark → List ℤ → List ℤ
    → Place M Name
place x last s held store stack =
    record {
      depth = x.depth;
      form = x.form;
      last = last;
      machine = s;
      held = held;
      memory = x.memory store stack;
    }

module _ {M Name : Type 0} (here : Place M Name) where
  abbrev D : ℕ
  D = here.depth

  abbrev o : Memory M Name
  o = here.form

  abbrev last : ℕ
  last = here.last

  abbrev s : Machine
  s = here.machine

  abbrev p : ℕ
  p = s.position

  abbrev k : ℕ
  k = s.size

  abbrev μ : ℕ
  μ = s.mark

  abbrev m : M
  m = here.memory

  -- a step on with no more values than there were: the mark stays
  steps_on : {r : Step} {m' m'' : M} (size : ℕ) → r ≡ moved s (p + 1) size μ → m' ≡ m'' → size ≤ k
      → step_of r m' ≡ counted s m (ok tt (at (p + 1) size m''))
  steps_on {m'' = m''} size e f h = ap₂ step_of e f ∙ moves_below s m m'' (p + 1) size (omega (arith, here.held))

  -- what a record does here
  abbrev pub did : Record Name → Stepped M
  did = does D o last s m

  -- what did another form of the record due did the record due
  pub as_due : {stepped : Stepped M} {r r' : Record Name} → r ≡ r' → stepped ≡ did r → stepped ≡ did r'
  as_due is done = done ∙ ap did is

  -- the second value on the stack, and the top
  abbrev pub second : ℤ
  second = o.peek m (k - 2)

  abbrev pub top : ℤ
  top = o.peek m (k - 1)

  -- ---- What the code found

  -- The sum of the values read is the rule's sum,
  pub summed : {x y z : ℤ} → z ≡ clamped (x +ℤ y) → x ≡ second → y ≡ top → sums 0 second top ≡ fits z
  unfolding holding
  summed e f g = sym (ap fits e ∙ ap₂ (sums 0) f g)

  -- and their comparison is the two values'.
  pub compared : {x y : ℤ} {b b' : Bool} → b ≡ lt_z x y → x ≡ second → y ≡ top → b ≡ b' → lt_z second top ≡ b'
  compared e f g h = sym (e ∙ ap₂ lt_z f g) ∙ h

  -- ---- LOADI and LOAD

  pub loadi_full : {r : Step} (z : ℤ) → r ≡ stopped s Full → D ≤ k → step_of r m ≡ did (LOADI z)
  unfolding counted act
  loadi_full z e h = ap (λ r. step_of r m) e ∙ sym (ap (counted s m) (push_full (sums 0) D o last z p k m h))

  pub loadi_pushed : {r : Step} {m' : M} {z z' : ℤ} {mark : ℕ} → r ≡ moved s (p + 1) (k + 1) mark
      → mark ≡ max μ (k + 1) → m' ≡ o.poke m k z' → z' ≡ z → k < D → step_of r m' ≡ did (LOADI z)
  unfolding act
  loadi_pushed {z = z} {mark = mark} e raised f g h =
      ap₂ step_of e (f ∙ ap (o.poke m k) g)
      ∙ moves_to s m (o.poke m k z) (p + 1) (k + 1) mark raised
      ∙ sym (ap (counted s m) (push_on (sums 0) D o last z p k m h))

  -- LOAD does what LOADI does with what the name holds.
  pub load_pushed : {stepped : Stepped M} {z : ℤ} (x : Name) → z ≡ o.load m x → stepped ≡ did (LOADI z)
      → stepped ≡ did (LOAD x)
  unfolding act held then'
  load_pushed x e done = done ∙ ap (λ (z : ℤ). did (LOADI z)) e

  -- ---- ADD

  pub add_stops : {r : Step} → r ≡ stopped s Short → k < 2 → step_of r m ≡ did ADD
  unfolding counted
  add_stops e h = ap (λ r. step_of r m) e ∙ sym (ap (counted s m) (add_short (sums 0) D o last p k m h))

  pub add_pushed : {r : Step} {m' : M} {z : ℤ} → r ≡ moved s (p + 1) (k - 1) μ → m' ≡ o.poke m (k - 2) z → 2 ≤ k
      → μ ≤ D → sums 0 second top ≡ fits z → step_of r m' ≡ did ADD
  add_pushed {z = z} e f h d q =
      steps_on (k - 1) e f (omega arith)
      ∙ sym (ap (counted s m) (add_fits (sums 0) D o last z p k m h (omega (arith, here.held)) q))

  -- ---- STORE

  pub store_stops : {r : Step} (x : Name) → r ≡ stopped s Short → k < 1 → step_of r m ≡ did (STORE x)
  unfolding counted
  store_stops x e h = ap (λ r. step_of r m) e ∙ sym (ap (counted s m) (store_short (sums 0) D o last x p k m h))

  pub store_saved : {r : Step} {m' : M} {z : ℤ} (x : Name) → r ≡ moved s (p + 1) (k - 1) μ → m' ≡ o.save m x z
      → z ≡ top → 1 ≤ k → step_of r m' ≡ did (STORE x)
  store_saved x e f g h =
      steps_on (k - 1) e (f ∙ ap (o.save m x) g) (omega arith)
      ∙ sym (ap (counted s m) (store_on (sums 0) D o last x p k m h))

  -- ---- Jumps

  -- a jump taken with `size` values left
  jumped : {r : Step} {i i' : ℤ} (size : ℕ) → r ≡ landed s size (target p i' last) → i' ≡ i
      → step_of r m ≡ step_of (landed s size (target p i last)) m
  jumped size e f =
      ap (λ r. step_of r m) (e ∙ ap (λ (i : ℤ). landed s size (target p i last)) f)

  pub jmp_landed : {r : Step} {i i' : ℤ} → r ≡ landed s k (target p i' last) → i' ≡ i → step_of r m ≡ did (JMP i)
  unfolding act
  jmp_landed {i = i} e f = jumped k e f ∙ landed_is D o last s m k i here.held

  pub compare_stops : {r : Step} (flag : Bool) (i : ℤ) → r ≡ stopped s Short → k < 2
      → step_of r m ≡ did (comparing flag i)
  unfolding counted
  compare_stops flag i e h =
      ap (λ r. step_of r m) e ∙ sym (ap (counted s m) (compare_stopped (sums 0) D o last flag i p k m h))

  pub compare_landed : {r : Step} {i i' : ℤ} (flag : Bool) → r ≡ landed s (k - 2) (target p i' last) → i' ≡ i → 2 ≤ k
      → lt_z second top ≡ flag → step_of r m ≡ did (comparing flag i)
  compare_landed {i = i} flag e f h q =
      jumped (k - 2) e f ∙ landed_is D o last s m (k - 2) i (omega (arith, here.held))
      ∙ sym (ap (counted s m) (compare_taken (sums 0) D o last flag i p k m h q))

  pub compare_passes : {r : Step} (flag : Bool) (i : ℤ) → r ≡ moved s (p + 1) (k - 2) μ → 2 ≤ k
      → lt_z second top ≡ not flag → step_of r m ≡ did (comparing flag i)
  compare_passes flag i e h q =
      steps_on (k - 2) e refl (omega arith)
      ∙ sym (ap (counted s m) (compare_passed (sums 0) D o last flag i p k m h q))
