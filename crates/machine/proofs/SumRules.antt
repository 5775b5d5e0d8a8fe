-- Two rules for sums, the second the first's wherever that fits: so are the runs (Claims: AgreedBy, Agreed). And by a
-- rule that gives a number for every sum no run ends out of range (Claims: NeverOut).
use mathlib.Core.Path.{◌≡◌, refl, sym, ◌∙◌, ap, subst}
use Prim.Native.Nat.{ℕ, zero, suc, max}
use mathlib.Core.Bool.{Bool, true, false}
use mathlib.Core.List.{List}
use mathlib.Core.Option.{Option, none, some}
use lib.Dec.{ltb}
use lib.IntN.{ℤ}
use lib.ListN.{length}
use lib.Signed.{lt_z}
use Rattle.std.specs.Prelude.{if◌then◌else◌}
use Rattle.base.specs.Acts.{Outcome, ok, ended, Act, then'}
use Rattle.base.specs.Ends.{Fault, End, fault, Result, result}
use Rattle.word.specs.Sums.{Sum, fits, out, SumRule, stopping, holding, stopping_at, Extends}
use Rattle.word.specs.Targets.{Target, target}
use Rattle.std.specs.Prelude.{Some, None}
use Rattle.word.proofs.Claims.{same_within}
use Rattle.record.specs.Records.{Record, LOADI, LOAD, ADD, STORE, JMP, JMPLESS, JMPGE}
use Rattle.machine.specs.Machine.{Memory, Machine, at, taken, pop, push, held, keep, in_range, next, land, jump}
use Rattle.machine.specs.Machine.{act, after, due, run_at, run}
use Rattle.machine.specs.Claims.{AgreedBy, BringsPast, Agreed, NeverOut}

-- ---- One record by two rules

module _ {M Name : Type 0} (S H : ℤ → ℤ → Sum) (D : ℕ) (o : Memory M Name) (last : ℕ) where
  -- what comes of a record: the same by both, or out of range by the first, with the sum that was due
  pub data Acts (x y : Outcome (Machine M) Fault (Unit {0})) : Type 0 where
    same : y ≡ x → Acts x y
    past : (a b : ℤ) → S a b ≡ out → x ≡ ended Fault.out_of_range
        → (H a b ≡ out → y ≡ ended Fault.out_of_range) → Acts x y

  by_sum : ((a b z : ℤ) → S a b ≡ fits z → H a b ≡ fits z) → (a b : ℤ) (f : ℤ → Act (Machine M) Fault (Unit {0}))
      (s : Machine M)
      → Acts (then' (in_range S D o last (S a b) s) f) (then' (in_range H D o last (H a b) s) f)
  unfolding in_range then'
  by_sum e a b f s = by (S a b) refl
    where
      by : (r : Sum) → S a b ≡ r
          → Acts (then' (in_range S D o last r s) f) (then' (in_range H D o last (H a b) s) f)
      by (fits z) h = same (ap (λ r. then' (in_range H D o last r s) f) (e a b z h))
      by out h = past a b h refl (λ k. ap (λ r. then' (in_range H D o last r s) f) k)

  pub acts : ((a b z : ℤ) → S a b ≡ fits z → H a b ≡ fits z) → (r : Record Name) (s : Machine M)
      → Acts (act S D o last r s) (act H D o last r s)
  unfolding act pop taken push held keep next jump land then'
  acts e (LOADI z) s = same refl
  acts e (LOAD x) s = same refl
  acts e ADD s = by s.size
    where
      by : (k : ℕ) → Acts (act S D o last ADD (at s.position k s.memory))
          (act H D o last ADD (at s.position k s.memory))
      by zero = same refl
      by (suc zero) = same refl
      by (suc (suc k)) = by_sum e _ _ _ (at s.position k s.memory)
  acts e (STORE x) s = same refl
  acts e (JMP i) s = same refl
  acts e (JMPLESS i) s = same refl
  acts e (JMPGE i) s = same refl

-- ---- A run by two rules

-- the second the first's wherever that fits, and everywhere where the ticks left are late
module _ {M Name : Type 0} (S H : SumRule) (Late : ℕ → Type 0) (agree : Extends S H)
    (late : (n : ℕ) (x y : ℤ) → Late n → H n x y ≡ S n x y) (D : ℕ) (o : Memory M Name) (code : List (Record Name))
  where
    -- a result that is not out of range, or is so late
    abbrev Unless : Result (Machine M) → Type 0
    Unless r = r.end ≡ fault Fault.out_of_range → Late r.left

    alike_at : (n : ℕ) (r : Option (Record Name)) (μ : ℕ) (s : Machine M) → Unless (run_at S D o code n r μ s)
        → run_at H D o code n r μ s ≡ run_at S D o code n r μ s
    unfolding run_at
    alike_at zero none μ s h = refl
    alike_at (suc n) none μ s h = refl
    alike_at zero (some r) μ s h = refl
    alike_at (suc n) (some r) μ s h =
        pick (act (S n) D o (length code) r s) (act (H n) D o (length code) r s)
        (acts (S n) (H n) D o (length code) (agree n) r s)
        (λ t. alike_at n (due S D o code t) (max μ t.size) t) h
      where
        next_S : Machine M → Result (Machine M)
        next_S t = run_at S D o code n (due S D o code t) (max μ t.size) t

        next_H : Machine M → Result (Machine M)
        next_H t = run_at H D o code n (due H D o code t) (max μ t.size) t

        faulted : Fault → Result (Machine M)
        faulted e = result (fault e) n μ s

        pick : (x y : Outcome (Machine M) Fault (Unit {0})) → Acts (S n) (H n) D o (length code) x y
            → ((t : Machine M) → Unless (next_S t) → next_H t ≡ next_S t)
            → Unless (after x next_S faulted) → after y next_H faulted ≡ after x next_S faulted
        pick (ok a t) y (same e) i h = unfold after in ap (λ y. after y next_H faulted) e ∙ i t h
        pick (ended f) y (same e) i h = unfold after in ap (λ y. after y next_H faulted) e
        pick x y (past a b e x-ends y-ends) i h = unfold after in
            let q : after x next_S faulted ≡ faulted Fault.out_of_range = ap (λ x. after x next_S faulted) x-ends in
            let l = subst (λ (r : Result (Machine M)). Late r.left) q
            (h (ap (λ (r : Result (Machine M)). r.end) q)) in
            ap (λ y. after y next_H faulted) (y-ends (late n a b l ∙ e)) ∙ sym q

    pub alike : (n μ : ℕ) (s : Machine M) → Unless (run S D o code n μ s)
        → run H D o code n μ s ≡ run S D o code n μ s
    unfolding run
    alike n μ s = alike_at n (due S D o code s) μ s

module _ {M Name : Type 0} (D : ℕ) (o : Memory M Name) (code : List (Record Name)) where
  pub agreed_by : (first second : SumRule) → AgreedBy D o code first second
  agreed_by S H agree = alike S H (λ _. ⊥) agree (λ n x y l. absurd l) D o code

  -- where the stopping rule ended the run, the rule that stops there ends it too
  stopped : (n μ : ℕ) (s : Machine M) → (run stopping D o code n μ s).end ≡ fault Fault.out_of_range
      → BringsPast D o code n μ s (run stopping D o code n μ s).left
  stopped n μ s e =
      let k = (run stopping D o code n μ s).left in
      ap (λ (r : Result (Machine M)). r.end)
      (alike stopping (stopping_at k) (λ m. m ≡ k) (same_within.held_but_at k) (same_within.stopped_at k) D o code
      n μ s (λ _. refl)) ∙ e

  pub agreed : Agreed D o code
  agreed n μ s no-sum =
      agreed_by stopping holding same_within.held n μ s (λ e. no-sum _ (stopped n μ s e))

-- ---- No end out of range

NotOut : End → Type 0
NotOut End.done = Unit {0}
NotOut End.spent = Unit {0}
NotOut (fault Fault.short) = Unit {0}
NotOut (fault Fault.full) = Unit {0}
NotOut (fault Fault.out_of_range) = ⊥
NotOut (fault Fault.astray) = Unit {0}

Fine : {M A : Type 0} → Outcome (Machine M) Fault A → Type 0
Fine (ok a s) = Unit {0}
Fine (ended e) = NotOut (fault e)

fine_then : {M A B : Type 0} (x : Outcome (Machine M) Fault A) (f : A → Act (Machine M) Fault B) → Fine x
    → ((a : A) (s : Machine M) → Fine (f a s)) → Fine (then' x f)
unfolding Fine then'
fine_then (ok a s) f h k = k a s
fine_then (ended e) f h k = h

fine_if : {M A : Type 0} (b : Bool) (x y : Act (Machine M) Fault A) (s : Machine M) → Fine (x s) → Fine (y s)
    → Fine ((if b then x else y) s)
fine_if true x y s h k = h
fine_if false x y s h k = k

module _ {M Name : Type 0} (sum : ℤ → ℤ → Sum) (number : (x y : ℤ) → (z : ℤ) × (sum x y ≡ fits z)) (D : ℕ)
    (o : Memory M Name) (last : ℕ) where
  fine_taken : (k : ℕ) (s : Machine M) → Fine (taken sum D o last k s)
  unfolding taken Fine NotOut
  fine_taken zero s = tt
  fine_taken (suc k) s = tt

  fine_pop : (s : Machine M) → Fine (pop sum D o last s)
  unfolding pop
  fine_pop s = fine_taken s.size s

  fine_push : (z : ℤ) (s : Machine M) → Fine (then' (push sum D o last z s) (λ _. next sum D o last))
  unfolding push next then'
  fine_push z s = fine_then (push sum D o last z s) _ (by (ltb s.size D)) (λ a s. unfold Fine in tt)
    where
      by : (b : Bool) → Fine {A = Unit {0}}
          (if b then ok tt (at s.position (suc s.size) (o.poke s.memory s.size z)) else ended Fault.full)
      by true = unfold Fine in tt
      by false = unfold Fine NotOut in tt

  fine_land : (t : Target) (s : Machine M) → Fine (land sum D o last t s)
  unfolding land Fine NotOut
  fine_land (Some p) s = tt
  fine_land None s = tt

  fine_jump : (i : ℤ) (s : Machine M) → Fine (jump sum D o last i s)
  unfolding jump
  fine_jump i s = fine_land (target s.position i last) s

  fine_next : (s : Machine M) → Fine (next sum D o last s)
  unfolding next Fine
  fine_next s = tt

  -- a sum is a number
  fine_sum : (x y : ℤ) (s : Machine M) → Fine (in_range sum D o last (sum x y) s)
  unfolding in_range Fine
  fine_sum x y s = subst (λ r. Fine (in_range sum D o last r s)) (sym (number x y).1) tt

  fine_two : (f : ℤ → ℤ → Act (Machine M) Fault (Unit {0})) (s : Machine M)
      → ((x y : ℤ) (t : Machine M) → Fine (f x y t))
      → Fine (then' (pop sum D o last s) (λ y t. then' (pop sum D o last t) (λ x. f x y)))
  fine_two f s h = fine_then _ _ (fine_pop s) (λ y t. fine_then _ _ (fine_pop t) (λ x u. h x y u))

  fine_act : (r : Record Name) (s : Machine M) → Fine (act sum D o last r s)
  unfolding act held keep then'
  fine_act (LOADI z) s = fine_push z s
  fine_act (LOAD x) s = fine_push (o.load s.memory x) s
  fine_act ADD s = fine_two _ s (λ x y t. fine_then _ _ (fine_sum x y t) (λ z u. fine_push z u))
  fine_act (STORE x) s = fine_then _ _ (fine_pop s) (λ z t. fine_next _)
  fine_act (JMP i) s = fine_jump i s
  fine_act (JMPLESS i) s = fine_two _ s (λ x y t. fine_if (lt_z x y) _ _ t (fine_jump i t) (fine_next t))
  fine_act (JMPGE i) s = fine_two _ s (λ x y t. fine_if (lt_z x y) _ _ t (fine_next t) (fine_jump i t))

module _ {M Name : Type 0} (D : ℕ) (o : Memory M Name) (code : List (Record Name)) where
  fine_at : (n : ℕ) (r : Option (Record Name)) (μ : ℕ) (s : Machine M) → NotOut (run_at holding D o code n r μ s).end
  unfolding run_at NotOut
  fine_at zero none μ s = tt
  fine_at (suc n) none μ s = tt
  fine_at zero (some r) μ s = tt
  fine_at (suc n) (some r) μ s =
      pick (act (holding n) D o (length code) r s)
      (fine_act (holding n) (λ x y. unfold holding in (_, refl)) D o (length code) r s)
      (λ t. fine_at n (due holding D o code t) (max μ t.size) t)
    where
      on : Machine M → Result (Machine M)
      on t = run_at holding D o code n (due holding D o code t) (max μ t.size) t

      pick : (x : Outcome (Machine M) Fault (Unit {0})) → Fine x → ((t : Machine M) → NotOut (on t).end)
          → NotOut (after x on (λ e. result (fault e) n μ s)).end
      pick (ok a t) h i = unfold after in i t
      pick (ended e) h i = unfold after Fine in h

  pub never_out : NeverOut D o code
  unfolding run
  never_out n μ s e = unfold NotOut in subst NotOut e (fine_at n (due holding D o code s) μ s)
