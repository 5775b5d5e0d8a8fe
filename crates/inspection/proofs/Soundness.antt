-- The machine does with a record what is said of it (Claims: Effects); so code with heights never ends short, full or
-- astray, and its mark is one of the heights (Sound). The idea: on every way from a fresh machine its position can be
-- reached and its size is that position's height.
use mathlib.Core.Path.{◌≡◌, refl, sym, ◌∙◌, ap, subst}
use mathlib.Core.Logic.{◌⊎◌, inl, inr}
use Prim.Native.Nat.{ℕ, suc, ◌-◌, ◌≤◌, ◌<◌}
use native.Mathlib.Omega.{arith}
use mathlib.Core.Bool.{Bool, true, false}
use mathlib.Core.List.{List}
use mathlib.Core.Option.{some}
use lib.IntN.{ℤ}
use lib.ListN.{length, get_elem?}
use lib.Signed.{lt_z}
use Rattle.base.specs.Acts.{Outcome, ok, ended, then'}
use Rattle.base.specs.Ends.{Fault, short, full, out_of_range, astray, End, done, spent, fault}
use Rattle.word.specs.Sums.{Sum, fits, out, SumRule}
use Rattle.word.specs.Targets.{Target, target}
use Rattle.std.specs.Prelude.{Some, None}
use Rattle.record.specs.Records.{Record, LOADI, LOAD, ADD, STORE, JMP, JMPLESS, JMPGE}
use Rattle.machine.specs.Machine.{Memory, Machine, at, fresh, held, jump, act, run}
use Rattle.machine.specs.Claims.{Walk, stay, step, Made}
use Rattle.machine.proofs.Counting.{counted}
use Rattle.machine.proofs.Marks.{highest}
use Rattle.machine.proofs.Steps.{push_on, push_full, add_short, add_fits, add_out, store_short, store_on, jump_to}
use Rattle.machine.proofs.Steps.{jump_astray, compare_short, compare_taken, compare_passed}
use Rattle.inspection.specs.Heights as Rules
use Rattle.inspection.specs.Heights.{effect, leads, successor, height_after, Reached, first, Heights}
use Rattle.inspection.specs.Claims.{Goes, Effects, Safe, Sound, OneHeight}

-- ---- A record

module _ {M Name : Type 0} (sum : ℤ → ℤ → Sum) (D : ℕ) (o : Memory M Name) (last : ℕ) where
  abbrev Comes : Record Name → ℕ → ℕ → Outcome (Machine M) Fault (Unit {0}) → Type 0
  Comes = Goes sum D o last

  -- an outcome that is known
  comes : (r : Record Name) (p k : ℕ) {x y : Outcome (Machine M) Fault (Unit {0})} → x ≡ y → Comes r p k y
      → Comes r p k x
  comes r p k e = subst (Comes r p k) (sym e)

  ADD_goes : (p k : ℕ) (m : M) → 2 ≤ k → k ≤ D → (x : Sum) → sum (o.peek m (k - 2)) (o.peek m (k - 1)) ≡ x
      → Comes ADD p k (act sum D o last ADD (at p k m))
  unfolding effect leads
  ADD_goes p k m h d (fits z) e =
      comes ADD p k (add_fits sum D o last z p k m h d e) (true, ap Some (omega arith), omega arith)
  ADD_goes p k m h d out e = comes ADD p k (add_out sum D o last p k m h d e) tt

  -- a jump to a target, by a record that leaves k' values
  jump_goes : (r : Record Name) (i : ℤ) (p k k' : ℕ) (m : M) (t : Target) → target p i last ≡ t
      → successor last p r true ≡ target p i last → height_after r k ≡ k'
      → {x : Outcome (Machine M) Fault (Unit {0})} → x ≡ jump sum D o last i (at p k' m) → Comes r p k x
  jump_goes r i p k k' m (Some q) e l f g =
      comes r p k (g ∙ jump_to sum D o last i p q k' m e) (true, l ∙ e, sym f)
  jump_goes r i p k k' m None e l f g =
      comes r p k (g ∙ jump_astray sum D o last i p k' m e) (true, l ∙ e)

  JMPLESS_goes : (i : ℤ) (p k : ℕ) (m : M) → 2 ≤ k → (b : Bool) → lt_z (o.peek m (k - 2)) (o.peek m (k - 1)) ≡ b
      → Comes (JMPLESS i) p k (act sum D o last (JMPLESS i) (at p k m))
  unfolding effect leads
  JMPLESS_goes i p k m h true b =
      jump_goes (JMPLESS i) i p k (k - 2) m _ refl refl (omega arith) (compare_taken sum D o last true i p k m h b)
  JMPLESS_goes i p k m h false b =
      comes (JMPLESS i) p k (compare_passed sum D o last true i p k m h b) (false, ap Some (omega arith), omega arith)

  JMPGE_goes : (i : ℤ) (p k : ℕ) (m : M) → 2 ≤ k → (b : Bool) → lt_z (o.peek m (k - 2)) (o.peek m (k - 1)) ≡ b
      → Comes (JMPGE i) p k (act sum D o last (JMPGE i) (at p k m))
  unfolding effect leads
  JMPGE_goes i p k m h false b =
      jump_goes (JMPGE i) i p k (k - 2) m _ refl refl (omega arith) (compare_taken sum D o last false i p k m h b)
  JMPGE_goes i p k m h true b =
      comes (JMPGE i) p k (compare_passed sum D o last false i p k m h b) (false, ap Some (omega arith), omega arith)

  act_goes : (r : Record Name) (p k : ℕ) (m : M) → k ≤ D → (effect r).takes ≤ k → height_after r k ≤ D
      → Comes r p k (act sum D o last r (at p k m))
  unfolding effect leads act held then'
  act_goes (LOADI z) p k m d h w =
      comes (LOADI z) p k (push_on sum D o last z p k m (omega arith)) (true, ap Some (omega arith), omega arith)
  act_goes (LOAD x) p k m d h w =
      comes (LOAD x) p k (push_on sum D o last (o.load m x) p k m (omega arith))
      (true, ap Some (omega arith), omega arith)
  act_goes ADD p k m d h w = ADD_goes p k m h d _ refl
  act_goes (STORE x) p k m d h w =
      comes (STORE x) p k (store_on sum D o last x p k m h) (true, ap Some (omega arith), omega arith)
  act_goes (JMP i) p k m d h w = jump_goes (JMP i) i p k k m _ refl refl (omega arith) refl
  act_goes (JMPLESS i) p k m d h w = JMPLESS_goes i p k m h _ refl
  act_goes (JMPGE i) p k m d h w = JMPGE_goes i p k m h _ refl

  act_short : (r : Record Name) (p k : ℕ) (m : M) → k < (effect r).takes
      → act sum D o last r (at p k m) ≡ ended short
  unfolding effect
  act_short (LOADI z) p k m h = absurd (omega arith)
  act_short (LOAD x) p k m h = absurd (omega arith)
  act_short ADD p k m h = add_short sum D o last p k m h
  act_short (STORE x) p k m h = store_short sum D o last x p k m h
  act_short (JMP i) p k m h = absurd (omega arith)
  act_short (JMPLESS i) p k m h = (compare_short sum D o last i p k m h).0
  act_short (JMPGE i) p k m h = (compare_short sum D o last i p k m h).1

  act_full : (r : Record Name) (p k : ℕ) (m : M) → k ≤ D → (effect r).takes ≤ k → D < height_after r k
      → act sum D o last r (at p k m) ≡ ended full
  unfolding effect act held then'
  act_full (LOADI z) p k m d h w = push_full sum D o last z p k m (omega arith)
  act_full (LOAD x) p k m d h w = push_full sum D o last (o.load m x) p k m (omega arith)
  act_full ADD p k m d h w = absurd (omega arith)
  act_full (STORE x) p k m d h w = absurd (omega arith)
  act_full (JMP i) p k m d h w = absurd (omega arith)
  act_full (JMPLESS i) p k m d h w = absurd (omega arith)
  act_full (JMPGE i) p k m d h w = absurd (omega arith)

pub effects : Effects
effects M Name sum D o last r p k m d = record {
  takes_more = act_short sum D o last r p k m;
  past_D = act_full sum D o last r p k m d;
  goes = act_goes sum D o last r p k m d;
}

-- ---- Heights of the positions that can be reached

module _ {Name : Type 0} (D : ℕ) (P : List (Record Name)) where
  deep : (h : ℕ → ℕ) → Heights D P h → (p : ℕ) → Reached P p → h p ≤ D
  deep h H p (first) = omega (arith, H.start)
  deep h H p (Rules.step {p = p₀} {r = r} taken w e l) =
      omega (arith, H.follows p₀ r w e taken p l, H.room p₀ r w e)

  same : (h h' : ℕ → ℕ) → Heights D P h → Heights D P h' → (p : ℕ) → Reached P p → h p ≡ h' p
  same h h' H H' p (first) = H.start ∙ sym H'.start
  same h h' H H' p (Rules.step {p = p₀} {r = r} taken w e l) =
      H.follows p₀ r w e taken p l ∙ ap (height_after r) (same h h' H H' p₀ w) ∙ sym (H'.follows p₀ r w e taken p l)

pub one_height : OneHeight
one_height Name D P h h' H H' p w = (same D P h h' H H' p w, deep D P h H p w)

-- ---- A run

module _ {M Name : Type 0} (sum : SumRule) (D : ℕ) (o : Memory M Name) (P : List (Record Name)) (h : ℕ → ℕ)
    (H : Heights D P h) where
  -- the machine stands at a position that can be reached, at its height
  record AtHeight (s : Machine M) : Type 0 where
    reached : Reached P s.position
    height : s.size ≡ h s.position

  first_at_height : (m : M) → AtHeight (fresh m)
  first_at_height m = record { reached = first; height = sym H.start }

  -- what comes of the record due
  due_goes : (n : ℕ) (s : Machine M) (r : Record Name) → AtHeight s → get_elem? P s.position ≡ some r
      → Goes (sum n) D o (length P) r s.position s.size (act (sum n) D o (length P) r s)
  due_goes n s r x e =
      act_goes (sum n) D o (length P) r s.position s.size s.memory
      (omega (arith, x.height, deep D P h H _ x.reached))
      (omega (arith, x.height, H.enough _ r x.reached e))
      (subst (λ k. height_after r k ≤ D) (sym x.height) (H.room _ r x.reached e))

  step_at_height : (n : ℕ) (s s' : Machine M) (r : Record Name) → AtHeight s → get_elem? P s.position ≡ some r
      → act (sum n) D o (length P) r s ≡ ok tt s' → AtHeight s'
  step_at_height n s s' r x e f =
      let g = subst (Goes (sum n) D o (length P) r s.position s.size) f (due_goes n s r x e) in
      record {
        reached = Rules.step g.0 x.reached e g.1;
        height = g.2 ∙ ap (height_after r) x.height ∙ sym (H.follows _ r x.reached e g.0 _ g.1);
      }

  walk_at_height : (n n' : ℕ) (s s' : Machine M) → Walk sum D o P n n' s s' → AtHeight s → AtHeight s'
  walk_at_height n n' s s' (stay) x = x
  walk_at_height n n' s s' (step {n = k} {s' = t} r e f w) x = walk_at_height k n' t s' w (step_at_height k s t r x e f)

  -- the record due brings no fault but a sum out of range
  fault_safe : (n : ℕ) (s : Machine M) (r : Record Name) (e : Fault) → AtHeight s → get_elem? P s.position ≡ some r
      → act (sum n) D o (length P) r s ≡ ended e → Safe (fault e)
  fault_safe n s r e x d f =
      pick e (subst (Goes (sum n) D o (length P) r s.position s.size) f (due_goes n s r x d))
    where
      pick : (e : Fault) → Goes (sum n) D o (length P) r s.position s.size (ended e) → Safe (fault e)
      pick short g = g
      pick full g = g
      pick out_of_range g = tt
      pick astray g = H.lands _ r x.reached d g.0 g.1

  made_safe : (n n' : ℕ) (s s' : Machine M) (e : End) → AtHeight s → Made sum D o P n s e n' s' → Safe e
  made_safe n n' s s' done x made = tt
  made_safe n n' s s' spent x made = tt
  made_safe n n' s s' (fault e) x (w, r, d, f) = fault_safe n' s' r e (walk_at_height n (suc n') s s' w x) d f

  mark_low : (n mark : ℕ) (m : M)
      → (mark ≡ 0) ⊎ ((n' : ℕ) × (s' : Machine M) × Walk sum D o P n n' (fresh m) s' × (s'.size ≡ mark))
      → (p : ℕ) × Reached P p × (mark ≡ h p)
  mark_low n mark m (inl e) = (0, first, e ∙ sym H.start)
  mark_low n mark m (inr (n', s', w, e)) =
      let x = walk_at_height n n' (fresh m) s' w (first_at_height m) in
      (s'.position, x.reached, sym e ∙ x.height)

pub sound : (sum : SumRule) → Sound sum
sound sum M Name D o P h H n m =
    let r = run sum D o P n 0 (fresh m) in
    record {
      safe = made_safe sum D o P h H n r.left (fresh m) r.leaves r.end (first_at_height sum D o P h H m)
          (counted sum D o P n 0 (fresh m));
      low = mark_low sum D o P h H n r.mark m (highest sum D o P n 0 (fresh m) (omega arith)).reached;
    }
