-- A step keeps the position within the code, the stack within its depth, and of the memory whatever saving and poking
-- keep; and so does a run, its mark staying within the depth too (Claims: Inside).
-- `Goes x Q` says that Q holds of an outcome that is no fault.
use mathlib.Core.Path.{◌≡◌, refl, subst}
use Prim.Native.Nat.{ℕ, zero, suc, ◌≤◌, ◌<◌, max}
use native.Mathlib.Omega.{arith}
use mathlib.Core.Bool.{Bool, true, false}
use mathlib.Core.List.{List, [], ◌∷◌}
use mathlib.Core.Option.{Option, none, some}
use lib.IntN.{ℤ, pos, negsuc, ◌+ℤ◌}
use lib.Dec.{T, ltb, leb, leb→le}
use lib.ListN.{length, get_elem?}
use lib.Signed.{lt_z}
use Rattle.std.specs.Prelude.{if◌then◌else◌}
use Rattle.base.specs.Acts.{Outcome, ok, ended, Act, then'}
use Rattle.word.specs.Sums.{Sum, fits, out, SumRule}
use Rattle.word.specs.Targets.{Target, within, target}
use Rattle.std.specs.Prelude.{Some, None}
use Rattle.record.specs.Records.{Record, LOADI, LOAD, ADD, STORE, JMP, JMPLESS, JMPGE}
use Rattle.base.specs.Ends.{Fault, fault, Result, result}
use Rattle.machine.specs.Machine.{Memory, Machine, at, fresh, taken, pop, push}
use Rattle.machine.specs.Machine.{held, keep, in_range, next, land, jump, act, after, due, run_at, run}
use Rattle.machine.specs.Claims.{InBounds, Inside}

-- a property of memories that saving and poking keep
pub record Keeps {M Name : Type 0} (D : ℕ) (o : Memory M Name) (Q : M → Type 0) : Type 0 where
  pub saved : (m : M) (x : Name) (z : ℤ) → Q m → Q (o.save m x z)
  pub poked : (m : M) (i : ℕ) (z : ℤ) → i < D → Q m → Q (o.poke m i z)

-- what an outcome that is no fault owes
abbrev Goes : {M A : Type 0} → Outcome (Machine M) Fault A → (A → Machine M → Type 0) → Type 0
Goes (ok a s) Q = Q a s
Goes (ended e) Q = Unit {0}

goes_then : {M A B : Type 0} (x : Outcome (Machine M) Fault A) (f : A → Act (Machine M) Fault B)
    (Q : B → Machine M → Type 0)
    → Goes x (λ a s. Goes (f a s) Q) → Goes (then' x f) Q
unfolding then'
goes_then (ok a s) f Q h = h
goes_then (ended e) f Q h = tt

goes_if : {M A : Type 0} (b : Bool) (x y : Outcome (Machine M) Fault A) (Q : A → Machine M → Type 0)
    → (T b → Goes x Q) → Goes y Q → Goes (if b then x else y) Q
goes_if true x y Q h k = h tt
goes_if false x y Q h k = k

goes_either : {M A : Type 0} (b : Bool) (x y : Act (Machine M) Fault A) (s : Machine M) (Q : A → Machine M → Type 0)
    → Goes (x s) Q → Goes (y s) Q → Goes ((if b then x else y) s) Q
goes_either true x y s Q h k = h
goes_either false x y s Q h k = k

pub some_below : {A : Type 0} (l : List A) (p : ℕ) (x : A) → get_elem? l p ≡ some x → p < length l
some_below [] p x e = absurd (let z : ◌≡◌ {A = ℕ} 0 1 = cc in omega arith)
some_below (y ∷ l) zero x e = omega arith
some_below (y ∷ l) (suc p) x e = omega (arith, some_below l p x e)

within_test : (b : Bool) (p q last : ℕ) → (T b → p ≤ last) → (if b then Some p else None) ≡ Some q → q ≤ last
within_test true p q last h e = let same : p ≡ q = cc in omega (arith, h tt)
within_test false p q last h e = absurd (let z : ◌≡◌ {A = ℕ} 0 1 = cc in omega arith)

within_last : (last : ℕ) (z : ℤ) (q : ℕ) → within last z ≡ Some q → q ≤ last
unfolding within
within_last last (pos p) q e = within_test (leb p last) p q last (leb→le p last) e
within_last last (negsuc p) q e = absurd (let z : ◌≡◌ {A = ℕ} 0 1 = cc in omega arith)

-- a target is at most the end position
pub target_within : (p : ℕ) (i : ℤ) (last q : ℕ) → target p i last ≡ Some q → q ≤ last
unfolding target
target_within p i last q = within_last last (pos (suc p) +ℤ i) q

module _ {M Name : Type 0} (sum : ℤ → ℤ → Sum) (D : ℕ) (o : Memory M Name) (last : ℕ) (Q : M → Type 0)
    (K : Keeps D o Q) where
  abbrev pub Within : Machine M → Type 0
  Within s = (s.position ≤ last) × (s.size ≤ D) × Q s.memory

  pop_goes : (p k : ℕ) (m : M) (R : ℤ → Machine M → Type 0) → ((z : ℤ) (k' : ℕ) → k' < k → R z (at p k' m))
      → Goes (pop sum D o last (at p k m)) R
  unfolding pop taken
  pop_goes p zero m R h = tt
  pop_goes p (suc k) m R h = h _ k (omega arith)

  push_goes : (z : ℤ) (p k : ℕ) (m : M) → p < last → Q m
      → Goes (then' (push sum D o last z (at p k m)) (λ _. next sum D o last)) (λ _. Within)
  unfolding push next
  push_goes z p k m l q =
      goes_then (push sum D o last z (at p k m)) _ _
      (goes_if (ltb k D) _ _ _
      (λ t. let below : k < D = leb→le (suc k) D t in (omega arith, below, K.poked m k z below q)) tt)

  sum_goes : (r : Sum) (p k : ℕ) (m : M) → p < last → Q m
      → Goes (then' (in_range sum D o last r (at p k m))
      (λ z s. then' (push sum D o last z s) (λ _. next sum D o last))) (λ _. Within)
  unfolding in_range then'
  sum_goes (fits z) p k m l q = push_goes z p k m l q
  sum_goes out p k m l q = tt

  land_goes : (t : Target) (p k : ℕ) (m : M) → ((q : ℕ) → t ≡ Some q → q ≤ last) → k ≤ D → Q m
      → Goes (land sum D o last t (at p k m)) (λ _. Within)
  unfolding land
  land_goes (Some p') p k m b d q = (b p' refl, d, q)
  land_goes None p k m b d q = tt

  jump_goes : (i : ℤ) (p k : ℕ) (m : M) → k ≤ D → Q m → Goes (jump sum D o last i (at p k m)) (λ _. Within)
  unfolding jump
  jump_goes i p k m d q = land_goes (target p i last) p k m (target_within p i last) d q

  next_goes : (p k : ℕ) (m : M) → p < last → k ≤ D → Q m → Goes (next sum D o last (at p k m)) (λ _. Within)
  unfolding next
  next_goes p k m l d q = (omega arith, d, q)

  -- two values taken off, and then f
  two_goes : {A : Type 0} (f : ℤ → ℤ → Act (Machine M) Fault A) (p k : ℕ) (m : M) (R : A → Machine M → Type 0)
      → ((x y : ℤ) (k' : ℕ) → k' < k → Goes (f x y (at p k' m)) R)
      → Goes (then' (pop sum D o last (at p k m)) (λ y s. then' (pop sum D o last s) (λ x. f x y))) R
  two_goes f p k m R h =
      goes_then (pop sum D o last (at p k m)) _ R (pop_goes p k m _ (λ y k₁ l₁.
      goes_then (pop sum D o last (at p k₁ m)) _ R (pop_goes p k₁ m _ (λ x k₂ l₂. h x y k₂ (omega arith)))))

  pub act_goes : (r : Record Name) (p k : ℕ) (m : M) → p < last → k ≤ D → Q m
      → Goes (act sum D o last r (at p k m)) (λ _. Within)
  unfolding act held keep then'
  act_goes (LOADI z) p k m l d q = push_goes z p k m l q
  act_goes (LOAD x) p k m l d q = push_goes (o.load m x) p k m l q
  act_goes ADD p k m l d q = two_goes _ p k m _ (λ x y k' h. sum_goes (sum x y) p k' m l q)
  act_goes (STORE x) p k m l d q =
      goes_then (pop sum D o last (at p k m)) _ _
      (pop_goes p k m _ (λ z k' h. next_goes p k' _ l (omega arith) (K.saved m x z q)))
  act_goes (JMP i) p k m l d q = jump_goes i p k m d q
  act_goes (JMPLESS i) p k m l d q = two_goes _ p k m _ (λ x y k' h.
      goes_either (lt_z x y) _ _ (at p k' m) _ (jump_goes i p k' m (omega arith) q)
      (next_goes p k' m l (omega arith) q))
  act_goes (JMPGE i) p k m l d q = two_goes _ p k m _ (λ x y k' h.
      goes_either (lt_z x y) _ _ (at p k' m) _ (next_goes p k' m l (omega arith) q)
      (jump_goes i p k' m (omega arith) q))

  pub act_within : (r : Record Name) (p k : ℕ) (m : M) (s : Machine M) → act sum D o last r (at p k m) ≡ ok tt s
      → p < last → k ≤ D → Q m → Within s
  act_within r p k m s e l d q = subst (λ x. Goes x (λ _. Within)) e (act_goes r p k m l d q)

module _ {M Name : Type 0} (sum : SumRule) (D : ℕ) (o : Memory M Name) (code : List (Record Name)) (Q : M → Type 0)
    (K : Keeps D o Q) where
  abbrev Bounded : ℕ → Machine M → Type 0
  Bounded μ s = InBounds sum D o code μ s × Q s.memory

  -- a result that leaves such a machine
  abbrev Left : Result (Machine M) → Type 0
  Left r = Bounded r.mark r.leaves

  run_bounded : (n : ℕ) (r : Option (Record Name)) (μ : ℕ) (s : Machine M) → due sum D o code s ≡ r → Bounded μ s
      → Left (run_at sum D o code n r μ s)
  unfolding run_at
  run_bounded zero none μ s e h = h
  run_bounded (suc n) none μ s e h = h
  run_bounded zero (some r) μ s e h = h
  run_bounded (suc n) (some r) μ s e h =
      pick (act (sum n) D o (length code) r s)
      (act_goes (sum n) D o (length code) Q K r s.position s.size s.memory
      (some_below code s.position r e) (omega (arith, h.0.held, h.0.marked)) h.1)
      (λ s'. run_bounded n (due sum D o code s') (max μ s'.size) s' refl)
    where
      again : Machine M → Result (Machine M)
      again s' = run_at sum D o code n (due sum D o code s') (max μ s'.size) s'

      pick : (x : Outcome (Machine M) Fault (Unit {0})) → Goes x (λ _. Within (sum n) D o (length code) Q K)
          → ((s' : Machine M) → Bounded (max μ s'.size) s' → Left (again s'))
          → Left (after x again (λ e. result (fault e) n μ s))
      pick (ok a s') g i = unfold after in
          i s' (record { placed = g.0; held = omega arith; marked = omega (arith, g.1, h.0.marked) }, g.2)
      pick (ended e) g i = unfold after in h

  keeps : (n μ : ℕ) (s : Machine M) → Bounded μ s → Left (run sum D o code n μ s)
  unfolding run
  keeps n μ s = run_bounded n (due sum D o code s) μ s refl

  pub kept : (n μ : ℕ) (s : Machine M) → InBounds sum D o code μ s → Q s.memory
      → Q (run sum D o code n μ s).leaves.memory
  kept n μ s h q = (keeps n μ s (h, q)).1

pub inside : {M Name : Type 0} (sum : SumRule) (D : ℕ) (o : Memory M Name) (code : List (Record Name))
    → Inside sum D o code
inside sum D o code n μ s h =
    (keeps sum D o code (λ _. Unit {0}) (record { saved = λ m x z q. tt; poked = λ m i z l q. tt }) n μ s (h, tt)).0

-- from a fresh machine
pub fresh_inside : {M Name : Type 0} (sum : SumRule) (D : ℕ) (o : Memory M Name) (code : List (Record Name)) (n : ℕ)
    (m : M)
    → let r = run sum D o code n 0 (fresh m) in InBounds sum D o code r.mark r.leaves
fresh_inside sum D o code n m =
    inside sum D o code n 0 (fresh m) (record { placed = omega arith; held = omega arith; marked = omega arith })
