-- Compiled code does what the source rules say, over any lawful memory (Simulation: Simulated).
-- The idea: K is any rest of the source run, into results. A part is simulated when, for every K that the machine
-- goes on with after the part's records, the machine from the part's first record gives what the part and K give.
use mathlib.Core.Path.{◌≡◌, refl, sym, ◌∙◌, ap, subst}
use Prim.Native.Nat.{ℕ, zero, suc, ◌+◌, ◌≤◌, ◌<◌, ◌-◌, max}
use native.Mathlib.Omega.{arith}
use mathlib.Core.Bool.{Bool, true, false, not, beq}
use mathlib.Core.List.{[], ◌∷◌, ◌++◌}
use mathlib.Core.Option.{none, some}
use lib.IntN.{ℤ, pos, negsuc, ◌+ℤ◌}
use lib.ListN.{length, length-append, get_elem?}
use lib.Signed.{lt_z}
use Rattle.std.specs.Prelude.{if◌then◌else◌}
use Rattle.base.specs.Acts.{Outcome, ok, ended, then', ◌>>=◌, ◌>>◌, give}
use Rattle.base.specs.Ends.{Fault, End, fault, Result, result}
use Rattle.word.specs.Sums.{Sum, fits, out, SumRule}
use Rattle.text.specs.Sizes.{expression_depth, condition_depth, depth}
use Rattle.text.specs.Syntax.{Expression, Constant, Variable, Plus, Condition, Bc, Not, And, Less, Command, SKIP}
use Rattle.text.specs.Syntax.{◌:=◌, ◌⨾◌, IF◌THEN◌ELSE◌, WHILE◌DO◌}
use Rattle.source.specs.Rules.{State, Store, state, start, Rule, Outcomes, charge, tick, raise, lower, cell}
use Rattle.source.specs.Rules.{assign, in_range as source_in_range, add, value, truth, loop, exec, end_of, result_of}
use Rattle.record.specs.Records.{Record, LOADI, LOAD, ADD, STORE, JMP, JMPLESS, JMPGE, AssemblyCode, variable}
use Rattle.record.specs.declared.Variable.{Variable as VariableNumber}
use Rattle.record.proofs.Decoding.{none_due}
use Rattle.machine.specs.Machine.{Memory, Machine, at, taken, pop, push, held}
use Rattle.machine.specs.Machine.{keep, in_range, next, act, after, run_at, run}
use Rattle.machine.proofs.Effects.{push_next, jump_on, jump_back, compare_on}
use Rattle.compile.specs.Compilation.{acomp, bcomp, test, ccomp}
use Rattle.compile.proofs.Segment.{Seg, seg_split, seg_length, seg_whole}
use Rattle.fitting.specs.Simulation.{seen, Laws, Names, Simulated}

-- a rest of the source run
abbrev pub Rest : Type 0 → Type 0
Rest A = A → State → Result Store

-- an outcome, gone on with by K
pub onto : {A : Type 0} → Outcomes A → Rest A → Result Store
onto (ok a s) K = K a s
onto (ended (e, s)) K = result (end_of e) s.left s.mark s.store

onto_then : {A B : Type 0} (r : Outcomes A) (f : A → Rule B) (K : Rest B)
    → onto (then' r f) K ≡ onto r (λ a s. onto (f a s) K)
unfolding onto then'
onto_then (ok a s) f K = refl
onto_then (ended (e, s)) f K = refl

onto_result : (r : Outcomes (Unit {0})) → onto r (λ _ s. result End.done s.left s.mark s.store) ≡ result_of r
unfolding onto result_of
onto_result (ok a s) = refl
onto_result (ended (e, s)) = refl

beq_not : (v f : Bool) → beq (not v) f ≡ beq v (not f)
beq_not true true = refl
beq_not true false = refl
beq_not false true = refl
beq_not false false = refl

-- where And's left part goes if it is false: And's own jump under the flag false, And's end under true
and_offset : (f : Bool) (c i r q : ℕ) → q ≡ r + c
    → (j : ℕ) × (pos c +ℤ (if f then pos 0 else pos i) ≡ pos j)
    × (r + j ≡ (if beq false f then q + i else q)) × (r + j ≤ q + i)
and_offset true c i r q e = (c + 0, refl, omega arith, omega arith)
and_offset false c i r q e = (c + i, refl, omega arith, omega arith)

module _ {M : Type 0} (sum : SumRule) (D : ℕ) (o : Memory M VariableNumber) (P : AssemblyCode) (view : M → Store)
    (Good : M → Type 0) (Named : VariableNumber → Type 0) (L : Laws D o view Good Named) (W : Names P Named) where
  -- the result of a run with n ticks left, from position p with k values on the stack, the mark being μ
  abbrev from : ℕ → ℕ → ℕ → ℕ → M → Result Store
  from n p k μ m = seen view (run sum D o P n μ (at p k m))

  -- the same after what a record does, n ticks being left after its own
  abbrev onward : Outcome (Machine M) Fault (Unit {0}) → ℕ → ℕ → Machine M → Result Store
  onward x n μ s = seen view (after x (λ s'. run sum D o P n (max μ s'.size) s') (λ e. result (fault e) n μ s))

  -- the source's state there: its height is the number of values on the stack
  abbrev here : ℕ → ℕ → ℕ → M → State
  here n k μ m = state n k μ (view m)

  at_tick : (p k μ : ℕ) (m : M) (r : Record VariableNumber) → get_elem? P p ≡ some r
      → (n : ℕ) (K : State → Result Store)
      → ((n' : ℕ) → n' < n → onward (act (sum n') D o (length P) r (at p k m)) n' μ (at p k m) ≡ K (here n' k μ m))
      → from n p k μ m ≡ onto (tick (here n k μ m)) (λ _. K)
  unfolding run run_at tick charge onto end_of
  at_tick p k μ m r e zero K h = ap (λ r. seen view (run_at sum D o P zero r μ (at p k m))) e
  at_tick p k μ m r e (suc n) K h = ap (λ r. seen view (run_at sum D o P (suc n) r μ (at p k m))) e ∙ h n (omega arith)

  at_end : (p k μ : ℕ) (m : M) → get_elem? P p ≡ none → (n : ℕ) → from n p k μ m ≡ result End.done n μ (view m)
  unfolding run run_at
  at_end p k μ m e zero = ap (λ r. seen view (run_at sum D o P zero r μ (at p k m))) e
  at_end p k μ m e (suc n) = ap (λ r. seen view (run_at sum D o P (suc n) r μ (at p k m))) e

  -- the tick and the record together, the source going on by f
  at_record : {A : Type 0} (p k μ : ℕ) (m : M) (r : Record VariableNumber) → get_elem? P p ≡ some r
      → (n : ℕ) (f : Rule A) (K : Rest A)
      → ((n' : ℕ) → n' < n
      → onward (act (sum n') D o (length P) r (at p k m)) n' μ (at p k m) ≡ onto (f (here n' k μ m)) K)
      → from n p k μ m ≡ onto (then' (tick (here n k μ m)) (λ _. f)) K
  at_record p k μ m r e n f K h =
      at_tick p k μ m r e n (λ s. onto (f s) K) h ∙ sym (onto_then (tick (here n k μ m)) (λ _. f) K)

  -- a record that goes on: the run goes on from there, its mark raised by the values then on the stack,
  rises : {x : Outcome (Machine M) Fault (Unit {0})} {p k : ℕ} {m : M} (n μ : ℕ) (s : Machine M)
      → x ≡ ok tt (at p k m) → onward x n μ s ≡ from n p k (max μ k) m
  unfolding after
  rises n μ s e = ap (λ x. onward x n μ s) e

  -- which changes nothing where there were so many before
  goes : {x : Outcome (Machine M) Fault (Unit {0})} {p k : ℕ} {m : M} (n μ : ℕ) (s : Machine M) → k ≤ μ
      → x ≡ ok tt (at p k m) → onward x n μ s ≡ from n p k μ m
  goes {p = p} {k = k} {m = m} n μ s l e =
      let same : max μ k ≡ μ = omega arith in
      rises n μ s e ∙ ap (λ μ. from n p k μ m) same

  -- ---- expressions

  abbrev Kept : ℕ → M → M → Type 0
  Kept k m m' = (i : ℕ) → i < k → o.peek m' i ≡ o.peek m i

  -- from here on the value is on top, at slot k, so the mark is above k; and K goes on with it
  abbrev ThenE : ℕ → ℕ → M → ℕ → Rest ℤ → Type 0
  ThenE q k m n K = (m' : M) (n' μ' : ℕ) → n' ≤ n → k < μ' → Good m' → Kept k m m'
      → from n' q (suc k) μ' m' ≡ K (o.peek m' k) (here n' (suc k) μ' m')

  abbrev SimE : Expression → Type 0
  SimE a = (p q k μ : ℕ) → Seg P p (acomp a) q → k + expression_depth a ≤ D → (m : M) (n : ℕ) → Good m
      → (K : Rest ℤ) → ThenE q k m n K → from n p k μ m ≡ onto (value sum a (here n k μ m)) K

  -- a value pushed at slot k by the record at p
  push_sim : (z : ℤ) (p q k k₀ μ : ℕ) → suc p ≡ q → k < D → (m : M) (n n' : ℕ) → n' ≤ n → Good m
      → (K : Rest ℤ) → ThenE q k m n K
      → onward (then' (push (sum n') D o (length P) z (at p k m)) (λ _. next (sum n') D o (length P))) n' μ
      (at p k₀ m)
      ≡ K z (here n' (suc k) (max μ (suc k)) m)
  push_sim z p q k k₀ μ e d m n n' l G K h =
      rises n' μ (at p k₀ m) (push_next (sum n') D o (length P) z p k m d)
      ∙ ap (λ r. from n' r (suc k) (max μ (suc k)) (o.poke m k z)) e
      ∙ h (o.poke m k z) n' (max μ (suc k)) l (omega arith) (L.poke_good m k z G d)
      (λ i b. L.peek_below m k i z G d b)
      ∙ (λ j. K (L.peek_poke m k z G d j) (state n' (suc k) (max μ (suc k)) (L.poke_view m k z G d j)))

  -- ADD, its sum being r
  sum_sim : (r : Sum) (p q k μ : ℕ) → suc p ≡ q → k < D → k < μ → (m : M) (n n' : ℕ) → n' ≤ n → Good m
      → (K : Rest ℤ) → ThenE q k m n K
      → onward (then' (in_range (sum n') D o (length P) r (at p k m))
      (λ z s. then' (push (sum n') D o (length P) z s) (λ _. next (sum n') D o (length P)))) n' μ
      (at p (suc (suc k)) m)
      ≡ onto (source_in_range r (here n' (suc k) μ m)) K
  unfolding in_range then' source_in_range onto after end_of
  sum_sim (fits z) p q k μ e d b m n n' l G K h =
      let same : max μ (suc k) ≡ μ = omega arith in
      push_sim z p q k (suc (suc k)) μ e d m n n' l G K h ∙ ap (λ μ. K z (here n' (suc k) μ m)) same
  sum_sim out p q k μ e d b m n n' l G K h = refl

  -- two expressions, then the records t with both values on top
  sim_two : {A : Type 0} (a b : Expression) → SimE a → SimE b → (p q k μ : ℕ) (t : AssemblyCode)
      → Seg P p (acomp a ++ (acomp b ++ t)) q
      → k + max (expression_depth a) (suc (expression_depth b)) ≤ D → (m : M) (n : ℕ) → Good m
      → (f : ℤ → ℤ → Rule A) (K : Rest A)
      → ((r : ℕ) → Seg P r t q → (m' : M) (n' μ' : ℕ) → n' ≤ n → suc k < μ' → Good m' → Kept k m m'
      → from n' r (suc (suc k)) μ' m' ≡ onto (f (o.peek m' k) (o.peek m' (suc k)) (here n' (suc (suc k)) μ' m')) K)
      → from n p k μ m ≡ onto ((value sum a >>= λ x. value sum b >>= λ y. f x y) (here n k μ m)) K
  sim_two a b ia ib p q k μ t g d m n G f K h =
      let w = seg_split P p (acomp a) (acomp b ++ t) q g in
      let u = seg_split P w.0 (acomp b) t q w.2 in
      ia p w.0 k μ w.1 (omega arith) m n G _
      (λ m₁ n₁ μ₁ l₁ b₁ G₁ k₁.
      ib w.0 u.0 (suc k) μ₁ u.1 (omega arith) m₁ n₁ G₁ _
      (λ m₂ n₂ μ₂ l₂ b₂ G₂ k₂.
      rw (← k₂ k (omega arith)) (h u.0 u.2 m₂ n₂ μ₂ (omega arith) b₂ G₂ (λ i b. k₂ i (omega arith) ∙ k₁ i b)))
      ∙ sym (onto_then (value sum b (here n₁ (suc k) μ₁ m₁)) _ K))
      ∙ sym (onto_then (value sum a (here n k μ m)) _ K)

  simE : (a : Expression) → SimE a
  unfolding acomp expression_depth value act held pop taken then' give raise lower cell add onto
  simE (Constant w z) p q k μ g d m n G K h =
      at_record p k μ m (LOADI z) g.0 n (raise >> give z) K
      (λ n' l. push_sim z p q k k μ g.1 (omega arith) m n n' (omega arith) G K h)
  simE (Variable v) p q k μ g d m n G K h =
      at_record p k μ m (LOAD (variable v)) g.0 n (raise >> cell v) K
      (λ n' l. push_sim (o.load m (variable v)) p q k k μ g.1 (omega arith) m n n' (omega arith) G K h
      ∙ ap (λ z. K z (here n' (suc k) (max μ (suc k)) m))
      (L.load_view m (variable v) G (W.each p (variable v) (LOAD (variable v)) g.0 refl)))
  simE (Plus a b) p q k μ g d m n G K h =
      sim_two a b (simE a) (simE b) p q k μ (ADD ∷ []) g d m n G (λ x y. tick >> (lower 1 >> add sum x y)) K
      (λ r t m₂ n₂ μ₂ l₂ b₂ G₂ k₂.
      at_record r (suc (suc k)) μ₂ m₂ ADD t.0 n₂ (lower 1 >> add sum (o.peek m₂ k) (o.peek m₂ (suc k))) K
      (λ n₃ l₃.
      let one_off : suc k ≡ suc (suc k) - 1 = omega arith in
      let z : Sum = sum n₃ (o.peek m₂ k) (o.peek m₂ (suc k)) in
      sum_sim z r q k μ₂ t.1 (omega arith) (omega arith) m₂ n₂ n₃ (omega arith) G₂ K
      (λ m' n' μ' l' b' G' k'. h m' n' μ' (omega arith) b' G' (λ i b. k' i b ∙ k₂ i b))
      ∙ ap (λ k. onto (source_in_range z (here n₃ k μ₂ m₂)) K) one_off))

  -- ---- conditions, which start and end with an empty stack

  -- from here on a condition is decided: at q + i if its value is the flag, else at q
  abbrev ThenB : Bool → ℕ → ℕ → ℕ → Rest Bool → Type 0
  ThenB f i q n K = (v : Bool) (m' : M) (n' μ' : ℕ) → n' ≤ n → Good m'
      → from n' (if beq v f then q + i else q) 0 μ' m' ≡ K v (here n' 0 μ' m')

  abbrev SimB : Condition → Type 0
  SimB b = (f : Bool) (i p q : ℕ) → Seg P p (bcomp b f (pos i)) q → condition_depth b ≤ D → q + i ≤ length P
      → (m : M) (n μ : ℕ) → Good m → (K : Rest Bool) → ThenB f i q n K
      → from n p 0 μ m ≡ onto (truth sum b f (here n 0 μ m)) K

  -- Bc, t saying whether its value is the flag
  sim_const : (t v : Bool) (i p q : ℕ) → Seg P p (if t then JMP (pos i) ∷ [] else []) q → q + i ≤ length P
      → (m : M) (n μ : ℕ) (K : Rest Bool)
      → ((n' : ℕ) → n' ≤ n → from n' (if t then q + i else q) 0 μ m ≡ K v (here n' 0 μ m))
      → from n p 0 μ m ≡ onto ((if t then (tick >> give v) else give v) (here n 0 μ m)) K
  unfolding give onto act
  sim_const true v i p q g b m n μ K h =
      at_record p 0 μ m (JMP (pos i)) g.0 n (give v) K
      (λ n' l. goes n' μ (at p 0 m) (omega arith) (jump_on (sum n') D o (length P) i p q 0 m g.1 b)
      ∙ h n' (omega arith))
  sim_const false v i p q g b m n μ K h = ap (λ r. from n r 0 μ m) g ∙ h n (omega arith)

  -- And after its left part: the right part, or false
  sim_and : (e : Condition) → SimB e → (f : Bool) (i j r q : ℕ) → Seg P r (bcomp e f (pos i)) q
      → condition_depth e ≤ D
      → q + i ≤ length P → r + j ≡ (if beq false f then q + i else q) → (n : ℕ) (K : Rest Bool)
      → ThenB f i q n K
      → ThenB false j r n (λ v s. onto ((if v then truth sum e f else give false) s) K)
  unfolding give onto
  sim_and e ie f i j r q g d b x n K h true m' n' μ' l G' =
      ie f i r q g d b m' n' μ' G' K (λ v m'' n'' μ'' l''. h v m'' n'' μ'' (omega arith))
  sim_and e ie f i j r q g d b x n K h false m' n' μ' l G' = ap (λ r. from n' r 0 μ' m') x ∙ h false m' n' μ' l G'

  simB : (b : Condition) → SimB b
  unfolding bcomp condition_depth truth give lower then' onto
  simB (Bc v) f i p q g d b m n μ G K h = sim_const (beq v f) v i p q g b m n μ K (λ n' l. h v m n' μ l G)
  simB (Not c) f i p q g d b m n μ G K h =
      simB c (not f) i p q g d b m n μ G (λ v. K (not v))
      (λ v m' n' μ' l G'. rw (← beq_not v f) (h (not v) m' n' μ' l G'))
      ∙ sym (onto_then (truth sum c (not f) (here n 0 μ m)) (λ v. give (not v)) K)
  simB (And c e) f i p q g d b m n μ G K h =
      let t = bcomp e f (pos i) in
      let w = seg_split P p (bcomp c false (pos (length t) +ℤ (if f then pos 0 else pos i))) t q g in
      let y = and_offset f (length t) i w.0 q (seg_length P w.0 t q w.2) in
      simB c false y.0 p w.0 (subst (λ x. Seg P p (bcomp c false x) w.0) y.1 w.1)
      (omega arith) (omega arith) m n μ G _
      (sim_and e (simB e) f i y.0 w.0 q w.2 (omega arith) b y.2 n K h)
      ∙ sym (onto_then (truth sum c false (here n 0 μ m)) (λ v. if v then truth sum e f else give false) K)
  simB (Less a c) f i p q g d b m n μ G K h =
      sim_two a c (simE a) (simE c) p q 0 μ ((if f then JMPLESS (pos i) else JMPGE (pos i)) ∷ []) g
      (omega arith) m n G
      (λ x y. tick >> (lower 2 >> give (lt_z x y))) K
      (λ r t m₂ n₂ μ₂ l₂ b₂ G₂ k₂.
      at_record r 2 μ₂ m₂ _ t.0 n₂ (lower 2 >> give (lt_z (o.peek m₂ 0) (o.peek m₂ 1))) K
      (λ n₃ l₃. goes n₃ μ₂ (at r 2 m₂) (omega arith) (compare_on (sum n₃) D o (length P) f i r q 0 m₂ t.1 b)
      ∙ h _ m₂ n₃ μ₂ (omega arith) G₂))

  -- ---- commands

  -- from here on a command is done
  abbrev ThenC : ℕ → ℕ → (State → Result Store) → Type 0
  ThenC q n K = (m' : M) (n' μ' : ℕ) → n' ≤ n → Good m' → from n' q 0 μ' m' ≡ K (here n' 0 μ' m')

  abbrev SimC : Command → Type 0
  SimC c = (p q : ℕ) → Seg P p (ccomp c) q → depth c ≤ D → q ≤ length P → (m : M) (n μ : ℕ) → Good m
      → (K : State → Result Store) → ThenC q n K → from n p 0 μ m ≡ onto (exec sum c (here n 0 μ m)) (λ _. K)

  -- IF after its condition: c and a jump over d, or d
  sim_if : (c d : Command) → SimC c → SimC d → (r q : ℕ)
      → Seg P r (ccomp c ++ (JMP (pos (length (ccomp d))) ∷ ccomp d)) q
      → depth c ≤ D → depth d ≤ D → q ≤ length P → (n : ℕ) (K : State → Result Store) → ThenC q n K
      → ThenB false (suc (length (ccomp c))) r n
      (λ v s. onto ((if v then (exec sum c >> tick) else exec sum d) s) (λ _. K))
  unfolding act
  sim_if c d ic id r q g e₁ e₂ b n K h true m' n' μ' l G' =
      let y = length (ccomp d) in
      let u = seg_split P r (ccomp c) (JMP (pos y) ∷ ccomp d) q g in
      let x : q ≡ suc u.0 + y = seg_length P (suc u.0) (ccomp d) q u.2.1 in
      ic r u.0 u.1 e₁ (omega arith) m' n' μ' G' _
      (λ m₂ n₂ μ₂ l₂ G₂.
      at_tick u.0 0 μ₂ m₂ (JMP (pos y)) u.2.0 n₂ K
      (λ n₃ l₃. goes n₃ μ₂ (at u.0 0 m₂) (omega arith)
      (jump_on (sum n₃) D o (length P) y u.0 (suc u.0) 0 m₂ refl (omega arith))
      ∙ ap (λ z. from n₃ z 0 μ₂ m₂) (sym x) ∙ h m₂ n₃ μ₂ (omega arith) G₂))
      ∙ sym (onto_then (exec sum c (here n' 0 μ' m')) (λ _. tick) (λ _. K))
  sim_if c d ic id r q g e₁ e₂ b n K h false m' n' μ' l G' =
      let u = seg_split P r (ccomp c) (JMP (pos (length (ccomp d))) ∷ ccomp d) q g in
      let x : r + suc (length (ccomp c)) ≡ suc u.0 = omega (arith, seg_length P r (ccomp c) u.0 u.1) in
      ap (λ y. from n' y 0 μ' m') x
      ∙ id (suc u.0) q u.2.1 e₂ b m' n' μ' G' K (λ m'' n'' μ'' l''. h m'' n'' μ'' (omega arith))

  -- A pass of WHILE after its condition: the body, the jump back and the passes left; or the end
  sim_pass : (c : Command) → SimC c → (p r q t : ℕ) → r ≡ p + t
      → Seg P r (ccomp c ++ (JMP (negsuc (t + length (ccomp c))) ∷ [])) q
      → depth c ≤ D → q ≤ length P → (n : ℕ) (K : State → Result Store) → ThenC q n K → (rest : Rule (Unit {0}))
      → ((m' : M) (n' μ' : ℕ) → n' < n → Good m' → from n' p 0 μ' m' ≡ onto (rest (here n' 0 μ' m')) (λ _. K))
      → ThenB false (suc (length (ccomp c))) r n
      (λ v s. onto ((if v then (exec sum c >> (tick >> rest)) else give tt) s) (λ _. K))
  unfolding act give onto
  sim_pass c ic p r q t z g e f n K h rest again true m' n' μ' l G' =
      let y = t + length (ccomp c) in
      let u = seg_split P r (ccomp c) (JMP (negsuc y) ∷ []) q g in
      let x : u.0 ≡ r + length (ccomp c) = seg_length P r (ccomp c) u.0 u.1 in
      ic r u.0 u.1 e (omega (arith, u.2.1)) m' n' μ' G' _
      (λ m₂ n₂ μ₂ l₂ G₂.
      at_record u.0 0 μ₂ m₂ (JMP (negsuc y)) u.2.0 n₂ rest (λ _. K)
      (λ n₃ l₃. goes n₃ μ₂ (at u.0 0 m₂) (omega arith)
      (jump_back (sum n₃) D o (length P) y p u.0 0 m₂ (omega arith) (omega (arith, u.2.1)))
      ∙ again m₂ n₃ μ₂ (omega arith) G₂))
      ∙ sym (onto_then (exec sum c (here n' 0 μ' m')) (λ _. tick >> rest) (λ _. K))
  sim_pass c ic p r q t z g e f n K h rest again false m' n' μ' l G' =
      let u = seg_split P r (ccomp c) (JMP (negsuc (t + length (ccomp c))) ∷ []) q g in
      let x : r + suc (length (ccomp c)) ≡ q = omega (arith, seg_length P r (ccomp c) u.0 u.1, u.2.1) in
      ap (λ y. from n' y 0 μ' m') x ∙ h m' n' μ' l G'

  sim_loop : (b : Condition) (c : Command) → SimC c → (p q : ℕ) → Seg P p (ccomp (WHILE b DO c)) q
      → depth (WHILE b DO c) ≤ D → q ≤ length P → (n₀ : ℕ) (K : State → Result Store) → ThenC q n₀ K
      → (g n μ : ℕ) → n < g → n ≤ n₀ → (m : M) → Good m
      → from n p 0 μ m ≡ onto (loop sum g (truth sum b false) (exec sum c) (here n 0 μ m)) (λ _. K)
  unfolding ccomp depth loop
  sim_loop b c ic p q s d e n₀ K h zero n μ l l' m G = absurd (omega arith)
  sim_loop b c ic p q s d e n₀ K h (suc g) n μ l l' m G =
      let t = test b (ccomp c) in
      let y : AssemblyCode = JMP (negsuc (length t + length (ccomp c))) ∷ [] in
      let w = seg_split P p t (ccomp c ++ y) q s in
      let x : w.0 ≡ p + length t = seg_length P p t w.0 w.1 in
      let again = loop sum g (truth sum b false) (exec sum c) in
      simB b false (suc (length (ccomp c))) p w.0 w.1 (omega arith)
      (omega (arith, seg_length P w.0 (ccomp c ++ y) q w.2, length-append (ccomp c) y)) m n μ G _
      (sim_pass c ic p w.0 q (length t) x w.2 (omega arith) e n K
      (λ m' n' μ' l''. h m' n' μ' (omega arith)) again
      (λ m' n' μ' l'' G'. sim_loop b c ic p q s d e n₀ K h g n' μ' (omega arith) (omega arith) m' G'))
      ∙ sym (onto_then (truth sum b false (here n 0 μ m)) (λ v. if v then (exec sum c >> (tick >> again)) else give tt)
      (λ _. K))

  simC : (c : Command) → SimC c
  unfolding ccomp depth exec give lower assign act pop taken keep next then' onto
  simC SKIP p q g d b m n μ G K h = ap (λ r. from n r 0 μ m) g ∙ h m n μ (omega arith) G
  simC (v := a) p q g d b m n μ G K h =
      let w = seg_split P p (acomp a) (STORE (variable v) ∷ []) q g in
      simE a p w.0 0 μ w.1 (omega arith) m n G _
      (λ m₁ n₁ μ₁ l₁ b₁ G₁ k₁.
      at_record w.0 1 μ₁ m₁ (STORE (variable v)) w.2.0 n₁ (lower 1 >> assign v (o.peek m₁ 0)) (λ _. K)
      (λ n₂ l₂.
      let z = o.peek m₁ 0 in
      let y = W.each w.0 (variable v) (STORE (variable v)) w.2.0 refl in
      goes n₂ μ₁ (at w.0 1 m₁) (omega arith) refl
      ∙ ap (λ r. from n₂ r 0 μ₁ (o.save m₁ (variable v) z)) w.2.1
      ∙ h (o.save m₁ (variable v) z) n₂ μ₁ (omega arith) (L.save_good m₁ (variable v) z G₁ y)
      ∙ ap (λ s. K (state n₂ 0 μ₁ s)) (L.save_view m₁ (variable v) z G₁ y)))
      ∙ sym (onto_then (value sum a (here n 0 μ m)) (λ z. tick >> (lower 1 >> assign v z)) (λ _. K))
  simC (c ⨾ d) p q g e b m n μ G K h =
      let w = seg_split P p (ccomp c) (ccomp d) q g in
      simC c p w.0 w.1 (omega arith) (omega (arith, seg_length P w.0 (ccomp d) q w.2)) m n μ G _
      (λ m₁ n₁ μ₁ l₁ G₁. simC d w.0 q w.2 (omega arith) b m₁ n₁ μ₁ G₁ K (λ m₂ n₂ μ₂ l₂. h m₂ n₂ μ₂ (omega arith)))
      ∙ sym (onto_then (exec sum c (here n 0 μ m)) (λ _. exec sum d) (λ _. K))
  simC (IF t THEN c ELSE d) p q g e b m n μ G K h =
      let y : AssemblyCode = JMP (pos (length (ccomp d))) ∷ ccomp d in
      let w = seg_split P p (test t (ccomp c)) (ccomp c ++ y) q g in
      simB t false (suc (length (ccomp c))) p w.0 w.1 (omega arith)
      (omega (arith, seg_length P w.0 (ccomp c ++ y) q w.2, length-append (ccomp c) y)) m n μ G _
      (sim_if c d (simC c) (simC d) w.0 q w.2 (omega arith) (omega arith) b n K h)
      ∙ sym (onto_then (truth sum t false (here n 0 μ m)) (λ v. if v then (exec sum c >> tick) else exec sum d)
      (λ _. K))
  simC (WHILE t DO c) p q g e b m n μ G K h =
      sim_loop t c (simC c) p q g e b n K h (suc n) n μ (omega arith) (omega arith) m G

pub simulated : (sum : SumRule) → Simulated sum
simulated sum M D o view Good Named L c W d n m G =
    simC sum D o P view Good Named L W c 0 (length P) (seg_whole P) d (omega arith) m n 0 G
    (λ s. result End.done s.left s.mark s.store)
    (λ m' n' μ' l G'. at_end sum D o P view Good Named L W (length P) 0 μ' m' (none_due P (length P) refl) n')
    ∙ onto_result (exec sum c (start n (view m)))
  where
    P : AssemblyCode
    P = ccomp c
