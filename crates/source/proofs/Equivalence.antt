-- The source rules with ticks and the published big-step rules lead to the same stores (Claims: PublishedBy).
-- By induction on the part, and on the derivation; of a state the laws name only the ticks left and the store.
use mathlib.Core.Path.{◌≡◌, refl, sym, ◌∙◌, ap, subst}
use mathlib.Core.Logic.{◌⊎◌, inl, inr}
use Prim.Native.Nat.{ℕ, zero, suc, ◌+◌}
use native.Mathlib.Nat.{zero-add, add_assoc}
use native.Mathlib.Omega.{arith}
use mathlib.Core.Bool.{Bool, true, false, not, ◌&&◌, beq}
use lib.IntN.{ℤ, pos, ◌+ℤ◌}
use lib.ListN.{get_or, set}
use lib.Signed.{lt_z}
use Rattle.std.specs.Prelude.{if◌then◌else◌}
use Rattle.base.specs.Acts.{ok, ended, then', ◌>>=◌, ◌>>◌, give}
use Rattle.word.specs.Sums.{Sum, fits, out, SumRule}
use Rattle.word.specs.Claims.{Exact}
use Rattle.text.specs.Syntax.{Expression, Constant, Variable, Plus, Condition, Bc, Not, And, Less, Command, SKIP}
use Rattle.text.specs.Syntax.{◌:=◌, ◌⨾◌, IF◌THEN◌ELSE◌, WHILE◌DO◌}
use Rattle.source.proofs.Passes.{Ends, ends_then, ends_tick, ends_step, ends_if, pass, again}
use Rattle.source.specs.BigStep.{aval, bval, BigStep, skip, assigns, seq, if_true, if_false, while_false}
use Rattle.source.specs.BigStep.{while_true}
use Rattle.source.specs.Claims.{PublishedBy}
use Rattle.source.specs.Rules.{Early, State, Ending, Store, state, start, Rule, Outcomes, charge, tick}
use Rattle.source.specs.Rules.{raise, lower, cell, assign, in_range, add, value, truth, loop, exec}

-- ---- From ticks to big-step

module _ (sum : SumRule) (exact : Exact sum) where
  ends_sum : (x y : ℤ) (s : State) (Q : ℤ → State → Type 0) → Q (x +ℤ y) s → Ends (add sum x y s) Q
  unfolding add in_range
  ends_sum x y s Q h = go (sum s.left x y) refl
    where
      go : (r : Sum) → sum s.left x y ≡ r → Ends (in_range r s) Q
      go (fits z) e = subst (λ w. Q w s) (sym (exact s.left x y z e)) h
      go out e = tt

  ends_cell : (v : ℕ) (t : Store) (s : State) (Q : ℤ → State → Type 0) → s.store ≡ t → Q (get_or t v (pos 0)) s
      → Ends (cell v s) Q
  unfolding cell
  ends_cell v t s Q e h = subst (λ t. Q (get_or t v (pos 0)) s) (sym e) h

  -- an expression from a state with the store t: its value, and a state with that store
  value_ends : (a : Expression) (t : Store) (s : State) (Q : ℤ → State → Type 0) → s.store ≡ t
      → ((u : State) → u.store ≡ t → Q (aval a t) u) → Ends (value sum a s) Q
  unfolding value aval give raise lower then'
  value_ends (Constant w z) t s Q e h = ends_step s _ Q (λ u l k. h _ (k ∙ e))
  value_ends (Variable v) t s Q e h = ends_step s _ Q (λ u l k. ends_cell v t _ Q (k ∙ e) (h _ (k ∙ e)))
  value_ends (Plus a b) t s Q e h =
      ends_then (value sum a s) _ Q (value_ends a t s _ e (λ s₁ e₁.
      ends_then (value sum b s₁) _ Q (value_ends b t s₁ _ e₁ (λ s₂ e₂.
      ends_step s₂ _ Q (λ s₃ l₃ e₃. ends_sum (aval a t) (aval b t) _ Q (h _ (e₃ ∙ e₂)))))))

  ends_const : (b v : Bool) (t : Store) (s : State) (Q : Bool → State → Type 0) → s.store ≡ t
      → ((u : State) → u.store ≡ t → Q v u) → Ends ((if b then (tick >> give v) else give v) s) Q
  unfolding give
  ends_const true v t s Q e h = ends_step s (give v) Q (λ u l k. h u (k ∙ e))
  ends_const false v t s Q e h = h s e

  ends_and : (v w : Bool) (x : Rule Bool) (t : Store) (s : State) (Q : Bool → State → Type 0) → s.store ≡ t
      → (((u : State) → u.store ≡ t → Q w u) → Ends (x s) Q)
      → ((u : State) → u.store ≡ t → Q (v && w) u) → Ends ((if v then x else give false) s) Q
  unfolding give
  ends_and true w x t s Q e i h = i h
  ends_and false w x t s Q e i h = h s e

  truth_ends : (b : Condition) (f : Bool) (t : Store) (s : State) (Q : Bool → State → Type 0) → s.store ≡ t
      → ((u : State) → u.store ≡ t → Q (bval b t) u) → Ends (truth sum b f s) Q
  unfolding truth bval give lower then'
  truth_ends (Bc v) f t s Q e h = ends_const (beq v f) v t s Q e h
  truth_ends (Not b) f t s Q e h = ends_then (truth sum b (not f) s) _ Q (truth_ends b (not f) t s _ e h)
  truth_ends (And b c) f t s Q e h =
      ends_then (truth sum b false s) _ Q (truth_ends b false t s _ e (λ s₁ e₁.
      ends_and (bval b t) (bval c t) (truth sum c f) t s₁ Q e₁ (truth_ends c f t s₁ Q e₁) h))
  truth_ends (Less a b) f t s Q e h =
      ends_then (value sum a s) _ Q (value_ends a t s _ e (λ s₁ e₁.
      ends_then (value sum b s₁) _ Q (value_ends b t s₁ _ e₁ (λ s₂ e₂.
      ends_step s₂ _ Q (λ s₃ l₃ e₃. h _ (e₃ ∙ e₂))))))

  -- what a command that is done owes: the big-step rules lead to its store
  abbrev EndsC : Command → Rule (Unit {0}) → Type 1
  EndsC c x = (t : Store) (s : State) (Q : Unit {0} → State → Type 0) → s.store ≡ t
      → ((t' : Store) (u : State) → u.store ≡ t' → BigStep c t t' → Q tt u) → Ends (x s) Q

  loop_ends : (b : Condition) (c : Command) → EndsC c (exec sum c)
      → (g : ℕ) → EndsC (WHILE b DO c) (loop sum g (truth sum b false) (exec sum c))
  unfolding loop give
  loop_ends b c ic zero t s Q e h = tt
  loop_ends b c ic (suc g) t s Q e h =
      ends_then (truth sum b false s) _ Q (truth_ends b false t s _ e (λ s₁ e₁.
      ends_if (bval b t) _ _ s₁ Q
      (λ v. ends_then (exec sum c s₁) _ Q (ic t s₁ _ e₁ (λ t₂ s₂ e₂ x.
      ends_step s₂ _ Q (λ s₃ l₃ e₃. loop_ends b c ic g t₂ s₃ Q (e₃ ∙ e₂)
      (λ t' u k y. h t' u k (while_true v x y))))))
      (λ v. h t s₁ e₁ (while_false v))))

  exec_ends : (c : Command) → EndsC c (exec sum c)
  unfolding exec give assign lower then'
  exec_ends SKIP t s Q e h = h t s e skip
  exec_ends (v := a) t s Q e h =
      ends_then (value sum a s) _ Q (value_ends a t s _ e (λ s₁ e₁.
      ends_step s₁ _ Q (λ s₂ l₂ e₂. h _ _ (ap (λ u. set u v (aval a t)) (e₂ ∙ e₁)) assigns)))
  exec_ends (c ⨾ d) t s Q e h =
      ends_then (exec sum c s) _ Q (exec_ends c t s _ e (λ t₁ s₁ e₁ x.
      exec_ends d t₁ s₁ Q e₁ (λ t₂ s₂ e₂ y. h t₂ s₂ e₂ (seq x y))))
  exec_ends (IF b THEN c ELSE d) t s Q e h =
      ends_then (truth sum b false s) _ Q (truth_ends b false t s _ e (λ s₁ e₁.
      ends_if (bval b t) _ _ s₁ Q
      (λ v. ends_then (exec sum c s₁) _ Q (exec_ends c t s₁ _ e₁ (λ t₂ s₂ e₂ x.
      ends_tick s₂ Q (λ s₃ l₃ e₃. h t₂ s₃ (e₃ ∙ e₂) (if_true v x)))))
      (λ v. exec_ends d t s₁ Q e₁ (λ t₂ s₂ e₂ x. h t₂ s₂ e₂ (if_false v x)))))
  exec_ends (WHILE b DO c) t s Q e h = loop_ends b c (exec_ends c) (suc s.left) t s Q e h

  done_bigstep : (c : Command) (n : ℕ) (s t : Store) (u : State) → exec sum c (start n s) ≡ ok tt u → u.store ≡ t
      → BigStep c s t
  done_bigstep c n s t u e k =
      subst (BigStep c s) k
      (subst (λ r. Ends r (λ _ u. BigStep c s u.store)) e
      (exec_ends c s (start n s) (λ _ u. BigStep c s u.store) refl (λ t' u k x. subst (BigStep c s) (sym k) x)))

-- ---- From big-step to ticks

-- the outcome a with r ticks left and the store t; or an end out of range
abbrev Yields : {A : Type 0} → Outcomes A → A → ℕ → Store → Type 0
Yields x a r t =
    ((u : State) × (x ≡ ok a u) × (u.left ≡ r) × (u.store ≡ t)) ⊎ ((u : Ending) × (x ≡ ended (Early.out_of_range, u)))

-- x takes k ticks: from any state with the store s and any r ticks more it yields a and t, and those r
abbrev Gives : {A : Type 0} → Rule A → Store → A → Store → Type 0
Gives x s a t = (k : ℕ) × ((v : State) (r : ℕ) → v.left ≡ k + r → v.store ≡ s → Yields (x v) a r t)

gives_then : {A B : Type 0} (x : Rule A) (f : A → Rule B) (s t u : Store) (a : A) (b : B)
    → Gives x s a t → Gives (f a) t b u → Gives (x >>= f) s b u
unfolding then'
gives_then x f s t u a b (k, h) (j, i) = (k + j, λ v r l e. go v r (h v (j + r) (l ∙ add_assoc k j r) e))
  where
    on : (v w : State) (r : ℕ) → x v ≡ ok a w → Yields (f a w) b r u → Yields (then' (x v) f) b r u
    on v w r p (inl (w', q, l, e)) = inl (w', ap (λ o. then' o f) p ∙ q, l, e)
    on v w r p (inr (w', q)) = inr (w', ap (λ o. then' o f) p ∙ q)

    go : (v : State) (r : ℕ) → Yields (x v) a (j + r) t → Yields (then' (x v) f) b r u
    go v r (inl (w, p, l, e)) = on v w r p (i w r l e)
    go v r (inr (w, p)) = inr (w, ap (λ o. then' o f) p)

gives_free : {A : Type 0} (x : Rule A) (s t : Store) (a : A)
    → ((v : State) → v.store ≡ s → Yields (x v) a v.left t) → Gives x s a t
gives_free x s t a h = (0, λ v r l e. subst (λ n. Yields (x v) a n t) (l ∙ zero-add r) (h v e))

gives_cong : {A : Type 0} (x y : Rule A) (s t : Store) (a : A) → ((v : State) → x v ≡ y v)
    → Gives y s a t → Gives x s a t
gives_cong x y s t a q (k, h) = (k, λ v r l e. subst (λ w. Yields w a r t) (sym (q v)) (h v r l e))

gives_tick : (s : Store) → Gives tick s tt s
unfolding tick charge
gives_tick s =
    (1, λ v r l e. inl (state r v.height v.mark v.store, ap (λ n. charge n v) (l ∙ one r), refl, e))
  where
    one : (r : ℕ) → 1 + r ≡ suc r
    one r = omega arith

gives_give : {A : Type 0} (a : A) (s : Store) → Gives (give a) s a s
unfolding give
gives_give a s = gives_free (give a) s s a (λ v e. inl (v, refl, refl, e))

-- a tick and then x
gives_step : {A : Type 0} (x : Rule A) (s t : Store) (a : A) → Gives x s a t → Gives (tick >> x) s a t
gives_step x s t a h = gives_then tick (λ _. x) s s t tt a (gives_tick s) h

-- a value more or fewer on the stack, and then x
gives_raise : {A : Type 0} (x : Rule A) (s t : Store) (a : A) → Gives x s a t → Gives (raise >> x) s a t
unfolding raise
gives_raise x s t a h =
    gives_then raise (λ _. x) s s t tt a (gives_free raise s s tt (λ v e. inl (_, refl, refl, e))) h

gives_lower : {A : Type 0} (k : ℕ) (x : Rule A) (s t : Store) (a : A) → Gives x s a t → Gives (lower k >> x) s a t
unfolding lower
gives_lower k x s t a h =
    gives_then (lower k) (λ _. x) s s t tt a (gives_free (lower k) s s tt (λ v e. inl (_, refl, refl, e))) h

module _ (sum : SumRule) (exact : Exact sum) where
  gives_sum : (x y : ℤ) (s : Store) → Gives (add sum x y) s (x +ℤ y) s
  unfolding add in_range
  gives_sum x y s = gives_free (add sum x y) s s (x +ℤ y) (λ v e. go v e (sum v.left x y) refl)
    where
      go : (v : State) → v.store ≡ s → (r : Sum) → sum v.left x y ≡ r
          → Yields (in_range r v) (x +ℤ y) v.left s
      go v e (fits z) k = inl (v, ap (λ w. ok w v) (exact v.left x y z k), refl, e)
      go v e out k = inr (_, refl)

  value_gives : (a : Expression) (s : Store) → Gives (value sum a) s (aval a s) s
  unfolding value aval cell
  value_gives (Constant w z) s = gives_step _ s s z (gives_raise (give z) s s z (gives_give z s))
  value_gives (Variable v) s = gives_step _ s s _
      (gives_raise (cell v) s s _ (gives_free (cell v) s s (get_or s v (pos 0))
      (λ u e. inl (u, ap (λ t. ok (get_or t v (pos 0)) u) e, refl, e))))
  value_gives (Plus a b) s =
      gives_then (value sum a) _ s s s (aval a s) _ (value_gives a s)
      (gives_then (value sum b) _ s s s (aval b s) _ (value_gives b s)
      (gives_step _ s s _ (gives_lower 1 (add sum (aval a s) (aval b s)) s s _ (gives_sum (aval a s) (aval b s) s))))

  gives_const : (t v : Bool) (s : Store) → Gives (if t then (tick >> give v) else give v) s v s
  gives_const true v s = gives_step (give v) s s v (gives_give v s)
  gives_const false v s = gives_give v s

  gives_and : (v w : Bool) (x : Rule Bool) (s : Store) → Gives x s w s
      → Gives (if v then x else give false) s (v && w) s
  gives_and true w x s h = h
  gives_and false w x s h = gives_give false s

  truth_gives : (b : Condition) (f : Bool) (s : Store) → Gives (truth sum b f) s (bval b s) s
  unfolding truth bval
  truth_gives (Bc v) f s = gives_const (beq v f) v s
  truth_gives (Not b) f s =
      gives_then (truth sum b (not f)) _ s s s (bval b s) _ (truth_gives b (not f) s)
      (gives_give (not (bval b s)) s)
  truth_gives (And b c) f s =
      gives_then (truth sum b false) _ s s s (bval b s) _ (truth_gives b false s)
      (gives_and (bval b s) (bval c s) (truth sum c f) s (truth_gives c f s))
  truth_gives (Less a b) f s =
      gives_then (value sum a) _ s s s (aval a s) _ (value_gives a s)
      (gives_then (value sum b) _ s s s (aval b s) _ (value_gives b s)
      (gives_step _ s s _
      (gives_lower 2 (give (lt_z (aval a s) (aval b s))) s s _ (gives_give (lt_z (aval a s) (aval b s)) s))))

  -- a condition and then the branch that it chooses
  gives_if : (b : Condition) (v : Bool) (x y : Rule (Unit {0})) (s t : Store) → bval b s ≡ v
      → Gives (if v then x else y) s tt t → Gives (truth sum b false >>= λ v. if v then x else y) s tt t
  gives_if b v x y s t e h =
      gives_then (truth sum b false) _ s s t (bval b s) tt (truth_gives b false s)
      (subst (λ v. Gives (if v then x else y) s tt t) (sym e) h)

  -- WHILE by its first pass
  gives_pass : (b : Condition) (c : Command) (s t : Store) → Gives (pass sum b c (exec sum (WHILE b DO c))) s tt t
      → Gives (exec sum (WHILE b DO c)) s tt t
  gives_pass b c s t =
      gives_cong (exec sum (WHILE b DO c)) (pass sum b c (exec sum (WHILE b DO c))) s t tt
      (again sum b c)

  bigstep_gives : (c : Command) (s t : Store) → BigStep c s t → Gives (exec sum c) s tt t
  unfolding exec assign
  bigstep_gives c s t (skip) = gives_give tt s
  bigstep_gives c s t (assigns {v = v} {a = a}) =
      gives_then (value sum a) _ s s t (aval a s) tt (value_gives a s)
      (gives_step _ s t tt (gives_lower 1 (assign v (aval a s)) s t tt (gives_free (assign v (aval a s)) s t tt
      (λ u e. inl (_, refl, refl, ap (λ t. set t v (aval a s)) e)))))
  bigstep_gives c s t (seq {c = c₁} {d = d} {t = u} x y) =
      gives_then (exec sum c₁) _ s u t tt tt (bigstep_gives c₁ s u x) (bigstep_gives d u t y)
  bigstep_gives c s t (if_true {b = b} {c = c₁} {d = d} e x) =
      gives_if b true _ _ s t e (gives_then (exec sum c₁) _ s t t tt tt (bigstep_gives c₁ s t x) (gives_tick t))
  bigstep_gives c s t (if_false {b = b} {c = c₁} {d = d} e x) =
      gives_if b false (exec sum c₁ >> tick) (exec sum d) s t e (bigstep_gives d s t x)
  bigstep_gives c s t (while_false {b = b} {c = c₁} e) =
      let w = exec sum (WHILE b DO c₁) in
      gives_pass b c₁ s s (gives_if b false (exec sum c₁ >> (tick >> w)) (give tt) s s e (gives_give tt s))
  bigstep_gives c s u (while_true {b = b} {c = c₁} {t = t} e x y) =
      let w = exec sum (WHILE b DO c₁) in
      gives_pass b c₁ s u (gives_if b true (exec sum c₁ >> (tick >> w)) (give tt) s u e
      (gives_then (exec sum c₁) (λ _. tick >> w) s t u tt tt (bigstep_gives c₁ s t x)
      (gives_step w t u tt (bigstep_gives (WHILE b DO c₁) t u y))))

  pub published_by : PublishedBy sum
  published_by c s fine t =
      ((λ (n, u, e, k). done_bigstep sum exact c n s t u e k), (λ x. pick (bigstep_gives c s t x)))
    where
      pick_at : (k : ℕ) → Yields (exec sum c (start k s)) tt 0 t
          → (n : ℕ) × (u : State) × (exec sum c (start n s) ≡ ok tt u) × (u.store ≡ t)
      pick_at k (inl (u, e, l, q)) = (k, u, e, q)
      pick_at k (inr (u, e)) = absurd (fine k u e)

      pick : Gives (exec sum c) s tt t
          → (n : ℕ) × (u : State) × (exec sum c (start n s) ≡ ok tt u) × (u.store ≡ t)
      pick (k, h) = pick_at k (h (start k s) 0 (omega arith) refl)
