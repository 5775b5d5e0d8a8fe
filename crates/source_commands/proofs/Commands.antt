-- Commands, at their places: what each part came to says what the whole comes to. Each law is Steps' law for a part of
-- two, with the construct's own rule for what is done after the first part.
use mathlib.Core.Path.{◌≡◌, refl, sym, ap, ◌∙◌}
use Prim.Native.Nat.{ℕ}
use mathlib.Core.Bool.{Bool, true, false}
use lib.IntN.{ℤ}
use Rattle.std.specs.Prelude.{if◌then◌else◌}
use Rattle.base.specs.Acts.{Outcome, ok, ended, then', ◌>>=◌, ◌>>◌, give}
use Rattle.text.specs.Syntax.{Expression, Condition, Command, SKIP, ◌:=◌, ◌⨾◌, IF◌THEN◌ELSE◌, WHILE◌DO◌}
use Rattle.base.specs.Answers.{Refusal}
use Rattle.text.specs.Reading.{Reader}
use Rattle.text.proofs.Opened.{One, Two, Three}
use Rattle.source.specs.Rules.{Early, spent, State, Ending, Rule, tick, exec}
use Rattle.source.proofs.Passes as Passes
use Rattle.source.specs.Calls.{sums}
use Rattle.source_values.specs.Placed.{Read, ◌upto◌, placed, reaching}
use Rattle.source_values.proofs.Steps.{left_so, one_on, tick_none, tick_one, placed_is, gave, stopped, begin_ended}
use Rattle.source_values.proofs.Steps.{begin_ok}
use Rattle.source_values.proofs.Steps.{second_read, then_ended, then_ok}
use Rattle.source_values.proofs.Compound.{valuing, under}
use Rattle.source_commands.specs.Code.{storing}

abbrev Reading : Type 0 → Type 0
Reading A = Outcome ℕ Refusal A

abbrev pub doing : Command → Rule (Unit {0})
doing = exec sums

-- ---- SKIP: none

pub skip_is : {x : Reading Command} {n : ℕ} (s : State) → x ≡ ok SKIP n → placed doing x s ≡ ok (tt upto n) s
unfolding exec then' give
skip_is s e = placed_is doing s e

-- ---- Assign: the expression, then one tick to store

module _ (v : ℕ) {x : Reading Expression} {c : Command} {n : ℕ} {whole : Reading Command} (w : whole ≡ ok c n)
    (t : One x (λ a. v := a) c n) (s : State) where
  assign_is : placed doing whole s ≡ placed (λ a. valuing a >>= storing v) x s
  unfolding exec
  assign_is =
      placed_is doing s w ∙ ap (λ c. reaching n (doing c s)) t.is
      ∙ sym (placed_is (λ a. valuing a >>= storing v) s t.read)

  pub assign_ended : {e : Early × Ending} → placed valuing x s ≡ ended e → placed doing whole s ≡ ended e
  assign_ended p = assign_is ∙ then_ended valuing (storing v) x s p

  pub assign_ok : {z : ℤ} {m : ℕ} {u : State} → placed valuing x s ≡ ok (z upto m) u
      → placed doing whole s ≡ reaching m (storing v z u)
  assign_ok p = assign_is ∙ then_ok valuing (storing v) x s p

-- ---- Sequence: one after the other

module _ {x : Reading Command} {y : Reader Command} {c : Command} {n : ℕ} {whole : Reading Command}
    (w : whole ≡ ok c n) (t : Two x y ◌⨾◌ c n) (s : State) where
  abbrev second : Unit {0} → Command → Rule (Unit {0})
  second u d = doing d

  sequence_does : (s : State) → doing (t.one ⨾ t.two) s ≡ then' (doing t.one s) (λ u. second u t.two)
  unfolding exec
  sequence_does s = refl

  pub sequence_ended : {e : Early × Ending} → placed doing x s ≡ ended e → placed doing whole s ≡ ended e
  sequence_ended p = begin_ended doing doing w t second sequence_does s p

  module _ {m : ℕ} {u : State} (p : placed doing x s ≡ ok (tt upto m) u) where
    pub sequence_read : Read (y m)
    sequence_read = second_read doing doing w t second sequence_does s p

    pub sequence_ok : placed doing whole s ≡ placed doing (y m) u
    sequence_ok = begin_ok doing doing w t second sequence_does s p

-- ---- IF: the condition, the branch, then one tick if the branch was the first

module _ {x : Reading Condition} {y : Reader Command} {c : Command} {n : ℕ} {whole : Reading Command}
    (w : whole ≡ ok c n) (t : Three x y y IF◌THEN◌ELSE◌ c n) (s : State) where
  -- the branches as they are done
  abbrev branch : Bool → Rule (Unit {0})
  branch v = if v then (do doing t.others.one; tick) else doing t.others.two

  choice_is : placed doing whole s ≡ reaching n (then' (under false t.one s) branch)
  unfolding exec
  choice_is = placed_is doing s w ∙ ap (λ c. reaching n (doing c s)) t.others.is

  pub choice_ended : {e : Early × Ending} → placed (under false) x s ≡ ended e → placed doing whole s ≡ ended e
  unfolding then'
  choice_ended p = choice_is ∙ ap (λ o. reaching n (then' o branch)) (stopped (under false) s t.first p)

  module _ {v : Bool} {m : ℕ} {u : State} (p : placed (under false) x s ≡ ok (v upto m) u) where
    pub first_at : y m ≡ ok t.others.one t.others.middle
    first_at = rw (← (gave (under false) s t.first p).1) t.others.first

    branch_is : (b : Bool) → v ≡ b → placed doing whole s ≡ reaching n (branch b u)
    unfolding then'
    branch_is b e =
        choice_is ∙ ap (λ o. reaching n (then' o branch)) (gave (under false) s t.first p).0
        ∙ ap (λ v. reaching n (branch v u)) e

    pub first_stops : v ≡ true → {e : Early × Ending} → placed doing (y m) u ≡ ended e → placed doing whole s ≡ ended e
    unfolding then'
    first_stops h q = branch_is true h ∙ ap (λ o. reaching n (then' o (λ _. tick))) (stopped doing u first_at q)

    module _ {j : ℕ} {r : State} (q : placed doing (y m) u ≡ ok (tt upto j) r) where
      pub other_at : y j ≡ ok t.others.two n
      other_at = rw (← (gave doing u first_at q).1) t.others.second

      pub first_done : v ≡ true → placed doing whole s ≡ reaching n (tick r)
      unfolding then'
      first_done h = branch_is true h ∙ ap (λ o. reaching n (then' o (λ _. tick))) (gave doing u first_at q).0

    module _ (j : ℕ) (e : j ≡ t.others.middle) where
      pub else_at : y j ≡ ok t.others.two n
      else_at = rw e t.others.second

      pub else_is : v ≡ false → placed doing whole s ≡ placed doing (y j) u
      else_is h = branch_is false h ∙ sym (placed_is doing u else_at)

-- ---- WHILE: the condition; if true the body, one tick, and again

module _ {x : Reading Condition} {y : Reader Command} {c : Command} {n : ℕ} {whole : Reading Command}
    (w : whole ≡ ok c n) (t : Two x y WHILE◌DO◌ c n) (s : State) where
  abbrev once_more : Rule (Unit {0})
  once_more = doing (WHILE t.one DO t.two)

  abbrev again : Unit {0} → Rule (Unit {0})
  again u = do tick; once_more

  abbrev pass : Bool → Rule (Unit {0})
  pass v = if v then (do doing t.two; again tt) else give tt

  while_is : placed doing whole s ≡ reaching n (then' (under false t.one s) pass)
  while_is =
      placed_is doing s w
      ∙ ap (reaching n) (ap (λ c. doing c s) t.is ∙ Passes.again sums t.one t.two s)

  pub while_ended : {e : Early × Ending} → placed (under false) x s ≡ ended e → placed doing whole s ≡ ended e
  unfolding then'
  while_ended p = while_is ∙ ap (λ o. reaching n (then' o pass)) (stopped (under false) s t.first p)

  module _ {v : Bool} {m : ℕ} {u : State} (p : placed (under false) x s ≡ ok (v upto m) u) where
    pub body_at : y m ≡ ok t.two n
    body_at = rw (← (gave (under false) s t.first p).1) t.second

    pass_is : (b : Bool) → v ≡ b → placed doing whole s ≡ reaching n (pass b u)
    unfolding then'
    pass_is b e =
        while_is ∙ ap (λ o. reaching n (then' o pass)) (gave (under false) s t.first p).0
        ∙ ap (λ v. reaching n (pass v u)) e

    pub while_done : v ≡ false → placed doing whole s ≡ ok (tt upto n) u
    unfolding then' give
    while_done h = pass_is false h

    pub body_stops : v ≡ true → {e : Early × Ending} → placed doing (y m) u ≡ ended e → placed doing whole s ≡ ended e
    unfolding then'
    body_stops h q = pass_is true h ∙ ap (λ o. reaching n (then' o again)) (stopped doing u body_at q)

    module _ (h : v ≡ true) {j : ℕ} {r : State} (q : placed doing (y m) u ≡ ok (tt upto j) r) where
      turn_is : placed doing whole s ≡ reaching n (again tt r)
      unfolding then'
      turn_is = pass_is true h ∙ ap (λ o. reaching n (then' o again)) (gave doing u body_at q).0

      pub turn_spent : r.left ≡ 0 → placed doing whole s ≡ ended (spent, left_so r)
      unfolding then'
      turn_spent z = turn_is ∙ ap (λ o. reaching n (then' o (λ _. once_more))) (tick_none r z)

      pub turn_again : (r.left ≡ 0 → ⊥) → placed doing whole s ≡ placed doing whole (one_on r)
      unfolding then'
      turn_again z =
          turn_is ∙ ap (λ o. reaching n (then' o (λ _. once_more))) (tick_one r z)
          ∙ sym (placed_is doing (one_on r) w ∙ ap (λ c. reaching n (doing c (one_on r))) t.is)
