-- Laws of rules at places: a tick by the ticks left; what a call gave; a part's rule from what its place came to; a
-- part made of two ends where the first ends it, and goes on with the second where the first gave a value.
use mathlib.Core.Path.{◌≡◌, refl, sym, ap, subst, ◌∙◌}
use Prim.Native.Nat.{ℕ, zero, suc, ◌+◌, ◌-◌, ◌≤◌, max}
use native.Mathlib.Omega.{arith}
use mathlib.Core.Bool.{Bool}
use lib.IntN.{ℤ}
use Rattle.std.specs.Prelude.{Option, Some, None, IsSome, ok_or, Result, Ok, Err, ◌↔◌, ◌<◌}
use Rattle.std.specs.Result.{IsErrAnd}
use Rattle.std.proofs.lemmas.Bool.{false≢true}
use Rattle.base.specs.Acts.{Outcome, ok, ended, then', give}
use Rattle.base.specs.Answers.{Refusal}
use Rattle.text.specs.Reading.{Reader}
use Rattle.text.proofs.Opened.{Two}
use Rattle.source.specs.Rules.{Early, spent, Store, State, state, Ending, ending, Rule, Outcomes, charge, tick}
use Rattle.source_values.specs.Placed.{Read, Reached, ◌upto◌, placed, reaching}
use Rattle.source_values.specs.Code.{valued, Within, tested}
use Rattle.source_values.specs.declared.Evaluated.{Evaluated}
use Rattle.source_values.specs.declared.Spent.{Spent}
use Rattle.source_values.specs.declared.Tested.{Tested}

-- ---- A tick

-- what a run that ends here comes with, and the state one tick on
abbrev pub left_so : State → Ending
left_so s = ending s.left s.mark s.store

abbrev pub one_on : State → State
one_on s = state (s.left - 1) s.height s.mark s.store

pub tick_none : (s : State) → s.left ≡ 0 → tick s ≡ ended (spent, left_so s)
unfolding tick
tick_none s e = by s.left refl e
  where
    by : (n : ℕ) → s.left ≡ n → n ≡ 0 → charge n s ≡ ended (spent, left_so s)
    by zero f e = unfold charge in refl
    by (suc n) f e = absurd (omega arith)

pub tick_one : (s : State) → (s.left ≡ 0 → ⊥) → tick s ≡ ok tt (one_on s)
unfolding tick
tick_one s e = by s.left refl
  where
    by : (n : ℕ) → s.left ≡ n → charge n s ≡ ok tt (one_on s)
    by zero f = absurd (e f)
    by (suc n) f =
        unfold charge in ap (λ (k : ℕ). ok tt (state k s.height s.mark s.store)) (omega arith)

-- What asking for a tick gave, says whether one was left.
pub none_left : {A : Type 0} (o : Option A) (n : ℕ) → IsSome o ↔ (0 < n) → o ≡ None → n ≡ 0
none_left None zero i e = refl
none_left None (suc n) i e = absurd (false≢true (i.1 (omega arith)))
none_left (Some x) n i e = cc

pub some_left : {A : Type 0} {x : A} (o : Option A) (n : ℕ) → IsSome o ↔ (0 < n) → o ≡ Some x → n ≡ 0 → ⊥
some_left None n i e = cc
some_left (Some x) n i e = λ z. let some : 0 < n = i.0 refl in omega arith

-- Where one was refused, that is the answer.
pub refused_so : {A B : Type 0} (r : Result A Spent) (o : Option B) {e f : Spent} → IsErrAnd r (λ x. x ≡ f)
    → ◌≡◌ {A = Result B Spent} (Err f) (ok_or o e) → o ≡ None → r ≡ Err e
refused_so (Ok x) o h v p = absurd h
refused_so (Err x) None h v p = cc
refused_so (Err x) (Some y) h v p = cc

pub carried : {A : Type 0} (r : Result A Spent) {f : Spent} → IsErrAnd r (λ x. x ≡ f) → r ≡ Err f
carried (Ok x) h = absurd h
carried (Err x) h = ap Err h

-- A tick and then more
module _ {B : Type 0} (n : ℕ) (s : State) (k : Unit {0} → Rule B) where
  pub spends : s.left ≡ 0 → reaching n (then' (tick s) k) ≡ ended (spent, left_so s)
  unfolding then'
  spends e = ap (λ o. reaching n (then' o k)) (tick_none s e)

  pub goes : (s.left ≡ 0 → ⊥) → reaching n (then' (tick s) k) ≡ reaching n (k tt (one_on s))
  unfolding then'
  goes e = ap (λ o. reaching n (then' o k)) (tick_one s e)

-- ---- Marks

-- Nothing was put on the stack: the mark is as it was.
pub stays_marked : {A : Type 0} (left h μ : ℕ) (m : Store) → h ≤ μ
    → ◌≡◌ {A = Outcomes A} (ended (spent, ending left (max μ (h + 0)) m)) (ended (spent, ending left μ m))
stays_marked left h μ m l =
    let same : max μ (h + 0) ≡ μ = omega arith in ap (λ μ. ended (spent, ending left μ m)) same

-- One value was.
pub pushed_one : (h μ : ℕ) (m : Store) {left left' n : ℕ} {z z' : ℤ} → left ≡ left' → z ≡ z'
    → ◌≡◌ {A = Outcomes (Reached ℤ)} (ok (z upto n) (state left (suc h) (max μ (h + 1)) m))
    (ok (z' upto n) (state left' (suc h) (max μ (suc h)) m))
pushed_one h μ m {n = n} l e =
    let same : max μ (h + 1) ≡ max μ (suc h) = omega arith in cc

-- Of two sides, the second one value higher
pub joined : (h μ first second : ℕ) {high : ℕ} → high ≡ max first (second + 1)
    → max μ (h + high) ≡ max (max μ (h + first)) (suc h + second)
joined h μ first second e = omega arith

pub within_told : (most : ℕ) {r r' : Result Evaluated Spent} → r ≡ r' → Within r most → Within r' most
within_told most e w = subst (λ r. Within r most) e w

pub within_more : (r : Result Evaluated Spent) (most more : ℕ) → most ≤ more → Within r most → Within r more
within_more (Ok r) most more l w = (w.0, omega (arith, w.1))
within_more (Err e) most more l w = omega arith

-- ---- What a call gave, by a match on its result, is the rules' outcome

pub value_told : (left h μ : ℕ) (m : Store) {r r' : Result Evaluated Spent} {o : Outcomes (Reached ℤ)} → r ≡ r'
    → valued r left h μ m ≡ o → o ≡ valued r' left h μ m
value_told left h μ m e f = sym f ∙ ap (λ r. valued r left h μ m) e

pub truth_told : (left μ : ℕ) (m : Store) {r r' : Option Tested} {o : Outcomes (Reached Bool)} → r ≡ r'
    → tested r left μ m ≡ o → o ≡ tested r' left μ m
truth_told left μ m e f = sym f ∙ ap (λ r. tested r left μ m) e

-- ---- A part's rule, and what its place came to

pub was_read : {A : Type 0} {x : Outcome ℕ Refusal A} {a : A} {n : ℕ} → x ≡ ok a n → Read x
was_read {a = a} {n = n} e = record { part = a; end = n; is = e }

module _ {A B : Type 0} (f : A → Rule B) where
  pub placed_is : {x : Outcome ℕ Refusal A} {a : A} {n : ℕ} (s : State) → x ≡ ok a n
      → placed f x s ≡ reaching n (f a s)
  unfolding placed
  placed_is s e = ap (λ x. placed f x s) e

  reached : (n : ℕ) {m : ℕ} {z : B} {t : State} (o : Outcomes B) → reaching n o ≡ ok (z upto m) t
      → (o ≡ ok z t) × (n ≡ m)
  unfolding then' give
  reached n (ok w u) e = (cc, cc)
  reached n (ended k) e = absurd (let z : ◌≡◌ {A = ℕ} 0 1 = cc in omega arith)

  unreached : (n : ℕ) {k : Early × Ending} (o : Outcomes B) → reaching n o ≡ ended k → o ≡ ended k
  unfolding then' give
  unreached n (ok w u) e = absurd (let z : ◌≡◌ {A = ℕ} 0 1 = cc in omega arith)
  unreached n (ended k) e = cc

  -- where it gave a value, the rule did, and the position is the one after the part
  pub gave : {x : Outcome ℕ Refusal A} {a : A} {n m : ℕ} {z : B} (s : State) {t : State} → x ≡ ok a n
      → placed f x s ≡ ok (z upto m) t → (f a s ≡ ok z t) × (n ≡ m)
  gave {a = a} {n = n} s e h = reached n (f a s) (sym (placed_is s e) ∙ h)

  pub stopped : {x : Outcome ℕ Refusal A} {a : A} {n : ℕ} {k : Early × Ending} (s : State) → x ≡ ok a n
      → placed f x s ≡ ended k → f a s ≡ ended k
  stopped {a = a} {n = n} s e h = unreached n (f a s) (sym (placed_is s e) ∙ h)

-- ---- A part made of two

-- its rule k is the first part's rule f and then `next` with the second part
module _ {A B C U Z : Type 0} (f : A → Rule U) (k : C → Rule Z) {x : Outcome ℕ Refusal A} {y : Reader B}
    {h : A → B → C} {c : C} {n : ℕ} {whole : Outcome ℕ Refusal C} (w : whole ≡ ok c n) (t : Two x y h c n)
    (next : U → B → Rule Z)
    (does : (s : State) → k (h t.one t.two) s ≡ then' (f t.one s) (λ u. next u t.two)) (s : State) where
  whole_is : placed k whole s ≡ reaching n (then' (f t.one s) (λ u. next u t.two))
  whole_is = placed_is k s w ∙ ap (reaching n) (ap (λ c. k c s) t.is ∙ does s)

  pub begin_ended : {e : Early × Ending} → placed f x s ≡ ended e → placed k whole s ≡ ended e
  unfolding then' give
  begin_ended p = whole_is ∙ ap (λ o. reaching n (then' o (λ u. next u t.two))) (stopped f s t.first p)

  module _ {v : U} {m : ℕ} {u : State} (p : placed f x s ≡ ok (v upto m) u) where
    pub second_at : y m ≡ ok t.two n
    second_at = subst (λ j. y j ≡ ok t.two n) (gave f s t.first p).1 t.second

    pub second_read : Read (y m)
    second_read = was_read second_at

    pub begin_ok : placed k whole s ≡ placed (next v) (y m) u
    unfolding then'
    begin_ok =
        whole_is ∙ ap (λ o. reaching n (then' o (λ w. next w t.two))) (gave f s t.first p).0
        ∙ sym (placed_is (next v) u second_at)

-- A part whose rule is another rule and then `rest`
module _ {A U Z : Type 0} (f : A → Rule U) (rest : U → Rule Z) where
  pub then_ended : (x : Outcome ℕ Refusal A) {e : Early × Ending} (s : State) → placed f x s ≡ ended e
      → placed (λ a s. then' (f a s) rest) x s ≡ ended e
  unfolding placed then' give
  then_ended (ok a n) s p = ap (λ o. reaching n (then' o rest)) (unreached f n (f a s) p)
  then_ended (ended r) s p = cc

  pub then_ok : (x : Outcome ℕ Refusal A) {w : U} {m : ℕ} (s : State) {u : State} → placed f x s ≡ ok (w upto m) u
      → placed (λ a s. then' (f a s) rest) x s ≡ reaching m (rest w u)
  unfolding placed then' give
  then_ok (ok a n) {w = w} s {u = u} p =
      let r = reached f n (f a s) p in
      ap (λ o. reaching n (then' o rest)) r.0 ∙ ap (λ j. reaching j (rest w u)) r.1
  then_ok (ended r) s p = absurd (let z : ◌≡◌ {A = ℕ} 0 1 = cc in omega arith)

-- A part that is passed over: r done, and on from its end
pub passed : {A B : Type 0} {x : Outcome ℕ Refusal A} {a : A} {n : ℕ} → x ≡ ok a n → (r : Rule B) (s : State)
    → placed (λ (a : A). r) x s ≡ reaching n (r s)
passed e r s = placed_is (λ a. r) s e
