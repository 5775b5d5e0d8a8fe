-- A run that is not spent needs exactly its count: any more ticks are left over, and with fewer it is spent.
-- The rule for sums does not look at the ticks left. The idea: cut the run after its count, by `split`; the first part
-- can't be spent, since a spent machine has a record due, and that record would take a tick more.
use mathlib.Core.Path.{◌≡◌, refl, sym, ◌∙◌, ap, fun_ext}
use Prim.Native.Nat.{ℕ, suc, ◌+◌, ◌-◌, ◌≤◌, ◌<◌}
use native.Mathlib.Nat.{zero-add}
use native.Mathlib.Omega.{arith}
use mathlib.Core.List.{List}
use mathlib.Core.Option.{some}
use lib.ListN.{get_elem?}
use Rattle.base.specs.Ends.{End, fault, Result, result}
use Rattle.word.specs.Sums.{SumRule, Steady}
use Rattle.record.specs.Records.{Record}
use Rattle.machine.specs.Machine.{Memory, Machine, run}
use Rattle.machine.specs.Claims.{resume, Walk, stay, step, Made}
use Rattle.machine.proofs.Counting.{counted}
use Rattle.machine.proofs.Splitting.{split}

-- which end it is
number : End → ℕ
number End.done = 0
number End.spent = 1
number (fault e) = 2

module _ {M Name : Type 0} (sum : SumRule) (D : ℕ) (o : Memory M Name) (code : List (Record Name)) where
  walk_falls : (n n' : ℕ) (s s' : Machine M) → Walk sum D o code n n' s s' → n' ≤ n
  walk_falls n n' s s' (stay) = omega arith
  walk_falls n n' s s' (step {n = m} {s' = s₁} r d x w) = omega (arith, walk_falls m n' s₁ s' w)

  walk_stays : (n n' : ℕ) (s s' : Machine M) → Walk sum D o code n n' s s' → n ≡ n' → s ≡ s'
  walk_stays n n' s s' (stay) e = refl
  walk_stays n n' s s' (step {n = m} {s' = s₁} r d x w) e = absurd (omega (arith, walk_falls m n' s₁ s' w))

  -- the ticks left are at most those at the start, and none where they were spent
  made_most : (n : ℕ) (s : Machine M) (e : End) (n' : ℕ) (s' : Machine M) → Made sum D o code n s e n' s' → n' ≤ n
  made_most n s End.done n' s' h = walk_falls n n' s s' h.0
  made_most n s End.spent n' s' h = walk_falls n n' s s' h.0
  made_most n s (fault f) n' s' h = omega (arith, walk_falls n (suc n') s s' h.0)

  pub left_most : (n μ : ℕ) (s : Machine M) → (run sum D o code n μ s).left ≤ n
  left_most n μ s =
      let r = run sum D o code n μ s in
      made_most n s r.end r.left r.leaves (counted sum D o code n μ s)

  made_spent : (n : ℕ) (s : Machine M) (e : End) (n' : ℕ) (s' : Machine M) → Made sum D o code n s e n' s'
      → e ≡ End.spent → n' ≡ 0
  unfolding number
  made_spent n s End.done n' s' h e = absurd (let z : ◌≡◌ {A = ℕ} 0 1 = ap number e in omega arith)
  made_spent n s End.spent n' s' h e = h.1
  made_spent n s (fault f) n' s' h e = absurd (let z : ◌≡◌ {A = ℕ} 2 1 = ap number e in omega arith)

  pub spent_all : (n μ : ℕ) (s : Machine M) → (run sum D o code n μ s).end ≡ End.spent
      → (run sum D o code n μ s).left ≡ 0
  spent_all n μ s =
      let r = run sum D o code n μ s in
      made_spent n s r.end r.left r.leaves (counted sum D o code n μ s)

  -- with a record due, a run that leaves all its ticks had none: it is spent
  made_due : (n : ℕ) (s : Machine M) (r : Record Name) (e : End) (n' : ℕ) (s' : Machine M)
      → get_elem? code s.position ≡ some r → n' ≡ n → Made sum D o code n s e n' s' → e ≡ End.spent
  made_due n s r End.done n' s' d l h =
      let same : s ≡ s' = walk_stays n n' s s' h.0 (sym l) in
      let due : get_elem? code s'.position ≡ some r = sym (ap (λ s. get_elem? code s.position) same) ∙ d in
      let none_due = h.1 in
      let z : ◌≡◌ {A = ℕ} 0 1 = cc in
      absurd (omega arith)
  made_due n s r End.spent n' s' d l h = refl
  made_due n s r (fault f) n' s' d l h = absurd (omega (arith, walk_falls n (suc n') s s' h.0))

  due_after : (n : ℕ) (s : Machine M) (e : End) (n' : ℕ) (s' : Machine M) → Made sum D o code n s e n' s'
      → e ≡ End.spent → (r : Record Name) × (get_elem? code s'.position ≡ some r)
  unfolding number
  due_after n s End.done n' s' h e = absurd (let z : ◌≡◌ {A = ℕ} 0 1 = ap number e in omega arith)
  due_after n s End.spent n' s' h e = (h.2, h.3)
  due_after n s (fault f) n' s' h e = absurd (let z : ◌≡◌ {A = ℕ} 2 1 = ap number e in omega arith)

  -- a result that is not spent, gone on with b ticks more
  resumed_other : (e : End) (b l μ : ℕ) (s' : Machine M) → (e ≡ End.spent → ⊥)
      → resume sum D o code b e l μ s' ≡ result e (l + b) μ s'
  unfolding resume
  resumed_other End.done b l μ s' h = refl
  resumed_other End.spent b l μ s' h = absurd (h refl)
  resumed_other (fault f) b l μ s' h = refl

  -- a result that, gone on with some ticks more, has none left is spent
  short_of : (b : ℕ) → 0 < b → (e e₁ : End) (l μ μ₁ : ℕ) (s' s₁ : Machine M)
      → resume sum D o code b e l μ s' ≡ result e₁ 0 μ₁ s₁ → e ≡ End.spent
  unfolding resume
  short_of b p End.done e₁ l μ μ₁ s' s₁ g = let z : l + b ≡ 0 = ap (λ r. r.left) g in absurd (omega arith)
  short_of b p End.spent e₁ l μ μ₁ s' s₁ g = refl
  short_of b p (fault f) e₁ l μ μ₁ s' s₁ g = let z : l + b ≡ 0 = ap (λ r. r.left) g in absurd (omega arith)

  module _ (steady : Steady sum) where
    abbrev resumed : ℕ → Result (Machine M) → Result (Machine M)
    resumed b r = resume sum D o code b r.end r.left r.mark r.leaves

    -- a run cut in two goes by the same rule in both parts
    pub cut : (a b μ : ℕ) (s : Machine M) → run sum D o code (a + b) μ s ≡ resumed b (run sum D o code a μ s)
    cut a b μ s =
        split sum D o code a b μ s
        ∙ ap (λ (rule : SumRule). resumed b (run rule D o code a μ s))
        (fun_ext (λ n. fun_ext (λ x. fun_ext (λ y. steady (n + b) n x y))))

    -- a result that leaves l ticks more than r does: r leaves none
    less : (e e₁ : End) (l l₁ μ₁ μ' : ℕ) (s₁ s' : Machine M) → result e₁ (l₁ + l) μ₁ s₁ ≡ result e l μ' s'
        → result e₁ l₁ μ₁ s₁ ≡ result e 0 μ' s'
    less e e₁ l l₁ μ₁ μ' s₁ s' g =
        let end : e₁ ≡ e = ap (λ r. r.end) g in
        let same : l₁ + l ≡ l = ap (λ r. r.left) g in
        let left : l₁ ≡ 0 = omega arith in
        let mark : μ₁ ≡ μ' = ap (λ r. r.mark) g in
        let leaves : s₁ ≡ s' = ap (λ r. r.leaves) g in
        λ i. result (end i) (left i) (mark i) (leaves i)

    -- the first k ticks of a run that goes on to end by e, not spent, with l left
    at_count : (k l μ : ℕ) (s : Machine M) (e e₁ : End) (l₁ μ₁ μ' : ℕ) (s₁ s' : Machine M)
        → run sum D o code k μ s ≡ result e₁ l₁ μ₁ s₁
        → (e ≡ End.spent → ⊥) → resume sum D o code l e₁ l₁ μ₁ s₁ ≡ result e l μ' s'
        → result e₁ l₁ μ₁ s₁ ≡ result e 0 μ' s'
    unfolding resume
    at_count k l μ s e End.done l₁ μ₁ μ' s₁ s' h other g = less e End.done l l₁ μ₁ μ' s₁ s' g
    at_count k l μ s e (fault f) l₁ μ₁ μ' s₁ s' h other g = less e (fault f) l l₁ μ₁ μ' s₁ s' g
    at_count k l μ s e End.spent l₁ μ₁ μ' s₁ s' h other g =
        let x = run sum D o code k μ s in
        let spent : x.end ≡ End.spent = ap (λ r. r.end) h in
        let d = due_after k s x.end x.left x.leaves (counted sum D o code k μ s) spent in
        let due : get_elem? code s₁.position ≡ some d.0 =
        sym (ap (λ r. get_elem? code r.leaves.position) h) ∙ d.1 in
        let r = run sum D o code l μ₁ s₁ in
        let all : r.left ≡ l = ap (λ r. r.left) g in
        absurd (other (sym (ap (λ r. r.end) g)
        ∙ made_due l s₁ d.0 r.end r.left r.leaves due all (counted sum D o code l μ₁ s₁)))

    -- a run that is not spent, and its count k
    module _ (n k μ : ℕ) (s : Machine M) (other : (run sum D o code n μ s).end ≡ End.spent → ⊥)
        (count : k + (run sum D o code n μ s).left ≡ n) where
      abbrev r : Result (Machine M)
      r = run sum D o code n μ s

      exactly : run sum D o code k μ s ≡ result r.end 0 r.mark r.leaves
      exactly =
          let x = run sum D o code k μ s in
          at_count k r.left μ s r.end x.end x.left x.mark r.mark x.leaves r.leaves refl other
          (sym (cut k r.left μ s) ∙ ap (λ n. run sum D o code n μ s) count)

      -- with more ticks it ends alike, and leaves the others
      pub enough : (more : ℕ) → run sum D o code (k + more) μ s ≡ result r.end more r.mark r.leaves
      enough more =
          cut k more μ s ∙ ap (resumed more) exactly ∙ resumed_other r.end more 0 r.mark r.leaves other
          ∙ ap (λ l. result r.end l r.mark r.leaves) (zero-add more)

      -- with fewer it is spent
      pub fewer : (j : ℕ) → j < k → (run sum D o code j μ s).end ≡ End.spent
      fewer j h =
          let b : ℕ = k - j in
          let sums : j + b ≡ k = omega arith in
          let x = run sum D o code j μ s in
          short_of b (omega arith) x.end r.end x.left x.mark r.mark x.leaves r.leaves
          (sym (cut j b μ s) ∙ ap (λ n. run sum D o code n μ s) sums ∙ exactly)
