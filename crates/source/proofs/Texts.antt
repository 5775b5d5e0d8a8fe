-- The comparison with the published rules (Claims: Published), and of texts and of the call run_source (Claims:
-- PublishedTexts): the call tells the end and the store of the rules' outcome.
use mathlib.Core.Path.{◌≡◌, refl, sym, ◌∙◌, ap}
use mathlib.Core.Logic.{◌↔◌}
use Prim.Native.Nat.{ℕ, ◌-◌}
use native.Mathlib.Omega.{arith}
use mathlib.Core.List.{List}
use lib.ListN.{length}
use Rattle.base.specs.Acts.{ok, ended}
use Rattle.base.specs.Answers.{Answer, gives}
use Rattle.base.specs.Ends.{End, Ran, ran, report}
use Rattle.base.proofs.Answers.{gives_one}
use Rattle.word.specs.Sums.{stopping}
use Rattle.word.proofs.Claims.{exact}
use Rattle.text.specs.Syntax.{Command}
use Rattle.text.specs.Reading.{read_text}
use Rattle.source.specs.BigStep.{BigStep}
use Rattle.source.specs.Calls.{sums, run_source}
use Rattle.source.specs.Claims.{BringsPast, Published, PublishedTexts}
use Rattle.source.specs.Rules.{Early, State, Store, Outcomes, start, exec, end_of, result_of}
use Rattle.source.proofs.Calls.{source_runs}
use Rattle.source.proofs.SumRules.{same_outcome, same_condition}
use Rattle.source.proofs.Equivalence.{published_by}

-- Where no budget brings a sum past a limit, the two rules give the same outcomes; and the stopping rule is exact.
pub published : Published
published c s none t = (
  λ (n, u, e, k). rules.0 (n, u, sym (same_outcome c s n (none n)) ∙ e, k),
  λ x. let (n, u, e, k) = rules.1 x in (n, u, same_outcome c s n (none n) ∙ e, k),
)
  where
    rules : ((n : ℕ) × (u : State) × (exec stopping c (start n s) ≡ ok tt u) × (u.store ≡ t)) ↔ BigStep c s t
    rules = published_by stopping exact c s (λ n u e.
        let (k, past) = (same_condition c s n).1 (u, e) in none n k past) t

-- an outcome whose result is done
done_outcome : (x : Outcomes (Unit {0})) → (result_of x).end ≡ End.done
    → (u : State) × (x ≡ ok tt u) × (u.store ≡ (result_of x).leaves)
unfolding result_of end_of
done_outcome (ok a s) e = (s, refl, refl)
done_outcome (ended (Early.spent, s)) e = absurd (let z : ◌≡◌ {A = ℕ} 0 1 = cc in omega arith)
done_outcome (ended (Early.out_of_range, s)) e = absurd (let z : ◌≡◌ {A = ℕ} 0 1 = cc in omega arith)

module _ (text : List ℕ) (c : Command) (read : read_text text ≡ gives c) (s : Store) (long : length s ≡ 64) where
  abbrev outcome : ℕ → Outcomes (Unit {0})
  outcome budget = exec sums c (start budget s)

  -- what the call tells of an outcome
  abbrev telling : ℕ → Outcomes (Unit {0}) → Answer Ran × Store
  telling budget x = (gives (report budget (result_of x)), (result_of x).leaves)

  told : (budget : ℕ) → run_source text s budget ≡ telling budget (outcome budget)
  told budget = source_runs text c s budget read long

  -- a call that tells an end and a store: so does its result
  tells : (budget k μ : ℕ) (e : End) (t : Store) → run_source text s budget ≡ (gives (ran e k μ), t)
      → ((result_of (outcome budget)).end ≡ e) × ((result_of (outcome budget)).leaves ≡ t)
  tells budget k μ e t h =
      let same : ◌≡◌ {A = Answer Ran × Store} (telling budget (outcome budget)) (gives (ran e k μ), t) =
      sym (told budget) ∙ h in (
        ap (λ (r : Ran). r.end) (gives_one (report budget (result_of (outcome budget))) (ran e k μ)
            (ap (λ (x : Answer Ran × Store). x.0) same)),
        ap (λ (x : Answer Ran × Store). x.1) same,
      )

  -- under some budget the call ends done with the store t
  abbrev Done : Store → Type 0
  Done t = (budget : ℕ) × (k : ℕ) × (μ : ℕ) × (run_source text s budget ≡ (gives (ran End.done k μ), t))

  same_stores : ((n k : ℕ) → BringsPast c s n k → ⊥) → (t : Store) → Done t ↔ BigStep c s t
  unfolding result_of
  same_stores none t = (to, back)
    where
      rules : ((n : ℕ) × (u : State) × (exec sums c (start n s) ≡ ok tt u) × (u.store ≡ t)) ↔ BigStep c s t
      rules = published c s none t

      to : Done t → BigStep c s t
      to (n, k, μ, h) =
          let x = tells n k μ End.done t h in
          let o = done_outcome (outcome n) x.0 in
          rules.0 (n, o.0, o.1, o.2 ∙ x.1)

      back : BigStep c s t → Done t
      back x =
          let (n, u, e, k) = rules.1 x in
          let r = ran End.done (n - u.left) u.mark in
          (n, r.count, r.mark, told n ∙ ap (telling n) e ∙ ap (λ t. (gives r, t)) k)

pub published_texts : PublishedTexts
published_texts text c read s long = record { same = same_stores text c read s long }
