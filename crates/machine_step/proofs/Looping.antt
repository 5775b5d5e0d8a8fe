-- What the run's loop keeps, over memory in either layout: the run from here on comes to what the whole run comes to
-- (Running, `Going`), whatever records the code gives.
use mathlib.Core.Path.{◌≡◌, refl, sym, ap, subst, ◌∙◌}
use mathlib.Core.List.{List}
use Prim.Native.Nat.{ℕ}
use lib.IntN.{ℤ}
use lib.ListN.{length}
use Rattle.base.specs.Answers.{gives}
use Rattle.record.specs.Records.{Record}
use Rattle.record.specs.Bytes.{records_from}
use Rattle.machine_cells.specs.Lents.{Lent}
use Rattle.machine_step.specs.Steps.{Passed}
use Rattle.machine_step.specs.Runs.{Starts}
use Rattle.machine_step.specs.declared.Machine.{Machine}
use Rattle.machine_step.proofs.Running.{Course, Going}

-- The slices that a run is begun with, its code and its limit
pub record Begun (M Name : Type 0) : Type 1 where
  pub lent : Lent M Name
  pub last : ℕ
  pub code : List ℕ
  pub store : List ℤ
  pub stack : List ℤ
  pub limit : ℕ
  pub first : Machine

module _ {M Name : Type 0} (b : Begun M Name) where
  -- the code's records
  abbrev pub Given : List (Record Name) → Type 0
  Given P = records_from (b.lent.kind (length b.stack)) b.code 0 b.last ≡ gives P

  -- the course of their run
  abbrev pub course : (P : List (Record Name)) → Given P → Course M Name
  course P given = record {
    depth = b.lent.depth;
    form = b.lent.form;
    kind = b.lent.kind (length b.stack);
    code = b.code;
    last = b.last;
    records = P;
    given = given;
    budget = b.limit;
    first = b.first;
    lent = b.lent.memory b.store b.stack;
  }

  pub record Loops (store stack : List ℤ) (machine : Machine) : Type 0 where
    pub going : (P : List (Record Name)) (given : Given P) → Going (course P given) machine (b.lent.memory store stack)

  pub begins : Starts b.first b.lent.depth b.last b.limit → Loops b.store b.stack b.first
  begins p = record {
    going = λ P given. record { placed = p.placed; held = p.held; marked = p.marked; used = p.used; same = refl };
  }

-- What the code passed, it passes with slices as long as these.
pub passes : {M Name : Type 0} {x : Lent M Name} {last : ℕ} {code : List ℕ} {store₀ stack₀ : List ℤ}
    (store stack : List ℤ) → length store ≡ length store₀ → length stack ≡ length stack₀
    → Passed x last code store₀ stack₀ → Passed x last code store stack
passes {x = x} {last = last} {code = code} {store₀ = store₀} store stack e f p = record {
  records = p.records;
  given = ap (λ k. records_from (x.kind k) code 0 last) f ∙ p.given;
  whole = p.whole;
  fits = subst (λ (n : ℕ). x.Fits n (length stack)) (sym e) (subst (x.Fits (length store₀)) (sym f) p.fits);
}
