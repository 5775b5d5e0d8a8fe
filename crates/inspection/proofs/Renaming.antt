-- Records renamed have the heights that the records have, since what a record takes, puts and leads to is of no name.
use mathlib.Core.Path.{◌≡◌, refl, sym, ◌∙◌, ap, subst}
use Prim.Native.Nat.{ℕ, zero, suc}
use native.Mathlib.Omega.{arith}
use mathlib.Core.Bool.{Bool}
use mathlib.Core.List.{List, [], ◌∷◌, map}
use mathlib.Core.Option.{some}
use lib.ListN.{length, length-map, get_elem?}
use Rattle.std.specs.Prelude.{Some, None}
use Rattle.word.specs.Targets.{Target}
use Rattle.record.specs.Records.{Record, LOADI, LOAD, ADD, STORE, JMP, JMPLESS, JMPGE, rename}
use Rattle.inspection.specs.Heights.{effect, leads, successor, Reached, first, step, Heights}

module _ {X Y : Type 0} (f : X → Y) where
  same_effect : (r : Record X) → effect (rename f r) ≡ effect r
  unfolding effect rename
  same_effect (LOADI z) = refl
  same_effect (LOAD x) = refl
  same_effect ADD = refl
  same_effect (STORE x) = refl
  same_effect (JMP i) = refl
  same_effect (JMPLESS i) = refl
  same_effect (JMPGE i) = refl

  -- the record that was renamed
  record From (P : List (Record X)) (p : ℕ) (s : Record Y) : Type 0 where
    old : Record X
    there : get_elem? P p ≡ some old
    same : effect s ≡ effect old

  from : (P : List (Record X)) (p : ℕ) (s : Record Y) → get_elem? (map (rename f) P) p ≡ some s → From P p s
  from [] p s e = absurd (let z : ◌≡◌ {A = ℕ} 0 1 = cc in omega arith)
  from (r ∷ P) zero s e =
      let is : rename f r ≡ s = cc in
      record { old = r; there = refl; same = ap effect (sym is) ∙ same_effect r }
  from (r ∷ P) (suc p) s e = let x = from P p s e in record { old = x.old; there = x.there; same = x.same }

  module _ (P : List (Record X)) where
    abbrev Q : List (Record Y)
    Q = map (rename f) P

    -- where the renamed record leads, the record leads
    led : (p : ℕ) (s : Record Y) (x : From P p s) (taken : Bool) (t : Target)
        → successor (length Q) p s taken ≡ t → successor (length P) p x.old taken ≡ t
    led p s x taken t e =
        (λ i. leads (sym (length-map P (rename f)) i) p (sym x.same i).way taken) ∙ e

    back : (p : ℕ) → Reached Q p → Reached P p
    back p (first) = first
    back p (step {p = p₀} {r = s} taken w e l) =
        let x = from P p₀ s e in
        step taken (back p₀ w) x.there (led p₀ s x taken (Some p) l)

    pub renamed : (D : ℕ) (h : ℕ → ℕ) → Heights D P h → Heights D Q h
    renamed D h H = record {
      start = H.start;
      enough = λ p s w e. let x = from P p s e in rw x.same (H.enough p x.old (back p w) x.there);
      room = λ p s w e. let x = from P p s e in rw x.same (H.room p x.old (back p w) x.there);
      follows = λ p s w e taken q l. let x = from P p s e in
          rw x.same (H.follows p x.old (back p w) x.there taken q (led p s x taken (Some q) l));
      lands = λ p s w e taken l. let x = from P p s e in
          H.lands p x.old (back p w) x.there taken (led p s x taken None l);
      ends = λ w. let same = length-map P (rename f) in
          omega (arith, ap h same, H.ends (subst (Reached P) same (back _ w)));
    }
