-- What following a successor keeps: what was found stays, and what is found now can be reached and has the only height
-- that it can have. Where all that was found is looked at, the labels are heights.
use mathlib.Core.Path.{◌≡◌, refl, sym, ◌∙◌, ap, subst}
use Prim.Native.Nat.{ℕ, suc, ◌+◌, ◌-◌, ◌≤◌, ◌<◌}
use native.Mathlib.Decide.{ℕ_discrete}
use native.Mathlib.Omega.{arith}
use mathlib.Core.Bool.{Bool}
use mathlib.Core.List.{List}
use mathlib.Core.Option.{some}
use lib.ListN.{length, get_or, get_elem?, set, length-set}
use lib.Seq.{get_or-set_same, get_or-set_other}
use Rattle.std.specs.Prelude.{Some, None}
use Rattle.word.specs.Targets.{Target}
use Rattle.record.specs.Records.{Record, MachineCode}
use Rattle.record.specs.declared.Address.{Address}
use Rattle.inspection.specs.Heights.{effect, successor, height_after, Reached, first, step, Heights, Passing}
use Rattle.inspection.proofs.Right.{same_target, right_heights}
use Rattle.inspection_visit.specs.Positions.{Followed, again, new, other, astray, Stands, Grew, Held, Looked}
use Rattle.inspection_visit.proofs.Labelling.{zeros_set, some_zero}

-- ---- What was found stays

-- Nothing new is found.
pub grew_not : {last : ℕ} {ls o : List ℕ} {f : ℕ} → Stands last ls o f → Grew last ls o f ls o f
grew_not s = record { stands = s; long = refl; more = omega arith; kept = λ p n. refl; same = λ j l. refl }

-- More is found in two steps.
pub grew_twice : {last : ℕ} {ls o : List ℕ} {f : ℕ} {ls₁ o₁ : List ℕ} {f₁ : ℕ} {ls₂ o₂ : List ℕ} {f₂ : ℕ}
    → Grew last ls o f ls₁ o₁ f₁ → Grew last ls₁ o₁ f₁ ls₂ o₂ f₂ → Grew last ls o f ls₂ o₂ f₂
grew_twice x y =
    record {
      stands = y.stands;
      long = y.long ∙ x.long;
      more = omega (arith, x.more, y.more);
      kept = λ p n. y.kept p (λ e. n (sym (x.kept p n) ∙ e)) ∙ x.kept p n;
      same = λ j l. y.same j (omega (arith, x.more)) ∙ x.same j l;
    }

-- What is known of a successor t and of the label for it
pub record Successor (last : ℕ) (t : Target) (label : ℕ) : Type 0 where
  pub inside : (q : ℕ) → t ≡ Some q → q ≤ last
  pub some_label : label ≡ 0 → ⊥
  pub low : label ≤ 65

-- A successor that had no label
module _ {last : ℕ} {ls o : List ℕ} {f label q : ℕ} (s : Stands last ls o f) (t : Successor last (Some q) label)
    (none_yet : get_or ls q 0 ≡ 0) where
  in_labels : q < length ls
  in_labels = omega (arith, t.inside q refl, s.covered)

  in_order : f < length o
  in_order = omega (arith, s.room.wide, s.room.spare, some_zero ls q in_labels none_yet)

  label_here : get_or (set ls q label) q 0 ≡ label
  label_here = get_or-set_same ls q label 0 in_labels

  kept : (p : ℕ) → (get_or ls p 0 ≡ 0 → ⊥) → get_or (set ls q label) p 0 ≡ get_or ls p 0
  kept p n = get_or-set_other ls q p label 0 (λ e. n (ap (λ p. get_or ls p 0) e ∙ none_yet))

  same : (j : ℕ) → j < f → get_or (set o f q) j 0 ≡ get_or o j 0
  same j l = get_or-set_other o f j q 0 (λ e. omega arith)

  last_listed : get_or (set o f q) f 0 ≡ q
  last_listed = get_or-set_same o f q 0 in_order

  grew : Grew last ls o f (set ls q label) (set o f q) (f + 1)
  grew =
      let long : length (set ls q label) ≡ length ls = length-set ls q label in
      record {
        stands =
            record {
              room =
                  record {
                    wide = length-set o f q ∙ s.room.wide ∙ sym long;
                    small = omega (arith, s.room.small);
                    spare = omega (arith, s.room.spare, zeros_set ls q label in_labels none_yet t.some_label);
                  };
              covered = omega (arith, s.covered);
              inside =
                  λ j l.
                  elim (ℕ_discrete j f) [
                    | yes e ↦ rw e (rw last_listed (t.inside q refl))
                    | no e ↦ rw (same j (omega arith)) (s.inside j (omega arith))
                  ];
              labelled =
                  λ j l.
                  elim (ℕ_discrete j f) [
                    | yes e ↦ rw e (rw last_listed (rw label_here t.some_label))
                    | no e ↦
                        let less : j < f = omega arith in
                        rw (same j less) (rw (kept (get_or o j 0) (s.labelled j less)) (s.labelled j less))
                  ];
              low =
                  λ p.
                  elim (ℕ_discrete p q) [
                    | yes e ↦ rw e (rw label_here t.low)
                    | no e ↦ rw (get_or-set_other ls q p label 0 e) (s.low p)
                  ];
            };
        long = long;
        more = omega arith;
        kept = kept;
        same = same;
      }

-- A target has the label.
pub record HasLabel (ls : List ℕ) (label : ℕ) (t : Target) : Type 0 where
  pub to : ℕ
  pub leads : t ≡ Some to
  pub has : get_or ls to 0 ≡ label

-- A successor that is found has the label.
pub followed : {last : ℕ} {ls o : List ℕ} {f label : ℕ} {t : Target} {f' : ℕ} {ls' o' : List ℕ}
    → Followed ls o f label t (Some f') ls' o' → Stands last ls o f → Successor last t label
    → Grew last ls o f ls' o' f' × HasLabel ls' label t
followed (again q e) s t = (grew_not s, record { to = q; leads = refl; has = e })
followed (new q e) s t = (grew s t e, record { to = q; leads = refl; has = label_here s t e })

-- ---- What is found can be reached, and has the only height that it can have

-- The label is that of the only height that the target can have.
abbrev pub Only : ℕ → MachineCode → Target → ℕ → Type 0
Only D P t label = (h : ℕ → ℕ) → Heights D P h → (q : ℕ) → t ≡ Some q → label ≡ suc (h q)

-- A successor is found.
pub held_on : {D : ℕ} {P : MachineCode} {last : ℕ} {ls o : List ℕ} {f label : ℕ} {t : Target} {f' : ℕ} {ls' o' : List ℕ}
    → Followed ls o f label t (Some f') ls' o' → Stands last ls o f → Successor last t label
    → ((q : ℕ) → t ≡ Some q → Reached P q) → Only D P t label → Held D P ls o f → Held D P ls' o' f'
held_on (again q e) s t reach only H = H
held_on {P = P} {ls = ls} {f = f} {label = label} (new q e) s t reach only H =
    let old : (p : ℕ) → (p ≡ q → ⊥) → (get_or (set ls q label) p 0 ≡ 0 → ⊥) → get_or ls p 0 ≡ 0 → ⊥ =
    λ p a x y. x (get_or-set_other ls q p label 0 a ∙ y) in
    record {
      begun = kept s t e 0 (λ z. let b : get_or ls 0 0 ≡ 1 = H.begun in omega arith) ∙ H.begun;
      listed =
          λ p x.
          elim (ℕ_discrete p q) [
            | yes a ↦ (f, omega arith, last_listed s t e ∙ sym a)
            | no a ↦
                let j = H.listed p (old p a x) in
                (j.0, omega (arith, j.1), same s t e j.0 j.1 ∙ j.2)
          ];
      reached =
          λ p x.
          elim (ℕ_discrete p q) [
            | yes a ↦ subst (Reached P) (sym a) (reach q refl)
            | no a ↦ H.reached p (old p a x)
          ];
      forced =
          λ h Hh p x.
          elim (ℕ_discrete p q) [
            | yes a ↦
                ap (λ p. get_or (set ls q label) p 0) a ∙ label_here s t e ∙ only h Hh q refl
                ∙ ap (λ p. suc (h p)) (sym a)
            | no a ↦ kept s t e p (old p a x) ∙ H.forced h Hh p (old p a x)
          ];
    }

-- A successor clashes: it is astray, or has another height.
pub clashed : {D : ℕ} {P : MachineCode} {ls o : List ℕ} {f label : ℕ} {t : Target} {ls' o' : List ℕ}
    → Followed ls o f label t None ls' o' → Only D P t label → (t ≡ None → Passing D P → ⊥) → Held D P ls o f
    → Passing D P → ⊥
clashed (other q n e) only lost H (h, Hh) = e (H.forced h Hh q n ∙ sym (only h Hh q refl))
clashed (astray) only lost H x = lost refl x

module _ {D : ℕ} {P : MachineCode} {ls o : List ℕ} {f : ℕ} (H : Held D P ls o f) (p : ℕ)
    (there : get_or ls p 0 ≡ 0 → ⊥) where
  -- ---- The end

  -- It has height 0,
  pub end_looked : ((r : Record Address) → get_elem? P p ≡ some r → ⊥) → get_or ls p 0 ≡ 1 → Looked D P ls p
  end_looked past e =
      record {
        ends = λ _. e;
        enough = λ r due. absurd (past r due);
        room = λ r due. absurd (past r due);
        ways = λ r due taken. absurd (past r due);
      }

  -- or another.
  pub end_clash : p ≡ length P → (get_or ls p 0 ≡ 1 → ⊥) → Passing D P → ⊥
  end_clash end n (h, Hh) =
      n (H.forced h Hh p there
      ∙ ap suc (ap h end ∙ Hh.ends (subst (Reached P) end (H.reached p there))))

  -- ---- A record

  module _ {r : Record Address} (due : get_elem? P p ≡ some r) where
    abbrev k : ℕ
    k = get_or ls p 0 - 1

    -- It has one height.
    height : (h : ℕ → ℕ) → Heights D P h → h p ≡ k
    height h Hh = let e : get_or ls p 0 ≡ suc (h p) = H.forced h Hh p there in omega arith

    -- Its successors can be reached,
    pub reach : (taken : Bool) (q : ℕ) → successor (length P) p r taken ≡ Some q → Reached P q
    reach taken q l = step taken (H.reached p there) due l

    -- have one height,
    pub only : (taken : Bool) → Only D P (successor (length P) p r taken) (suc (height_after r k))
    only taken h Hh q l =
        ap suc (sym (Hh.follows p r (H.reached p there) due taken q l ∙ ap (height_after r) (height h Hh)))

    -- and are not astray.
    pub lost : (taken : Bool) → successor (length P) p r taken ≡ None → Passing D P → ⊥
    lost taken l (h, Hh) = Hh.lands p r (H.reached p there) due taken l

    -- It does not break its height.
    pub broken : ((effect r).takes ≤ k → height_after r k ≤ D → ⊥) → Passing D P → ⊥
    broken n (h, Hh) =
        let e = height h Hh in
        n (subst (λ k. (effect r).takes ≤ k) e (Hh.enough p r (H.reached p there) due))
        (subst (λ k. height_after r k ≤ D) e (Hh.room p r (H.reached p there) due))

-- ---- Where all that was found is looked at

module _ (D : ℕ) (P : MachineCode) (ls o : List ℕ) (f : ℕ) (H : Held D P ls o f)
    (all : (j : ℕ) → j < f → Looked D P ls (get_or o j 0)) where
  -- What has a label is looked at,
  at : (p : ℕ) → (get_or ls p 0 ≡ 0 → ⊥) → Looked D P ls p
  at p n = let j = H.listed p n in subst (Looked D P ls) j.2 (all j.0 j.1)

  -- and what can be reached has one.
  labelled : (p : ℕ) → Reached P p → get_or ls p 0 ≡ 0 → ⊥
  labelled p (first) e = let b : get_or ls 0 0 ≡ 1 = H.begun in omega arith
  labelled p (step {p = p₀} {r = r} taken w due l) e =
      let x = (at p₀ (labelled p₀ w)).ways r due taken in
      let same : x.0 ≡ p = same_target _ x.0 p x.1 l in
      let z : get_or ls p 0 ≡ suc (height_after r (get_or ls p₀ 0 - 1)) = ap (λ q. get_or ls q 0) (sym same) ∙ x.2 in
      omega arith

  -- The labels are heights.
  pub heights : Heights D P (λ p. get_or ls p 0 - 1)
  heights =
      right_heights D P (λ p. get_or ls p 0 - 1) (ap (λ n. n - 1) H.begun)
      (λ p r w due.
      let k = at p (labelled p w) in
      record {
        enough = k.enough r due;
        room = k.room r due;
        ways = λ taken. let x = k.ways r due taken in (x.0, x.1, omega (arith, x.2));
      })
      (λ w. ap (λ n. n - 1) ((at (length P) (labelled (length P) w)).ends refl))
