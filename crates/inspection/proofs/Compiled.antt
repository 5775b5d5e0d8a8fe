-- Compiled code has heights (Claims: CommandsPass). The idea: where compiled code jumps, and where it lands, the stack
-- is empty; so the height at a position is what the records before it come to, each stepped on from the one before it.
use mathlib.Core.Path.{◌≡◌, refl, sym, ◌∙◌, ap, subst}
use Prim.Native.Nat.{ℕ, zero, suc, ◌+◌, ◌-◌, ◌≤◌, ◌<◌}
use native.Mathlib.Omega.{arith}
use native.Mathlib.Decide.{dec_lt}
use mathlib.Core.Bool.{Bool, true, false, not, beq}
use mathlib.Core.List.{List, [], ◌∷◌, ◌++◌}
use mathlib.Core.Option.{some}
use lib.IntN.{ℤ, pos, negsuc, ◌+ℤ◌}
use lib.ListN.{length, get_elem?}
use Rattle.std.specs.Prelude.{if◌then◌else◌}
use Rattle.word.specs.Targets.{target}
use Rattle.std.specs.Prelude.{Some}
use Rattle.text.specs.Sizes.{expression_depth, condition_depth, depth}
use Rattle.text.specs.Syntax.{Expression, Constant, Variable, Plus, Condition, Bc, Not, And, Less, Command, SKIP}
use Rattle.text.specs.Syntax.{◌:=◌, ◌⨾◌, IF◌THEN◌ELSE◌, WHILE◌DO◌}
use Rattle.record.specs.Records.{Record, LOADI, LOAD, ADD, STORE, JMP, JMPLESS, JMPGE, AssemblyCode, variable, address}
use Rattle.record.specs.declared.Variable.{Variable as VariableNumber}
use Rattle.machine.proofs.Effects.{target_on, target_back}
use Rattle.compile.specs.Compilation.{acomp, bcomp, test, ccomp}
use Rattle.compile.proofs.Segment.{Seg, seg_split, seg_length, seg_whole}
use Rattle.machine.proofs.Inside.{some_below}
use Rattle.compile.specs.Table.{vars, addr_of}
use Rattle.inspection.specs.Heights.{effect, leads, successor, height_after}
use Rattle.inspection.specs.Claims.{CommandsPass}
use Rattle.inspection.proofs.Renaming.{renamed}
use Rattle.inspection.proofs.Right.{same_record, Right, right_heights}

-- ---- Heights by stepping on

module _ {Name : Type 0} where
  -- the height at position p of records that are begun at height k
  pub level : List (Record Name) → ℕ → ℕ → ℕ
  level [] p k = k
  level (r ∷ P) zero k = k
  level (r ∷ P) (suc p) k = level P p (height_after r k)

  level_zero : (P : List (Record Name)) (k : ℕ) → level P zero k ≡ k
  unfolding level
  level_zero [] k = refl
  level_zero (r ∷ P) k = refl

  level_next : (P : List (Record Name)) (p k : ℕ) (r : Record Name) → get_elem? P p ≡ some r
      → level P (suc p) k ≡ height_after r (level P p k)
  unfolding level
  level_next [] p k r e = absurd (let z : ◌≡◌ {A = ℕ} 0 1 = cc in omega arith)
  level_next (x ∷ P) zero k r e =
      let same : x ≡ r = cc in
      level_zero P (height_after x k) ∙ ap (λ r. height_after r k) same
  level_next (x ∷ P) (suc p) k r e = level_next P p (height_after x k) r e

module _ (P : AssemblyCode) (D : ℕ) where
  abbrev h : ℕ → ℕ
  h p = level P p 0

  next : (p : ℕ) (r : Record VariableNumber) → get_elem? P p ≡ some r → h (suc p) ≡ height_after r (h p)
  next p r e = level_next P p 0 r e

  -- ---- What parts leave: expressions one value more, conditions and commands as many as there were

  rises : (a : Expression) (p q : ℕ) → Seg P p (acomp a) q → h q ≡ suc (h p)
  unfolding acomp effect
  rises (Constant w z) p q g = let e = next p (LOADI z) g.0 in ap h (sym g.1) ∙ e ∙ omega arith
  rises (Variable v) p q g = let e = next p (LOAD (variable v)) g.0 in ap h (sym g.1) ∙ e ∙ omega arith
  rises (Plus a b) p q g =
      let w = seg_split P p (acomp a) (acomp b ++ (ADD ∷ [])) q g in
      let u = seg_split P w.0 (acomp b) (ADD ∷ []) q w.2 in
      let e = next u.0 ADD u.2.0 in
      let x = rises a p w.0 w.1 in
      let y = rises b w.0 u.0 u.1 in
      ap h (sym u.2.1) ∙ e ∙ omega arith

  abbrev comparing : Bool → ℤ → Record VariableNumber
  comparing f i = if f then JMPLESS i else JMPGE i

  comparing_takes : (f : Bool) (i : ℤ) (k : ℕ) → height_after (comparing f i) k ≡ k - 2
  unfolding effect
  comparing_takes true i k = omega arith
  comparing_takes false i k = omega arith

  level_const : (t : Bool) (i : ℤ) (p q : ℕ) → Seg P p (if t then JMP i ∷ [] else []) q → h q ≡ h p
  unfolding effect
  level_const true i p q g = let e = next p (JMP i) g.0 in ap h (sym g.1) ∙ e ∙ omega arith
  level_const false i p q g = ap h (sym g)

  levelB : (b : Condition) (f : Bool) (i : ℤ) (p q : ℕ) → Seg P p (bcomp b f i) q → h q ≡ h p
  unfolding bcomp
  levelB (Bc v) f i p q g = level_const (beq v f) i p q g
  levelB (Not b) f i p q g = levelB b (not f) i p q g
  levelB (And b c) f i p q g =
      let t = bcomp c f i in
      let w = seg_split P p (bcomp b false (pos (length t) +ℤ (if f then pos 0 else i))) t q g in
      levelB c f i w.0 q w.2 ∙ levelB b false _ p w.0 w.1
  levelB (Less a b) f i p q g =
      let w = seg_split P p (acomp a) (acomp b ++ (comparing f i ∷ [])) q g in
      let u = seg_split P w.0 (acomp b) (comparing f i ∷ []) q w.2 in
      let e = next u.0 (comparing f i) u.2.0 in
      let x = rises a p w.0 w.1 in
      let y = rises b w.0 u.0 u.1 in
      ap h (sym u.2.1) ∙ e ∙ comparing_takes f i (h u.0) ∙ omega arith

  levelC : (c : Command) (p q : ℕ) → Seg P p (ccomp c) q → h q ≡ h p
  unfolding ccomp effect
  levelC SKIP p q g = ap h (sym g)
  levelC (v := a) p q g =
      let w = seg_split P p (acomp a) (STORE (variable v) ∷ []) q g in
      let e = next w.0 (STORE (variable v)) w.2.0 in
      let x = rises a p w.0 w.1 in
      ap h (sym w.2.1) ∙ e ∙ omega arith
  levelC (c ⨾ d) p q g =
      let w = seg_split P p (ccomp c) (ccomp d) q g in
      levelC d w.0 q w.2 ∙ levelC c p w.0 w.1
  levelC (IF t THEN c ELSE d) p q g =
      let y : AssemblyCode = JMP (pos (length (ccomp d))) ∷ ccomp d in
      let w = seg_split P p (test t (ccomp c)) (ccomp c ++ y) q g in
      let u = seg_split P w.0 (ccomp c) y q w.2 in
      let e = next u.0 (JMP (pos (length (ccomp d)))) u.2.0 in
      levelC d (suc u.0) q u.2.1 ∙ e ∙ omega arith ∙ levelC c w.0 u.0 u.1
      ∙ levelB t false _ p w.0 w.1
  levelC (WHILE t DO c) p q g =
      let j : ℤ = negsuc (length (test t (ccomp c)) + length (ccomp c)) in
      let w = seg_split P p (test t (ccomp c)) (ccomp c ++ (JMP j ∷ [])) q g in
      let u = seg_split P w.0 (ccomp c) (JMP j ∷ []) q w.2 in
      let e = next u.0 (JMP j) u.2.0 in
      ap h (sym u.2.1) ∙ e ∙ omega arith ∙ levelC c w.0 u.0 u.1 ∙ levelB t false _ p w.0 w.1

  -- ---- Records that are right where they stand

  abbrev RightAt : ℕ → Record VariableNumber → Type 0
  RightAt = Right D P h

  -- all records from p up to q are right
  abbrev pub Fine : ℕ → ℕ → Type 0
  Fine p q = (i : ℕ) (r : Record VariableNumber) → p ≤ i → i < q → get_elem? P i ≡ some r → RightAt i r

  none_there : (p q : ℕ) → p ≡ q → Fine p q
  none_there p q e i r a b f = absurd (omega arith)

  one : (p q : ℕ) (r : Record VariableNumber) → get_elem? P p ≡ some r → suc p ≡ q → RightAt p r → Fine p q
  one p q r e z x i s a b f =
      let same : p ≡ i = omega arith in
      let there : r ≡ s = same_record P p r s e (ap (get_elem? P) same ∙ f) in
      subst (λ s. RightAt i s) there (subst (λ i. RightAt i r) same x)

  both : (p r q : ℕ) → Fine p r → Fine r q → Fine p q
  both p r q x y i s a b f = elim (dec_lt i r) [ yes l ↦ x i s a l f | no l ↦ y i s (omega arith) b f ]

  -- a record that only steps on
  steps : (p : ℕ) (r : Record VariableNumber) → get_elem? P p ≡ some r
      → ((taken : Bool) → successor (length P) p r taken ≡ Some (suc p)) → (effect r).takes ≤ h p
      → height_after r (h p) ≤ D → RightAt p r
  steps p r e l t d = record { enough = t; room = d; ways = λ taken. (suc p, l taken, next p r e) }

  fineE : (a : Expression) (p q : ℕ) → Seg P p (acomp a) q → h p + expression_depth a ≤ D → Fine p q
  unfolding acomp expression_depth effect leads
  fineE (Constant w z) p q g d =
      one p q (LOADI z) g.0 g.1 (steps p (LOADI z) g.0 (λ t. refl) (omega arith) (omega arith))
  fineE (Variable v) p q g d =
      one p q (LOAD (variable v)) g.0 g.1
      (steps p (LOAD (variable v)) g.0 (λ t. refl) (omega arith) (omega arith))
  fineE (Plus a b) p q g d =
      let w = seg_split P p (acomp a) (acomp b ++ (ADD ∷ [])) q g in
      let u = seg_split P w.0 (acomp b) (ADD ∷ []) q w.2 in
      let x : h w.0 ≡ suc (h p) = rises a p w.0 w.1 in
      let y : h u.0 ≡ suc (h w.0) = rises b w.0 u.0 u.1 in
      both p w.0 q (fineE a p w.0 w.1 (omega arith))
      (both w.0 u.0 q (fineE b w.0 u.0 u.1 (omega arith))
      (one u.0 q ADD u.2.0 u.2.1 (steps u.0 ADD u.2.0 (λ t. refl) (omega arith) (omega arith))))

  -- a comparing jump on by i from r, two values being there
  compares : (f : Bool) (i r q : ℕ) → get_elem? P r ≡ some (comparing f (pos i)) → suc r ≡ q → h r ≡ 2
      → q + i ≤ length P → h (q + i) ≡ 0 → RightAt r (comparing f (pos i))
  unfolding effect leads
  compares true i r q e z x b k =
      record {
        enough = omega arith;
        room = omega arith;
        ways =
            λ (taken : Bool).
            elim taken as (λ (k : Bool).
            (y : ℕ) × (successor (length P) r (comparing true (pos i)) k ≡ Some y)
            × (h y ≡ height_after (comparing true (pos i)) (h r))) [
              | true ↦ (q + i, target_on i r q (length P) z b, omega arith)
              | false ↦ (suc r, refl, next r (JMPLESS (pos i)) e)
            ];
      }
  compares false i r q e z x b k =
      record {
        enough = omega arith;
        room = omega arith;
        ways =
            λ (taken : Bool).
            elim taken as (λ (k : Bool).
            (y : ℕ) × (successor (length P) r (comparing false (pos i)) k ≡ Some y)
            × (h y ≡ height_after (comparing false (pos i)) (h r))) [
              | true ↦ (q + i, target_on i r q (length P) z b, omega arith)
              | false ↦ (suc r, refl, next r (JMPGE (pos i)) e)
            ];
      }

  -- a jump from r to q, with the stack empty at both
  jumps : (i : ℤ) (r q : ℕ) → target r i (length P) ≡ Some q → h r ≡ 0 → h q ≡ 0 → RightAt r (JMP i)
  unfolding effect leads
  jumps i r q e x y =
      record { enough = omega arith; room = omega arith; ways = λ taken. (q, e, omega arith) }

  fine_const : (t : Bool) (i p q : ℕ) → Seg P p (if t then JMP (pos i) ∷ [] else []) q → h p ≡ 0
      → q + i ≤ length P → h (q + i) ≡ 0 → Fine p q
  fine_const true i p q g z b k =
      one p q (JMP (pos i)) g.0 g.1
      (jumps (pos i) p (q + i) (target_on i p q (length P) g.1 b) z k)
  fine_const false i p q g z b k = none_there p q g

  -- where And's left part goes: And's own jump under the flag false, And's end under true
  and_offset : (f : Bool) (c i r q : ℕ) → q ≡ r + c → h q ≡ 0 → h (q + i) ≡ 0
      → (j : ℕ) × (pos c +ℤ (if f then pos 0 else pos i) ≡ pos j) × (h (r + j) ≡ 0) × (r + j ≤ q + i)
  and_offset true c i r q e x y = (c + 0, refl, ap h (omega arith) ∙ x, omega arith)
  and_offset false c i r q e x y = (c + i, refl, ap h (omega arith) ∙ y, omega arith)

  fineB : (b : Condition) (f : Bool) (i p q : ℕ) → Seg P p (bcomp b f (pos i)) q → condition_depth b ≤ D → h p ≡ 0
      → q + i ≤ length P → h (q + i) ≡ 0 → Fine p q
  unfolding bcomp condition_depth
  fineB (Bc v) f i p q g d z b k = fine_const (beq v f) i p q g z b k
  fineB (Not c) f i p q g d z b k = fineB c (not f) i p q g d z b k
  fineB (And c e) f i p q g d z b k =
      let t = bcomp e f (pos i) in
      let w = seg_split P p (bcomp c false (pos (length t) +ℤ (if f then pos 0 else pos i))) t q g in
      let middle : h w.0 ≡ 0 = levelB c false _ p w.0 w.1 ∙ z in
      let y = and_offset f (length t) i w.0 q (seg_length P w.0 t q w.2)
      (levelB e f (pos i) w.0 q w.2 ∙ middle) k in
      both p w.0 q
      (fineB c false y.0 p w.0 (subst (λ x. Seg P p (bcomp c false x) w.0) y.1 w.1)
      (omega arith) z (omega (arith, y.3)) y.2)
      (fineB e f i w.0 q w.2 (omega arith) middle b k)
  fineB (Less a c) f i p q g d z b k =
      let w = seg_split P p (acomp a) (acomp c ++ (comparing f (pos i) ∷ [])) q g in
      let u = seg_split P w.0 (acomp c) (comparing f (pos i) ∷ []) q w.2 in
      let x : h w.0 ≡ suc (h p) = rises a p w.0 w.1 in
      let y : h u.0 ≡ suc (h w.0) = rises c w.0 u.0 u.1 in
      both p w.0 q (fineE a p w.0 w.1 (omega arith))
      (both w.0 u.0 q (fineE c w.0 u.0 u.1 (omega arith))
      (one u.0 q (comparing f (pos i)) u.2.0 u.2.1
      (compares f i u.0 q u.2.0 u.2.1 (omega arith) b k)))

  fineC : (c : Command) (p q : ℕ) → Seg P p (ccomp c) q → depth c ≤ D → h p ≡ 0 → q ≤ length P → Fine p q
  unfolding ccomp depth effect leads
  fineC SKIP p q g d z b = none_there p q g
  fineC (v := a) p q g d z b =
      let s : Record VariableNumber = STORE (variable v) in
      let w = seg_split P p (acomp a) (s ∷ []) q g in
      let x : h w.0 ≡ suc (h p) = rises a p w.0 w.1 in
      both p w.0 q (fineE a p w.0 w.1 (omega arith))
      (one w.0 q s w.2.0 w.2.1 (steps w.0 s w.2.0 (λ t. refl) (omega arith) (omega arith)))
  fineC (c ⨾ e) p q g d z b =
      let w = seg_split P p (ccomp c) (ccomp e) q g in
      let middle : h w.0 ≡ 0 = levelC c p w.0 w.1 ∙ z in
      both p w.0 q
      (fineC c p w.0 w.1 (omega arith) z (omega (arith, seg_length P w.0 (ccomp e) q w.2)))
      (fineC e w.0 q w.2 (omega arith) middle b)
  fineC (IF t THEN c ELSE e) p q g d z b =
      let n : ℕ = length (ccomp e) in
      let y : AssemblyCode = JMP (pos n) ∷ ccomp e in
      let w = seg_split P p (test t (ccomp c)) (ccomp c ++ y) q g in
      let u = seg_split P w.0 (ccomp c) y q w.2 in
      let r : h w.0 ≡ 0 = levelB t false _ p w.0 w.1 ∙ z in
      let s : h u.0 ≡ 0 = levelC c w.0 u.0 u.1 ∙ r in
      let j : h (suc u.0) ≡ 0 = next u.0 (JMP (pos n)) u.2.0 ∙ omega arith in
      let x : q ≡ suc u.0 + n = seg_length P (suc u.0) (ccomp e) q u.2.1 in
      let l : u.0 ≡ w.0 + length (ccomp c) = seg_length P w.0 (ccomp c) u.0 u.1 in
      let last : h q ≡ 0 = levelC e (suc u.0) q u.2.1 ∙ j in
      both p w.0 q
      (fineB t false (suc (length (ccomp c))) p w.0 w.1 (omega arith) z (omega arith) (ap h (omega arith) ∙ j))
      (both w.0 u.0 q (fineC c w.0 u.0 u.1 (omega arith) r (omega arith))
      (both u.0 (suc u.0) q
      (one u.0 (suc u.0) (JMP (pos n)) u.2.0 refl
      (jumps (pos n) u.0 (suc u.0 + n) (target_on n u.0 (suc u.0) (length P) refl (omega arith)) s
      (ap h (sym x) ∙ last)))
      (fineC e (suc u.0) q u.2.1 (omega arith) j b)))
  fineC (WHILE t DO c) p q g d z b =
      let n : ℕ = length (test t (ccomp c)) + length (ccomp c) in
      let w = seg_split P p (test t (ccomp c)) (ccomp c ++ (JMP (negsuc n) ∷ [])) q g in
      let u = seg_split P w.0 (ccomp c) (JMP (negsuc n) ∷ []) q w.2 in
      let r : h w.0 ≡ 0 = levelB t false _ p w.0 w.1 ∙ z in
      let s : h u.0 ≡ 0 = levelC c w.0 u.0 u.1 ∙ r in
      let j : h (suc u.0) ≡ 0 = next u.0 (JMP (negsuc n)) u.2.0 ∙ omega arith in
      let k : w.0 ≡ p + length (test t (ccomp c)) = seg_length P p (test t (ccomp c)) w.0 w.1 in
      let l : u.0 ≡ w.0 + length (ccomp c) = seg_length P w.0 (ccomp c) u.0 u.1 in
      let x : suc u.0 ≡ q = u.2.1 in
      both p w.0 q
      (fineB t false (suc (length (ccomp c))) p w.0 w.1 (omega arith) z (omega arith) (ap h (omega arith) ∙ j))
      (both w.0 u.0 q (fineC c w.0 u.0 u.1 (omega arith) r (omega arith))
      (one u.0 q (JMP (negsuc n)) u.2.0 x
      (jumps (negsuc n) u.0 p (target_back n p u.0 (length P) (omega arith) (omega arith)) s z)))

-- ---- Compiled code

pub commands_pass : CommandsPass
commands_pass c =
    let P = ccomp c in
    let D = depth c in
    let zero_first : h P D 0 ≡ 0 = level_zero P 0 in
    let fine = fineC P D c 0 (length P) (seg_whole P) (omega arith) zero_first (omega arith) in
    let H = right_heights D P (h P D) zero_first
    (λ p r w e. fine p r (omega arith) (some_below P p r e) e)
    (λ w. levelC P D c 0 (length P) (seg_whole P) ∙ zero_first) in
    ((h P D, H), (h P D, renamed (λ v. address (addr_of (vars P) v.0)) P D (h P D) H))
