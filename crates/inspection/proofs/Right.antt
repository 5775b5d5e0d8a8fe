-- Records that are right where they stand: both ways lead to a position with the height left. Code of which all that
-- can be reached is right has heights.
use mathlib.Core.Path.{◌≡◌, sym, ◌∙◌, ap}
use Prim.Native.Nat.{ℕ, ◌≤◌}
use native.Mathlib.Omega.{arith}
use mathlib.Core.Bool.{Bool}
use mathlib.Core.List.{List}
use mathlib.Core.Option.{some}
use lib.ListN.{length, get_elem?}
use Rattle.std.specs.Prelude.{Some, None}
use Rattle.word.specs.Targets.{Target}
use Rattle.record.specs.Records.{Record}
use Rattle.inspection.specs.Heights.{effect, successor, height_after, Reached, EachSuch, Heights}

-- One record stands at a position, and one position is a target.
pub same_record : {Name : Type 0} (P : List (Record Name)) (p : ℕ) (r s : Record Name) → get_elem? P p ≡ some r
    → get_elem? P p ≡ some s → r ≡ s
same_record P p r s e f = let same : some r ≡ some s = sym e ∙ f in cc

pub same_target : (t : Target) (p q : ℕ) → t ≡ Some p → t ≡ Some q → p ≡ q
same_target t p q e f = cc

pub not_astray : (t : Target) (p : ℕ) → t ≡ Some p → t ≡ None → ⊥
not_astray t p e f = let z : ◌≡◌ {A = ℕ} 0 1 = cc in omega arith

module _ {Name : Type 0} (D : ℕ) (P : List (Record Name)) (h : ℕ → ℕ) where
  pub record Right (p : ℕ) (r : Record Name) : Type 0 where
    pub enough : (effect r).takes ≤ h p
    pub room : height_after r (h p) ≤ D
    pub ways : (taken : Bool) → (q : ℕ) × (successor (length P) p r taken ≡ Some q) × (h q ≡ height_after r (h p))

  pub right_heights : h 0 ≡ 0 → EachSuch D P h Right → (Reached P (length P) → h (length P) ≡ 0) → Heights D P h
  right_heights z x e = record {
    start = z;
    enough = λ p r w due. omega (arith, (x p r w due).enough);
    room = λ p r w due. omega (arith, (x p r w due).room);
    follows = λ p r w due taken q l. let y = (x p r w due).ways taken in
        omega (arith, ap h (same_target _ q y.0 l y.1), y.2);
    lands = λ p r w due taken l. let y = (x p r w due).ways taken in not_astray _ y.0 y.1 l;
    ends = λ w. omega (arith, e w);
  }
