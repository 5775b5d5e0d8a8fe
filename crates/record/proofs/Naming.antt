-- A name stands behind a byte exactly where it is LOAD's or STORE's, which is what its operation says.
use mathlib.Core.Path.{◌≡◌, refl, sym, ap, ◌∙◌, subst}
use mathlib.Core.Bool.{Bool, true, false, ◌||◌}
use mathlib.Core.List.{List}
use mathlib.Core.Logic.{◌⊎◌, inl, inr}
use Prim.Native.Nat.{ℕ, ◌+◌, ◌*◌}
use native.Mathlib.Omega.{arith}
use borrow.Author.Tests.{eqb-true, ne_eqb}
use lib.Dec.{eqb}
use lib.ListN.{get_or}
use Rattle.std.specs.Prelude.{if◌then◌else◌, Option, Some, None}
use Rattle.std.specs.Option.{MatchOption, IsSomeAnd}
use Rattle.record.specs.Bytes.{loadi, load, add, store, jmp, jmpless, jmpge, unknown, operation}
use Rattle.record.specs.Code.{operation_of, has_name, named_at}
use Rattle.record.specs.declared.Operation.{Operation}
use Rattle.record.specs.declared.Operation.TheVariants.{Loadi, Load, Add, Store, Jmp, Jmpless, Jmpge}

-- By which of the seven bytes it is
by_bytes : (a l d s j k m : Bool) → (a ≡ true → (l || s) ≡ false) → (d ≡ true → s ≡ false)
    → has_name (if a then loadi else if l then load else if d then add else if s then store else
    if j then jmp else if k then jmpless else if m then jmpge else unknown) ≡ (l || s)
by_bytes true l d s j k m h g = sym (h refl)
by_bytes false true d s j k m h g = refl
by_bytes false false true s j k m h g = sym (g refl)
by_bytes false false false true j k m h g = refl
by_bytes false false false false true k m h g = refl
by_bytes false false false false false true m h g = refl
by_bytes false false false false false false true h g = refl
by_bytes false false false false false false false h g = refl

name_byte : (first b : ℕ) → has_name (operation first b) ≡ (eqb b (first + 1) || eqb b (first + 3))
unfolding operation
name_byte first b =
    by_bytes (eqb b first) (eqb b (first + 1)) (eqb b (first + 2)) (eqb b (first + 3)) (eqb b (first + 4))
    (eqb b (first + 5)) (eqb b (first + 6))
    (λ e.
    let at = eqb-true b first e in
    simp (ne_eqb b (first + 1) (λ q. omega arith), ne_eqb b (first + 3) (λ q. omega arith)))
    (λ e. let at = eqb-true b (first + 2) e in ne_eqb b (first + 3) (λ q. omega arith))

-- The name in a record, by its byte and its operand's lowest
abbrev pub by_two : Bool → ℕ → Option ℕ
by_two named low = if named then Some low else None

pub named_by_byte : (first : ℕ) (code : List ℕ) (i : ℕ)
    → named_at first code i
    ≡ by_two (eqb (get_or code (5 * i) 0) (first + 1) || eqb (get_or code (5 * i) 0) (first + 3))
    (get_or code (5 * i + 1) 0)
unfolding named_at
named_by_byte first code i = ap (λ t. by_two t (get_or code (5 * i + 1) 0)) (name_byte first (get_or code (5 * i) 0))

-- The same by what the code's operation says
module _ (first : ℕ) (code : List ℕ) (i : ℕ) (o : Option Operation) {byte : ℕ} (e : byte ≡ get_or code (5 * i) 0)
    (says : operation_of o ≡ operation first byte) where
  pub named_by : (t : Bool) → has_name (operation_of o) ≡ t
      → by_two t (get_or code (5 * i + 1) 0) ≡ named_at first code i
  unfolding named_at
  named_by t f =
      ap (λ t. by_two t (get_or code (5 * i + 1) 0)) (sym f ∙ ap has_name (says ∙ ap (operation first) e))

-- LOAD and STORE have names,
pub has_one : (o : Operation) → (o ≡ Load) ⊎ (o ≡ Store) → has_name (operation_of (Some o)) ≡ true
has_one o (inl e) = ap (λ o. has_name (operation_of (Some o))) e
has_one o (inr e) = ap (λ o. has_name (operation_of (Some o))) e

-- and no other.
pub has_none : (o : Operation) → (o ≡ Load → ⊥) → (o ≡ Store → ⊥) → has_name (operation_of (Some o)) ≡ false
has_none Loadi a b = refl
has_none Load a b = absurd (a refl)
has_none Add a b = refl
has_none Store a b = absurd (b refl)
has_none Jmp a b = refl
has_none Jmpless a b = refl
has_none Jmpge a b = refl

-- ---- A name of a type

-- What is made of a name where there is one, as `map` makes it
pub made : {B : Type 0} (make : ℕ → B) {P : ℕ → B → Type 0} (o : Option ℕ) (r : Option B)
    → ((u : ℕ) (b : B) → P u b → b ≡ make u) → MatchOption o (r ≡ None) (λ u. IsSomeAnd r (P u))
    → (t : Bool) (low : ℕ) → o ≡ by_two t low → r ≡ (if t then Some (make low) else None)
made {B} make {P} o r f m t low e = by t (subst (λ o. MatchOption o (r ≡ None) (λ u. IsSomeAnd r (P u))) e m)
  where
    some_made : (r : Option B) → IsSomeAnd r (P low) → r ≡ Some (make low)
    some_made None m = absurd m
    some_made (Some b) m = ap Some (f low b m)

    by : (t : Bool) → MatchOption (by_two t low) (r ≡ None) (λ u. IsSomeAnd r (P u))
        → r ≡ (if t then Some (make low) else None)
    by true m = some_made r m
    by false m = m
