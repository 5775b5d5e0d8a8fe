-- What the answer of a call says of its tests, and the other way: a call that gives has passed each test, one after the
-- other, and leaves what it writes; one that declines leaves its buffers untouched.
use mathlib.Core.Path.{◌≡◌, refl, sym, ap}
use mathlib.Core.Bool.{Bool, true, false, ◌&&◌}
use mathlib.Core.List.{List}
use lib.IntN.{ℤ, pos}
use lib.ListN.{replicate}
use Prim.Native.Nat.{ℕ}
use native.Mathlib.Omega.{arith}
use Rattle.base.specs.Answers.{Answer, gives, refused, unless◌refuse◌at◌else◌, and_then, settle, previewed}
use Rattle.base.proofs.Answers.{gives_one}

-- What is refused is not given.
pub not_both : {A P : Type 0} {a : A} {number place : ℕ} → refused number place ≡ gives a → P
not_both e = let no : ◌≡◌ {A = ℕ} 0 1 = cc in absurd (omega arith)

-- ---- Tests that gave something were passed

-- A test in front of the others
pub unless_passed : {A : Type 0} {a : A} (b : Bool) (number place : ℕ) (rest : Answer A)
    → (unless b refuse number at place else rest) ≡ gives a → (b ≡ true) × (rest ≡ gives a)
unless_passed true number place rest e = (refl, e)
unless_passed false number place rest e = not_both e

-- What the others needed
pub record Needed {A B : Type 0} (first : Answer A) (rest : A → Answer B) (b : B) : Type 0 where
  pub value : A
  pub given : first ≡ gives value
  pub then_gives : rest value ≡ gives b

pub needed : {A B : Type 0} {b : B} (first : Answer A) (rest : A → Answer B) → and_then first rest ≡ gives b
    → Needed first rest b
unfolding and_then
needed (gives a) rest e = record { value = a; given = refl; then_gives = e }
needed (refused number place) rest e = not_both e

-- Where only something of what tests give is told, a refusal is theirs.
pub refused_first : {A B : Type 0} (first : Answer A) (f : A → B) {number place : ℕ}
    → and_then first (λ a. gives (f a)) ≡ refused number place → first ≡ refused number place
unfolding and_then
refused_first (gives a) f e = not_both (sym e)
refused_first (refused number place) f e = cc

-- Both of two tests
pub both : (a b : Bool) → (a && b) ≡ true → (a ≡ true) × (b ≡ true)
both true b e = (refl, e)
both false b e = let no : ◌≡◌ {A = ℕ} 0 1 = cc in absurd (omega arith)

-- ---- A call, by what its tests gave

module _ {A R B : Type 0} (tests : Answer A) (result : A → R) (buffers : A → B) (old : B) where
  pub settled : {a : A} {now : B} → tests ≡ gives a → now ≡ buffers a
      → (gives (result a), now) ≡ settle tests result buffers old
  unfolding settle
  settled e f = rw (e, f)

  pub declined : {number place : ℕ} → tests ≡ refused number place
      → (refused number place, old) ≡ settle tests result buffers old
  unfolding settle
  declined e = rw e

-- A test in front of what a call is to settle: for two commands of which the call tells and leaves the same
pub unless_same : {A R B : Type 0} (t : Bool) (number place : ℕ) (result : A → R) (buffers : A → B) (old : B)
    (x y : Answer A) → settle x result buffers old ≡ settle y result buffers old
    → settle (unless t refuse number at place else x) result buffers old
    ≡ settle (unless t refuse number at place else y) result buffers old
unless_same true number place result buffers old x y e = e
unless_same false number place result buffers old x y e = refl

-- What a call that gives says of its tests: they gave something, of which its result and its buffers are
pub record Gave {A R B : Type 0} (tests : Answer A) (result : A → R) (buffers : A → B) (r : R) (now : B) : Type 0 where
  pub value : A
  pub passed : tests ≡ gives value
  pub tells : r ≡ result value
  pub leaves : now ≡ buffers value

pub gave : {A R B : Type 0} (tests : Answer A) (result : A → R) (buffers : A → B) (old : B) {r : R} {now : B}
    → (gives r, now) ≡ settle tests result buffers old → Gave tests result buffers r now
unfolding settle
gave (gives a) result buffers old e =
    record { value = a; passed = refl; tells = gives_one _ _ (ap (λ x. x.0) e); leaves = ap (λ x. x.1) e }
gave (refused number place) result buffers old e = not_both (sym (ap (λ x. x.0) e))

-- ---- A preview, by what its tests gave

module _ {A R : Type 0} (tests : Answer A) (on_a_copy : Answer R × List ℤ) where
  pub preview_made : {a : A} → tests ≡ gives a → on_a_copy ≡ previewed tests on_a_copy
  unfolding previewed
  preview_made e = rw e

  pub preview_declined : {number place : ℕ} → tests ≡ refused number place
      → (refused number place, replicate 64 (pos 0)) ≡ previewed tests on_a_copy
  unfolding previewed
  preview_declined e = rw e

-- One that gives has passed its tests.
pub preview_gave : {A R : Type 0} (tests : Answer A) (on_a_copy : Answer R × List ℤ) {r : R} {s : List ℤ}
    → previewed tests on_a_copy ≡ (gives r, s) → (a : A) × (tests ≡ gives a) × (on_a_copy ≡ (gives r, s))
unfolding previewed
preview_gave (gives a) on_a_copy e = (a, refl, e)
preview_gave (refused number place) on_a_copy e = not_both (ap (λ x. x.0) e)
