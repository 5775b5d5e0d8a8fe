-- What a public call answers, and the form of its refusals (document 01, "When a call declines") and of previews
-- (document 02, W3).
use Rattle.std.specs.Prelude.{ℕ, Bool, true, false, List, ℤ, pos, replicate}

-- A call gives its result, or "the call gives number and place"
pub data Answer (A : Type 0) : Type 0 where
  gives : A → Answer A
  refused : ℕ → ℕ → Answer A

-- A refusal by itself
pub data Refusal : Type 0 where
  refusal : ℕ → ℕ → Refusal

-- A test of a call: where it fails, the call declines with this number at this place
infixr 5 unless◌refuse◌at◌else◌
abbrev pub unless◌refuse◌at◌else◌ : {A : Type 0} → Bool → ℕ → ℕ → Answer A → Answer A
unless true refuse number at place else rest = rest
unless false refuse number at place else rest = refused number place

-- Tests that need what earlier ones gave
unfoldable pub and_then : {A B : Type 0} → Answer A → (A → Answer B) → Answer B
and_then (gives a) f = f a
and_then (refused number place) f = refused number place

-- A call with lent buffers. Once its tests have given a, it gives `result a` and leaves `buffers a`;
-- where it declines, "lent buffers stay untouched"
unfoldable pub settle : {A R B : Type 0} → Answer A → (A → R) → (A → B) → B → Answer R × B
settle (gives a) result buffers old = (gives (result a), buffers a)
settle (refused number place) result buffers old = (refused number place, old)

-- A preview (document 02, W3). Once its tests are passed, it is what the calls that it previews give and leave "on a
-- copy"; where it declines, its store is 64 zeros
unfoldable pub previewed : {A R : Type 0} → Answer A → Answer R × List ℤ → Answer R × List ℤ
previewed (gives a) on_a_copy = on_a_copy
previewed (refused number place) on_a_copy = (refused number place, replicate 64 (pos 0))
