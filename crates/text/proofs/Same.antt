-- What is read at a place does not depend on the nesting left: it stands there (Decoded), so it is read there with
-- more nesting left too (Encoded), and with enough for both two readings are one.
use mathlib.Core.Path.{◌≡◌, sym}
use Prim.Native.Nat.{ℕ, ◌+◌, ◌≤◌}
use native.Mathlib.Omega.{arith}
use mathlib.Core.List.{List}
use Rattle.base.specs.Acts.{Outcome, ok}
use Rattle.base.specs.Answers.{Refusal}
use Rattle.text.specs.Syntax.{Condition}
use Rattle.text.specs.Reading.{condition}
use Rattle.text.specs.Encoding.{Bytes}
use Rattle.text.proofs.Encoded.{condition_encoded}
use Rattle.text.proofs.Decoded.{Fine, goes, ends, condition_decoded}

-- What is owed of a reading that gave a value is so of this value.
owed : {A : Type 0} {text : List ℕ} {Q : A → ℕ → Type 0} {o : Outcome ℕ Refusal A} {a : A} {n : ℕ} → Fine text Q o
    → o ≡ ok a n → Q a n
owed {a = a} {n = n} (goes {a = b} {j = m} q) e =
    let value : b ≡ a = cc in
    let end : m ≡ n = cc in
    rw (sym value, sym end) q
owed (ends k p h) e = let no : ◌≡◌ {A = ℕ} 0 1 = cc in absurd (omega arith)

module _ (text : List ℕ) (small : Bytes text) where
  deeper : (nest more i : ℕ) {b : Condition} {n : ℕ} → nest ≤ more → condition text nest i ≡ ok b n
      → condition text more i ≡ ok b n
  deeper nest more i h e =
      let s = owed (condition_decoded text small nest i) e in
      (condition_encoded text _ more s.valid (omega (arith, s.nested))).reads i _ s.holds

  pub same_condition : (nest other i : ℕ) {b c : Condition} {n m : ℕ} → condition text nest i ≡ ok b n
      → condition text other i ≡ ok c m → b ≡ c
  same_condition nest other i e f =
      let g = deeper nest (nest + other) i (omega arith) e in
      let h = deeper other (nest + other) i (omega arith) f in
      cc
