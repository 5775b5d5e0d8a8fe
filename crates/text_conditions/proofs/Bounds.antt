-- The numbers of answers are small, so that no sum of the reader wraps: a part has no more records than the text has
-- bytes, since it stands in the text (Decoded), and its depth bound is at most its record count.
use Prim.Native.Nat.{ℕ, ◌+◌, ◌≤◌, ◌<◌, ◌^◌}
use native.Mathlib.Omega.{arith}
use mathlib.Core.Bool.{Bool, false, not}
use mathlib.Core.List.{List, [], ◌∷◌}
use lib.ListN.{length}
use Rattle.base.specs.Acts.{Outcome, ok, ended}
use Rattle.text.specs.Syntax.{Expression, Constant, Variable, Plus, Condition, Bc, Not, And, Less}
use Rattle.base.specs.Answers.{Refusal, refusal}
use Rattle.text.specs.Reading.{expression, condition}
use Rattle.text.specs.Encoding.{Bytes}
use Rattle.text.specs.Sizes.{expression_records, condition_records, expression_depth, condition_depth}
use Rattle.text.proofs.Standing as Standing
use Rattle.text.proofs.Standing.{Holds, Kind, Stands}
use Rattle.text.proofs.Decoded.{Fine, goes, ends, expression_decoded, condition_decoded}
use Rattle.text.proofs.Limits.{expression_short, condition_short}
use Rattle.text_conditions.specs.Code.{Sized, expressions, conditions, variables, Answered, together, Room}
use Rattle.text_conditions.specs.declared.PartReading.{PartReading}
use Rattle.text_conditions.specs.declared.PartReading.TheVariants.{Read, Refused}

-- ---- Answers with small numbers

-- An answer's record count and depth bound are at most n
unfoldable pub Small : ℕ → PartReading → Type 0
Small n (Read k d next) = (k ≤ n) × (d ≤ n)
Small n (Refused reason place) = Unit {0}

-- There is room for the sums of two small answers,
pub room : (n l : ℕ) (r r' : PartReading) (more lift : ℕ) → n + l + more + lift < 2 ^ 16 → Small n r → Small l r'
    → Room r r' more lift
unfolding Small Room
room n l (Read k d i) (Read k' d' j) more lift h x y = (omega arith, omega arith)
room n l (Read k d i) (Refused reason place) more lift h x y = tt
room n l (Refused reason place) r' more lift h x y = tt

-- and two small answers are a small answer together.
pub small_together : (n l : ℕ) (r r' : PartReading) → Small n r → Small l r' → Small (n + l) (together r r' 0 0)
unfolding Small together
small_together n l (Read k d i) (Read k' d' j) x y = (omega arith, omega arith)
small_together n l (Read k d i) (Refused reason place) x y = tt
small_together n l (Refused reason place) r' x y = tt

-- ---- The depth bound is at most the record count

pub expression_lean : (a : Expression) → expression_depth a ≤ expression_records a
unfolding expression_depth expression_records
expression_lean (Constant w z) = omega arith
expression_lean (Variable v) = omega arith
expression_lean (Plus a b) = omega (arith, expression_lean a, expression_lean b)

pub condition_lean : (b : Condition) (flag : Bool) → condition_depth b ≤ condition_records b flag
unfolding condition_depth condition_records
condition_lean (Bc v) flag = omega arith
condition_lean (Not b) flag = condition_lean b (not flag)
condition_lean (And b c) flag = omega (arith, condition_lean b false, condition_lean c flag)
condition_lean (Less a b) flag = omega (arith, expression_lean a, expression_lean b)

-- ---- Parts of a short text

module _ (text : List ℕ) where
  reach : (xs : List ℕ) (i j : ℕ) → i ≤ length text → Holds text i xs j → i + length xs ≤ length text
  unfolding Holds
  reach [] i j n h = omega arith
  reach (x ∷ xs) i j n h = omega (arith, reach xs (i + 1) j (omega arith) h.2)

  -- Bytes that the text holds are no more than its own.
  no_more : (xs : List ℕ) (i j : ℕ) → Holds text i xs j → length xs ≤ length text
  unfolding Holds
  no_more [] i j h = omega arith
  no_more (x ∷ xs) i j h = omega (arith, reach xs (i + 1) j (omega arith) h.2)

  module _ (small : Bytes text) (n : length text ≤ 4096) where
    -- What stands in the text has a small answer,
    pub small_part : {A : Type 0} (K : Kind A) (S : Sized A) → ((a : A) → S.records a ≤ length (K.bytes a))
        → ((a : A) → S.depth a ≤ S.records a) → (nest i : ℕ) {o : Outcome ℕ Refusal A}
        → Fine text (Stands K text nest i) o → (r : PartReading) (m m' : List ℕ) → Answered S o r m m' → Small 4096 r
    unfolding Small Answered
    small_part K S records depth nest i (goes {a = a} {j = j} s) r m m' h =
        let whole : length (K.bytes a) ≤ length text = no_more (K.bytes a) i j s.holds in
        rw h.is (omega (arith, records a), omega (arith, records a, depth a))
    small_part K S records depth nest i (ends k p _) r m m' h = rw h.is tt

    -- so expressions and conditions have.
    pub expression_small : (nest i : ℕ) (r : PartReading) (m m' : List ℕ)
        → Answered expressions (expression text nest i) r m m' → Small 4096 r
    expression_small nest i =
        small_part Standing.expressions expressions expression_short expression_lean nest i
        (expression_decoded text small nest i)

    pub condition_small : (nest : ℕ) (flag : Bool) (i : ℕ) (r : PartReading) (m m' : List ℕ)
        → Answered (conditions flag) (condition text nest i) r m m' → Small 4096 r
    condition_small nest flag i =
        small_part Standing.conditions (conditions flag) (λ b. condition_short b flag) (λ b. condition_lean b flag)
        nest i (condition_decoded text small nest i)

-- A variable has one record and depth 1.
pub variable_small : (o : Outcome ℕ Refusal ℕ) (r : PartReading) (m m' : List ℕ) → Answered variables o r m m'
    → Small 4096 r
unfolding Small Answered
variable_small (ok v i) r m m' h = rw h.is (omega arith, omega arith)
variable_small (ended (refusal k p)) r m m' h = rw h.is tt
