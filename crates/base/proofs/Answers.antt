-- An answer gives one value; what a test in code answered is what the tests answer.
use mathlib.Core.Path.{◌≡◌, sym, ◌∙◌, ap}
use Prim.Native.Nat.{ℕ}
use Rattle.base.specs.Answers.{Answer, gives, refused}
use Rattle.base.specs.Code.{count_answer}
use Rattle.base.specs.declared.Refusal.{Refusal}
use Rattle.std.specs.Prelude.{Result}

-- what an answer gives, or else a
value_or : {A : Type 0} → A → Answer A → A
value_or a (gives b) = b
value_or a (refused number place) = a

pub gives_one : {A : Type 0} (a b : A) → gives a ≡ gives b → a ≡ b
unfolding value_or
gives_one a b h = ap (value_or a) h

pub answers : {tests : Answer ℕ} {x y : Result ℕ Refusal} → count_answer x ≡ tests → x ≡ y → tests ≡ count_answer y
answers tested e = sym tested ∙ ap count_answer e
