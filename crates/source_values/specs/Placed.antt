-- Rules at a place of a text: what the part that is read there comes to, with the position after it.
use Rattle.std.specs.Prelude.{◌≡◌, ℕ, Bool, not}
use Rattle.base.specs.Acts.{Outcome, ok, ended, then', give}
use Rattle.base.specs.Answers.{Refusal}
use Rattle.source.specs.Rules.{Rule, Outcomes, spent, stop}

-- A part was read
pub record Read {A : Type 0} (x : Outcome ℕ Refusal A) : Type 0 where
  pub part : A
  pub end : ℕ
  pub is : x ≡ ok part end

-- A part's value and the position after the part
infix 15 ◌upto◌
pub data Reached (B : Type 0) : Type 0 where
  ◌upto◌ : B → ℕ → Reached B

abbrev pub reaching : {B : Type 0} → ℕ → Outcomes B → Outcomes (Reached B)
reaching n o = then' o (λ z. give (z upto n))

-- A rule, and the position after its part
abbrev pub up_to : {B : Type 0} → ℕ → Rule B → Rule (Reached B)
up_to n rule s = reaching n (rule s)

-- The rule of the part that was read; a part that was not read has none, and no call asks for it
unfoldable pub placed : {A B : Type 0} → (A → Rule B) → Outcome ℕ Refusal A → Rule (Reached B)
placed rule (ok a n) = up_to n (rule a)
placed rule (ended r) = stop spent

-- The other truth, at the same position
abbrev pub other : Reached Bool → Reached Bool
other (v upto n) = not v upto n

abbrev pub inverse : Outcomes (Reached Bool) → Outcomes (Reached Bool)
inverse o = then' o (λ v. give (other v))
