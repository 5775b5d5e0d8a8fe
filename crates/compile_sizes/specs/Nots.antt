-- The Nots in front of a condition, each of which takes its part under the other flag.
use Rattle.std.specs.Prelude.{◌≡◌, Bool, not, List, ℕ, ◌≤◌}
use Rattle.base.specs.Acts.{Outcome, ok}
use Rattle.base.specs.Answers.{Refusal}
use Rattle.text.specs.Syntax.{Condition, Bc, Not, And, Less}
use Rattle.text.specs.Reading.{condition}
use Rattle.compile_sizes.specs.declared.Bare.{Bare}

-- A condition and the flag that it is under, without the Nots in front of it
unfoldable pub without_nots : Condition → Bool → Condition × Bool
without_nots (Bc v) flag = (Bc v, flag)
without_nots (Not b) flag = without_nots b (not flag)
without_nots (And b c) flag = (And b c, flag)
without_nots (Less a b) flag = (Less a b, flag)

-- Some of the Nots in front of b are passed: the part behind them ends where b does, and without the Nots that are
-- left it is the same condition under the same flag.
pub record Passed (text : List ℕ) (deepest : ℕ) (under : Bool) (b : Condition) (n : ℕ) (told : Bare) : Type 0 where
  pub part : Condition
  pub read : condition text told.nest told.at ≡ ok part n
  pub same : without_nots part told.flag ≡ without_nots b under
  pub nest : told.nest ≤ deepest

-- Told of whatever is read at the start; `read` is that reading
abbrev pub Behind : List ℕ → ℕ → Bool → Outcome ℕ Refusal Condition → Bare → Type 0
Behind text deepest under read told =
    (b : Condition) (n : ℕ) → read ≡ ok b n → Passed text deepest under b n told
