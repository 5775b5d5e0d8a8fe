-- The call `read` (document 01, "Records": "An accepted text's reading gives its record count, D and n").
use Rattle.std.specs.Prelude.{ℕ, List}
use Rattle.base.specs.Answers.{Answer, gives, and_then}
use Rattle.text.specs.Reading.{read_text}
use Rattle.text.specs.Sizes.{sizes}
use Rattle.text.specs.declared.Sizes.{Sizes}

-- Refusals: 6, reading
unfoldable pub read_call : List ℕ → Answer Sizes
read_call text = and_then (read_text text) (λ c. gives (sizes c))
