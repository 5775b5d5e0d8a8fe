-- What the test of a table finds (document 01, refusal 12).
use Rattle.std.specs.Prelude.{List, ℕ, Option, Some, None, if◌then◌else◌}
use Rattle.compile.specs.Table.{named_in, is_table}

-- n, "how many are named", where "the nonzero entries are 1 to n, once each"
unfoldable pub tested : List ℕ → Option ℕ
tested t = if is_table t then Some (named_in t) else None
