-- The rest of the four calls in a row, from running on.
use Rattle.std.specs.Prelude.{ℕ}
use Rattle.base.specs.Acts.{◌>>=◌, ◌>>◌, give}
use Rattle.base.specs.Ends.{Ran}
use Rattle.base.specs.Rows.{Row}
use Rattle.text.specs.declared.Sizes.{Sizes}
use Rattle.fitting.specs.Rows.{Lent, running, reading_back}

abbrev pub from_running : Sizes → ℕ → Row Lent Ran
from_running z budget = do ran ← running z budget; reading_back z; give ran
