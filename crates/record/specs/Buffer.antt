-- A buffer that is written at some place (document 01, "Records": "Bytes after the last record keep their values").
use Rattle.std.specs.Prelude.{ℕ, List, ◌++◌, take, drop}
use Rattle.record.specs.Bytes.{over}

-- The buffer with `new` in it from byte `at` on
abbrev pub into : ℕ → List ℕ → List ℕ → List ℕ
into at new old = take at old ++ over new (drop at old)
