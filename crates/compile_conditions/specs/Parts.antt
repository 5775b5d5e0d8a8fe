-- What the functions that write a part of a text are asked, and what they tell and leave. A part is what is read at a
-- place of the text with some nesting left; `read` is that reading, and only parts that are read are written.
use Rattle.std.specs.Prelude.{◌≡◌, ℕ, ◌+◌, ◌*◌, ◌≤◌, ◌<◌, List, Bool, pos, length}
use Rattle.base.specs.Acts.{Outcome, ok}
use Rattle.text.specs.Syntax.{Condition}
use Rattle.base.specs.Answers.{Refusal}
use Rattle.record.specs.Records.{AssemblyCode}
use Rattle.record.specs.Bytes.{assembly_kind, code_bytes, over}
use Rattle.compile.specs.Compilation.{bcomp}
use Rattle.compile_sizes.specs.declared.PartSize.{PartSize}

-- A condition's records under a flag, which jump over `distance` records where its value is the flag
abbrev pub jumping : Bool → ℕ → Condition → AssemblyCode
jumping flag distance b = bcomp b flag (pos distance)

-- ---- Writing: a part's records, at the start of the buffer that its writer was lent

-- Asked: a part is read, its records have room, and with the distance that it jumps over they are few
pub record Writable {A : Type 0} (code : A → AssemblyCode) (distance : ℕ) (read : Outcome ℕ Refusal A) (out : List ℕ)
    : Type 0 where
  pub part : A
  pub next : ℕ
  pub is : read ≡ ok part next
  pub room : 5 * length (code part) ≤ length out
  pub few : distance + length (code part) < 2147483648

-- Told and left: the position after the part, how many records it has, and these records in the buffer;
-- "bytes after the last record keep their values"
pub record Wrote (P : AssemblyCode) (n : ℕ) (old new : List ℕ) (told : PartSize) : Type 0 where
  pub next : told.next ≡ n
  pub records : told.records ≡ length P
  pub holds : new ≡ over (code_bytes assembly_kind P) old

abbrev pub Writes : {A : Type 0} → (A → AssemblyCode) → Outcome ℕ Refusal A → List ℕ → List ℕ → PartSize → Type 0
Writes {A} code read old new told = (a : A) (n : ℕ) → read ≡ ok a n → Wrote (code a) n old new told
