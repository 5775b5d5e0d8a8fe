-- Records that stand at the start of a buffer, and renaming them in place: what it asks and what it leaves.
use Rattle.std.specs.Prelude.{◌≡◌, ℕ, ◌+◌, ◌-◌, ◌≤◌, ◌<◌, true, List, map, length, get_or}
use Rattle.record.specs.Records.{Record, rename}
use Rattle.record.specs.Bytes as Bytes
use Rattle.record.specs.Bytes.{code_bytes, over}
use Rattle.record.specs.Claims.{CodeFits}
use Rattle.record_test.specs.Code.{kind_of}
use Rattle.record_test.specs.declared.Kind.{Kind}
use Rattle.compile_translation.specs.Steps.{has_name}

-- `count` records P of a kind, written over the start of a buffer that held `lent`
pub record Stands {Name : Type 0} (k : Bytes.Kind Name) (P : List (Record Name)) (lent : List ℕ) (count : ℕ)
    (code : List ℕ) : Type 0 where
  pub stand : code ≡ over (code_bytes k P) lent
  pub fit : CodeFits k P
  pub all : length P ≡ count

-- Some records of a kind stand there
abbrev pub Holds : {Name : Type 0} → Bytes.Kind Name → ℕ → List ℕ → Type 0
Holds {Name} k count code = (P : List (Record Name)) × ((lent : List ℕ) × Stands k P lent count code)

-- Records of one kind that stood in a buffer stand there in another, each name x the x-th of `names`
abbrev pub Renamed : Kind → Kind → List ℕ → ℕ → List ℕ → List ℕ → Type 0
Renamed from to names count old new =
    (P : List (Record ℕ)) (lent : List ℕ) → Stands (kind_of from) P lent count old
    → new ≡ over (code_bytes (kind_of to) (map (rename (λ x. get_or names x 0)) P)) lent

-- Each name of the first kind has one among `names`, and the second kind's first bytes are bytes
pub record Renames (from to : Kind) (names : List ℕ) : Type 0 where
  pub inside : from.most < length names
  pub few : length names ≤ 256
  pub byte : to.first ≤ 249

-- The same of the record at the start of a buffer
pub record Renamable (from to : ℕ) (names code : List ℕ) : Type 0 where
  pub long : 2 ≤ length code
  pub above : from ≤ get_or code 0 0
  pub byte : to + (get_or code 0 0 - from) < 256
  pub inside : has_name (get_or code 0 0 - from) ≡ true → get_or code 1 0 < length names
