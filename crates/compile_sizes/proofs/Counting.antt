-- The sizes of two parts in a row: what the first tells says where the second is read, and with it the sum of both is
-- what the construct has.
use mathlib.Core.Path.{◌≡◌, ap, ◌∙◌}
use mathlib.Core.Bool.{Bool}
use Prim.Native.Nat.{ℕ, ◌+◌, ◌<◌}
use native.Mathlib.Omega.{arith}
use Rattle.base.specs.Acts.{Outcome, ok}
use Rattle.base.specs.Answers.{Refusal}
use Rattle.text.specs.Syntax.{Condition}
use Rattle.text.specs.Reading.{Reader}
use Rattle.text.specs.Sizes.{condition_records}
use Rattle.text.proofs.Opened.{Two}
use Rattle.compile_sizes.specs.Parts.{Countable, Counts, Sized}
use Rattle.compile_sizes.specs.declared.PartSize.{PartSize}

-- How many records a condition has under a flag
abbrev pub size : Bool → Condition → ℕ
size flag b = condition_records b flag

-- What is told of the part that was asked for is told of every part that is read there.
pub told : {A : Type 0} {records : A → ℕ} {read : Outcome ℕ Refusal A} (q : Countable records read) {t : PartSize}
    → t.next ≡ q.next → t.records ≡ records q.part → Counts records read t
told {records = records} q {t} e f a n g =
    let h = q.is in
    let end : t.next ≡ n = cc in
    let size : t.records ≡ records a = cc in
    (end, size)

-- The size of the part that is read there is the size of whatever is read there.
pub sized : {A : Type 0} (records : A → ℕ) {read : Outcome ℕ Refusal A} {part : A} {next size : ℕ}
    → read ≡ ok part next → size ≡ records part → Sized records read size
sized records {part = part} e f a n g = let same : part ≡ a = cc in f ∙ ap records same

-- A part that was measured has the size that was told.
pub size_told : {A : Type 0} {records : A → ℕ} {read : Outcome ℕ Refusal A} {t : PartSize} → Counts records read t
    → Sized records read t.records
size_told c a n e = (c a n e).1

-- Two parts that were read in a row, from i up to n, with sizes that sum up to `whole`
pub record Pair {A B C : Type 0} (r : Reader A) (s : Reader B) (f : A → B → C) (c : C) (one : A → ℕ) (other : B → ℕ)
    (more i n whole : ℕ) : Type 0 where
  pub parts : Two (r i) s f c n
  pub sum : whole ≡ one parts.one + other parts.two + more
  pub few : whole < 2147483648

module _ {A B C : Type 0} {r : Reader A} {s : Reader B} {f : A → B → C} {c : C} {one : A → ℕ} {other : B → ℕ}
    {more i n whole : ℕ} (p : Pair r s f c one other more i n whole) where
  pub first_countable : Countable one (r i)
  first_countable =
      let q = p.parts in
      record { part = q.one; next = q.middle; is = q.first; few = omega (arith, p.sum, p.few) }

  pub second_countable : {t : PartSize} → Counts one (r i) t → Countable other (s t.next)
  second_countable {t} h =
      let at_middle = (h p.parts.one p.parts.middle p.parts.first).0 in
      let q = p.parts in
      record { part = q.two; next = n; is = rw at_middle q.second; few = omega (arith, p.sum, p.few) }

  -- Both were counted
  pub record Both (t u : PartSize) : Type 0 where
    pub ends : u.next ≡ n
    pub all : t.records + u.records + more ≡ whole
    pub few : t.records + u.records + more < 2147483648

  pub both : {t u : PartSize} → Counts one (r i) t → Counts other (s t.next) u → Both t u
  both h g =
      let x = h p.parts.one p.parts.middle p.parts.first in
      let y = g p.parts.two n (rw x.0 p.parts.second) in
      record { ends = y.0; all = omega (arith, p.sum); few = omega (arith, p.sum, p.few) }
