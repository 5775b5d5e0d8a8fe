-- What the test of code says: where it gives records, they are those at the indices, one for each; where it refuses,
-- it names 10 and the first index that holds no record. By going through the records from the first on.
use mathlib.Core.Path.{◌≡◌, refl, sym, ap, ap₂, ◌∙◌}
use mathlib.Core.Bool.{Bool, true, false, ◌&&◌}
use mathlib.Core.List.{List, [], ◌∷◌}
use mathlib.Core.Logic.{⊎_elim}
use mathlib.Core.Option.{Option, none, some}
use Prim.Native.Nat.{ℕ, zero, suc, ◌+◌, ◌%◌, ◌<◌, ◌≤◌}
use native.Mathlib.Nat.{add-zero, add-suc, suc-add, eq-or-lt_of_le}
use native.Mathlib.Omega.{arith}
use lib.Dec.{eqb, leb}
use lib.ListN.{length, get_elem?}
use borrow.Author.Tests.{leb-true}
use Rattle.base.specs.Answers.{Answer, gives, refused, and_then}
use Rattle.base.proofs.Settled.{not_both}
use Rattle.record.specs.Records.{Record}
use Rattle.record.specs.Bytes.{Kind, record_count, whole_records, record_at, in_front, records_from}

-- The first of the records given, and those after it
record Taken {Name : Type 0} (first : Option (Record Name)) (rest : Answer (List (Record Name)))
    (P : List (Record Name)) : Type 0 where
  head : Record Name
  tail : List (Record Name)
  first_is : first ≡ some head
  rest_is : rest ≡ gives tail
  all_are : P ≡ head ∷ tail

-- Records that are given are the first and those after it.
taken : {Name : Type 0} (i : ℕ) (first : Option (Record Name)) (rest : Answer (List (Record Name)))
    (P : List (Record Name)) → in_front i first rest ≡ gives P → Taken first rest P
unfolding in_front and_then
taken i none rest P e = not_both e
taken i (some r) (gives Q) P e = record { head = r; tail = Q; first_is = refl; rest_is = refl; all_are = cc }
taken i (some r) (refused number place) P e = not_both e

-- Behind a record, a refusal is one of the records after it.
refused_behind : {Name : Type 0} (i : ℕ) (r : Record Name) (rest : Answer (List (Record Name))) {number place : ℕ}
    → in_front i (some r) rest ≡ refused number place → rest ≡ refused number place
unfolding in_front and_then
refused_behind i r (gives Q) e = not_both (sym e)
refused_behind i r (refused number place) e = e

-- Each index from i to below `place` holds a record.
abbrev pub Filled : {Name : Type 0} → Kind Name → List ℕ → ℕ → ℕ → Type 0
Filled k code i place = (j : ℕ) → i ≤ j → j < place → record_at k code j ≡ none → ⊥

-- A refusal of `count` records from index i on: 10, at "the first such record's index"
abbrev pub FirstRefused : {Name : Type 0} → Kind Name → List ℕ → ℕ → ℕ → ℕ → ℕ → Type 0
FirstRefused k code i count number place =
    (number ≡ 10)
    × (i ≤ place)
    × (place < i + count)
    × (record_at k code place ≡ none)
    × Filled k code i place

module _ {Name : Type 0} (k : Kind Name) (code : List ℕ) where
  -- As many records are given as were asked for.
  pub records_length : (i count : ℕ) {P : List (Record Name)} → records_from k code i count ≡ gives P
      → length P ≡ count
  unfolding records_from
  records_length i zero {P} e = let none_left : P ≡ [] = cc in ap length none_left
  records_length i (suc count) {P} e =
      let t = taken i (record_at k code i) (records_from k code (suc i) count) P e in
      ap length t.all_are ∙ ap suc (records_length (suc i) count t.rest_is)

  -- The record given at a place is the one at its index of the code.
  pub records_at : (i count : ℕ) {P : List (Record Name)} → records_from k code i count ≡ gives P
      → (j : ℕ) → j < count → record_at k code (i + j) ≡ get_elem? P j
  unfolding records_from
  records_at i zero {P} e j h = absurd (omega arith)
  records_at i (suc count) {P} e zero h =
      let t = taken i (record_at k code i) (records_from k code (suc i) count) P e in
      rw (t.all_are, add-zero) t.first_is
  records_at i (suc count) {P} e (suc j) h =
      let t = taken i (record_at k code i) (records_from k code (suc i) count) P e in
      rw (t.all_are, add-suc i j, ← suc-add) (records_at (suc i) count t.rest_is j (omega arith))

  -- The other way: records that stand at the indices from i on are given.
  pub records_given : (i : ℕ) (P : List (Record Name))
      → ((j : ℕ) → j < length P → record_at k code (i + j) ≡ get_elem? P j)
      → records_from k code i (length P) ≡ gives P
  unfolding records_from in_front and_then
  records_given i [] h = refl
  records_given i (r ∷ P) h =
      ap₂
      (in_front i)
      (rw add-zero at (h 0 (omega arith)))
      (records_given (suc i) P (λ j b. rw (suc-add, ← add-suc) (h (suc j) (omega arith))))

  -- A record at index i fills one index more.
  filled : (i place : ℕ) {r : Record Name} → record_at k code i ≡ some r → Filled k code (suc i) place
      → Filled k code i place
  filled i place here after j low high missing =
      ⊎_elim
      (λ (same : i ≡ j). let no : ◌≡◌ {A = ℕ} 0 1 = cc in omega arith)
      (λ past. after j past high missing)
      (eq-or-lt_of_le low)

  -- A refusal is 10, at the first index that holds no record.
  pub first_refused : (i count : ℕ) {number place : ℕ} → records_from k code i count ≡ refused number place
      → FirstRefused k code i count number place
  unfolding records_from in_front
  first_refused i zero e = not_both (sym e)
  first_refused i (suc count) {number} {place} e = by (record_at k code i) refl e (λ q. first_refused (suc i) count q)
    where
      by : (first : Option (Record Name)) → record_at k code i ≡ first
          → in_front i first (records_from k code (suc i) count) ≡ refused number place
          → (records_from k code (suc i) count ≡ refused number place → FirstRefused k code (suc i) count number place)
          → FirstRefused k code i (suc count) number place
      by none at_i q behind =
          let ten : number ≡ 10 = cc in
          let here : place ≡ i = cc in
          (ten, omega arith, omega arith, rw here at_i, λ j low high missing. omega arith)
      by (some r) at_i q behind =
          let found = behind (refused_behind i r (records_from k code (suc i) count) q) in
          (found.0, omega arith, omega arith, found.3, filled i place at_i found.4)

-- Code of whole records has at most 4,096.
pub few_records : (code : List ℕ) → whole_records code ≡ true → record_count code ≤ 4096
few_records code e = by (eqb (length code % 5) 0) e
  where
    by : (b : Bool) → (b && leb (record_count code) 4096) ≡ true → record_count code ≤ 4096
    by true e = leb-true (record_count code) 4096 e
    by false e = absurd (let no : ◌≡◌ {A = ℕ} 0 1 = cc in omega arith)
