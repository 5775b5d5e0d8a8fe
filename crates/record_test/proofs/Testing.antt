-- The test of code from what it finds at each index: records at all of them are given, and the first index without one
-- is where 10 is due. The test by a kind's numbers serves every kind that they tell.
use mathlib.Core.Path.{◌≡◌, refl, sym, ap, ap₂, subst, ◌∙◌}
use mathlib.Core.Bool.{Bool, true, false, ◌&&◌}
use mathlib.Core.List.{List, [], ◌∷◌, map}
use mathlib.Core.Option.{Option, none, some}
use Prim.Native.Nat.{ℕ, zero, suc, ◌+◌, ◌*◌, ◌<◌, ◌≤◌}
use native.Mathlib.Omega.{arith}
use lib.Dec.{leb}
use lib.IntN.{ℤ, pos, negsuc}
use lib.ListN.{get_or}
use borrow.Author.Tests.{le-leb}
use Rattle.std.specs.Prelude as Std
use Rattle.std.specs.Prelude.{Some, None, if◌then◌else◌}
use Rattle.std.proofs.lemmas.Option.{none-some, same_Some}
use Rattle.base.specs.Answers.{Answer, gives, refused, and_then}
use Rattle.word.specs.Numbers.{number_at}
use Rattle.record.specs.Records.{Record, LOAD, ADD, STORE, rename}
use Rattle.record.specs.Bytes as Bytes
use Rattle.record.specs.Bytes.{assembly_kind, machine_kind, name_of, option_map, is_zero, record_count}
use Rattle.record.specs.Bytes.{Operation, loadi, load, add, store, jmp, jmpless, jmpge, unknown, operation}
use Rattle.record.specs.Bytes.{record_of, record_at, in_front, records_from}
use Rattle.record_test.specs.Code.{kind_of, assembly_numbers, machine_numbers, SameKind, is_some, Tested}
use Rattle.record_test.specs.declared.Kind.{Kind}

-- ---- Through the records

module _ {Name : Type 0} (k : Bytes.Kind Name) (code : List ℕ) where
  -- A record in front of given records
  given_behind : (i : ℕ) (first : Option (Record Name)) (rest : Answer (List (Record Name))) → is_some first ≡ true
      → (P : List (Record Name)) × (rest ≡ gives P) → (Q : List (Record Name)) × (in_front i first rest ≡ gives Q)
  unfolding in_front and_then
  given_behind i none rest e p = absurd (let no : ◌≡◌ {A = ℕ} 0 1 = cc in omega arith)
  given_behind i (some r) rest e p = (r ∷ p.0, ap (λ x. and_then x (λ P. gives (r ∷ P))) p.1)

  -- Records at each of `count` indices are given.
  all_given : (i count : ℕ) → ((j : ℕ) → i ≤ j → j < i + count → is_some (record_at k code j) ≡ true)
      → (P : List (Record Name)) × (records_from k code i count ≡ gives P)
  unfolding records_from
  all_given i zero there = ([], refl)
  all_given i (suc count) there =
      given_behind
      i
      (record_at k code i)
      (records_from k code (suc i) count)
      (there i (omega arith) (omega arith))
      (all_given (suc i) count (λ j low high. there j (omega arith) (omega arith)))

  -- No record at the first index, or one in front of a refusal
  refused_here : (i : ℕ) (first : Option (Record Name)) (rest : Answer (List (Record Name))) → is_some first ≡ false
      → in_front i first rest ≡ refused 10 i
  unfolding in_front
  refused_here i none rest e = refl
  refused_here i (some r) rest e = absurd (let no : ◌≡◌ {A = ℕ} 0 1 = cc in omega arith)

  refused_behind : (i place : ℕ) (first : Option (Record Name)) (rest : Answer (List (Record Name)))
      → is_some first ≡ true → rest ≡ refused 10 place → in_front i first rest ≡ refused 10 place
  unfolding in_front and_then
  refused_behind i place none rest e p = absurd (let no : ◌≡◌ {A = ℕ} 0 1 = cc in omega arith)
  refused_behind i place (some r) rest e p = ap (λ x. and_then x (λ P. gives (r ∷ P))) p

  -- 10 is due `more` indices on, at the first index that has no record.
  refused_on : (i more count : ℕ) → more < count
      → ((j : ℕ) → i ≤ j → j < i + more → is_some (record_at k code j) ≡ true)
      → is_some (record_at k code (i + more)) ≡ false → records_from k code i count ≡ refused 10 (i + more)
  unfolding records_from
  refused_on i more zero few there missing = absurd (omega arith)
  refused_on i zero (suc count) few there missing =
      let same : i + 0 ≡ i = omega arith in
      rw same (refused_here i (record_at k code i) (records_from k code (suc i) count) (rw same at missing))
  refused_on i (suc more) (suc count) few there missing =
      let same : i + suc more ≡ suc i + more = omega arith in
      rw same
      (refused_behind i (suc i + more) (record_at k code i) (records_from k code (suc i) count)
      (there i (omega arith) (omega arith))
      (refused_on (suc i) more count (omega arith) (λ j low high. there j (omega arith) (omega arith))
      (rw same at missing)))

  -- What a search through the indices has shown when it stops at `index`
  pub stopped : (count index : ℕ) → index < count → ((j : ℕ) → j < index → is_some (record_at k code j) ≡ true)
      → is_some (record_at k code index) ≡ false → Tested k code count (Some index)
  stopped count index few there missing =
      let same : 0 + index ≡ index = omega arith in
      let refused_there : records_from k code 0 count ≡ refused 10 index =
      rw same at (refused_on 0 index count few (λ j low high. there j (omega arith)) (rw same missing)) in
      record {
        fails =
            λ i e. subst (λ (i : ℕ). (i < count) × (records_from k code 0 count ≡ refused 10 i)) (same_Some index i e)
            (few, refused_there);
        passes = λ e. absurd (none-some index (sym e));
      }

  -- and when it comes to the end.
  pub passed : (count : ℕ) → ((j : ℕ) → j < count → is_some (record_at k code j) ≡ true) → Tested k code count None
  passed count there =
      record {
        fails = λ i e. absurd (none-some i e);
        passes = λ e. all_given 0 count (λ j low high. there j (omega arith));
      }

-- ---- From a kind's numbers to the kind

module _ {Name : Type 0} (numbers : Kind) (k : Bytes.Kind Name) (t : SameKind numbers k) where
  name_told : (z : ℤ) → name_of k z ≡ option_map k.name (name_of (kind_of numbers) z)
  unfolding name_of
  name_told (pos u) = ap (λ (b : Bool). if b then some (k.name u) else none) (sym (t.names_same u))
      ∙ by ((kind_of numbers).is_name u)
    where
      by : (b : Bool)
          → (if b then some (k.name u) else none) ≡ option_map k.name (if b then some u else none)
      by true = unfold option_map in refl
      by false = unfold option_map in refl
  name_told (negsuc u) = unfold option_map in refl

  -- A record is the same record, renamed.
  load_told : (x : Option ℕ)
      → option_map LOAD (option_map k.name x) ≡ option_map (rename k.name) (option_map LOAD x)
  unfolding option_map rename
  load_told none = refl
  load_told (some x) = refl

  store_told : (x : Option ℕ)
      → option_map STORE (option_map k.name x) ≡ option_map (rename k.name) (option_map STORE x)
  unfolding option_map rename
  store_told none = refl
  store_told (some x) = refl

  add_told : (b : Bool) → ◌≡◌ {A = Option (Record Name)} (if b then some ADD else none)
      (option_map (rename k.name) (if b then some ADD else none))
  unfolding option_map rename
  add_told true = refl
  add_told false = refl

  operation_told : (o : Operation) (z : ℤ)
      → record_of k o z ≡ option_map (rename k.name) (record_of (kind_of numbers) o z)
  unfolding record_of option_map rename
  operation_told loadi z = refl
  operation_told load z = ap (option_map LOAD) (name_told z) ∙ load_told (name_of (kind_of numbers) z)
  operation_told add z = add_told (is_zero z)
  operation_told store z = ap (option_map STORE) (name_told z) ∙ store_told (name_of (kind_of numbers) z)
  operation_told jmp z = refl
  operation_told jmpless z = refl
  operation_told jmpge z = refl
  operation_told unknown z = refl

  record_told : (code : List ℕ) (i : ℕ)
      → record_at k code i ≡ option_map (rename k.name) (record_at (kind_of numbers) code i)
  record_told code i =
      ap (λ (first : ℕ). record_of k (operation first (get_or code (5 * i) 0)) (number_at code (5 * i + 1)))
      (sym t.first_same)
      ∙ operation_told (operation numbers.first (get_or code (5 * i) 0)) (number_at code (5 * i + 1))

  -- Records are the same records, renamed; a refusal is the same refusal.
  abbrev all_renamed : Answer (List (Record ℕ)) → Answer (List (Record Name))
  all_renamed x = and_then x (λ P. gives (map (rename k.name) P))

  front_told : (i : ℕ) (first : Option (Record ℕ)) (rest : Answer (List (Record ℕ)))
      → in_front i (option_map (rename k.name) first) (all_renamed rest) ≡ all_renamed (in_front i first rest)
  unfolding in_front and_then option_map
  front_told i none rest = refl
  front_told i (some r) (gives P) = refl
  front_told i (some r) (refused number place) = refl

  records_told : (code : List ℕ) (i count : ℕ)
      → records_from k code i count ≡ all_renamed (records_from (kind_of numbers) code i count)
  unfolding records_from
  records_told code i zero = unfold and_then in refl
  records_told code i (suc count) =
      ap₂ (in_front i) (record_told code i) (records_told code (suc i) count)
      ∙ front_told i (record_at (kind_of numbers) code i) (records_from (kind_of numbers) code (suc i) count)

  -- What the test by numbers says, it says of the kind.
  pub tested_told : (code : List ℕ) (count : ℕ) {found : Std.Option ℕ} → Tested (kind_of numbers) code count found
      → Tested k code count found
  unfolding and_then
  tested_told code count x =
      record {
        fails =
            λ i e. let f = x.fails i e in
            (f.0, records_told code 0 count ∙ ap all_renamed f.1);
        passes =
            λ e. let p = x.passes e in
            (map (rename k.name) p.0, records_told code 0 count ∙ ap all_renamed p.1);
      }

  -- The same of all records of code, where a kind of the code's is known to have these numbers
  pub tested_as : (code : List ℕ) {kind : Kind} {found : Std.Option ℕ} → kind ≡ numbers
      → Tested (kind_of kind) code (record_count code) found → Tested k code (record_count code) found
  tested_as code {found = o} e t =
      tested_told code (record_count code)
      (subst (λ (kind : Kind). Tested (kind_of kind) code (record_count code) o) e t)

-- Both kinds are those that their numbers say.
pub assembly_same : SameKind assembly_numbers assembly_kind
assembly_same =
    record { first_same = refl; names_same = λ u. ap (λ (t : Bool). t && leb u 63) (le-leb 0 u (omega arith)) }

pub machine_same : (n : ℕ) → SameKind (machine_numbers n) (machine_kind n)
machine_same n = record { first_same = refl; names_same = λ u. refl }
