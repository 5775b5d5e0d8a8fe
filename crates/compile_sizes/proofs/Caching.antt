-- What is looked up in a cache of sizes is right, and the cache stays right when the size of a condition is noted that
-- was measured with some nesting left: what is read there does not depend on that (text, Same).
use Rattle.std.proofs.Common.{◌≡◌, ◌∙◌, sym, ap, List, ℕ, ◌+◌, ◌-◌, ◌*◌, ◌/◌, ◌%◌, Bool, true, false, ◌⊎◌, inl, inr}
use Rattle.std.proofs.Common.{refl, Option, Some, None, set, get_or, length, replicate, arith, subst, ◌≤◌, ◌<◌}
use native.Mathlib.Decide.{ℕ_discrete}
use lib.Dec.{ltb}
use lib.ListN.{get_or-replicate, get_or-eq_default, length-replicate}
use lib.Seq.{set_out, get_or-set_same, get_or-set_other}
use borrow.Author.Tests.{ne_eqb, lt-ltb, le-ltb, ltb-true, ltb-false}
use Rattle.std.proofs.lemmas.Bool.Decides.{nat_tests}
use Rattle.std.specs.Bool.{then_some}
use Rattle.std.specs.Prelude.{◌==◌, if◌then◌else◌}
use Rattle.text.specs.Encoding.{Bytes}
use Rattle.text.specs.Reading.{condition}
use Rattle.text.proofs.Same.{same_condition}
use Rattle.compile_sizes.specs.Parts.{Countable, Counts, Sized}
use Rattle.compile_sizes.specs.Cache.{measured, records_at, looked_up, size_noted, ConditionSizes}
use Rattle.compile_sizes.specs.declared.Measured.{Measured}
use Rattle.compile_sizes.specs.declared.PartSize.{PartSize}
use Rattle.compile_sizes.specs.declared.SizeCache.{SizeCache}
use Rattle.compile_sizes.proofs.Counting.{size}

-- ---- What is looked up

-- of a slot
of_slot : (i : ℕ) (slot : Option Measured) {records : ℕ} → records_at i slot ≡ Some records
    → (known : Measured) × ((slot ≡ Some known) × ((known.at ≡ i) × (known.records ≡ records)))
of_slot i None e = grind arith
of_slot i (Some known) e = (known, (refl, grind (arith, nat_tests)))

pub known : {text : List ℕ} {cache : SizeCache} → ConditionSizes text cache → (i nest : ℕ) {records : ℕ}
    → looked_up cache i ≡ Some records → Sized (size false) (condition text nest i) records
unfolding looked_up
known right i nest e b n read =
    let o = of_slot i _ e in
    sym o.1.1.1 ∙ right.right _ _ o.1.0 nest b n (rw o.1.1.0 read)

-- ---- What is noted

-- what stands in a slot was put there now, or stood there before (past the end nothing is put)
put : (xs : List ℕ) (i j new : ℕ) (found : Measured) → measured (get_or (set xs i new) j 0) ≡ Some found
    → (measured new ≡ Some found) ⊎ (measured (get_or xs j 0) ≡ Some found)
put xs i j new found e = by (ltb i (length xs)) refl (ℕ_discrete j i)
  where
    by : (t : Bool) → ltb i (length xs) ≡ t → Dec (j ≡ i)
        → (measured new ≡ Some found) ⊎ (measured (get_or xs j 0) ≡ Some found)
    by true t (yes q) =
        let is : get_or (set xs i new) j 0 ≡ new = rw q (get_or-set_same xs i new 0 (ltb-true _ _ t)) in
        inl (ap measured (sym is) ∙ e)
    by true t (no q) = inr (ap measured (sym (get_or-set_other xs i j new 0 q)) ∙ e)
    by false t w = inr (ap (λ l. measured (get_or l j 0)) (sym (set_out xs i new (ltb-false _ _ t))) ∙ e)

-- a slot's number stands for what was put into it
stands_for : (i records : ℕ) → records < 65535
    → measured (i * 65536 + records + 1) ≡ Some (record { at = i; records = records })
stands_for i records h =
    let rest : (i * 65536 + records + 1) % 65536 ≡ records + 1 = omega arith in
    let position : (i * 65536 + records + 1) / 65536 ≡ i = omega arith in
    let one_less : (records + 1) - 1 ≡ records = omega arith in
    rw (rest, position, one_less, ne_eqb (records + 1) 0 (λ e. absurd (omega (arith, e)))) refl

-- by the room for it
module _ (cache : SizeCache) (i records : ℕ) where
  abbrev entered : SizeCache
  entered = record { slots = set cache.slots (i % 64) (i * 65536 + records + 1) }

  pub noted_in : i < 65536 → records < 65535 → entered ≡ size_noted cache i records
  unfolding size_noted
  noted_in h l = simp (lt-ltb i 65536 h, lt-ltb records 65535 l)

  pub noted_large : i < 65536 → 65535 ≤ records → cache ≡ size_noted cache i records
  unfolding size_noted
  noted_large h l = simp (lt-ltb i 65536 h, le-ltb records 65535 l)

  pub noted_far : 65536 ≤ i → cache ≡ size_noted cache i records
  unfolding size_noted
  noted_far h = simp (le-ltb i 65536 h)

pub stays_right : (text : List ℕ) (nest i : ℕ) {cache : SizeCache} {t : PartSize} → Bytes text
    → ConditionSizes text cache → Countable (size false) (condition text nest i)
    → Counts (size false) (condition text nest i) t → ConditionSizes text (size_noted cache i t.records)
stays_right text nest i {cache} {t} small right q c =
    by (ltb i 65536) refl (ltb t.records 65535) refl
  where
    sized : (other : ℕ) → Sized (size false) (condition text other i) t.records
    sized other b n e =
        let same = same_condition text small nest other i q.is e in
        (c _ _ q.is).1 ∙ ap (size false) same

    slot_right : t.records < 65535 → (slot : ℕ) {known : Measured}
        → (measured (i * 65536 + t.records + 1) ≡ Some known) ⊎ (measured (get_or cache.slots slot 0) ≡ Some known)
        → (other : ℕ) → Sized (size false) (condition text other known.at) known.records
    slot_right room slot {known} (inl e) other =
        let same : Some known ≡ Some (record { at = i; records = t.records }) = sym e ∙ stands_for i t.records room in
        let is : known ≡ record { at = i; records = t.records } = grind (arith, same) in
        rw is (sized other)
    slot_right room slot (inr e) other = right.right _ _ e other

    by : (u : Bool) → ltb i 65536 ≡ u → (v : Bool) → ltb t.records 65535 ≡ v
        → ConditionSizes text (size_noted cache i t.records)
    by true u true v =
        let room = ltb-true _ _ v in
        subst (ConditionSizes text) (noted_in cache i t.records (ltb-true _ _ u) room)
        (record { right = λ slot known e. slot_right room slot (put cache.slots (i % 64) slot _ known e) })
    by true u false v =
        subst (ConditionSizes text) (noted_large cache i t.records (ltb-true _ _ u) (ltb-false _ _ v)) right
    by false u w v = subst (ConditionSizes text) (noted_far cache i t.records (ltb-false _ _ u)) right

-- ---- Nothing

abbrev zeros : ℕ → List ℕ
zeros n = replicate n 0

pub knows_nothing : (text : List ℕ) (n : ℕ) → ConditionSizes text (record { slots = zeros n })
knows_nothing text n = record { right = λ slot known e. absurd (some (ap measured (nothing slot (ltb slot n) refl)) e) }
  where
    nothing : (slot : ℕ) (t : Bool) → ltb slot n ≡ t → get_or (zeros n) slot 0 ≡ 0
    nothing slot true t = get_or-replicate n slot 0 0 (ltb-true _ _ t)
    nothing slot false t =
        get_or-eq_default (zeros n) 0 (omega (arith, ltb-false _ _ t, length-replicate {A = ℕ} n 0))

    some : {o : Option Measured} {known : Measured} → o ≡ None → o ≡ Some known → ⊥
    some e f = grind (arith, e, f)

-- ---- What looking up tells, by what the position's slot stands for

chosen : {A : Type 0} (test : Bool) (a : A) → then_some test a ≡ (if test then Some a else None)
chosen true a = refl
chosen false a = refl

module _ (cache : SizeCache) (i : ℕ) {o : Option Measured} (is : o ≡ measured (get_or cache.slots (i % 64) 0)) where
  pub looks_up : records_at i o ≡ looked_up cache i
  unfolding looked_up
  looks_up = ap (records_at i) is

  pub looks_up_some : (known : Measured) → o ≡ Some known → then_some (known.at == i) known.records ≡ looked_up cache i
  looks_up_some known e = chosen (known.at == i) known.records ∙ ap (records_at i) (sym e) ∙ looks_up
