-- What a record takes, puts and leads to is told by its bytes; so what the bytes come to at a height, the record does.
use mathlib.Core.Path.{◌≡◌, refl, sym, ap, ◌∙◌}
use Prim.Native.Nat.{ℕ, zero, suc, ◌+◌, ◌-◌, ◌≤◌}
use native.Mathlib.Decide.{dec_lt}
use native.Mathlib.Omega.{arith}
use mathlib.Core.Bool.{Bool, true, false, ◌&&◌}
use mathlib.Core.Option.{none, some}
use borrow.Author.Tests.{leb-true, le-leb}
use lib.Dec.{leb}
use lib.IntN.{ℤ}
use Rattle.std.specs.Prelude.{if◌then◌else◌, Option, Some, None}
use Rattle.std.proofs.lemmas.Option.{same_Some}
use Rattle.word.specs.Targets.{Target}
use Rattle.record.specs.Records.{Record, LOADI, LOAD, STORE, JMP, JMPLESS, JMPGE}
use Rattle.record.specs.Bytes.{Kind, unknown, operation, is_zero, record_of}
use Rattle.record.proofs.Decoding.{as_named, as_add}
use Rattle.record_test.specs.Code.{numbered}
use Rattle.record_test.proofs.ByNumbers.{below_first, from_first, past_last}
use Rattle.inspection.specs.Heights.{Way, on, by, either, effect, leads, successor, height_after}
use Rattle.inspection_visit.specs.Records.{goes, checked, numbered_effect}
use Rattle.inspection_visit.specs.declared.Checked.{Checked}
use Rattle.inspection_visit.specs.declared.Checked.TheVariants.{Leads, Forks}

-- ---- By its bytes

-- nothing is no record
nothing : {A P : Type 0} {a : A} → none ≡ some a → P
nothing e = absurd (let z : ◌≡◌ {A = ℕ} 0 1 = cc in omega arith)

module _ {Name : Type 0} (k : Kind Name) where
  -- A record of no operation
  unknown_record : (i : ℤ) (r : Record Name) {o : _} → o ≡ unknown → record_of k o i ≡ some r → {P : Type 0} → P
  unfolding record_of
  unknown_record i r e f = nothing (sym (ap (λ o. record_of k o i) e) ∙ f)

  -- The number of a record tells what it takes and puts, and with its operand where it leads.
  numbered_told : (j : ℕ) (i : ℤ) (r : Record Name) → record_of k (numbered j) i ≡ some r → numbered_effect j i
      ≡ effect r
  unfolding numbered record_of effect
  numbered_told zero i r e = let is : LOADI i ≡ r = cc in ap effect is
  numbered_told (suc zero) i r e = ap effect (sym (as_named k LOAD i r e).record_is)
  numbered_told (suc (suc zero)) i r e = ap effect (sym (as_add (is_zero i) e))
  numbered_told (suc (suc (suc zero))) i r e = ap effect (sym (as_named k STORE i r e).record_is)
  numbered_told (suc (suc (suc (suc zero)))) i r e = let is : JMP i ≡ r = cc in ap effect is
  numbered_told (suc (suc (suc (suc (suc zero))))) i r e = let is : JMPLESS i ≡ r = cc in ap effect is
  numbered_told (suc (suc (suc (suc (suc (suc zero)))))) i r e = let is : JMPGE i ≡ r = cc in ap effect is
  numbered_told (suc (suc (suc (suc (suc (suc (suc j))))))) i r e =
      unknown_record i r (past_last (suc (suc (suc (suc (suc (suc (suc j))))))) (omega arith)) e

  -- A byte that begins a record is one of the seven.
  pub record ByteTells (first b : ℕ) (i : ℤ) (r : Record Name) : Type 0 where
    pub from : first ≤ b
    pub up_to : b ≤ first + 6
    pub effect_is : numbered_effect (b - first) i ≡ effect r

  pub byte_tells : (first b : ℕ) (i : ℤ) (r : Record Name) → record_of k (operation first b) i ≡ some r
      → ByteTells first b i r
  byte_tells first b i r e = elim (dec_lt b first) [
    | yes l ↦ unknown_record i r (below_first first b l) e
    | no l ↦
        let from : first ≤ b = omega arith in
        let same : operation first b ≡ numbered (b - first) = from_first first b from in
        elim (dec_lt 6 (b - first)) [
          | yes m ↦ unknown_record i r (same ∙ past_last (b - first) m) e
          | no m ↦ record {
            from = from;
            up_to = omega arith;
            effect_is = numbered_told (b - first) i r (ap (λ o. record_of k o i) (sym same) ∙ e);
          }
        ]
  ]

-- ---- At a height

-- A record that keeps to its height k: it leaves l, and leads to j, with its jump taken, and to q, without.
pub record Keeping {Name : Type 0} (D last p k : ℕ) (r : Record Name) (l : ℕ) (j q : Target) : Type 0 where
  pub enough : (effect r).takes ≤ k
  pub room : height_after r k ≤ D
  pub after_is : l ≡ height_after r k
  pub jumped_is : j ≡ successor last p r true
  pub passed_is : q ≡ successor last p r false

module _ (last p l after : ℕ) where
  -- one way,
  goes_one : (to : Target) (w : Way) → Leads l to ≡ goes last p after w
      → (l ≡ after) × ((taken : Bool) → to ≡ leads last p w taken)
  unfolding leads
  goes_one to on e = (cc, λ taken. cc)
  goes_one to (by i) e = (cc, λ taken. cc)
  goes_one to (either i) e = absurd (let z : ◌≡◌ {A = ℕ} 0 1 = cc in omega arith)

  -- or two
  goes_two : (j q : Target) (w : Way) → Forks l j q ≡ goes last p after w
      → (l ≡ after) × (j ≡ leads last p w true) × (q ≡ leads last p w false)
  unfolding leads
  goes_two j q on e = absurd (let z : ◌≡◌ {A = ℕ} 0 1 = cc in omega arith)
  goes_two j q (by i) e = absurd (let z : ◌≡◌ {A = ℕ} 0 1 = cc in omega arith)
  goes_two j q (either i) e = (cc, cc, cc)

module _ {Name : Type 0} (D last p k : ℕ) (r : Record Name) where
  -- the tests of a record that does not break its height
  record LimitsHold (result : Option Checked) : Type 0 where
    enough : (effect r).takes ≤ k
    room : height_after r k ≤ D
    goes_on : result ≡ Some (goes last p (height_after r k) (effect r).way)

  limits_hold : (result : Option Checked) → (result ≡ None → ⊥) → result ≡ checked D last p k (effect r)
      → LimitsHold result
  unfolding checked
  limits_hold result n said =
      pick (leb (effect r).takes k) (leb (height_after r k) D) (leb-true (effect r).takes k)
      (leb-true (height_after r k) D) said
    where
      pick : (s v : Bool) → (s ≡ true → (effect r).takes ≤ k) → (v ≡ true → height_after r k ≤ D)
          → result ≡ (if s && v then Some (goes last p (height_after r k) (effect r).way) else None) → LimitsHold result
      pick true true f g e = record { enough = f refl; room = g refl; goes_on = e }
      pick true false f g e = absurd (n e)
      pick false v f g e = absurd (n e)

  pub keeps_one : (l : ℕ) (to : Target) → Some (Leads l to) ≡ checked D last p k (effect r)
      → Keeping D last p k r l to to
  keeps_one l to e =
      let x = limits_hold (Some (Leads l to)) (λ z. let no : ◌≡◌ {A = ℕ} 0 1 = cc in omega arith) e in
      let same : Leads l to ≡ goes last p (height_after r k) (effect r).way = same_Some _ _ x.goes_on in
      let y = goes_one last p l (height_after r k) to (effect r).way same in
      record { enough = x.enough; room = x.room; after_is = y.0; jumped_is = y.1 true; passed_is = y.1 false }

  pub keeps_two : (l : ℕ) (j q : Target) → Some (Forks l j q) ≡ checked D last p k (effect r)
      → Keeping D last p k r l j q
  keeps_two l j q e =
      let x = limits_hold (Some (Forks l j q)) (λ z. let no : ◌≡◌ {A = ℕ} 0 1 = cc in omega arith) e in
      let same : Forks l j q ≡ goes last p (height_after r k) (effect r).way = same_Some _ _ x.goes_on in
      let y = goes_two last p l (height_after r k) j q (effect r).way same in
      record { enough = x.enough; room = x.room; after_is = y.0; jumped_is = y.1; passed_is = y.2 }

  -- One that breaks its height takes more than that or pushes past D.
  pub broken_height : None ≡ checked D last p k (effect r) → (effect r).takes ≤ k → height_after r k ≤ D → ⊥
  unfolding checked
  broken_height said f g =
      pick (leb (effect r).takes k) (leb (height_after r k) D) (le-leb (effect r).takes k f)
      (le-leb (height_after r k) D g) (effect r).way said
    where
      pick : (s v : Bool) → s ≡ true → v ≡ true → (w : Way)
          → None ≡ (if s && v then Some (goes last p (height_after r k) w) else None) → ⊥
      pick true true f g on e = let z : ◌≡◌ {A = ℕ} 0 1 = cc in omega arith
      pick true true f g (by i) e = let z : ◌≡◌ {A = ℕ} 0 1 = cc in omega arith
      pick true true f g (either i) e = let z : ◌≡◌ {A = ℕ} 0 1 = cc in omega arith
      pick true false f g w e = let z : ◌≡◌ {A = ℕ} 0 1 = cc in omega arith
      pick false v f g w e = let z : ◌≡◌ {A = ℕ} 0 1 = cc in omega arith
