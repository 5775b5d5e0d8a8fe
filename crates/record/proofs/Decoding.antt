-- What a record that stands at an index is: its byte tells which record, its operand what it holds, and where the
-- kind's names are below 256 the operand's lowest byte is the name.
use mathlib.Core.Path.{◌≡◌, refl, sym, ap, ◌∙◌}
use mathlib.Core.Bool.{Bool, true, false, ◌&&◌}
use mathlib.Core.List.{List, [], ◌∷◌}
use mathlib.Core.Option.{none, some}
use Prim.Native.Nat.{ℕ, zero, suc, ◌+◌, ◌-◌, ◌*◌, ◌<◌, ◌≤◌}
use native.Mathlib.Nat.{zero-add}
use native.Mathlib.Omega.{arith}
use borrow.Author.Tests.{ne_eqb, leb-true}
use lib.Dec.{eqb, leb, ltb}
use lib.IntN.{ℤ, pos, negsuc}
use lib.ListN.{length, get_or, get_elem?}
use mir.Val.{sel}
use Rattle.std.specs.Prelude.{if◌then◌else◌}
use Rattle.base.specs.Answers.{gives}
use Rattle.word.specs.Numbers.{joined, number_of, number_at}
use Rattle.record.specs.Records.{Record, LOADI, LOAD, ADD, STORE, JMP, JMPLESS, JMPGE}
use Rattle.record.specs.Bytes.{Kind, assembly_kind, machine_kind, name_of, option_map, is_zero}
use Rattle.record.specs.Bytes.{record_of, record_at, records_from}
use Rattle.record.specs.Bytes.{Operation, loadi, load, add, store, jmp, jmpless, jmpge, unknown, operation}
use Rattle.record.proofs.Tested.{records_length, records_at}

-- ---- Names

-- Bits that are a number from 0 on are that number,
bits_are : (low : Bool) (u v w : ℕ) → sel low (pos u) (negsuc w) ≡ pos v → u ≡ v
bits_are true u v w e = cc
bits_are false u v w e = absurd (let no : ◌≡◌ {A = ℕ} 0 1 = cc in omega arith)

-- so four bytes that are a number below 256 have it in the lowest.
lowest : (code : List ℕ) (i u : ℕ) → number_at code i ≡ pos u → u < 256 → u ≡ get_or code i 0
unfolding number_at number_of
lowest code i u e h =
    let j : ℕ = joined (get_or code i 0) (get_or code (i + 1) 0) (get_or code (i + 2) 0) (get_or code (i + 3) 0) in
    let same : j ≡ u = bits_are (ltb j 2147483648) j u (4294967296 - suc j) e in
    omega arith

module _ {Name : Type 0} (k : Kind Name) where
  -- A record that names something
  pub record Named (make : Name → Record Name) (z : ℤ) (r : Record Name) : Type 0 where
    pub name : ℕ
    pub operand_is : z ≡ pos name
    pub is_one : k.is_name name ≡ true
    pub record_is : r ≡ make (k.name name)

  -- What is made of an operand that is a name
  pub as_named : (make : Name → Record Name) (z : ℤ) (r : Record Name) → option_map make (name_of k z) ≡ some r
      → Named make z r
  unfolding option_map name_of
  as_named make (pos u) r e = by (k.is_name u) refl e
    where
      by : (b : Bool) → k.is_name u ≡ b → option_map make (if b then some (k.name u) else none) ≡ some r
          → Named make (pos u) r
      by true f e = record { name = u; operand_is = refl; is_one = f; record_is = cc }
      by false f e = absurd (let no : ◌≡◌ {A = ℕ} 0 1 = cc in omega arith)
  as_named make (negsuc u) r e = absurd (let no : ◌≡◌ {A = ℕ} 0 1 = cc in omega arith)

-- What is made of an operand that must be 0
pub as_add : {Name : Type 0} {r : Record Name} (b : Bool) → (if b then some ADD else none) ≡ some r → r ≡ ADD
as_add true e = cc
as_add false e = absurd (let no : ◌≡◌ {A = ℕ} 0 1 = cc in omega arith)

-- Variables are at most 63,
pub variable_at_most : (u : ℕ) → assembly_kind.is_name u ≡ true → u ≤ 63
variable_at_most u e = leb-true u 63 e

-- and addresses at most n.
pub address_at_most : (n u : ℕ) → (machine_kind n).is_name u ≡ true → u ≤ n
address_at_most n u e = by (leb 1 u) e
  where
    by : (b : Bool) → (b && leb u n) ≡ true → u ≤ n
    by true e = leb-true u n e
    by false e = absurd (let no : ◌≡◌ {A = ℕ} 0 1 = cc in omega arith)

-- ---- The record at an index

-- What stands at an index of a list
pub in_list : {A : Type 0} (l : List A) (i : ℕ) → i < length l → (x : A) × (get_elem? l i ≡ some x)
in_list [] i h = absurd (omega arith)
in_list (x ∷ l) zero h = (x, refl)
in_list (x ∷ l) (suc i) h = in_list l i (omega arith)

-- The record due at an index of code that passed the test
pub record Due {Name : Type 0} (k : Kind Name) (code : List ℕ) (P : List (Record Name)) (i : ℕ) : Type 0 where
  pub due : Record Name
  pub listed : get_elem? P i ≡ some due
  pub there : record_at k code i ≡ some due

pub record_due : {Name : Type 0} (k : Kind Name) (code : List ℕ) (P : List (Record Name)) (count i : ℕ)
    → records_from k code 0 count ≡ gives P → i < count → Due k code P i
record_due k code P count i given h =
    let found = in_list P i (omega (arith, records_length k code 0 count given)) in
    record {
      due = found.0;
      listed = found.1;
      there = rw zero-add at (records_at k code 0 count given i h) ∙ found.1;
    }

-- Past the last there is none.
pub none_due : {A : Type 0} (P : List A) (i : ℕ) → i ≡ length P → get_elem? P i ≡ none
none_due [] i e = refl
none_due (x ∷ P) zero e = absurd (omega arith)
none_due (x ∷ P) (suc i) e = none_due P i (omega arith)

module _ {Name : Type 0} (k : Kind Name) (code : List ℕ) (i : ℕ) (r : Record Name) (there : record_at k code i ≡ some r)
  where
    abbrev byte : ℕ
    byte = get_or code (5 * i) 0

    abbrev operand : ℤ
    operand = number_at code (5 * i + 1)

    abbrev low : ℕ
    low = get_or code (5 * i + 1) 0

    -- the record by its operation
    by_operation : (o : Operation) → operation k.first byte ≡ o → record_of k o operand ≡ some r
    by_operation o e = ap (λ o. record_of k o operand) (sym e) ∙ there

    pub is_loadi : operation k.first byte ≡ loadi → r ≡ LOADI operand
    unfolding record_of
    is_loadi e = let same : some (LOADI operand) ≡ some r = by_operation loadi e in cc

    -- the lowest byte is a name, and the record names it
    lowest_named : (make : Name → Record Name) → ((u : ℕ) → k.is_name u ≡ true → u < 256) → Named k make operand r
        → (k.is_name low ≡ true) × (r ≡ make (k.name low))
    lowest_named make small n =
        let same : n.name ≡ low = lowest code (5 * i + 1) n.name n.operand_is (small n.name n.is_one) in
        (ap k.is_name (sym same) ∙ n.is_one, n.record_is ∙ ap (λ (u : ℕ). make (k.name u)) same)

    pub is_load : ((u : ℕ) → k.is_name u ≡ true → u < 256) → operation k.first byte ≡ load
        → (k.is_name low ≡ true) × (r ≡ LOAD (k.name low))
    unfolding record_of
    is_load small e = lowest_named LOAD small (as_named k LOAD operand r (by_operation load e))

    pub is_add : operation k.first byte ≡ add → r ≡ ADD
    unfolding record_of
    is_add e = as_add (is_zero operand) (by_operation add e)

    pub is_store : ((u : ℕ) → k.is_name u ≡ true → u < 256) → operation k.first byte ≡ store
        → (k.is_name low ≡ true) × (r ≡ STORE (k.name low))
    unfolding record_of
    is_store small e = lowest_named STORE small (as_named k STORE operand r (by_operation store e))

    pub is_jmp : operation k.first byte ≡ jmp → r ≡ JMP operand
    unfolding record_of
    is_jmp e = let same : some (JMP operand) ≡ some r = by_operation jmp e in cc

    pub is_jmpless : operation k.first byte ≡ jmpless → r ≡ JMPLESS operand
    unfolding record_of
    is_jmpless e = let same : some (JMPLESS operand) ≡ some r = by_operation jmpless e in cc

    -- a byte that stands for none of the other six
    pub is_jmpge : (byte ≡ k.first → ⊥) → (byte ≡ k.first + 1 → ⊥) → (byte ≡ k.first + 2 → ⊥)
        → (byte ≡ k.first + 3 → ⊥) → (byte ≡ k.first + 4 → ⊥) → (byte ≡ k.first + 5 → ⊥) → r ≡ JMPGE operand
    unfolding record_of operation
    is_jmpge a b c d e f = by (eqb byte (k.first + 6)) (by_operation _ left)
      where
        left : operation k.first byte ≡ (if eqb byte (k.first + 6) then jmpge else unknown)
        left =
            simp (ne_eqb _ _ a, ne_eqb _ _ b, ne_eqb _ _ c, ne_eqb _ _ d, ne_eqb _ _ e, ne_eqb _ _ f)

        by : (t : Bool) → record_of k (if t then jmpge else unknown) operand ≡ some r → r ≡ JMPGE operand
        by true e = cc
        by false e = absurd (let no : ◌≡◌ {A = ℕ} 0 1 = cc in omega arith)
