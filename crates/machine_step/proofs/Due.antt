-- The record that is due, by its first byte less what its kind's first bytes lie above those of assembly.
use mathlib.Core.Path.{◌≡◌, sym, ap, subst, ◌∙◌}
use mathlib.Core.Bool.{true, false}
use mathlib.Core.List.{List}
use mathlib.Core.Option.{some}
use Prim.Native.Nat.{ℕ, ◌+◌, ◌-◌, ◌*◌, ◌<◌, ◌≤◌}
use native.Mathlib.Decide.{dec_lt}
use native.Mathlib.Omega.{arith}
use lib.IntN.{ℤ}
use lib.ListN.{length, get_or}
use Rattle.word.specs.Numbers.{number_at}
use Rattle.record.specs.Records.{Record, LOADI, LOAD, ADD, STORE, JMP}
use Rattle.record.specs.Bytes.{Kind, record_of, record_at, unknown, operation}
use Rattle.record.proofs.Reading.{by_number, by_none}
use Rattle.record.proofs.Decoding.{is_loadi, is_load, is_add, is_store, is_jmp, is_jmpless, is_jmpge}
use Rattle.machine_cells.specs.Lents.{Lent, LentLaws}
use Rattle.machine_step.specs.Steps.{comparing}

-- A byte that tells a record is not below the first.
from_first : {Name : Type 0} (k : Kind Name) (b : ℕ) (z : ℤ) (r : Record Name)
    → record_of k (operation k.first b) z ≡ some r → k.first ≤ b
unfolding record_of
from_first k b z r e = elim (dec_lt b k.first) [
  | yes l ↦
      let none_of : operation k.first b ≡ unknown = by_none k.first b (λ e. omega arith) (λ e. omega arith)
      (λ e. omega arith) (λ e. omega arith) (λ e. omega arith) (λ e. omega arith) (λ e. omega arith) in
      let gone = ap (λ o. record_of k o z) (sym none_of) ∙ e in
      absurd (let no : ◌≡◌ {A = ℕ} 0 1 = cc in omega arith)
  | no h ↦ omega arith
]

-- Where a record is due: the memory as it is lent, with its slices; the code, the index and the byte read there
pub record Spot (M Name : Type 0) : Type 1 where
  pub lent : Lent M Name
  pub above : ℕ
  pub laws : LentLaws above lent
  pub store : List ℤ
  pub stack : List ℤ
  pub fits : lent.Fits (length store) (length stack)
  pub code : List ℕ
  pub index : ℕ
  pub byte : ℕ
  pub read : byte ≡ get_or code (5 * index) 0

module _ {M Name : Type 0} (s : Spot M Name) (r : Record Name)
    (there : record_at (s.lent.kind (length s.stack)) s.code s.index ≡ some r) where
  abbrev kind : Kind Name
  kind = s.lent.kind (length s.stack)

  abbrev operand : ℤ
  operand = number_at s.code (5 * s.index + 1)

  abbrev low : ℕ
  low = get_or s.code (5 * s.index + 1) 0

  first : kind.first ≡ 0x40 + s.above
  first = s.laws.first (length s.stack)

  pub not_below : s.above ≤ s.byte
  not_below = omega (arith, first, s.read, from_first kind (get_or s.code (5 * s.index) 0) operand r there)

  -- the operation by its number
  numbered : (j : ℕ) → s.byte - s.above ≡ 0x40 + j
      → operation kind.first (get_or s.code (5 * s.index) 0) ≡ operation 0 j
  numbered j e =
      by_number kind.first (get_or s.code (5 * s.index) 0) j (omega (arith, first, s.read, not_below, e))

  other : (j : ℕ) → (s.byte - s.above ≡ 0x40 + j → ⊥) → get_or s.code (5 * s.index) 0 ≡ kind.first + j → ⊥
  other j away e = away (omega (arith, first, s.read, e))

  small : (u : ℕ) → kind.is_name u ≡ true → u < 256
  small u e = (s.laws.names (length s.store) (length s.stack) u s.fits e).0

  -- a name is in the slices
  holds : {name : Name} → name ≡ kind.name low → kind.is_name low ≡ true
      → s.lent.Holds (length s.store) (length s.stack) name
  holds is e =
      subst (λ (x : Name). s.lent.Holds (length s.store) (length s.stack) x) (sym is)
      (s.laws.names (length s.store) (length s.stack) low s.fits e).1

  pub loadi_due : s.byte - s.above ≡ 0x40 → r ≡ LOADI operand
  unfolding operation
  loadi_due e = is_loadi kind s.code s.index r there (numbered 0 e)

  pub load_due : {name : Name} → name ≡ kind.name low → s.byte - s.above ≡ 0x41
      → s.lent.Holds (length s.store) (length s.stack) name × (r ≡ LOAD name)
  unfolding operation
  load_due is e =
      let l = is_load kind s.code s.index r there small (numbered 1 e) in
      (holds is l.0, l.1 ∙ ap LOAD (sym is))

  pub add_due : s.byte - s.above ≡ 0x42 → r ≡ ADD
  unfolding operation
  add_due e = is_add kind s.code s.index r there (numbered 2 e)

  pub store_due : {name : Name} → name ≡ kind.name low → s.byte - s.above ≡ 0x43
      → s.lent.Holds (length s.store) (length s.stack) name × (r ≡ STORE name)
  unfolding operation
  store_due is e =
      let l = is_store kind s.code s.index r there small (numbered 3 e) in
      (holds is l.0, l.1 ∙ ap STORE (sym is))

  pub jmp_due : s.byte - s.above ≡ 0x44 → r ≡ JMP operand
  unfolding operation
  jmp_due e = is_jmp kind s.code s.index r there (numbered 4 e)

  pub jmpless_due : s.byte - s.above ≡ 0x45 → r ≡ comparing true operand
  unfolding operation
  jmpless_due e = is_jmpless kind s.code s.index r there (numbered 5 e)

  -- a byte of none of the other six
  pub jmpge_due : (s.byte - s.above ≡ 0x40 → ⊥) → (s.byte - s.above ≡ 0x41 → ⊥) → (s.byte - s.above ≡ 0x42 → ⊥)
      → (s.byte - s.above ≡ 0x43 → ⊥) → (s.byte - s.above ≡ 0x44 → ⊥) → (s.byte - s.above ≡ 0x45 → ⊥)
      → r ≡ comparing false operand
  jmpge_due a b c d e f =
      is_jmpge kind s.code s.index r there (λ e. a (omega (arith, first, s.read, e)))
      (other 1 b) (other 2 c) (other 3 d) (other 4 e) (other 5 f)
