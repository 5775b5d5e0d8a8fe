-- A record's text from its bytes: the text of the record that they are, and at most 19 bytes; a line is at most 48. By
-- cases on what the first byte stands for.
use mathlib.Core.Path.{◌≡◌, refl, sym, ap}
use mathlib.Core.List.{List, [], ◌++◌}
use mathlib.Core.Option.{some}
use Prim.Native.Nat.{ℕ, ◌+◌, ◌*◌, ◌<◌, ◌≤◌}
use native.Mathlib.Omega.{arith}
use lib.IntN.{ℤ, pos}
use lib.ListN.{length, get_or, length-append}
use Rattle.std.specs.Prelude.{Option, Some, None}
use Rattle.word.specs.Numbers.{number_at}
use Rattle.record.specs.Records.{Record, LOADI, LOAD, STORE, JMP, JMPLESS, JMPGE}
use Rattle.record.specs.Bytes.{Kind, operand, Operation, loadi, load, add, store, jmp, jmpless, jmpge, unknown}
use Rattle.record.specs.Bytes.{operation, is_zero, record_of, record_at}
use Rattle.record.specs.Code.{operation_of}
use Rattle.record.specs.declared.Operation as Code
use Rattle.record.specs.declared.Operation.TheVariants.{Loadi, Load, Add, Store, Jmp, Jmpless, Jmpge}
use Rattle.record.proofs.Decoding.{Named, as_named, as_add}
use Rattle.print.specs.Ascii.{ascii}
use Rattle.print.specs.Numbers.{signed}
use Rattle.print_ascii.proofs.Decimals.{signed_length, decimal_below_10000}
use Rattle.print.specs.Printing.{name_text, operand_text, record_text}
use Rattle.print_records.specs.Lines.{operation_name, operation_operand, text_at, line_at}

-- ---- The operand

-- Every operation but ADD has its operand printed.
pub operand_shown : (o : Code.Operation) (z : ℤ) → (o ≡ Add → ⊥)
    → operation_operand (operation_of (Some o)) z ≡ ascii " " ++ signed z
unfolding operation_operand
operand_shown Loadi z h = refl
operand_shown Load z h = refl
operand_shown Add z h = absurd (h refl)
operand_shown Store z h = refl
operand_shown Jmp z h = refl
operand_shown Jmpless z h = refl
operand_shown Jmpge z h = refl

-- Where there is no operation there is no name.
pub nothing_named : (o : Option Code.Operation) → ((x : Code.Operation) → o ≡ Some x → ⊥)
    → operation_name (operation_of o) ≡ []
unfolding operation_name
nothing_named None h = refl
nothing_named (Some x) h = absurd (h x refl)

-- The text at an index is the operation's name and its operand.
pub text_by : (first : ℕ) (code : List ℕ) (i : ℕ) (o : Option Code.Operation) (z : ℤ)
    → operation_of o ≡ operation first (get_or code (5 * i) 0) → z ≡ number_at code (5 * i + 1)
    → text_at first code i ≡ operation_name (operation_of o) ++ operation_operand (operation_of o) z
unfolding text_at
text_by first code i o z is e = rw (is, e) refl

-- ---- Lengths

pub name_length : (o : Operation) → length (operation_name o) ≤ 7
unfolding operation_name name_text
name_length loadi = omega arith
name_length load = omega arith
name_length add = omega arith
name_length store = omega arith
name_length jmp = omega arith
name_length jmpless = omega arith
name_length jmpge = omega arith
name_length unknown = omega arith

operand_length : (o : Operation) (z : ℤ) → length (operation_operand o z) ≤ 12
unfolding operation_operand
operand_length loadi z = omega (arith, signed_length z)
operand_length load z = omega (arith, signed_length z)
operand_length add z = omega arith
operand_length store z = omega (arith, signed_length z)
operand_length jmp z = omega (arith, signed_length z)
operand_length jmpless z = omega (arith, signed_length z)
operand_length jmpge z = omega (arith, signed_length z)
operand_length unknown z = omega (arith, signed_length z)

-- A record's text has at most 19 bytes,
pub text_length : (first : ℕ) (code : List ℕ) (i : ℕ) → length (text_at first code i) ≤ 19
unfolding text_at
text_length first code i =
    let o = operation first (get_or code (5 * i) 0) in
    let z = number_at code (5 * i + 1) in
    omega (arith, length-append (operation_name o) (operation_operand o z), name_length o, operand_length o z)

-- and the line of one of the first 10,000 positions has at most 48.
pub line_length : (assembly machine : List ℕ) (i : ℕ) → i < 10000 → length (line_at assembly machine i) ≤ 48
unfolding line_at
line_length assembly machine i h =
    simp length-append
    (omega (arith, decimal_below_10000 i h, text_length 0x40 assembly i, text_length 0x50 machine i))

-- ---- The record

-- A kind whose names have the numbers that they were read from
pub record Numbered {Name : Type 0} (k : Kind Name) : Type 0 where
  pub numbered : (u : ℕ) → k.number (k.name u) ≡ u

module _ {Name : Type 0} (k : Kind Name) (n : Numbered k) where
  -- A name's number is printed.
  shown_name : (o : Operation) (make : Name → Record Name)
      → ((u : ℕ) → operation_name o ++ operation_operand o (pos u) ≡ record_text k (make (k.name u)))
      → (z : ℤ) (r : Record Name) → Named k make z r → operation_name o ++ operation_operand o z ≡ record_text k r
  shown_name o make shown z r h = rw (h.operand_is, h.record_is) (shown h.name)

  -- What is printed for a record's byte and operand is printed for the record.
  shown_record : (o : Operation) (z : ℤ) (r : Record Name) → record_of k o z ≡ some r
      → operation_name o ++ operation_operand o z ≡ record_text k r
  unfolding record_of operation_name operation_operand name_text operand_text operand
  shown_record loadi z r e = let is : LOADI z ≡ r = cc in ap (record_text k) is
  shown_record load z r e = shown_name load LOAD (λ u. rw n.numbered) z r (as_named k LOAD z r e)
  shown_record add z r e = ap (record_text k) (sym (as_add (is_zero z) e))
  shown_record store z r e = shown_name store STORE (λ u. rw n.numbered) z r (as_named k STORE z r e)
  shown_record jmp z r e = let is : JMP z ≡ r = cc in ap (record_text k) is
  shown_record jmpless z r e = let is : JMPLESS z ≡ r = cc in ap (record_text k) is
  shown_record jmpge z r e = let is : JMPGE z ≡ r = cc in ap (record_text k) is
  shown_record unknown z r e = absurd (let no : ◌≡◌ {A = ℕ} 0 1 = cc in omega arith)

  -- The text at an index is the text of the record there.
  pub text_is : (code : List ℕ) (i : ℕ) (r : Record Name) → record_at k code i ≡ some r
      → text_at k.first code i ≡ record_text k r
  unfolding text_at
  text_is code i r e =
      shown_record (operation k.first (get_or code (5 * i) 0)) (number_at code (5 * i + 1)) r e
