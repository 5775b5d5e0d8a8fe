-- The numbers that the exported calls answer are within their bits (Claims: NothingCut). Going back: code of whole
-- records has at most 4,096 of them, and a refusal's place is 0 or one of these. Compiling: its sizes are reading's,
-- and so are its refusals but for 8 and 7.
use mathlib.Core.Path.{◌≡◌, refl}
use Prim.Native.Nat.{ℕ, ◌*◌, ◌%◌, ◌≤◌}
use native.Mathlib.Omega.{arith}
use mathlib.Core.Bool.{Bool, true, false}
use mathlib.Core.List.{List}
use lib.Dec.{eqb, leb}
use lib.ListN.{length}
use borrow.Author.Tests.{leb-true}
use Rattle.base.specs.Answers.{Answer, gives, refused, unless◌refuse◌at◌else◌, and_then, settle}
use Rattle.text.specs.Syntax.{Command}
use Rattle.text.specs.Reading.{read_text}
use Rattle.text.specs.Encoding.{Bytes}
use Rattle.text.specs.Sizes.{records, sizes}
use Rattle.text.specs.declared.Sizes.{Sizes}
use Rattle.text.specs.Calls.{read_call}
use Rattle.text.proofs.Ranges.{InRange, in_range}
use Rattle.record.specs.Records.{MachineCode}
use Rattle.record.specs.Bytes.{machine_kind, record_count, whole_records, records_of}
use Rattle.record.proofs.Tested.{records_length, first_refused}
use Rattle.compile.specs.Table.{named_in, is_table}
use Rattle.compile.specs.Calls.{Compiled, compile_tests, compile, go_back_tests, go_back}
use Rattle.base.proofs.Settled.{both}
use Rattle.pod.specs.Claims.{SizesFit, CountFits, NothingCut}

-- ---- Going back

-- An answer whose count is at most 4,096, or a refusal of 7 to 12 at a place up to there
abbrev Small : {A : Type 0} → (A → ℕ) → Answer A → Type 0
Small count (gives a) = count a ≤ 4096
Small count (refused number place) = (number ≤ 12) × (place ≤ 4096)

small_unless : {A : Type 0} (count : A → ℕ) (b : Bool) (number : ℕ) (rest : Answer A) → number ≤ 12
    → (b ≡ true → Small count rest) → Small count (unless b refuse number at 0 else rest)
small_unless count true number rest n h = h refl
small_unless count false number rest n h = (n, omega arith)

module _ (code t out : List ℕ) where
  abbrev room : MachineCode → Answer MachineCode
  room P = unless leb (5 * length P) (length out) refuse 7 at 0 else gives P

  most : whole_records code ≡ true → record_count code ≤ 4096
  most w = leb-true (record_count code) 4096
      (both (eqb (length code % 5) 0) (leb (record_count code) 4096) w).1

  tested : whole_records code ≡ true → (x : Answer MachineCode) → records_of (machine_kind (named_in t)) code ≡ x
      → Small length (and_then x room)
  unfolding and_then
  tested w (gives P) e =
      small_unless length (leb (5 * length P) (length out)) 7 (gives P) (omega arith)
      (λ _. omega (arith, records_length (machine_kind (named_in t)) code 0 (record_count code) e, most w))
  tested w (refused number place) e =
      let first = first_refused (machine_kind (named_in t)) code 0 (record_count code) e in
      (omega (arith, first.0), omega (arith, first.2, most w))

  tests_small : Small length (go_back_tests code t out)
  unfolding go_back_tests
  tests_small =
      small_unless length (whole_records code) 9 _ (omega arith) (λ w.
      small_unless length (eqb (length t) 64) 8 _ (omega arith) (λ _.
      small_unless length (is_table t) 12 _ (omega arith) (λ _.
      tested w (records_of (machine_kind (named_in t)) code) refl)))

  by_tests : (x : Answer MachineCode) (f : MachineCode → List ℕ) → Small length x → Small (λ n. n)
      (settle x length f out).0
  unfolding settle
  by_tests (gives P) f h = h
  by_tests (refused number place) f h = h

  go_back_small : Small (λ n. n) (go_back code t out).0
  unfolding go_back
  go_back_small = by_tests (go_back_tests code t out) _ tests_small

-- ---- Reading and compiling

sizes_fit : (x : Answer Sizes) → InRange x → SizesFit x
sizes_fit (gives z) h = (omega (arith, h.0), omega (arith, h.1), omega (arith, h.2))
sizes_fit (refused number place) h = (omega (arith, h.0), omega (arith, h.1))

module _ (text : List ℕ) (bytes : Bytes text) (l : Compiled) where
  -- a command that is read, after the two tests of the lent buffers
  tested_sizes : (c : Command) → InRange (gives (sizes c)) → (b b' : Bool) (f : Command → Compiled)
      → SizesFit (settle (unless b refuse 8 at 0 else unless b' refuse 7 at 0 else gives c) sizes f l).0
  unfolding settle
  tested_sizes c h true true f = sizes_fit (gives (sizes c)) h
  tested_sizes c h true false f = (omega arith, omega arith)
  tested_sizes c h false b' f = (omega arith, omega arith)

  by_reading : (x : Answer Command) → InRange (and_then x (λ c. gives (sizes c))) → (f : Command → Compiled)
      → SizesFit (settle (and_then x (λ c.
      unless eqb (length l.table) 64 refuse 8 at 0 else
      unless leb (5 * records c) (length l.code) refuse 7 at 0 else
      gives c)) sizes f l).0
  unfolding and_then settle
  by_reading (gives c) h f =
      tested_sizes c h (eqb (length l.table) 64) (leb (5 * records c) (length l.code)) f
  by_reading (refused number place) h f = sizes_fit (refused number place) h

  compile_fits : SizesFit (compile text l).0
  unfolding compile compile_tests read_call
  compile_fits = by_reading (read_text text) (in_range text bytes) _

-- ---- All three

count_fits : (x : Answer ℕ) → Small (λ n. n) x → CountFits x
count_fits (gives n) h = omega arith
count_fits (refused number place) h = (omega (arith, h.0), omega (arith, h.1))

pub nothing_cut : NothingCut
nothing_cut = record {
  of_read = λ text bytes. sizes_fit (read_call text) (in_range text bytes);
  of_compile = compile_fits;
  of_go_back = λ code t out. count_fits (go_back code t out).0 (go_back_small code t out);
}
