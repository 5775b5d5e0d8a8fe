-- The tests of compiling by their cases; and compiling by writing a text's assembly and then translating it.
use mathlib.Core.Path.{◌≡◌, sym, ◌∙◌, ap}
use Prim.Native.Nat.{ℕ, ◌*◌, ◌≤◌, ◌<◌}
use mathlib.Core.List.{List}
use lib.Dec.{eqb}
use lib.ListN.{length}
use borrow.Author.Tests.{eq-eqb, ne_eqb, eqb-true, le-leb, lt-leb}
use Rattle.std.specs.Prelude.{Result, Err}
use Rattle.base.specs.Answers.{Answer, gives, refused, and_then}
use Rattle.base.specs.Code.{number_of}
use Rattle.base.specs.declared.Refusal.{Refusal}
use Rattle.base.proofs.Settled.{needed, unless_passed}
use Rattle.text.specs.Syntax.{Command}
use Rattle.text.specs.Reading.{read_text}
use Rattle.text.specs.Encoding.{Bytes}
use Rattle.text.specs.Sizes.{records, sizes}
use Rattle.text.specs.declared.Sizes.{Sizes}
use Rattle.text.specs.Code.{sizes_answer}
use Rattle.text.specs.Calls.{read_call}
use Rattle.text.proofs.Opened.{read_refuses}
use Rattle.record.specs.Bytes.{assembly_kind, code_bytes, over}
use Rattle.compile.specs.Compilation.{ccomp}
use Rattle.compile.specs.Table.{table}
use Rattle.compile.specs.Calls.{assemble_tests, machine_bytes, Compiled, compile_tests}
use Rattle.compile.proofs.Calls.{read_fits, assemble_gives, compile_passed}
use Rattle.compile_translation.specs.Standing.{Stands}
use Rattle.compile_translation.specs.Translated.{Translated}
use Rattle.compile_translation.proofs.Compiling.{assembled, compiled}

-- ---- The tests

module _ (text code t : List ℕ) where
  -- The sizes, or the refusal
  abbrev pub tests : Answer Sizes
  tests = and_then (compile_tests text code t) (λ c. gives (sizes c))

  -- Reading declines,
  pub unread : {r : Result Sizes Refusal} {x : Refusal} → sizes_answer r ≡ read_call text → r ≡ Err x
      → refused (number_of x.reason) x.place ≡ tests
  unfolding compile_tests and_then
  unread e is = simp (read_refuses text (ap sizes_answer (sym is) ∙ e))

  module _ {c : Command} (e : read_text text ≡ gives c) where
    -- or the table has not 64 bytes,
    pub no_table : (length t ≡ 64 → ⊥) → refused 8 0 ≡ tests
    unfolding compile_tests and_then
    no_table other = simp (e, ne_eqb (length t) 64 other)

    -- or the output is too short,
    pub too_short : length t ≡ 64 → length code < 5 * records c → refused 7 0 ≡ tests
    unfolding compile_tests and_then
    too_short long h = simp (e, eq-eqb (length t) 64 long, lt-leb (5 * records c) (length code) h)

    -- or the text passes.
    pub passes : length t ≡ 64 → 5 * records c ≤ length code → gives (sizes c) ≡ tests
    unfolding compile_tests and_then
    passes long h = simp (e, eq-eqb (length t) 64 long, le-leb (5 * records c) (length code) h)

-- ---- A text that passes

pub record Passed (text code t : List ℕ) (c : Command) : Type 0 where
  pub read : read_text text ≡ gives c
  pub long : length t ≡ 64
  pub room : 5 * records c ≤ length code

pub passed : (text code t : List ℕ) {c : Command} → compile_tests text code t ≡ gives c → Passed text code t c
unfolding compile_tests
passed text code t e =
    let n = needed (read_text text) _ e in
    let p = compile_passed text code t e in
    record {
      read = p.0;
      long = eqb-true (length t) 64 (unless_passed (eqb (length t) 64) 8 0 _ n.then_gives).0;
      room = p.1;
    }

-- what compiling leaves of a command
abbrev pub machine : List ℕ → Command → Compiled
machine out c = record { code = over (machine_bytes c) out; table = table (ccomp c) }

module _ {text code t : List ℕ} {c : Command} (p : Passed text code t c) where
  -- It can be assembled;
  pub assembles : assemble_tests text code ≡ gives c
  assembles = assemble_gives text code p.read p.room

  module _ (bytes : Bytes text) where
    -- its assembly records, once written, stand in the output;
    pub stands : {now : List ℕ} {count : ℕ} → now ≡ over (code_bytes assembly_kind (ccomp c)) code → count ≡ records c
        → Stands assembly_kind (ccomp c) code count now
    stands left same =
        let fit = read_fits text bytes p.read in
        let x = assembled c fit.0 fit.1 code in
        record { stand = left; fit = x.fit; all = x.all ∙ sym same }

    -- and once they are translated, the text is compiled.
    pub done : {n : ℕ} {t' code' : List ℕ} → Translated (ccomp c) code n t' code'
        → record { code = code'; table = t' } ≡ machine code c
    done w = let y = compiled c (read_fits text bytes p.read).0 w in λ i. record { code = y.2 i; table = y.1 i }
