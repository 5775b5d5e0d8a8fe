-- The tests of `assemble` by their cases, and a call by what its tests answer: the tests of a call that gives the sizes
-- of a text give them too, so the call's answer is theirs, and what it leaves goes by the same cases.
use mathlib.Core.Path.{◌≡◌, sym, ap, ◌∙◌}
use mathlib.Core.List.{List}
use Prim.Native.Nat.{ℕ, ◌*◌, ◌≤◌, ◌<◌}
use native.Mathlib.Omega.{arith}
use lib.ListN.{length}
use borrow.Author.Tests.{le-leb, lt-leb}
use Rattle.base.specs.Code.{number_of}
use Rattle.std.specs.Prelude.{Result, Ok, Err}
use Rattle.base.specs.Answers.{Answer, gives, refused, and_then, settle}
use Rattle.base.specs.declared.Refusal.{Refusal}
use Rattle.base.proofs.Answers.{gives_one}
use Rattle.base.proofs.Settled.{needed}
use Rattle.base.proofs.Settled as Settled
use Rattle.text.specs.Syntax.{Command}
use Rattle.text.specs.Encoding.{Bytes}
use Rattle.text.specs.Reading.{read_text}
use Rattle.text.specs.Sizes.{records, sizes}
use Rattle.text.specs.declared.Sizes.{Sizes}
use Rattle.text.specs.Code.{sizes_answer}
use Rattle.text.specs.Calls.{read_call}
use Rattle.text.proofs.Opened.{read_gives, read_refuses}
use Rattle.record.specs.Bytes.{assembly_kind, code_bytes, over}
use Rattle.compile.specs.Compilation.{ccomp}
use Rattle.compile.specs.Calls.{assemble_tests, assemble}
use Rattle.compile.proofs.Calls.{read_fits, assemble_passed}

-- ---- Reading's answer

-- A text that was accepted: its command, and its sizes as reading tells them
pub record Found (text : List ℕ) (z : Sizes) : Type 0 where
  pub command : Command
  pub read : read_text text ≡ gives command
  pub tells : z ≡ sizes command
  pub count : z.records ≡ records command
  pub few : records command ≤ 4096

sizes_told : (text : List ℕ) {c : Command} {z : Sizes} → read_text text ≡ gives c → gives z ≡ read_call text
    → z ≡ sizes c
unfolding read_call and_then
sizes_told text {c} e f =
    let told : read_call text ≡ gives (sizes c) = simp e in
    cc

pub found : {text : List ℕ} {r : Result Sizes Refusal} {z : Sizes} → Bytes text → sizes_answer r ≡ read_call text
    → r ≡ Ok z → Found text z
found {text} bytes e is =
    let gave = ap sizes_answer (sym is) ∙ e in
    let (c, f) = read_gives text gave in
    let same = sizes_told text f gave in
    record { command = c; read = f; tells = same; count = ap (λ z. z.records) same; few = (read_fits text bytes f).1 }

-- ---- The tests

module _ (text out : List ℕ) where
  -- The sizes, or the refusal
  abbrev pub tests : Answer Sizes
  tests = and_then (assemble_tests text out) (λ c. gives (sizes c))

  -- Reading declines,
  pub unread : {r : Result Sizes Refusal} {x : Refusal} → sizes_answer r ≡ read_call text → r ≡ Err x
      → refused (number_of x.reason) x.place ≡ tests
  unfolding assemble_tests and_then
  unread e is = simp (read_refuses text (ap sizes_answer (sym is) ∙ e))

  -- or the output is too short,
  pub too_short : {c : Command} → read_text text ≡ gives c → length out < 5 * records c → refused 7 0 ≡ tests
  unfolding assemble_tests and_then
  too_short {c} e h = simp (e, lt-leb (5 * records c) (length out) h)

  -- or the text passes.
  pub passes : {c : Command} → read_text text ≡ gives c → 5 * records c ≤ length out → gives (sizes c) ≡ tests
  unfolding assemble_tests and_then
  passes {c} e h = simp (e, le-leb (5 * records c) (length out) h)

-- ---- A call that gives sizes, by its tests' answer

-- The tests gave a command, of which the sizes are
pub record Given (tests : Answer Command) (z : Sizes) : Type 0 where
  pub command : Command
  pub passed : tests ≡ gives command
  pub tells : z ≡ sizes command

module _ (tests : Answer Command) {r : Result Sizes Refusal}
    (e : sizes_answer r ≡ and_then tests (λ c. gives (sizes c))) where
  -- Where they declined,
  refuses : {x : Refusal} → r ≡ Err x → tests ≡ refused (number_of x.reason) x.place
  unfolding and_then
  refuses {x} is = by tests (ap sizes_answer (sym is) ∙ e)
    where
      by : (t : Answer Command) → refused (number_of x.reason) x.place ≡ and_then t (λ c. gives (sizes c))
          → t ≡ refused (number_of x.reason) x.place
      by (gives c) e = let no : ◌≡◌ {A = ℕ} 0 1 = cc in absurd (omega arith)
      by (refused _ _) e = cc

  -- and where they gave sizes
  pub given : {z : Sizes} → r ≡ Ok z → Given tests z
  given is =
      let n = needed tests (λ c. gives (sizes c)) (sym e ∙ ap sizes_answer is) in
      record { command = n.value; passed = n.given; tells = sym (gives_one _ _ n.then_gives) }

  module _ {B : Type 0} (buffers : Command → B) (old : B) where
    -- The call declines, and leaves its buffers,
    pub declines : {x : Refusal} → r ≡ Err x
        → (refused (number_of x.reason) x.place, old) ≡ settle tests sizes buffers old
    declines is = Settled.declined tests sizes buffers old (refuses is)

    -- or gives the sizes, and leaves what it writes of the command.
    pub settles : {z : Sizes} {now : B} → r ≡ Ok z → (g : Given tests z) → now ≡ buffers g.command
        → (gives z, now) ≡ settle tests sizes buffers old
    settles {now = now} is g leaves =
        ap (λ a. (a, now)) (ap gives g.tells)
        ∙ Settled.settled tests sizes buffers old g.passed leaves

-- What `assemble` that gives sizes leaves
pub record Assembled (text out now : List ℕ) (z : Sizes) : Type 0 where
  pub found : Command
  pub read : read_text text ≡ gives found
  pub room : 5 * records found ≤ length out
  pub tells : z ≡ sizes found
  pub left : now ≡ over (code_bytes assembly_kind (ccomp found)) out

pub gave : (text out now : List ℕ) (x : Answer Sizes) (z : Sizes) → (x, now) ≡ assemble text out → x ≡ gives z
    → Assembled text out now z
unfolding assemble
gave text out now x z e f =
    let buffers : Command → List ℕ = λ c. over (code_bytes assembly_kind (ccomp c)) out in
    let g = Settled.gave (assemble_tests text out) sizes buffers out ((λ i. (sym f i, now)) ∙ e) in
    let p = assemble_passed text out g.passed in
    record { found = g.value; read = p.0; room = p.1; tells = g.tells; left = g.leaves }
