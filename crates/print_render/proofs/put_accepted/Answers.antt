-- A text that is refused prints nothing. One that is accepted is assembled and compiled, which writes its codes and its
-- table, and the run of the pair is its run (Shown).
use Rattle.std.proofs.Common.{ℕ, ◌≡◌, ◌*◌, ◌≤◌, List, Ok, Result, refl, sym, ap, ◌∙◌, arith}
use Rattle.std.proofs.lemmas.Result.{err_from_is_err_and}
use lib.ListN.{length-take}
use Rattle.base.specs.Code.{run_answer}
use Rattle.base.specs.declared.Refusal.{Refusal}
use Rattle.text.specs.Calls.{read_call}
use Rattle.text.specs.Code.{sizes_answer}
use Rattle.text.specs.Encoding.{Bytes}
use Rattle.text.specs.declared.Sizes.{Sizes}
use Rattle.source.specs.Cases.{zeros}
use Rattle.print_ascii.proofs.Puts.{prints_is}
use Rattle.print_render.proofs.Shown.{Read, refused_shown, was_read, limits, assembles, compiles, came}
use Rattle.print_render.proofs.put_accepted.Goals as goal

-- What reading found
found : (text : List ℕ) {z : Sizes} {r : Result Sizes Refusal} → r ≡ Ok z → sizes_answer r ≡ read_call text
    → Read text z
found text was e = was_read text _ (sym (ap sizes_answer was) ∙ e)

-- The sizes of a text that is accepted are within the limits.
small : (text : List ℕ) {z : Sizes} {r : Result Sizes Refusal} → Bytes text → r ≡ Ok z → sizes_answer r ≡ read_call text
    → (z.records ≤ 4096) × (z.depth ≤ 63) × (z.cells ≤ 64)
small text bytes was e = limits text bytes _ (found text was e)

pub returns-in_err-sizes : goal.returns-in_err-sizes
returns-in_err-sizes c =
    let e = err_from_is_err_and c.from_residual.result c.from_residual.ensures.1 in
    rw (e.1, e.2) (refl, refused_shown c.args.text.now _ _ (sym (ap sizes_answer c.in_err-sizes.was) ∙ c.read.ensures))

pub returns-in_err-assemble : goal.returns-in_err-assemble
returns-in_err-assemble c =
    let text = c.args.text.now in
    absurd
    (assembles text (λ i. omega (arith, c.type_inv.text i)) _ (found text c.in_ok-sizes.was c.read.ensures) _ _ _
    c.assemble.ensures (omega arith) _ _ (ap sizes_answer c.in_err-assemble.was))

pub returns-in_err-compile : goal.returns-in_err-compile
returns-in_err-compile c =
    let text = c.args.text.now in
    absurd
    (compiles text (λ i. omega (arith, c.type_inv.text i)) _ (found text c.in_ok-sizes.was c.read.ensures) _ _ _ _ _
    c.compile.ensures (omega arith) refl _ _ (ap sizes_answer c.in_err-compile.was))

pub overflow_mul-machine : goal.overflow_mul-machine
overflow_mul-machine c =
    omega (
      arith,
      small c.args.text.now (λ i. omega (arith, c.type_inv.text i)) c.in_ok-sizes.was c.read.ensures,
    )

pub slice_bounds-machine-end : goal.slice_bounds-machine-end
slice_bounds-machine-end c =
    omega (
      arith,
      small c.args.text.now (λ i. omega (arith, c.type_inv.text i)) c.in_ok-sizes.was c.read.ensures,
    )

pub slice_bounds-code-end : goal.slice_bounds-code-end
slice_bounds-code-end c =
    omega (
      arith,
      small c.args.text.now (λ i. omega (arith, c.type_inv.text i)) c.in_ok-sizes.was c.read.ensures,
      length-take (5 * c.in_ok-sizes.sizes.records) c.compile.new.out,
    )

-- The run is not refused.
pub returns-in_err-run : goal.returns-in_err-run
unfolding zeros
returns-in_err-run c =
    let text = c.args.text.now in
    let x =
    came text (λ i. omega (arith, c.type_inv.text i)) _ (found text c.in_ok-sizes.was c.read.ensures) _ _ _
    c.assemble.ensures (omega arith) _ _ _ _ _ c.compile.ensures (omega arith) refl _ _
    c.run_paired.ensures.of_compiled in
    absurd (x.never _ _ (ap run_answer c.in_err-run.was))

pub put_lines-requires-clause-room : goal.put_lines-requires-clause-room
put_lines-requires-clause-room c = (
  omega arith,
  (small c.args.text.now (λ i. omega (arith, c.type_inv.text i)) c.in_ok-sizes.was c.read.ensures).0,
)

pub put_lines-requires-clause-codes : goal.put_lines-requires-clause-codes
put_lines-requires-clause-codes c =
    let few = small c.args.text.now (λ i. omega (arith, c.type_inv.text i)) c.in_ok-sizes.was c.read.ensures in
    (omega (arith, few), omega (arith, few))

pub put_lines-requires-clause-some_codes : goal.put_lines-requires-clause-some_codes
unfolding zeros
put_lines-requires-clause-some_codes c =
    let text = c.args.text.now in
    let x =
    came text (λ i. omega (arith, c.type_inv.text i)) _ (found text c.in_ok-sizes.was c.read.ensures) _ _ _
    c.assemble.ensures (omega arith) _ _ _ _ _ c.compile.ensures (omega arith) refl _ _
    c.run_paired.ensures.of_compiled in
    x.some

pub returns : goal.returns
unfolding zeros
returns c =
    let text = c.args.text.now in
    let x =
    came text (λ i. omega (arith, c.type_inv.text i)) _ (found text c.in_ok-sizes.was c.read.ensures) _ _ _
    c.assemble.ensures (omega arith) _ _ _ _ _ c.compile.ensures (omega arith) refl _ _
    c.run_paired.ensures.of_compiled in
    prints_is (c.put_lines.ensures x.some.n x.some.P x.some.Q x.some.codes) (x.shows _ (ap run_answer c.in_ok-run.was))
