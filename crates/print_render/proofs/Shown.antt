-- What is printed for a text, from what its calls gave and left.
use mathlib.Core.Path.{◌≡◌, refl, sym, ◌∙◌, ap}
use Prim.Native.Nat.{ℕ, ◌*◌, ◌≤◌}
use native.Mathlib.Omega.{arith}
use mathlib.Core.List.{List, ◌++◌}
use lib.ListN.{length, take}
use Rattle.base.specs.Answers.{Answer, gives, refused}
use Rattle.base.specs.Ends.{Ran}
use Rattle.base.proofs.Answers.{gives_one}
use Rattle.base.proofs.Settled.{not_both, needed}
use Rattle.text.specs.Syntax.{Command}
use Rattle.text.specs.Reading.{read_text}
use Rattle.text.specs.Encoding.{Bytes}
use Rattle.text.specs.Sizes.{records, cells, sizes}
use Rattle.text.specs.declared.Sizes.{Sizes}
use Rattle.text.specs.Calls.{read_call}
use Rattle.text.proofs.Accepted.{accepted}
use Rattle.text.proofs.Opened.{read_refuses}
use Rattle.text.proofs.Limits.{shallow, few}
use Rattle.source.specs.Rules.{Store}
use Rattle.source.specs.Calls.{run_source}
use Rattle.source.specs.Cases.{zeros}
use Rattle.source.proofs.Calls.{source_runs}
use Rattle.record.specs.Bytes.{assembly_kind, machine_kind, code_bytes, over, records_from}
use Rattle.record.proofs.Reading.{assembly_lawful, machine_lawful}
use Rattle.record.proofs.Written.{records_of_written}
use Rattle.compile.specs.Compilation.{ccomp}
use Rattle.compile.specs.Table.{to_m_prog, table}
use Rattle.compile.specs.Calls.{assemble, machine_bytes, Compiled, compile}
use Rattle.compile.specs.Cases.{code_and_table}
use Rattle.compile.proofs.Sizes.{record_count}
use Rattle.compile.proofs.Calls.{read_fits, assembled, compiled, machine_count}
use Rattle.compile.proofs.Codes.{codes}
use Rattle.fitting.specs.Paired.{ByCompiler}
use Rattle.print.specs.Printing.{first_line, record_lines, run_lines, refusal_line, answer_lines, shown}
use Rattle.print_records.specs.Lines.{Codes}
use Rattle.print_render.specs.Lines.{lines, SomeCodes}

-- ---- What reading gave

-- A refused text prints its refusal.
pub refused_shown : (text : List ℕ) (number place : ℕ) → refused number place ≡ read_call text
    → shown text ≡ refusal_line number place
unfolding answer_lines
refused_shown text number place e = ap (answer_lines text) (read_refuses text e)

-- An accepted text's command, of these sizes
pub record Read (text : List ℕ) (z : Sizes) : Type 0 where
  pub found : Command
  pub read : read_text text ≡ gives found
  pub tells : z ≡ sizes found

pub was_read : (text : List ℕ) (z : Sizes) → gives z ≡ read_call text → Read text z
unfolding read_call
was_read text z e =
    let n = needed (read_text text) (λ c. gives (sizes c)) (sym e) in
    record { found = n.value; read = n.given; tells = gives_one z (sizes n.value) (sym n.then_gives) }

-- What the calls of an accepted text came to: the codes, the table and the store left, and the run's answer
pub record Came (text a m t : List ℕ) (s : Store) (z : Sizes) (x : Answer Ran) : Type 0 where
  pub some : SomeCodes a m z.records
  pub never : (number place : ℕ) → x ≡ refused number place → ⊥
  pub shows : (ran : Ran) → x ≡ gives ran → shown text ≡ lines z some.P some.Q ran.end ran.count t s

module _ (text : List ℕ) (bytes : Bytes text) (z : Sizes) (r : Read text z) where
  abbrev c : Command
  c = r.found

  -- Its sizes are within the limits.
  pub limits : (z.records ≤ 4096) × (z.depth ≤ 63) × (z.cells ≤ 64)
  limits =
      let within = ((accepted text bytes c).0 r.read).0 in (
        omega (arith, (read_fits text bytes r.read).1, ap (λ (z : Sizes). z.records) r.tells),
        omega (arith, shallow c within.nested, ap (λ (z : Sizes). z.depth) r.tells),
        omega (arith, few c, ap (λ (z : Sizes). z.cells) r.tells),
      )

  records_fit : 5 * records c ≤ 20480
  records_fit = omega (arith, (read_fits text bytes r.read).1)

  -- ---- What assembling, compiling and the run of the pair left

  -- Assembling is not refused,
  pub assembles : (a a' : List ℕ) (y : Answer Sizes) → (y, a') ≡ assemble text a → 20480 ≤ length a
      → (number place : ℕ) → y ≡ refused number place → ⊥
  assembles a a' y assembling room number place f =
      not_both (sym f ∙ ap (λ (p : Answer Sizes × List ℕ). p.0)
      (assembling ∙ assembled text a r.read (omega (arith, records_fit))))

  -- nor is compiling.
  compiled_is : (m m' t t' : List ℕ) (y : Answer Sizes) → (y, code_and_table m' t') ≡ compile text (code_and_table m t)
      → 20480 ≤ length m → length t ≡ 64
      → ◌≡◌ {A = Answer Sizes × Compiled}
      (y, code_and_table m' t') (gives (sizes c), code_and_table (over (machine_bytes c) m) (table (ccomp c)))
  compiled_is m m' t t' y compiling enough long =
      compiling ∙ compiled text (code_and_table m t) r.read long (omega (arith, records_fit))

  pub compiles : (m m' t t' : List ℕ) (y : Answer Sizes) → (y, code_and_table m' t') ≡ compile text (code_and_table m t)
      → 20480 ≤ length m → length t ≡ 64 → (number place : ℕ) → y ≡ refused number place → ⊥
  compiles m m' t t' y compiling enough long number place f =
      not_both (sym f ∙ ap (λ (p : Answer Sizes × Compiled). p.0) (compiled_is m m' t t' y compiling enough long))

  module _ (a a' : List ℕ) (y : Answer Sizes) (assembling : (y, a') ≡ assemble text a) (room : 20480 ≤ length a)
      (m m' t t' : List ℕ) (y' : Answer Sizes)
      (compiling : (y', code_and_table m' t') ≡ compile text (code_and_table m t))
      (enough : 20480 ≤ length m) (long : length t ≡ 64) (s' : Store) (x : Answer Ran)
      (running : (text : List ℕ) → ByCompiler text (take (5 * z.records) m') t' z.depth
      → run_source text zeros 1000000 ≡ (x, s')) where
    assembly_left : a' ≡ over (code_bytes assembly_kind (ccomp c)) a
    assembly_left =
        ap (λ (p : Answer Sizes × List ℕ). p.1) (assembling ∙ assembled text a r.read (omega (arith, records_fit)))

    machine_left : m' ≡ over (machine_bytes c) m
    machine_left = ap (λ (p : Answer Sizes × Compiled). p.1.code) (compiled_is m m' t t' y' compiling enough long)

    table_left : t' ≡ table (ccomp c)
    table_left = ap (λ (p : Answer Sizes × Compiled). p.1.table) (compiled_is m m' t t' y' compiling enough long)

    -- Both codes are the records of the command.
    codes_left : Codes a' m' z.records (cells c) (ccomp c) (to_m_prog (ccomp c))
    codes_left =
        let fits = read_fits text bytes r.read in
        let holds = codes c fits.0 fits.1 in
        let count = ap (λ (z : Sizes). z.records) r.tells in
        record {
          of_assembly =
              (λ i. records_from assembly_kind (assembly_left i) 0 ((count ∙ sym (record_count c)) i))
              ∙ records_of_written assembly_kind assembly_lawful (ccomp c) _ holds.in_assembly;
          of_machine =
              (λ i. records_from (machine_kind (cells c)) (machine_left i) 0 ((count ∙ sym (machine_count c)) i))
              ∙ records_of_written (machine_kind (cells c)) (machine_lawful (cells c)) (to_m_prog (ccomp c)) _
              holds.in_machine;
        }

    -- The run is the text's,
    same_run : run_source text zeros 1000000 ≡ (x, s')
    same_run = running text (record {
      bytes = bytes;
      lent = code_and_table m t;
      written = code_and_table m' t';
      sizes = z;
      compiles =
          sym compiling
          ∙ (λ i. (
            (ap (λ (p : Answer Sizes × Compiled). p.0) (compiled_is m m' t t' y' compiling enough long)
                ∙ ap gives (sym r.tells)) i,
            code_and_table
                m' t',
          ));
      code_is = refl;
      table_is = refl;
      depth_is = refl;
    })

    -- so it was not refused,
    not_refused : (number place : ℕ) → x ≡ refused number place → ⊥
    unfolding zeros
    not_refused number place f =
        not_both (sym f ∙ ap (λ (p : Answer Ran × Store). p.0)
        (sym same_run ∙ source_runs text c zeros 1000000 r.read refl))

    -- and these are the lines.
    lines_shown : (ran : Ran) → x ≡ gives ran
        → shown text ≡ lines z (ccomp c) (to_m_prog (ccomp c)) ran.end ran.count t' s'
    unfolding answer_lines run_lines
    lines_shown ran f =
        ap (answer_lines text) r.read
        ∙ ap (λ (p : Answer Ran × Store). by p) (same_run ∙ (λ i. (f i, s')))
        ∙ (λ i. lines (sym r.tells i) (ccomp c) (to_m_prog (ccomp c)) ran.end ran.count (sym table_left i) s')
      where
        by : Answer Ran × Store → List ℕ
        by p = first_line (sizes c) ++ (record_lines 0 (ccomp c) (to_m_prog (ccomp c)) ++ run_lines (table (ccomp c)) p)

    pub came : Came text a' m' t' s' z x
    came = record {
      some = record { n = cells c; P = ccomp c; Q = to_m_prog (ccomp c); codes = codes_left };
      never = not_refused;
      shows = lines_shown;
    }
