-- The command is read at the start of the text, and there is room for its records.
use Rattle.std.proofs.Common.{arith}
use Rattle.text.proofs.Opened.{taken}
use Rattle.compile.proofs.Calls.{read_fits, assemble_passed}
use Rattle.compile.proofs.Sizes.{record_count}
use Rattle.compile_assembly.proofs.write.Goals as goal

pub write_command-requires-clause-writable : goal.write_command-requires-clause-writable
write_command-requires-clause-writable c =
    let p = assemble_passed c.args.text.now c.args.out.now c.requires.1 in
    let fit = read_fits c.args.text.now (λ i. (c.type_inv.text i).fits) p.0 in
    let start = taken c.args.text.now p.0 in
    let size = record_count c.requires.0 in
    record {
      part = c.requires.0;
      next = start.end;
      is = start.part;
      room = omega (arith, p.1, size);
      few = omega (arith, fit.1, size);
    }

pub returns : goal.returns
returns c = λ x passed.
    let start = taken c.args.text.now (assemble_passed c.args.text.now c.args.out.now passed).0 in
    (c.write_command.ensures.writes x start.end start.part).holds
