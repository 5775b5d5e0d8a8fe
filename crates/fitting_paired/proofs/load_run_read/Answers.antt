-- The zeros with the store's variables in them are the loaded memory, and what is read back from the run on it is the
-- call's store.
use Rattle.std.proofs.Common.{refl, arith}
use Rattle.compile.specs.Table.{named_in}
use Rattle.fitting_paired.proofs.Running.{fits, runs_tested, read_back_is}
use Rattle.fitting_paired.proofs.load_run_read.Goals as goal

pub to_memory-requires : goal.to_memory-requires
to_memory-requires c = fits _ _ _ _ c.requires.tested c.requires.memory_zeros refl

pub run_tested-ended-requires : goal.run_tested-ended-requires
run_tested-ended-requires c =
    (named_in c.args.table.now, runs_tested _ _ _ _ c.requires.tested c.requires.memory_zeros c.to_memory.ensures)

pub to_store-requires : goal.to_store-requires
to_store-requires c =
    fits _ _ _ _ c.requires.tested c.requires.memory_zeros
    (omega (arith, c.run_tested-ended.auto, c.to_memory.auto))

pub returns : goal.returns
returns c =
    read_back_is _ _ _ _ c.requires.tested c.requires.memory_zeros c.to_memory.ensures c.args.budget
    (c.run_tested-ended.ensures _
    (runs_tested _ _ _ _ c.requires.tested c.requires.memory_zeros c.to_memory.ensures)) c.to_store.ensures
