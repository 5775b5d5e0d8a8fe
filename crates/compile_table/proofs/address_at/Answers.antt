-- `address_at` gives the name of MLOAD and MSTORE, by their bytes.
use Rattle.std.proofs.Common.{ap, ◌∙◌}
use Rattle.record.specs.Records.{address}
use Rattle.record.proofs.Naming.{named_by_byte, made}
use Rattle.compile_table.specs.Sights.{address_at}
use Rattle.compile_table.proofs.address_at.Goals as goal

pub returns : goal.returns
unfolding address_at
returns c =
    made address _ _ (λ u a same. ap address same) c.map.ensures.cases _ _ (c.named_at.ensures ∙ named_by_byte 0x50 _ _)
