-- `mentioned` gives the name of LOAD and STORE, by their numbers.
use Rattle.std.proofs.Common.{ap, ◌∙◌}
use Rattle.record.specs.Records.{variable}
use Rattle.record.proofs.Naming.{made}
use Rattle.compile_translation.specs.Steps.{mention_at}
use Rattle.compile_translation.proofs.Mentions.{named_by_number}
use Rattle.compile_translation.proofs.mentioned.Goals as goal

pub returns : goal.returns
unfolding mention_at
returns c =
    made variable _ _ (λ u v same. ap variable same) c.map.ensures.cases _ _
    (c.named_at.ensures ∙ named_by_number c.args.code.now c.args.i)
