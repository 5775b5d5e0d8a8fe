use Rattle.std.proofs.Common.{◌∙◌, ap, of_z, w32}
use mir.Facts.{to_z-of_z}
use Rattle.word.specs.Numbers.{bytes_of, bits_of, split}
use Rattle.word.proofs.bytes.Goals as goal

pub returns : goal.returns
unfolding bytes_of bits_of
returns c = c.to_le_bytes.ensures ∙ ap (λ z. split (of_z w32 z)) (to_z-of_z c.ranges.z)
