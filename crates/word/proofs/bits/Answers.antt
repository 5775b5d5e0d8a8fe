use Rattle.std.proofs.Common.{◌∙◌, ap, of_z, w32}
use mir.Facts.{to_z-of_z}
use Rattle.word.specs.Numbers.{bits_of}
use Rattle.word.proofs.bits.Goals as goal

pub returns : goal.returns
unfolding bits_of
returns c = c.cast_unsigned.ensures ∙ ap (of_z w32) (to_z-of_z c.ranges.z)
