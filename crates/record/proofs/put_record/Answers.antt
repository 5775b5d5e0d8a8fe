-- A record is its byte and, right behind it, its operand's four bytes: the law `byte_and_rest`.
use Rattle.std.proofs.Common.{◌*◌, ◌∙◌, ap, arith}
use mir.Facts.{to_z-of_z}
use Rattle.word.specs.Numbers.{bytes_of}
use Rattle.record.proofs.Buffer.{byte_and_rest}
use Rattle.record.proofs.put_record.Goals as goal

pub returns : goal.returns
unfolding bytes_of
returns c =
    let a = c.args in
    byte_and_rest
    (5 * a.index)
    _
    a.first
    (bytes_of a.operand)
    _
    a.out.now
    (c.copy_from_slice.ensures.after ∙ c.bytes.ensures ∙ ap bytes_of (to_z-of_z c.ranges.operand))
    (omega arith)
    (omega (arith, c.requires))
