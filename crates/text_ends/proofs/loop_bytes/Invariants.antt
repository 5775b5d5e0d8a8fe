-- `loop_bytes` counts WHILE's bytes. The invariant: what was found and what is left to find are all of them.
use Rattle.std.proofs.Common.{◌≡◌, ◌+◌, ◌≤◌, drop}
use Rattle.text_ends.specs.Ends.{times}
use Rattle.text_ends.proofs.loop_bytes.Given as goal

abbrev pub invariant-loop-byte : goal.invariant-loop-byte
invariant-loop-byte l = (l.found ≤ l.byte-index) × (l.found + times 0x04 (drop l.byte-index l.text) ≡ times 0x04 l.text)
