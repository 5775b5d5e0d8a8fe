-- The numbers of a command's answer are small too: it has no more records than the text has bytes, and its depth bound
-- is at most its record count.
use Prim.Native.Nat.{ℕ, ◌≤◌}
use native.Mathlib.Omega.{arith}
use mathlib.Core.Bool.{false}
use mathlib.Core.List.{List}
use lib.ListN.{length}
use Rattle.text.specs.Syntax.{Command, SKIP, ◌:=◌, ◌⨾◌, IF◌THEN◌ELSE◌, WHILE◌DO◌}
use Rattle.text.specs.Reading.{command}
use Rattle.text.specs.Encoding.{Bytes}
use Rattle.text.specs.Sizes.{records, depth}
use Rattle.text.proofs.Standing as Standing
use Rattle.text.proofs.Decoded.{command_decoded}
use Rattle.text.proofs.Limits.{short}
use Rattle.text_conditions.specs.Code.{Answered}
use Rattle.text_conditions.specs.declared.PartReading.{PartReading}
use Rattle.text_conditions.proofs.Bounds.{Small, expression_lean, condition_lean, small_part}
use Rattle.text_commands.specs.Code.{commands}

lean : (c : Command) → depth c ≤ records c
unfolding depth records
lean SKIP = omega arith
lean (v := a) = omega (arith, expression_lean a)
lean (c ⨾ d) = omega (arith, lean c, lean d)
lean (IF b THEN c ELSE d) = omega (arith, condition_lean b false, lean c, lean d)
lean (WHILE b DO c) = omega (arith, condition_lean b false, lean c)

pub command_small : (text : List ℕ) (small : Bytes text) (n : length text ≤ 4096) (nest i : ℕ) (r : PartReading)
    (m m' : List ℕ) → Answered commands (command text nest i) r m m' → Small 4096 r
command_small text small n nest i =
    small_part text small n Standing.commands commands short lean nest i (command_decoded text small nest i)
