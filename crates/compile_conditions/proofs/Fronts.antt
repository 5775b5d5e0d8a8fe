-- A condition in front of records that are written before it, as in IF and WHILE: it is measured first, so it is known
-- where the others stand; how far it jumps is known when they are written. Its size does not depend on that.
use mathlib.Core.Path.{◌≡◌, ap, ◌∙◌}
use mathlib.Core.Bool.{false}
use mathlib.Core.List.{List, ◌++◌}
use Prim.Native.Nat.{ℕ, ◌+◌, ◌*◌, ◌≤◌, ◌<◌}
use native.Mathlib.Omega.{arith}
use lib.IntN.{pos}
use lib.ListN.{length, length-append}
use Rattle.base.specs.Acts.{ok}
use Rattle.text.specs.Syntax.{Condition}
use Rattle.text.specs.Reading.{Reader}
use Rattle.record.specs.Records.{AssemblyCode}
use Rattle.record.specs.Bytes.{assembly_kind}
use Rattle.compile.proofs.Sizes.{condition_count}
use Rattle.record.proofs.Filling.{Filled, rest, rest_size, kept, before}
use Rattle.compile_sizes.specs.Parts.{Countable, Counts}
use Rattle.compile_sizes.specs.declared.PartSize.{PartSize}
use Rattle.compile_sizes.proofs.Counting.{size}
use Rattle.compile_conditions.specs.Parts.{jumping, Writable, Writes}
use Rattle.compile_conditions.proofs.Rows.{stands}

-- A condition that is read at i, jumping over `distance` records, in front of the records Q; T are the records of both
pub record Front (r : Reader Condition) (distance : ℕ) (Q T : AssemblyCode) (i : ℕ) (old : List ℕ) : Type 0 where
  pub test : Condition
  pub middle : ℕ
  pub read : r i ≡ ok test middle
  pub is : T ≡ jumping false distance test ++ Q
  pub room : 5 * length T ≤ length old
  pub few : length T < 2147483648
  pub near : distance + size false test < 2147483648

module _ {r : Reader Condition} {distance : ℕ} {Q T : AssemblyCode} {i : ℕ} {old : List ℕ}
    (f : Front r distance Q T i old) where
  size_is : length (jumping false distance f.test) ≡ size false f.test
  size_is = condition_count f.test false (pos distance)

  sizes : length T ≡ size false f.test + length Q
  sizes = ap length f.is ∙ length-append (jumping false distance f.test) Q ∙ ap (λ (n : ℕ). n + length Q) size_is

  pub countable : Countable (size false) (r i)
  countable = record { part = f.test; next = f.middle; is = f.read; few = omega (arith, sizes, f.few) }

  -- The condition was measured
  module _ {t : PartSize} (m : Counts (size false) (r i) t) where
    measured : t.records ≡ size false f.test
    measured = (m f.test f.middle f.read).1

    pub total : t.records + length Q ≡ length T
    total = omega (arith, measured, sizes)

    pub test_few : t.records < 2147483648
    test_few = omega (arith, total, f.few)

    pub start : 5 * t.records ≤ length old
    start = omega (arith, total, f.room)

    pub others_room : 5 * length Q ≤ length (rest t.records old)
    others_room = omega (arith, total, f.room, rest_size t.records old)

    -- The others were written
    module _ {xs : List ℕ} (w : Filled assembly_kind t.records Q old xs) where
      pub test_writable : Writable (jumping false distance) distance (r i) xs
      test_writable = record {
        part = f.test;
        next = f.middle;
        is = f.read;
        room = omega (arith, size_is, measured, start, kept w);
        few = omega (arith, size_is, f.near);
      }

      -- and the condition was, in front of them.
      pub whole : {ys : List ℕ} {u : PartSize} → Writes (jumping false distance) (r i) xs ys u
          → Filled assembly_kind 0 T old ys
      unfolding test_writable
      whole v =
          let test = stands test_writable.room (v f.test f.middle f.read) in
          rw f.is (before (omega (arith, size_is, measured)) w test)
