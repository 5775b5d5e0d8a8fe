-- And: its left side under false, which jumps over the right side, and its right side under And's own flag, in a row.
-- How far the left side jumps is known before it is written: of And's records the right side has what it has not.
use mathlib.Core.Path.{◌≡◌, refl, sym, ap, ◌∙◌}
use mathlib.Core.Bool.{Bool, true, false}
use mathlib.Core.List.{List, [], ◌++◌, append-nil}
use Prim.Native.Nat.{ℕ, ◌+◌, ◌-◌, ◌*◌, ◌≤◌, ◌<◌}
use native.Mathlib.Nat.{add-zero}
use native.Mathlib.Omega.{arith}
use lib.IntN.{pos}
use lib.ListN.{length}
use Rattle.std.specs.Prelude.{if◌then◌else◌}
use Rattle.text.specs.Syntax.{Condition, And}
use Rattle.text.specs.Sizes.{condition_records}
use Rattle.text.specs.Reading.{Reader}
use Rattle.text.proofs.Opened.{Two}
use Rattle.compile.specs.Compilation.{bcomp}
use Rattle.compile.proofs.Sizes.{condition_count}
use Rattle.record.proofs.Filling.{rest}
use Rattle.compile_sizes.specs.Parts.{Countable, Sized}
use Rattle.compile_sizes.specs.declared.PartSize.{PartSize}
use Rattle.compile_sizes.proofs.Counting.{size, sized}
use Rattle.compile_conditions.specs.Parts.{jumping, Writable, Writes}
use Rattle.compile_conditions.proofs.Rows.{Row, first_jumping, second_jumping, second_read}

-- How far the left side jumps where the right side has m records
abbrev pub reach_of : Bool → ℕ → ℕ → ℕ
reach_of flag m distance = if flag then m else m + distance

reach_near : (flag : Bool) (m distance : ℕ) → reach_of flag m distance ≤ m + distance
reach_near true m distance = omega arith
reach_near false m distance = omega arith

and_is : (flag : Bool) (distance : ℕ) (b c : Condition) → jumping flag distance (And b c)
    ≡ jumping false (reach_of flag (length (jumping flag distance c)) distance) b ++ jumping flag distance c
unfolding bcomp
and_is true distance b c =
    let right = jumping true distance c in
    ap (λ (n : ℕ). bcomp b false (pos n) ++ right) (add-zero (length right))
and_is false distance b c = refl

-- Two conditions that are read in a row, from i up to n, as the And c, and what is asked of its records
pub record Sides (r : Reader Condition) (flag : Bool) (distance whole i n : ℕ) (c : Condition) (old : List ℕ) : Type 0
  where
    pub parts : Two (r i) r And c n
    pub count : whole ≡ size flag c
    pub room : 5 * length (jumping flag distance c) ≤ length old
    pub few : distance + length (jumping flag distance c) < 2147483648

module _ {r : Reader Condition} {flag : Bool} {distance whole i n : ℕ} {c : Condition} {old : List ℕ}
    (p : Sides r flag distance whole i n c old) where
  sum : whole ≡ size false p.parts.one + size flag p.parts.two
  unfolding condition_records
  sum = p.count ∙ ap (size flag) p.parts.is

  pub all : whole ≡ length (jumping flag distance c)
  all = p.count ∙ sym (condition_count c flag (pos distance))

  whole_near : distance + whole < 2147483648
  whole_near = omega (arith, all, p.few)

  pub left_countable : Countable (size false) (r i)
  left_countable = record {
    part = p.parts.one;
    next = p.parts.middle;
    is = p.parts.first;
    few = omega (arith, sum, whole_near);
  }

  -- The left side's size is known
  module _ {left : ℕ} (known : Sized (size false) (r i) left) where
    left_is : left ≡ size false p.parts.one
    left_is = known _ _ p.parts.first

    pub left_fits : left ≤ whole
    left_fits = omega (arith, left_is, sum)

    right_is : whole - left ≡ size flag p.parts.two
    right_is = omega (arith, left_is, sum)

    pub reach_fits : whole - left + distance < 2147483648
    reach_fits = omega (arith, whole_near)

    -- and how far it jumps
    module _ {far : ℕ} (e : far ≡ reach_of flag (whole - left) distance) where
      far_is : far ≡ reach_of flag (length (jumping flag distance p.parts.two)) distance
      far_is =
          let right = condition_count p.parts.two flag (pos distance) in
          e ∙ ap (λ (m : ℕ). reach_of flag m distance) (right_is ∙ sym right)

      pub sides : Row r r And c (jumping false far) (jumping flag distance) [] (jumping flag distance c) i n old
      sides =
          let one = p.parts.one in
          let two = p.parts.two in
          let row = ap (jumping flag distance) p.parts.is ∙ and_is flag distance one two in
          let none_behind = ap (λ l. jumping false far one ++ l) (sym (append-nil (jumping flag distance two))) in
          record {
            parts = p.parts;
            is = row ∙ ap (λ (n : ℕ). jumping false n one ++ jumping flag distance two) (sym far_is) ∙ none_behind;
            room = p.room;
            few = omega (arith, p.few);
          }

      pub left_writable : Writable (jumping false far) far (r i) old
      unfolding sides
      left_writable =
          let count = condition_count p.parts.one false (pos far) in
          let near = reach_near flag (whole - left) distance in
          first_jumping sides far (omega (arith, e, near, count, left_is, left_fits, whole_near))

      -- The left side was written
      module _ {xs : List ℕ} {t : PartSize} (w : Writes (jumping false far) (r i) old xs t) where
        pub right_writable : Writable (jumping flag distance) distance (r t.next) (rest t.records xs)
        unfolding sides
        right_writable =
            let count = condition_count p.parts.two flag (pos distance) in
            second_jumping sides w distance (omega (arith, count, sum, whole_near))

        pub right_sized : Sized (size flag) (r t.next) (whole - left)
        unfolding sides
        right_sized = sized (size flag) (second_read sides w) right_is
