-- One record in place, in another kind: the first byte keeps its distance from the kind's first, LOAD's and STORE's
-- name is the lowest byte of an operand below 256, and every other byte stays. By cases on the record.
use mathlib.Core.Path.{◌≡◌, refl}
use mathlib.Core.Bool.{Bool, true, false, ◌&&◌}
use mathlib.Core.List.{List, [], ◌∷◌, ◌++◌}
use Prim.Native.Nat.{ℕ, ◌+◌, ◌-◌, ◌%◌, ◌/◌, ◌≤◌, ◌<◌}
use native.Mathlib.Nat.{add-zero}
use native.Mathlib.Omega.{arith}
use lib.Dec.{leb}
use lib.IntN.{pos}
use lib.ListN.{length, get_or}
use borrow.Author.Tests.{leb-true}
use Rattle.base.proofs.Settled.{both}
use Rattle.word.specs.Numbers.{bits_of, bytes_of}
use Rattle.record.specs.Records.{Record, LOADI, LOAD, ADD, STORE, JMP, JMPLESS, JMPGE, rename}
use Rattle.record.specs.Bytes.{first_byte, operand, record_bytes}
use Rattle.record.specs.Claims.{RecordFits}
use Rattle.record_test.specs.Code.{kind_of}
use Rattle.record_test.specs.declared.Kind.{Kind}
use Rattle.compile_translation.specs.Standing.{Renames, Renamable}
use Rattle.compile_translation.specs.Steps.{has_name, renamed_front}

-- The bytes of a name below 256: the name, and zeros.
pub name_bytes : (x : ℕ) → x < 256 → bytes_of (pos x) ≡ x ∷ 0 ∷ 0 ∷ 0 ∷ []
unfolding bytes_of bits_of
name_bytes x h =
    let b0 : x % 256 ≡ x = omega arith in
    let b1 : x / 256 % 256 ≡ 0 = omega arith in
    let b2 : x / 65536 % 256 ≡ 0 = omega arith in
    let b3 : x / 16777216 % 256 ≡ 0 = omega arith in
    rw (b0, b1, b2, b3)

-- What a number is above the first
above : (first j : ℕ) → first + j - first ≡ j
above first j = omega arith

above_none : (first : ℕ) → first - first ≡ 0
above_none first = omega arith

module _ (from to : Kind) (names : List ℕ) (n : Renames from to names) (bytes : (x : ℕ) → get_or names x 0 < 256) where
  abbrev new : ℕ → ℕ
  new x = get_or names x 0

  -- A name of the first kind is among the names.
  inside : (x : ℕ) → (leb from.least x && leb x from.most) ≡ true → x < length names
  inside x e = omega (arith, n.inside, leb-true x from.most (both (leb from.least x) (leb x from.most) e).1)

  small : (x : ℕ) → (leb from.least x && leb x from.most) ≡ true → x < 256
  small x e = omega (arith, n.few, inside x e)

  low : (x : ℕ) → (leb from.least x && leb x from.most) ≡ true → bits_of (pos x) % 256 < length names
  unfolding bits_of
  low x e = omega (arith, inside x e)

  -- A record of number j that names x
  with_name : (j x : ℕ) (l : List ℕ) → has_name j ≡ true → x < 256
      → renamed_front from.first to.first names ((from.first + j) ∷ (bytes_of (pos x) ++ l))
      ≡ (to.first + j) ∷ (bytes_of (pos (new x)) ++ l)
  unfolding renamed_front
  with_name j x l e h = rw (name_bytes x h, name_bytes (new x) (bytes x)) (simp (above, e))

  -- The record in the other kind is the record renamed.
  pub front_renamed : (r : Record ℕ) (l : List ℕ) → RecordFits (kind_of from) r
      → renamed_front from.first to.first names (record_bytes (kind_of from) r ++ l)
      ≡ record_bytes (kind_of to) (rename new r) ++ l
  unfolding renamed_front first_byte operand rename
  front_renamed (LOADI z) l f = simp (above_none, add-zero)
  front_renamed (LOAD x) l f = with_name 1 x l refl (small x f.0)
  front_renamed ADD l f = simp above
  front_renamed (STORE x) l f = with_name 3 x l refl (small x f.0)
  front_renamed (JMP z) l f = simp above
  front_renamed (JMPLESS z) l f = simp above
  front_renamed (JMPGE z) l f = simp above

  -- ---- What the code asks of the front

  -- A record of number j, whose lowest byte is inside the names if it has a name
  renamable : (j b0 b1 b2 b3 b4 : ℕ) (l : List ℕ) → b0 ≡ from.first + j → j ≤ 6
      → (has_name j ≡ true → b1 < length names)
      → Renamable from.first to.first names (b0 ∷ b1 ∷ b2 ∷ b3 ∷ b4 ∷ l)
  renamable j b0 b1 b2 b3 b4 l q h i =
      let same : b0 - from.first ≡ j = omega arith in
      record {
        long = omega arith;
        above = omega arith;
        byte = omega (arith, n.byte);
        inside = λ e. i (rw same at e);
      }

  no_name : {A : Type 0} → ◌≡◌ {A = Bool} false true → A
  no_name e = let no : ◌≡◌ {A = ℕ} 0 1 = cc in absurd (omega arith)

  pub front_renamable : (r : Record ℕ) (l : List ℕ) → RecordFits (kind_of from) r
      → Renamable from.first to.first names (record_bytes (kind_of from) r ++ l)
  unfolding first_byte operand bytes_of
  front_renamable (LOADI z) l f = renamable 0 _ _ _ _ _ l (omega arith) (omega arith) no_name
  front_renamable (LOAD x) l f = renamable 1 _ _ _ _ _ l refl (omega arith) (λ _. low x f.0)
  front_renamable ADD l f = renamable 2 _ _ _ _ _ l refl (omega arith) no_name
  front_renamable (STORE x) l f = renamable 3 _ _ _ _ _ l refl (omega arith) (λ _. low x f.0)
  front_renamable (JMP z) l f = renamable 4 _ _ _ _ _ l refl (omega arith) no_name
  front_renamable (JMPLESS z) l f = renamable 5 _ _ _ _ _ l refl (omega arith) no_name
  front_renamable (JMPGE z) l f = renamable 6 _ _ _ _ _ l refl (omega arith) no_name
