-- A buffer that is written part after part, over the kind of record: records that stand from an index on. Records
-- written right behind others, or right in front of them, stand in a row with them; so do those written by whoever was
-- lent the rest.
use mathlib.Core.Path.{◌≡◌, sym, ap, ◌∙◌}
use mathlib.Core.List.{List, [], ◌∷◌, ◌++◌, append-nil}
use Prim.Native.Nat.{ℕ, ◌+◌, ◌-◌, ◌*◌, ◌≤◌}
use native.Mathlib.Omega.{arith}
use lib.IntN.{ℤ}
use lib.ListN.{length, length-append, take-append-drop}
use borrow.Rule.Slice.PartMut.{mid_of, put_mid}
use Rattle.word.specs.Numbers.{bytes_of}
use Rattle.record.specs.Records.{Record}
use Rattle.record.specs.Bytes.{Kind, first_byte, operand, record_bytes, code_bytes, over}
use Rattle.record.proofs.Bytes.{five_bytes, code_bytes_append}
use Rattle.record.specs.Buffer.{into}
use Rattle.base.proofs.Rests.{rest_length}
use Rattle.record.proofs.Buffer.{into_after, into_before, length_into, lent}

-- `new` is the buffer `old` with the records P from an index on
pub record Filled {Name : Type 0} (k : Kind Name) (index : ℕ) (P : List (Record Name)) (old new : List ℕ) : Type 0
  where
    pub room : 5 * index + 5 * length P ≤ length old
    pub holds : new ≡ into (5 * index) (code_bytes k P) old

-- The rest of a buffer from a record on, and the buffer with that rest as it came back
abbrev pub rest : ℕ → List ℕ → List ℕ
rest index xs = mid_of (5 * index) (length xs - 5 * index) xs

abbrev pub back : ℕ → List ℕ → List ℕ → List ℕ
back index xs ys = put_mid (5 * index) (length xs - 5 * index) xs ys

-- The rest is five bytes to a record shorter.
pub rest_size : (index : ℕ) (xs : List ℕ) → length (rest index xs) ≡ length xs - 5 * index
rest_size index xs = rest_length xs (5 * index)

module _ {Name : Type 0} {k : Kind Name} where
  -- The buffer keeps its length.
  pub kept : {index : ℕ} {P : List (Record Name)} {old new : List ℕ} → Filled k index P old new
      → length new ≡ length old
  kept {index = index} {P = P} {old = old} w =
      ap length w.holds
      ∙ length_into (5 * index) (code_bytes k P) old (omega (arith, w.room, five_bytes _ k P))

  -- ---- One write

  -- What was written over the start of a buffer stands from index 0 on,
  pub at_start : {P : List (Record Name)} {old new : List ℕ} → 5 * length P ≤ length old
      → new ≡ over (code_bytes k P) old → Filled k 0 P old new
  at_start h e = record { room = omega arith; holds = e }

  -- and the other way round.
  pub from_start : {P : List (Record Name)} {old new : List ℕ} → Filled k 0 P old new → new ≡ over (code_bytes k P) old
  from_start w = w.holds

  -- Where no record is written the buffer stays.
  pub none : {index : ℕ} {old : List ℕ} → 5 * index ≤ length old → Filled k index [] old old
  unfolding code_bytes
  none {index} {old} h = record { room = omega arith; holds = sym (take-append-drop (5 * index) old) }

  -- One record: its byte and its operand.
  pub one : {index : ℕ} {old new : List ℕ} (r : Record Name) {b : ℕ} {z : ℤ} → 5 * index + 5 ≤ length old
      → new ≡ into (5 * index) (b ∷ bytes_of z) old → b ≡ first_byte k r → z ≡ operand k r
      → Filled k index (r ∷ []) old new
  unfolding code_bytes
  one {index} {old} r h e f g = record {
    room = omega arith;
    holds = e ∙ (λ i. into (5 * index) (f i ∷ bytes_of (g i)) old)
        ∙ ap (λ (l : List ℕ). into (5 * index) l old) (sym (append-nil (record_bytes k r)));
  }

  -- Whoever was lent the rest wrote from there on.
  pub behind : {index : ℕ} {P : List (Record Name)} {xs ys : List ℕ} → 5 * index ≤ length xs
      → Filled k 0 P (rest index xs) ys → Filled k index P xs (back index xs ys)
  behind {index} {P} {xs} {ys} h w = record {
    room = omega (arith, w.room, rest_size index xs);
    holds = lent xs (5 * index) (code_bytes k P) ys (from_start w);
  }

  -- ---- Two writes

  module _ {index next : ℕ} {P Q : List (Record Name)} {old xs ys : List ℕ} (e : next ≡ index + length P) where
    -- Q right behind P,
    pub after : Filled k index P old xs → Filled k next Q xs ys → Filled k index (P ++ Q) old ys
    after v w = record {
      room = omega (arith, w.room, kept v, length-append P Q);
      holds = w.holds
          ∙ ap (into (5 * next) (code_bytes k Q)) v.holds
          ∙ into_after (5 * index) (5 * next) (code_bytes k P) (code_bytes k Q) old
          (omega (arith, five_bytes _ k P)) (omega (arith, v.room))
          ∙ ap (λ (l : List ℕ). into (5 * index) l old) (sym (code_bytes_append k P Q));
    }

    -- and P right in front of Q.
    pub before : Filled k next Q old xs → Filled k index P xs ys → Filled k index (P ++ Q) old ys
    before v w = record {
      room = omega (arith, v.room, length-append P Q);
      holds = w.holds
          ∙ ap (into (5 * index) (code_bytes k P)) v.holds
          ∙ into_before (5 * index) (5 * next) (code_bytes k P) (code_bytes k Q) old
          (omega (arith, five_bytes _ k P)) (omega (arith, v.room))
          ∙ ap (λ (l : List ℕ). into (5 * index) l old) (sym (code_bytes_append k P Q));
    }
