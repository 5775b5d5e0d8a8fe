-- Records that stand at the start of a buffer: the record at an index, and from a record on they stand at the start of
-- the rest.
use mathlib.Core.Path.{◌≡◌, sym, ap, ◌∙◌}
use mathlib.Core.List.{List, [], ◌∷◌, ◌++◌, append_assoc}
use Prim.Native.Nat.{ℕ, zero, suc, ◌+◌, ◌*◌, ◌≤◌, ◌<◌}
use native.Mathlib.Numerals.{add-one}
use native.Mathlib.Omega.{arith}
use lib.ListN.{length, get_or, take, drop, take-append-drop, length-append}
use lib.Seq.{drop_at, drop-cons, length-take-le}
use Rattle.record.specs.Records.{Record, ADD}
use Rattle.record.specs.Bytes.{Kind, record_bytes, code_bytes}
use Rattle.record.specs.Claims.{RecordFits, CodeFits}
use Rattle.record.proofs.Bytes.{five_bytes, code_bytes_append}
use Rattle.compile_translation.specs.Standing.{Stands}

-- ---- The record at an index

module _ {Name : Type 0} (k : Kind Name) where
  -- It fits where all do.
  pub fits_at : (P : List (Record Name)) (i : ℕ) → i < length P → CodeFits k P → RecordFits k (get_or P i ADD)
  fits_at [] i h f = absurd (omega arith)
  fits_at (r ∷ P) zero h f = f.0
  fits_at (r ∷ P) (suc i) h f = fits_at P i (omega arith) f.1

  -- The bytes of the records from i on are its bytes and those of the records after it.
  pub bytes_from : (P : List (Record Name)) (i : ℕ) → i < length P
      → code_bytes k (drop i P) ≡ record_bytes k (get_or P i ADD) ++ code_bytes k (drop (i + 1) P)
  unfolding code_bytes
  bytes_from P i h = rw (add-one i, drop-cons P i ADD h)

  module _ {P : List (Record Name)} {lent : List ℕ} {count : ℕ} {code : List ℕ} (s : Stands k P lent count code) where
    -- What stands after the records
    abbrev pub after : List ℕ
    after = drop (5 * length P) lent

    pub stand_all : code ≡ code_bytes k P ++ after
    stand_all = s.stand ∙ ap (λ (n : ℕ). code_bytes k P ++ drop n lent) (five_bytes Name k P)

    pub stand_long : 5 * count ≤ length code
    stand_long = omega (arith, ap length stand_all, length-append (code_bytes k P) after, five_bytes Name k P, s.all)

    -- The records from i on stand at the start of the rest.
    pub stand_from : (i : ℕ) → i ≤ length P → drop (5 * i) code ≡ code_bytes k (drop i P) ++ after
    stand_from i h =
        let front = code_bytes k (take i P) in
        let size : length front ≡ 5 * i = omega (arith, five_bytes Name k (take i P), length-take-le i P h) in
        let parts : code_bytes k P ≡ front ++ code_bytes k (drop i P) =
        ap (code_bytes k) (sym (take-append-drop i P)) ∙ code_bytes_append k (take i P) (drop i P) in
        ap (drop (5 * i))
        (stand_all ∙ ap (λ (l : List ℕ). l ++ after) parts ∙ append_assoc front (code_bytes k (drop i P)) after)
        ∙ drop_at front (code_bytes k (drop i P) ++ after) (5 * i) size
