-- Records renamed in place, one after the other: those below i are renamed, those from i on stand as they did. One turn
-- is lent the rest of the buffer from record i on.
use mathlib.Core.Path.{◌≡◌, sym, ap, ◌∙◌}
use mathlib.Core.List.{List, [], ◌∷◌, ◌++◌, append_assoc, append-nil, map, map-append}
use Prim.Native.Nat.{ℕ, ◌+◌, ◌-◌, ◌*◌, ◌≤◌, ◌<◌}
use native.Mathlib.Numerals.{add-one}
use native.Mathlib.Omega.{arith}
use lib.ListN.{length, get_or, take, drop, length-map, drop_of_length-le}
use lib.Seq.{take_all, take_at, drop_at, take-suc, length-take-le}
use borrow.Rule.Slice.PartMut.{mid_of, put_mid}
use Rattle.base.proofs.Rests.{rest_is, back_is}
use Rattle.record.specs.Records.{Record, ADD, rename}
use Rattle.record.specs.Bytes.{record_bytes, code_bytes, over}
use Rattle.record_test.specs.Code.{kind_of}
use Rattle.record_test.specs.declared.Kind.{Kind}
use Rattle.record.proofs.Bytes.{five_bytes, code_bytes_append}
use Rattle.compile_translation.specs.Standing.{Stands, Renames, Renamable}
use Rattle.compile_translation.specs.Steps.{renamed_front}
use Rattle.compile_translation.proofs.Renaming.{front_renamed, front_renamable}
use Rattle.compile_translation.proofs.Standing.{fits_at, bytes_from, stand_all}

module _ (from to : Kind) (names : List ℕ) (P : List (Record ℕ)) (lent : List ℕ) where
  abbrev new : ℕ → ℕ
  new x = get_or names x 0

  -- The records below i, renamed
  abbrev done : ℕ → List ℕ
  done i = code_bytes (kind_of to) (map (rename new) (take i P))

  -- The records from i on, and what stands after all of them
  abbrev left : ℕ → List ℕ
  left i = code_bytes (kind_of from) (drop i P) ++ drop (5 * length P) lent

  pub record Rows (now : List ℕ) (i : ℕ) : Type 0 where
    pub most : i ≤ length P
    pub same : now ≡ done i ++ left i

  pub rows_start : {count : ℕ} {code : List ℕ} → Stands (kind_of from) P lent count code → Rows code 0
  unfolding code_bytes
  rows_start s = record { most = omega arith; same = stand_all (kind_of from) s }

  module _ {now : List ℕ} {i : ℕ} (r : Rows now i) where
    size : length (done i) ≡ 5 * i
    size =
        five_bytes ℕ (kind_of to) (map (rename new) (take i P))
        ∙ ap (λ (n : ℕ). 5 * n) (length-map (take i P) (rename new) ∙ length-take-le i P r.most)

    -- All of them
    pub rows_end : length P ≤ i → now ≡ over (code_bytes (kind_of to) (map (rename new) P)) lent
    unfolding code_bytes
    rows_end h =
        let all : List ℕ = code_bytes (kind_of to) (map (rename new) P) in
        let long : 5 * length P ≡ length all =
        sym (five_bytes ℕ (kind_of to) (map (rename new) P) ∙ ap (λ (n : ℕ). 5 * n) (length-map P (rename new))) in
        r.same ∙ rw (take_all i P h, drop_of_length-le P h, long)

    module _ (h : i < length P) where
      abbrev one : Record ℕ
      one = get_or P i ADD

      -- The rest that is lent starts with record i.
      rest : mid_of (5 * i) (length now - 5 * i) now ≡ record_bytes (kind_of from) one ++ left (i + 1)
      rest =
          rest_is now (5 * i)
          ∙ ap (drop (5 * i)) r.same
          ∙ drop_at (done i) (left i) (5 * i) size
          ∙ ap (λ (l : List ℕ). l ++ drop (5 * length P) lent) (bytes_from (kind_of from) P i h)
          ∙ append_assoc (record_bytes (kind_of from) one) (code_bytes (kind_of from) (drop (i + 1) P)) _

      front : take (5 * i) now ≡ done i
      front = ap (take (5 * i)) r.same ∙ take_at (done i) (left i) (5 * i) size

      -- With record i renamed, one record more is done.
      more : done i ++ (record_bytes (kind_of to) (rename new one) ++ left (i + 1)) ≡ done (i + 1) ++ left (i + 1)
      unfolding code_bytes
      more =
          let here : List ℕ = record_bytes (kind_of to) (rename new one) in
          let grows : done (i + 1) ≡ done i ++ here =
          ap (λ (Q : List (Record ℕ)). code_bytes (kind_of to) (map (rename new) Q))
          (ap (λ (j : ℕ). take j P) (add-one i) ∙ take-suc P i ADD h)
          ∙ ap (code_bytes (kind_of to)) (map-append (rename new) (take i P) (one ∷ []))
          ∙ code_bytes_append (kind_of to) (map (rename new) (take i P)) (rename new one ∷ [])
          ∙ ap (λ (l : List ℕ). done i ++ l) (append-nil here) in
          sym (append_assoc (done i) here (left (i + 1))) ∙ ap (λ (l : List ℕ). l ++ left (i + 1)) (sym grows)

      module _ {count : ℕ} {old : List ℕ} (s : Stands (kind_of from) P lent count old) (n : Renames from to names)
          (bytes : (x : ℕ) → get_or names x 0 < 256) where
        -- What renaming the rest's first record asks
        pub rows_front : Renamable from.first to.first names (mid_of (5 * i) (length now - 5 * i) now)
        rows_front =
            rw rest
            (front_renamable from to names n bytes one (left (i + 1)) (fits_at (kind_of from) P i h s.fit))

        -- One record more
        pub rows_next : {ys : List ℕ}
            → ys ≡ renamed_front from.first to.first names (mid_of (5 * i) (length now - 5 * i) now)
            → Rows (put_mid (5 * i) (length now - 5 * i) now ys) (i + 1)
        rows_next {ys} e =
            let renamed : ys ≡ record_bytes (kind_of to) (rename new one) ++ left (i + 1) =
            e ∙ ap (renamed_front from.first to.first names) rest
            ∙ front_renamed from to names n bytes one (left (i + 1)) (fits_at (kind_of from) P i h s.fit) in
            record {
              most = omega arith;
              same = back_is now (5 * i) ys ∙ (λ j. front j ++ renamed j) ∙ more;
            }
