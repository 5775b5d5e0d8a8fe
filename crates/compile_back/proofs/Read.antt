-- What was read stands there as it is written: the record that is read at an index has the five bytes at that index, so
-- code in which each index holds a record is the bytes of these records.
use mathlib.Core.Path.{◌≡◌, refl, sym, ap, ap₂, subst, ◌∙◌}
use mathlib.Core.Bool.{Bool, true, false}
use mathlib.Core.List.{List, [], ◌∷◌, ◌++◌, append_assoc}
use mathlib.Core.Option.{none, some, some-injective}
use Prim.Native.Nat.{ℕ, zero, suc, ◌+◌, ◌-◌, ◌*◌, ◌≤◌, ◌<◌}
use native.Mathlib.Nat.{add-zero}
use native.Mathlib.Numerals.{add-one}
use native.Mathlib.Decide.{dec_lt}
use native.Mathlib.Omega.{arith}
use lib.Dec.{eqb, leb}
use lib.IntN.{ℤ, pos, negsuc}
use lib.ListN.{length, get_or, get_elem?, drop}
use lib.Seq.{drop-cons}
use mir.Syntax.{w32}
use mir.Val.{SFits}
use borrow.Author.Tests.{eqb-true, leb-true}
use Rattle.std.specs.Prelude.{if◌then◌else◌}
use Rattle.word.specs.Numbers.{number_at, bytes_of}
use Rattle.word.proofs.Claims.{bytes_of_number, numbers_fit}
use Rattle.record.specs.Records.{Record, LOAD, ADD, STORE}
use Rattle.record.specs.Bytes.{Kind, first_byte, operand, record_bytes, code_bytes}
use Rattle.record.specs.Bytes.{name_of, option_map, is_zero, record_of, record_at}
use Rattle.record.specs.Claims.{NameFits, RecordFits, CodeFits}
use Rattle.record_test.specs.Code.{is_some, numbered}
use Rattle.record_test.proofs.ByNumbers.{below_first, from_first, rest_tested}
use Rattle.compile.proofs.Entries.{none_some}

module _ {Name : Type 0} (k : Kind Name) (numbered_back : (u : ℕ) → k.number (k.name u) ≡ u) where
  -- ---- One record, by its number and its operand

  -- The record r has the first byte of number j and the operand z
  record Read (j : ℕ) (z : ℤ) (r : Record Name) : Type 0 where
    byte : first_byte k r ≡ k.first + j
    holds : operand k r ≡ z
    fit : RecordFits k r

  is_read : {j : ℕ} {z : ℤ} {r s : Record Name} → some r ≡ some s → Read j z r → Read j z s
  is_read {j} {z} {r} {s} e x = subst (Read j z) (some-injective r s e) x

  -- A record that names the operand
  name_read : (u : ℕ) → k.is_name u ≡ true → SFits w32 (pos u) → NameFits k (k.name u)
  name_read u q f = rw (numbered_back u) (q, f.sfits)

  named_read : (make : Name → Record Name) (j : ℕ) (z : ℤ) {r : Record Name} → SFits w32 z
      → ((u : ℕ) → k.is_name u ≡ true → SFits w32 (pos u) → Read j (pos u) (make (k.name u)))
      → option_map make (name_of k z) ≡ some r → Read j z r
  unfolding option_map name_of
  named_read make j (pos u) {r} f one e = by (k.is_name u) refl e
    where
      by : (b : Bool) → k.is_name u ≡ b → option_map make (if b then some (k.name u) else none) ≡ some r
          → Read j (pos u) r
      by true q e = is_read e (one u q f)
      by false q e = none_some r e
  named_read make j (negsuc u) {r} f one e = none_some r e

  -- ADD, where the operand is 0
  add_read : (z : ℤ) {r : Record Name} → (if is_zero z then some ADD else none) ≡ some r → Read 2 z r
  unfolding is_zero first_byte operand
  add_read (pos u) {r} e = by (eqb u 0) refl e
    where
      by : (b : Bool) → eqb u 0 ≡ b → (if b then some ADD else none) ≡ some r → Read 2 (pos u) r
      by true q e = is_read e (record { byte = refl; holds = ap pos (sym (eqb-true u 0 q)); fit = tt })
      by false q e = none_some r e
  add_read (negsuc u) {r} e = none_some r e

  at_number : (j : ℕ) (z : ℤ) {r : Record Name} → SFits w32 z → record_of k (numbered j) z ≡ some r → Read j z r
  unfolding numbered record_of first_byte operand
  at_number zero z f e = is_read e (record { byte = sym (add-zero k.first); holds = refl; fit = f })
  at_number (suc zero) z f e =
      named_read LOAD 1 z f
      (λ u q s. record { byte = refl; holds = ap pos (numbered_back u); fit = name_read u q s }) e
  at_number (suc (suc zero)) z f e = add_read z e
  at_number (suc (suc (suc zero))) z f e =
      named_read STORE 3 z f
      (λ u q s. record { byte = refl; holds = ap pos (numbered_back u); fit = name_read u q s }) e
  at_number (suc (suc (suc (suc zero)))) z f e = is_read e (record { byte = refl; holds = refl; fit = f })
  at_number (suc (suc (suc (suc (suc zero))))) z f e = is_read e (record { byte = refl; holds = refl; fit = f })
  at_number (suc (suc (suc (suc (suc (suc zero)))))) z f e = is_read e (record { byte = refl; holds = refl; fit = f })
  at_number (suc (suc (suc (suc (suc (suc (suc j))))))) z f e =
      let i : ℕ = suc (suc (suc (suc (suc (suc (suc j)))))) in
      let known : leb i 6 ≡ true =
      sym (rest_tested k z i (λ q. omega arith) (λ q. omega arith) (λ q. omega arith)) ∙ ap (λ o. is_some o) e in
      absurd (omega (arith, leb-true i 6 known))

  -- ---- Code

  module _ (code : List ℕ) (bytes : (i : ℕ) → get_or code i 0 < 256) where
    abbrev first : ℕ → ℕ
    first i = get_or code (5 * i) 0

    abbrev number : ℕ → ℤ
    number i = number_at code (5 * i + 1)

    -- The record at an index has the byte and the operand there.
    record_read : (i : ℕ) {r : Record Name} → record_at k code i ≡ some r
        → Read (first i - k.first) (number i) r × (k.first ≤ first i)
    unfolding record_of number_at
    record_read i {r} e =
        elim (dec_lt (first i) k.first) [
          | yes l ↦ none_some r (sym (ap (λ o. record_of k o (number i)) (below_first k.first (first i) l)) ∙ e)
          | no l ↦
              let from : k.first ≤ first i = omega arith in (
                at_number (first i - k.first) (number i)
                    (numbers_fit _ _ _ _ (bytes _) (bytes _) (bytes _) (bytes _))
                    (ap (λ o. record_of k o (number i)) (sym (from_first k.first (first i) from)) ∙ e),
                from,
              )
        ]

    -- The five bytes at an index
    abbrev five : ℕ → List ℕ
    five i =
        let at = 5 * i + 1 in
        first i ∷ get_or code at 0 ∷ get_or code (at + 1) 0 ∷ get_or code (at + 2) 0 ∷ get_or code (at + 3) 0 ∷ []

    record_is : (i : ℕ) {r : Record Name} → record_at k code i ≡ some r → (record_bytes k r ≡ five i) × RecordFits k r
    unfolding number_at
    record_is i e =
        let (x, from) = record_read i e in
        let same : k.first + (first i - k.first) ≡ first i = omega arith in (
          ap₂ (λ (b : ℕ) (l : List ℕ). b ∷ l) (x.byte ∙ same)
              (ap bytes_of x.holds ∙ bytes_of_number _ _ _ _ (bytes _) (bytes _) (bytes _) (bytes _)),
          x.fit,
        )

    one_on : (n m : ℕ) → m ≡ n + 1 → n < length code → drop n code ≡ get_or code n 0 ∷ drop m code
    one_on n m e h = drop-cons code n 0 h ∙ ap (λ (j : ℕ). get_or code n 0 ∷ drop j code) (sym (e ∙ add-one n))

    five_on : (i : ℕ) → 5 * i + 5 ≤ length code → drop (5 * i) code ≡ five i ++ drop (5 * suc i) code
    five_on i h =
        let at : ℕ = 5 * i + 1 in
        one_on (5 * i) at refl (omega arith)
        ∙ ap (λ l. get_or code (5 * i) 0 ∷ l) (one_on at (at + 1) refl (omega arith)
        ∙ ap (λ l. get_or code at 0 ∷ l) (one_on (at + 1) (at + 2) (omega arith) (omega arith)
        ∙ ap (λ l. get_or code (at + 1) 0 ∷ l) (one_on (at + 2) (at + 3) (omega arith) (omega arith)
        ∙ ap (λ l. get_or code (at + 2) 0 ∷ l) (one_on (at + 3) (5 * suc i) (omega arith) (omega arith)))))

    -- Records at the indices from i on are the bytes from there on.
    pub records_stand : (P : List (Record Name)) (i : ℕ) → 5 * (i + length P) ≤ length code
        → ((j : ℕ) → j < length P → record_at k code (i + j) ≡ get_elem? P j)
        → (drop (5 * i) code ≡ code_bytes k P ++ drop (5 * (i + length P)) code) × CodeFits k P
    unfolding code_bytes
    records_stand [] i h e = (ap (λ (n : ℕ). drop (5 * n) code) (sym (add-zero i)), tt)
    records_stand (r ∷ P) i h e =
        let last : suc i + length P ≡ i + suc (length P) = omega arith in
        let here = record_is i (rw add-zero at (e 0 (omega arith))) in
        let rest =
        records_stand P (suc i) (omega arith) (λ j l. let next : suc i + j ≡ i + suc j = omega arith in
        rw next (e (suc j) (omega arith))) in (
          five_on i (omega arith)
              ∙ ap₂ ◌++◌ (sym here.0) (rest.0 ∙ ap (λ (n : ℕ). code_bytes k P ++ drop (5 * n) code) last)
              ∙ sym (append_assoc (record_bytes k r) (code_bytes k P) (drop (5 * (i + suc (length P))) code)),
          (here.1, rest.1),
        )
