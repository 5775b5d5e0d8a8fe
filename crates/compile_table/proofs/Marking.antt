-- The pass over a table: the word has the address marks of the entries seen, and n of these are not 0.
use mathlib.Core.Path.{◌≡◌, refl, sym, ap, ◌∙◌}
use mathlib.Core.List.{List, ◌∷◌}
use Prim.Native.Nat.{ℕ, suc, ◌+◌, ◌-◌, ◌*◌, ◌%◌, ◌^◌, ◌<◌, ◌≤◌}
use native.Mathlib.Numerals.{add-one}
use native.Mathlib.Omega.{arith}
use lib.Bits.{bit_or, or_lt, or_zero_r}
use lib.Dec.{lit<}
use lib.ListN.{length, get_or, drop, drop_of_length-le}
use lib.Seq.{drop-cons}
use borrow.Author.Tests.{eq-eqb, ne_eqb, lt-ltb, le-ltb}
use Rattle.std.proofs.lemmas.Nat.{one_shl}
use Rattle.compile.specs.Table.{times, named_in}
use Rattle.compile_table.specs.AddressMarks.{address_bit, address_marks}
use Rattle.compile_table.proofs.Bits.{or_assoc}
use Rattle.compile_table.proofs.AddressMarks.{address_bit_small}

-- The entries before v are seen: with the address marks of the others the word has those of all.
pub record Seen (t : List ℕ) (word n v : ℕ) : Type 0 where
  pub most : v ≤ length t
  pub few : n ≤ v
  pub fits : word < 2 ^ 64
  pub marked : bit_or word (address_marks (drop v t)) ≡ address_marks t
  pub named : n + times 0 t ≡ v + times 0 (drop v t)

pub seen_start : (t : List ℕ) → Seen t 0 0 0
seen_start t = record { most = omega arith; few = omega arith; fits = lit< tt; marked = refl; named = refl }

module _ {t : List ℕ} {word n v : ℕ} (i : Seen t word n v) (h : v < length t) where
  abbrev x : ℕ
  x = get_or t v 0

  next : drop v t ≡ x ∷ drop (v + 1) t
  next = drop-cons t v 0 h ∙ ap (λ k. x ∷ drop k t) (sym (add-one v))

  -- The next entry: its bit is set,
  with_bit : bit_or (bit_or word (address_bit x)) (address_marks (drop (v + 1) t)) ≡ address_marks t
  unfolding address_marks
  with_bit =
      or_assoc word (address_bit x) (address_marks (drop (v + 1) t))
      ∙ sym (ap (λ l. bit_or word (address_marks l)) next)
      ∙ i.marked

  -- or it has none.
  without_bit : address_bit x ≡ 0 → bit_or word (address_marks (drop (v + 1) t)) ≡ address_marks t
  without_bit e =
      ap (λ w. bit_or w (address_marks (drop (v + 1) t))) (sym (or_zero_r word) ∙ ap (bit_or word) (sym e)) ∙ with_bit

  -- The entry is 0,
  pub seen_zero : x ≡ 0 → Seen t word n (v + 1)
  unfolding times address_bit
  seen_zero e =
      let one_less : times 0 (drop v t) ≡ suc (times 0 (drop (v + 1) t)) =
      ap (times 0) next ∙ simp (eq-eqb x 0 e) refl in
      record {
        most = omega arith;
        few = omega (arith, i.few);
        fits = i.fits;
        marked = without_bit (ap address_bit e);
        named = omega (arith, i.named, one_less);
      }

  module _ (e : x ≡ 0 → ⊥) where
    before : suc (x - 1) ≡ x
    before = omega (arith, e)

    one_more_named : n + 1 + times 0 t ≡ v + 1 + times 0 (drop (v + 1) t)
    unfolding times
    one_more_named =
        let as_many : times 0 (drop v t) ≡ times 0 (drop (v + 1) t) = ap (times 0) next ∙ simp (ne_eqb x 0 e) refl in
        omega (arith, i.named, as_many)

    -- or an address,
    pub seen_address : x ≤ 64 → Seen t (bit_or word (1 * 2 ^ (x - 1) % 2 ^ 64)) (n + 1) (v + 1)
    unfolding address_bit
    seen_address l =
        let low : x - 1 < 64 = omega (arith, e) in
        let shifted : address_bit x ≡ 1 * 2 ^ (x - 1) % 2 ^ 64 =
        ap address_bit (sym before) ∙ simp (lt-ltb (x - 1) 64 low) (sym (one_shl (x - 1) 64 low)) in
        record {
          most = omega arith;
          few = omega (arith, i.few);
          fits = rw (sym shifted) (or_lt 64 word (address_bit x) i.fits (address_bit_small x));
          marked = ap (λ w. bit_or (bit_or word w) (address_marks (drop (v + 1) t))) (sym shifted) ∙ with_bit;
          named = one_more_named;
        }

    -- or above 64.
    pub seen_above : 64 < x → Seen t word (n + 1) (v + 1)
    unfolding address_bit
    seen_above l =
        let none : address_bit x ≡ 0 =
        ap address_bit (sym before) ∙ simp (le-ltb (x - 1) 64 (omega (arith, e))) refl in
        record {
          most = omega arith;
          few = omega (arith, i.few);
          fits = i.fits;
          marked = without_bit none;
          named = one_more_named;
        }

-- All are seen.
pub seen_all : {t : List ℕ} {word n v : ℕ} → Seen t word n v → length t ≤ v
    → (word ≡ address_marks t) × (n ≡ named_in t)
unfolding address_marks times
seen_all {t} {word} {v = v} i h =
    let none = drop_of_length-le t {i = v} h in
    let zeros : times 0 (drop v t) ≡ 0 = ap (times 0) none in (
      sym (ap (λ l. bit_or word (address_marks l)) none ∙ or_zero_r word) ∙ i.marked,
      omega (arith, i.most, i.named, zeros),
    )
