-- Addresses at their first sight, from the last record backwards. While they are 1, 2 and on, an address was seen
-- before exactly when it is not above how many were seen; so each record is told by one comparison. Where one of them
-- is out of order, so are those of all the records.
use mathlib.Core.Path.{◌≡◌, refl, sym, ap, ◌∙◌, subst}
use mathlib.Core.Bool.{Bool, true, false, ◌||◌, ◌&&◌}
use mathlib.Core.List.{List, [], ◌∷◌}
use mathlib.Core.Option as maybe
use mathlib.Core.Option.{none, some}
use Prim.Native.Nat.{ℕ, zero, suc, ◌+◌, ◌-◌, ◌*◌, ◌<◌, ◌≤◌}
use native.Mathlib.Omega.{arith}
use lib.Dec.{eqb, leb}
use lib.IntN.{ℤ}
use lib.ListN.{length, get_or, get_elem?, drop, drop_of_length-le}
use borrow.Author.Tests.{eqb-true, eq-eqb, ne_eqb, leb-true}
use Rattle.std.specs.Prelude.{if◌then◌else◌, Option, Some, None}
use Rattle.base.proofs.Settled.{both}
use Rattle.word.specs.Numbers.{number_at}
use Rattle.record.specs.Records.{Record, LOADI, JMP, JMPLESS, JMPGE, MachineCode, named, address}
use Rattle.record.specs.Bytes.{machine_kind, loadi, load, add, store, jmp, jmpless, jmpge, unknown, operation, is_zero}
use Rattle.record.specs.Bytes.{record_of, record_at}
use Rattle.record.specs.declared.Address.{Address}
use Rattle.record.proofs.Decoding.{as_add, is_load, is_store, address_at_most, record_due}
use Rattle.record.proofs.Tested.{records_length}
use Rattle.compile.specs.Table.{member, mentions, addresses, in_order, agrees}
use Rattle.compile.proofs.Entries.{none_some, mentions_one, mentions_none}
use Rattle.compile.proofs.Pairs.{member_low, member_high}
use Rattle.compile_table.specs.Sights.{address_at, Passed}

-- ---- What a record names, by its bytes

-- No other record than LOAD and STORE names anything.
others : (n : ℕ) (z : ℤ) (r : Record Address) (a b c d e : Bool)
    → record_of (machine_kind n) (if a then loadi else if b then add else if c then jmp else
    if d then jmpless else if e then jmpge else unknown) z ≡ some r → named r ≡ none
unfolding record_of
others n z r true b c d e h = let is : LOADI z ≡ r = cc in ap {B = maybe.Option Address} named (sym is)
others n z r false true c d e h = ap {B = maybe.Option Address} named (as_add (is_zero z) h)
others n z r false false true d e h = let is : JMP z ≡ r = cc in ap {B = maybe.Option Address} named (sym is)
others n z r false false false true e h = let is : JMPLESS z ≡ r = cc in ap {B = maybe.Option Address} named (sym is)
others n z r false false false false true h = let is : JMPGE z ≡ r = cc in ap {B = maybe.Option Address} named (sym is)
others n z r false false false false false h = none_some r h

-- What the answer from the bytes of a record says of it
abbrev Tells : ℕ → Record Address → Option Address → Type 0
Tells n r None = named r ≡ none
Tells n r (Some a) = (named r ≡ some a) × (0 < a.0) × (a.0 ≤ n)

module _ (code : List ℕ) (n i : ℕ) (few : n ≤ 64) (r : Record Address)
    (there : record_at (machine_kind n) code i ≡ some r) where
  abbrev byte : ℕ
  byte = get_or code (5 * i) 0

  abbrev low : ℕ
  low = get_or code (5 * i + 1) 0

  small : (u : ℕ) → (machine_kind n).is_name u ≡ true → u < 256
  small u e = omega (arith, address_at_most n u e)

  tells_name : (machine_kind n).is_name low ≡ true → named r ≡ some (address low) → Tells n r (Some (address low))
  tells_name e f = (f, leb-true 1 low (both (leb 1 low) (leb low n) e).0, address_at_most n low e)

  tells : Tells n r (address_at code i)
  unfolding address_at operation
  tells = by (eqb byte 0x51) (eqb byte 0x53) refl refl
    where
      by : (l s : Bool) → eqb byte 0x51 ≡ l → eqb byte 0x53 ≡ s
          → Tells n r (if l || s then Some (address low) else None)
      by true s e f =
          let o : operation 0x50 byte ≡ load = ap (operation 0x50) (eqb-true byte 0x51 e) in
          let x = is_load (machine_kind n) code i r there small o in
          tells_name x.0 (ap {B = maybe.Option Address} named x.1)
      by false true e f =
          let o : operation 0x50 byte ≡ store = ap (operation 0x50) (eqb-true byte 0x53 f) in
          let x = is_store (machine_kind n) code i r there small o in
          tells_name x.0 (ap {B = maybe.Option Address} named x.1)
      by false false e f =
          let z = number_at code (5 * i + 1) in
          others n z r (eqb byte 0x50) (eqb byte 0x52) (eqb byte 0x54) (eqb byte 0x55) (eqb byte 0x56)
          (rw (e, f) at there)

-- ---- One record more in front of Q

-- The addresses of Q are 1, 2 and on to `seen`
pub record Sighted (Q : MachineCode) (seen : ℕ) : Type 0 where
  pub ordered : in_order (addresses Q) ≡ true
  pub all : length (addresses Q) ≡ seen

none_seen : Sighted [] 0
unfolding mentions in_order
none_seen = record { ordered = refl; all = refl }

module _ (r : Record Address) (Q : MachineCode) {seen : ℕ} (s : Sighted Q seen) where
  -- It names nothing,
  names_none : named r ≡ none → Sighted (r ∷ Q) seen
  names_none e =
      let same = mentions_none (λ a. a.0) r Q e in
      record { ordered = ap in_order same ∙ s.ordered; all = ap length same ∙ s.all }

  module _ {a : Address} (e : named r ≡ some a) where
    grown : (b : Bool) → member a.0 (addresses Q) ≡ b
        → addresses (r ∷ Q) ≡ (if b then addresses Q else a.0 ∷ addresses Q)
    grown b m =
        mentions_one (λ a. a.0) r Q e ∙ ap (λ (b : Bool). if b then addresses Q else a.0 ∷ addresses Q) m

    -- an address that was seen before,
    names_again : 0 < a.0 → a.0 ≤ seen → Sighted (r ∷ Q) seen
    names_again l m =
        let same = grown true (member_low (addresses Q) a.0 s.ordered l (omega (arith, s.all))) in
        record { ordered = ap in_order same ∙ s.ordered; all = ap length same ∙ s.all }

    -- the next one,
    above : seen < a.0 → addresses (r ∷ Q) ≡ a.0 ∷ addresses Q
    above l = grown false (member_high (addresses Q) a.0 s.ordered (omega (arith, s.all)))

    names_next : a.0 ≡ seen + 1 → Sighted (r ∷ Q) (seen + 1)
    unfolding in_order
    names_next q =
        let same = above (omega arith) in
        record {
          ordered = ap in_order same
              ∙ simp (eq-eqb a.0 (suc (length (addresses Q))) (omega (arith, s.all)), s.ordered);
          all = ap length same ∙ omega (arith, s.all);
        }

    -- or one out of order
    names_other : seen < a.0 → (a.0 ≡ seen + 1 → ⊥) → in_order (addresses (r ∷ Q)) ≡ false
    unfolding in_order
    names_other l differs =
        ap in_order (above l)
        ∙ simp (ne_eqb a.0 (suc (length (addresses Q))) (λ q. differs (omega (arith, s.all))))

-- Records in front of others keep the others' addresses in their order.
behind : (r : Record Address) (Q : MachineCode) → in_order (addresses Q) ≡ false → in_order (addresses (r ∷ Q)) ≡ false
unfolding in_order
behind r Q e = by (named r) refl
  where
    first : (b : Bool) (a : ℕ) → addresses (r ∷ Q) ≡ (if b then addresses Q else a ∷ addresses Q)
        → in_order (addresses (r ∷ Q)) ≡ false
    first true a same = ap in_order same ∙ e
    first false a same = ap in_order same ∙ front (eqb a (suc (length (addresses Q))))
      where
        front : (b : Bool) → (b && in_order (addresses Q)) ≡ false
        front true = e
        front false = refl

    by : (o : maybe.Option Address) → named r ≡ o → in_order (addresses (r ∷ Q)) ≡ false
    by none f = ap in_order (mentions_none (λ a. a.0) r Q f) ∙ e
    by (some a) f = first (member a.0 (addresses Q)) a.0 (mentions_one (λ a. a.0) r Q f)

out_of_order : (P : MachineCode) (i : ℕ) → in_order (addresses (drop i P)) ≡ false
    → in_order (addresses P) ≡ false
out_of_order P zero e = e
out_of_order [] (suc i) e = e
out_of_order (r ∷ P) (suc i) e = behind r P (out_of_order P i e)

-- ---- The records of code that passed

-- A record in front of those after it
drop_one : {A : Type 0} (P : List A) (i : ℕ) (r : A) → get_elem? P i ≡ some r → drop i P ≡ r ∷ drop (suc i) P
drop_one [] i r e = none_some r e
drop_one (q ∷ P) zero r e = let same : q ≡ r = cc in ap (λ q. q ∷ P) same
drop_one (q ∷ P) (suc i) r e = drop_one P i r e

module _ {code : List ℕ} {count n : ℕ} (x : Passed code count n) where
  -- Those from index i on are seen
  abbrev pub Seen : ℕ → ℕ → Type 0
  Seen i seen = Sighted (drop i x.records) seen

  pub seen_start : Seen count 0
  seen_start =
      let all = records_length (machine_kind n) code 0 count x.given in
      subst (λ Q. Sighted Q 0) (sym (drop_of_length-le x.records {i = count} (omega arith))) none_seen

  pub seen_all : {i seen : ℕ} → Seen i seen → i ≤ 0 → eqb seen n ≡ agrees x.records n
  seen_all {i} {seen} s z =
      let first : i ≡ 0 = omega arith in
      let t : Seen 0 seen = subst (λ i. Seen i seen) first s in
      ap (λ k. eqb k n) (sym t.all) ∙ simp t.ordered

  -- The record in front of them: its bytes tell what it names
  record InFront (i : ℕ) (o : Option Address) : Type 0 where
    one : Record Address
    stands : drop (i - 1) x.records ≡ one ∷ drop i x.records
    told : Tells n one o

  in_front : {i : ℕ} {o : Option Address} → 0 < i → i ≤ count → o ≡ address_at code (i - 1) → InFront i o
  in_front {i} l m e =
      let d = record_due (machine_kind n) code x.records count (i - 1) x.given (omega arith) in
      let next : suc (i - 1) ≡ i = omega arith in
      record {
        one = d.due;
        stands = drop_one x.records (i - 1) d.due d.listed ∙ ap (λ i. d.due ∷ drop i x.records) next;
        told = subst (λ o. Tells n d.due o) (sym e) (tells code n (i - 1) x.few d.due d.there);
      }

  module _ {i seen : ℕ} (s : Seen i seen) (l : 0 < i) (m : i ≤ count) where
    one_more : {o : Option Address} (f : InFront i o) {k : ℕ} → Sighted (f.one ∷ drop i x.records) k → Seen (i - 1) k
    one_more f {k} = subst (λ Q. Sighted Q k) (sym f.stands)

    -- It names nothing,
    pub seen_none : None ≡ address_at code (i - 1) → Seen (i - 1) seen
    seen_none e = let f = in_front l m e in one_more f (names_none f.one _ s f.told)

    module _ {a : Address} (e : Some a ≡ address_at code (i - 1)) where
      f : InFront i (Some a)
      f = in_front l m e

      -- an address that was seen before,
      pub seen_again : a.0 ≤ seen → Seen (i - 1) seen
      seen_again h = one_more f (names_again f.one _ s f.told.0 f.told.1 h)

      -- the next address,
      pub seen_next : a.0 ≡ seen + 1 → Seen (i - 1) (seen + 1)
      seen_next q = one_more f (names_next f.one _ s f.told.0 q)

      pub seen_most : a.0 ≤ n
      seen_most = f.told.2

      -- or one out of order
      pub seen_other : seen < a.0 → (a.0 ≡ seen + 1 → ⊥) → false ≡ agrees x.records n
      seen_other h differs =
          let here = names_other f.one _ s f.told.0 h differs in
          simp (out_of_order x.records (i - 1) (ap (λ Q. in_order (addresses Q)) f.stands ∙ here))
