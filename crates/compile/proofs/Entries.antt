-- Addresses: they are at most the number of variables, no two variables share one, and exactly the variables that
-- records name have one; the table holds them. By going through the list of variables.
use mathlib.Core.Path.{◌≡◌, refl, sym, ◌∙◌, ap}
use Prim.Native.Nat.{ℕ, zero, suc, ◌+◌, ◌≤◌, ◌<◌}
use native.Mathlib.Nat.{add-zero, add-suc, suc-add, zero-add}
use native.Mathlib.Decide.{dec_lt}
use native.Mathlib.Omega.{arith}
use mathlib.Core.Bool.{Bool, true, false, not, ◌||◌, or-true}
use mathlib.Core.List.{List, [], ◌∷◌}
use mathlib.Core.Option.{Option, none, some, some-injective}
use lib.Dec.{eqb, eqb-suc-zero}
use lib.ListN.{length, get_or, get_elem?, get_or-eq_default}
use borrow.Author.Tests.{eqb-true, eqb-false, eq-eqb}
use Rattle.std.specs.Prelude.{if◌then◌else◌}
use Rattle.record.specs.Records.{Record, LOADI, LOAD, ADD, STORE, JMP, JMPLESS, JMPGE, AssemblyCode, named, rename}
use Rattle.record.specs.Bytes.{option_map}
use Rattle.record.specs.declared.Variable.{Variable}
use Rattle.compile.specs.Table.{member, once, mentions, vars, addr_of, entries, table}

-- ---- Members

pub member_first : (x : ℕ) (xs : List ℕ) → member x (x ∷ xs) ≡ true
unfolding member
member_first x xs = simp (eq-eqb x x refl)

pub member_later : (x : ℕ) (xs : List ℕ) (a : ℕ) → member a xs ≡ true → member a (x ∷ xs) ≡ true
unfolding member
member_later x xs a m = by (eqb x a)
  where
    by : (b : Bool) → (if b then true else member a xs) ≡ true
    by true = refl
    by false = m

-- ---- A variable's address

-- An address is at most the number of variables.
pub address_most : (xs : List ℕ) (v : ℕ) → addr_of xs v ≤ length xs
unfolding addr_of
address_most [] v = omega arith
address_most (x ∷ xs) v = by (eqb x v) (address_most xs v)
  where
    by : (b : Bool) → addr_of xs v ≤ length xs → (if b then suc (length xs) else addr_of xs v) ≤ suc (length xs)
    by true h = omega arith
    by false h = omega arith

-- No two variables share an address.
pub address_distinct : (xs : List ℕ) (v w : ℕ) → 0 < addr_of xs v → addr_of xs v ≡ addr_of xs w → v ≡ w
unfolding addr_of
address_distinct [] v w l e = absurd (omega arith)
address_distinct (x ∷ xs) v w l e = by (eqb x v) (eqb x w) refl refl (address_distinct xs v w) l e
  where
    by : (b c : Bool) → eqb x v ≡ b → eqb x w ≡ c → (0 < addr_of xs v → addr_of xs v ≡ addr_of xs w → v ≡ w)
        → 0 < (if b then suc (length xs) else addr_of xs v)
        → (if b then suc (length xs) else addr_of xs v) ≡ (if c then suc (length xs) else addr_of xs w) → v ≡ w
    by true true p q i l e = sym (eqb-true x v p) ∙ eqb-true x w q
    by true false p q i l e = absurd (omega (arith, address_most xs w))
    by false true p q i l e = absurd (omega (arith, address_most xs v))
    by false false p q i l e = i l e

-- An address is 0 where the variable is not among them.
pub address_none : (xs : List ℕ) (v : ℕ) → eqb (addr_of xs v) 0 ≡ not (member v xs)
unfolding addr_of member
address_none [] v = refl
address_none (x ∷ xs) v = by (eqb x v) (address_none xs v)
  where
    by : (b : Bool) → eqb (addr_of xs v) 0 ≡ not (member v xs)
        → eqb (if b then suc (length xs) else addr_of xs v) 0 ≡ not (if b then true else member v xs)
    by true h = eqb-suc-zero (length xs)
    by false h = h

pub member_address : (xs : List ℕ) (v : ℕ) → member v xs ≡ true → 0 < addr_of xs v
member_address xs v m =
    let a = addr_of xs v in omega (arith, eqb-false a 0 (address_none xs v ∙ ap not m))

-- ---- The table

-- The v-th entry from u on is the address of u + v.
entries_at : (xs : List ℕ) (u k v : ℕ) → v < k → get_or (entries xs u k) v 0 ≡ addr_of xs (u + v)
unfolding entries
entries_at xs u zero v l = absurd (omega arith)
entries_at xs u (suc k) zero l = ap (addr_of xs) (sym (add-zero u))
entries_at xs u (suc k) (suc v) l =
    entries_at xs (suc u) k v (omega arith) ∙ ap (addr_of xs) (suc-add u v ∙ sym (add-suc u v))

pub length_entries : (xs : List ℕ) (u k : ℕ) → length (entries xs u k) ≡ k
unfolding entries
length_entries xs u zero = refl
length_entries xs u (suc k) = ap suc (length_entries xs (suc u) k)

module _ (P : AssemblyCode) where
  -- A variable's entry is its address,
  pub table_at : (v : ℕ) → v < 64 → get_or (table P) v 0 ≡ addr_of (vars P) v
  table_at v l = entries_at (vars P) 0 64 v l ∙ ap (addr_of (vars P)) (zero-add v)

  -- and past the 64 variables there is none.
  table_past : (v : ℕ) → 64 ≤ v → get_or (table P) v 0 ≡ 0
  table_past v l = get_or-eq_default (table P) 0 (omega (arith, length_entries (vars P) 0 64))

  -- Entries are at most the number of variables.
  pub table_small : (v : ℕ) → get_or (table P) v 0 ≤ length (vars P)
  table_small v =
      elim (dec_lt v 64) [
        | yes l ↦ omega (arith, table_at v l, address_most (vars P) v)
        | no l ↦ omega (arith, table_past v (omega arith))
      ]

-- Where entries are not 0, they are distinct
abbrev pub Distinct : List ℕ → Type 0
Distinct t = (v w : ℕ) → 0 < get_or t v 0 → get_or t v 0 ≡ get_or t w 0 → v ≡ w

pub table_distinct : (P : AssemblyCode) → Distinct (table P)
table_distinct P v w l e =
    address_distinct (vars P) v w
    (omega (arith, table_at P v (inside v l)))
    (sym (table_at P v (inside v l)) ∙ e ∙ table_at P w (inside w (omega arith)))
  where
    inside : (u : ℕ) → 0 < get_or (table P) u 0 → u < 64
    inside u h = elim (dec_lt u 64) [ yes l ↦ l | no l ↦ absurd (omega (arith, table_past P u (omega arith))) ]

-- ---- What records name

-- A renamed record names what became of the name.
pub named_rename : {X Y : Type 0} (f : X → Y) (r : Record X) → named (rename f r) ≡ option_map f (named r)
unfolding rename option_map
named_rename f (LOADI z) = refl
named_rename f (LOAD x) = refl
named_rename f ADD = refl
named_rename f (STORE x) = refl
named_rename f (JMP i) = refl
named_rename f (JMPLESS i) = refl
named_rename f (JMPGE i) = refl

-- What is none is not some.
pub none_some : {A B : Type 0} (a : A) → none ≡ some a → B
none_some a e = let z : ◌≡◌ {A = ℕ} 0 1 = cc in absurd (omega arith)

module _ {Name : Type 0} (number : Name → ℕ) where
  -- Is w what a record names?
  abbrev pub is_named : ℕ → Option Name → Bool
  is_named w none = false
  is_named w (some x) = eqb (number x) w

  -- Among what records name are what the first names and what the others name.
  pub member_once : (w : ℕ) (o : Option Name) (xs : List ℕ)
      → member w (once number o xs) ≡ (is_named w o || member w xs)
  unfolding member once
  member_once w none xs = refl
  member_once w (some x) xs = by (member (number x) xs) refl
    where
      first : (b : Bool) → (if b then true else member w xs) ≡ (b || member w xs)
      first true = refl
      first false = refl

      among : (b : Bool) → eqb (number x) w ≡ b → member (number x) xs ≡ true → member w xs ≡ (b || member w xs)
      among true e m = ap (λ u. member u xs) (sym (eqb-true (number x) w e)) ∙ m
      among false e m = refl

      by : (b : Bool) → member (number x) xs ≡ b
          → member w (if b then xs else number x ∷ xs) ≡ (eqb (number x) w || member w xs)
      by true m = among (eqb (number x) w) refl m
      by false m = first (eqb (number x) w)

  -- One record more in front of Q: it names x, which comes in front unless it is among what Q names;
  pub mentions_one : (r : Record Name) (Q : List (Record Name)) {x : Name} → named r ≡ some x
      → mentions number (r ∷ Q)
      ≡ (if member (number x) (mentions number Q) then mentions number Q else number x ∷ mentions number Q)
  unfolding mentions once
  mentions_one r Q e = ap (λ (o : Option Name). once number o (mentions number Q)) e

  -- or it names nothing.
  pub mentions_none : (r : Record Name) (Q : List (Record Name)) → named r ≡ none
      → mentions number (r ∷ Q) ≡ mentions number Q
  unfolding mentions once
  mentions_none r Q e = ap (λ (o : Option Name). once number o (mentions number Q)) e

  -- What a record names is among them.
  pub named_member : (P : List (Record Name)) (p : ℕ) (x : Name) (r : Record Name) → get_elem? P p ≡ some r
      → named r ≡ some x → member (number x) (mentions number P) ≡ true
  unfolding mentions
  named_member [] p x r e f = none_some r e
  named_member (q ∷ P) zero x r e f =
      let same : named q ≡ some x = ap {B = Option Name} named (some-injective q r e) ∙ f in
      simp (member_once, same, eq-eqb (number x) (number x) refl)
  named_member (q ∷ P) (suc p) x r e f = simp (member_once, named_member P p x r e f, or-true)

-- A variable that a record names has an address.
pub named_address : (P : AssemblyCode) (p : ℕ) (v : Variable) (r : Record Variable) → get_elem? P p ≡ some r
    → named r ≡ some v → 0 < addr_of (vars P) v.0
named_address P p v r e f = member_address (vars P) v.0 (named_member (λ v. v.0) P p v r e f)
