-- A table that passes and machine code agree exactly when both are made of one assembly (Claims: AgreeingPairs). If
-- they agree, each address is the entry of its variable and the place from the end at which that variable is named, so
-- going back and translating again changes nothing. The other way, what the translation makes of any assembly agrees.
use mathlib.Core.Path.{◌≡◌, refl, sym, ◌∙◌, ap}
use Prim.Native.Nat.{ℕ, suc, ◌+◌, ◌≤◌, ◌<◌}
use native.Mathlib.Nat.{add-zero, zero-add, suc-add, add-suc}
use native.Mathlib.Decide.{dec_lt}
use native.Mathlib.Omega.{arith}
use mathlib.Core.Bool.{Bool, true, false, not}
use mathlib.Core.List.{List, [], ◌∷◌, map}
use mathlib.Core.Option.{Option, none, some, some-injective}
use lib.Dec.{eqb}
use lib.ListN.{length, get_or, length-map}
use lib.Seq.{ext_get_or}
use borrow.Author.Tests.{eqb-true, eqb-false, eq-eqb, ne_eqb}
use Rattle.std.specs.Prelude.{if◌then◌else◌}
use Rattle.base.proofs.Settled.{both}
use Rattle.record.specs.Records.{Record, AssemblyCode, MachineCode, named, rename, variable, address}
use Rattle.record.specs.Bytes.{option_map}
use Rattle.record.specs.declared.Variable.{Variable}
use Rattle.compile.specs.Claims.{OneAssembly, AgreeingPairs}
use Rattle.compile.specs.Table.{member, mentions, vars, addr_of, to_m_prog, table, times, named_in, is_table}
use Rattle.compile.specs.Table.{addresses, in_order, agrees, variable_at, to_assembly}
use Rattle.compile.proofs.Entries.{none_some, member_first, member_later, address_none, length_entries}
use Rattle.compile.proofs.Entries.{table_at, named_rename, named_member}
use Rattle.compile.proofs.Tables.{Sound, sound_once, named_sound}
use Rattle.compile.proofs.Passing.{stands_once, entries_most, entries_distinct}
use Rattle.compile.proofs.Pairs.{mentions_renamed, member_low, member_within, addresses_are, ordered}
use Rattle.compile.proofs.GoingBack.{variable_back, map_back}

-- ---- Lists

-- What is among the numbers that g makes is made of one of them.
image : (g : ℕ → ℕ) (xs : List ℕ) (v : ℕ) → member v (map g xs) ≡ true
    → (a : ℕ) × (member a xs ≡ true) × (g a ≡ v)
unfolding member
image g [] v m = let no : ◌≡◌ {A = ℕ} 0 1 = cc in absurd (omega arith)
image g (x ∷ xs) v m = by (eqb (g x) v) refl m (image g xs v)
  where
    by : (b : Bool) → eqb (g x) v ≡ b → (if b then true else member v (map g xs)) ≡ true
        → (member v (map g xs) ≡ true → (a : ℕ) × (member a xs ≡ true) × (g a ≡ v))
        → (a : ℕ) × ((if eqb x a then true else member a xs) ≡ true) × (g a ≡ v)
    by true e m i = (x, member_first x xs, eqb-true (g x) v e)
    by false e m i = let f = i m in (f.0, member_later x xs f.0 f.1, f.2)

-- Of numbers in order, each is its place from the end among what g makes of them, where g keeps them apart.
place : (g : ℕ → ℕ) (xs : List ℕ) → in_order xs ≡ true
    → ((u w : ℕ) → member u xs ≡ true → member w xs ≡ true → g u ≡ g w → u ≡ w)
    → (a : ℕ) → member a xs ≡ true → addr_of (map g xs) (g a) ≡ a
unfolding member addr_of in_order
place g [] o apart a m = let no : ◌≡◌ {A = ℕ} 0 1 = cc in absurd (omega arith)
place g (x ∷ xs) o apart a m =
    let c = both (eqb x (suc (length xs))) (in_order xs) o in
    by (eqb x a) refl m (eqb-true x (suc (length xs)) c.0) (apart x a (member_first x xs) m)
    (place g xs c.1 (λ u w k l. apart u w (member_later x xs u k) (member_later x xs w l)) a)
  where
    by : (b : Bool) → eqb x a ≡ b → (if b then true else member a xs) ≡ true → x ≡ suc (length xs)
        → (g x ≡ g a → x ≡ a) → (member a xs ≡ true → addr_of (map g xs) (g a) ≡ a)
        → (if eqb (g x) (g a) then suc (length (map g xs)) else addr_of (map g xs) (g a)) ≡ a
    by true e m q first i =
        simp (eq-eqb (g x) (g a) (ap g (eqb-true x a e))) (omega (arith, length-map xs g, eqb-true x a e))
    by false e m q first i = simp (ne_eqb (g x) (g a) (λ f. eqb-false x a e (first f))) (i m)

-- ---- The variable of an address

-- An address that stands in a table is the entry of its variable.
entry_of : (t : List ℕ) (u a : ℕ) → 1 ≤ times a t
    → (v : ℕ) × (v < length t) × (get_or t v 0 ≡ a) × (variable_at t u a ≡ u + v)
unfolding times variable_at
entry_of [] u a h = absurd (omega arith)
entry_of (x ∷ t) u a h = by (eqb x a) refl h (entry_of t (suc u) a)
  where
    by : (b : Bool) → eqb x a ≡ b → 1 ≤ (if b then suc (times a t) else times a t)
        → (1 ≤ times a t → (v : ℕ) × (v < length t) × (get_or t v 0 ≡ a) × (variable_at t (suc u) a ≡ suc u + v))
        → (v : ℕ) × (v < suc (length t)) × (get_or (x ∷ t) v 0 ≡ a)
        × ((if b then u else variable_at t (suc u) a) ≡ u + v)
    by true e h i = (0, omega arith, eqb-true x a e, sym (add-zero u))
    by false e h i =
        let f = i h in
        (suc f.0, omega (arith, f.1), f.2, f.3 ∙ suc-add u f.0 ∙ sym (add-suc u f.0))

-- A table has no other variables than its entries'.
variable_below : (t : List ℕ) (u a : ℕ) → 0 < u + length t → variable_at t u a < u + length t
unfolding variable_at
variable_below [] u a h = omega arith
variable_below (x ∷ t) u a h = by (eqb x a) (variable_below t (suc u) a (omega arith))
  where
    by : (b : Bool) → variable_at t (suc u) a < suc u + length t
        → (if b then u else variable_at t (suc u) a) < u + suc (length t)
    by true i = omega arith
    by false i = omega arith

-- What a renamed record names is made of a name.
named_from : {X Y : Type 0} (f : X → Y) (r : Record X) {y : Y} → named (rename f r) ≡ some y → (x : X) × (f x ≡ y)
unfolding option_map
named_from f r {y} e = by (named r) (sym (named_rename f r) ∙ e)
  where
    by : (o : Option _) → option_map f o ≡ some y → (x : _) × (f x ≡ y)
    by none e = none_some y e
    by (some x) e = (x, some-injective (f x) y e)

module _ (t : List ℕ) (long : length t ≡ 64) (passes : is_table t ≡ true) where
  abbrev n : ℕ
  n = named_in t

  abbrev g : ℕ → ℕ
  g = variable_at t 0

  own_entry : (a : ℕ) → 0 < a → a ≤ n → get_or t (g a) 0 ≡ a
  own_entry a l m =
      let f = entry_of t 0 a (omega (arith, stands_once t passes a l m)) in
      ap (λ v. get_or t v 0) (f.3 ∙ zero-add f.0) ∙ f.2

  -- ---- If they agree

  module _ (P : MachineCode) (agree : agrees P n ≡ true) where
    abbrev xs : List ℕ
    xs = addresses P

    in_their_order : in_order xs ≡ true
    in_their_order = (both (in_order xs) (eqb (length xs) n) agree).0

    count : length xs ≡ n
    count = eqb-true (length xs) n (both (in_order xs) (eqb (length xs) n) agree).1

    entry : (a : ℕ) → member a xs ≡ true → get_or t (g a) 0 ≡ a
    entry a m = let w = member_within xs a in_their_order m in own_entry a w.0 (omega (arith, w.1, count))

    apart : (u w : ℕ) → member u xs ≡ true → member w xs ≡ true → g u ≡ g w → u ≡ w
    apart u w k l e = sym (entry u k) ∙ ap (λ v. get_or t v 0) e ∙ entry w l

    abbrev Q : AssemblyCode
    Q = to_assembly t P

    vars_are : vars Q ≡ map g xs
    vars_are = mentions_renamed (λ a. a.0) (λ v. v.0) (λ a. variable (g a.0)) g (λ a. refl) P apart

    own_place : (a : ℕ) → member a xs ≡ true → addr_of (vars Q) (g a) ≡ a
    own_place a m = ap (λ ys. addr_of ys (g a)) vars_are ∙ place g xs in_their_order apart a m

    code_back : to_m_prog Q ≡ P
    code_back = map_back (λ a. variable (g a.0)) (λ v. address (addr_of (vars Q) v.0)) P
        (λ p a r e f. ap address (own_place a.0 (named_member (λ a. a.0) P p a r e f)))

    -- a variable with an address has it in the code, and no other variable has one there
    address_is : (v : ℕ) → Dec (0 < get_or t v 0) → addr_of (vars Q) v ≡ get_or t v 0
    address_is v (yes l) =
        let a = get_or t v 0 in
        let back : g a ≡ v = variable_back t 0 v (entries_distinct t passes) l ∙ zero-add v in
        let m = member_low xs a in_their_order l (omega (arith, entries_most t passes v, count)) in
        ap (addr_of (vars Q)) (sym back) ∙ own_place a m
    address_is v (no l) = by (member v (vars Q)) refl
      where
        by : (b : Bool) → member v (vars Q) ≡ b → addr_of (vars Q) v ≡ get_or t v 0
        by true m =
            let f = image g xs v (ap (member v) (sym vars_are) ∙ m) in
            let w = member_within xs f.0 in_their_order f.1 in
            absurd (l (omega (arith, w.0, sym (ap (λ v. get_or t v 0) f.2) ∙ entry f.0 f.1)))
        by false m =
            omega (arith, eqb-true (addr_of (vars Q) v) 0 (address_none (vars Q) v ∙ ap not m))

    table_back : table Q ≡ t
    table_back =
        ext_get_or 0 (table Q) t (length_entries (vars Q) 0 64 ∙ sym long)
        (λ v l.
        table_at Q v (omega (arith, length_entries (vars Q) 0 64)) ∙ address_is v (dec_lt 0 (get_or t v 0)))

  -- ---- If they are made of one assembly

  sound_back : (P : MachineCode) → Sound (vars (to_assembly t P))
  unfolding mentions
  sound_back [] = tt
  sound_back (r ∷ P) =
      sound_once (named (rename (λ a. variable (g a.0)) r)) (vars (to_assembly t P))
      (λ v e.
      let f = named_from (λ a. variable (g a.0)) r e in
      omega (arith, variable_below t 0 f.0.0 (omega arith), ap (λ (v : Variable). v.0) f.1))
      (sound_back P)

  made_agree : (P : MachineCode) → OneAssembly t P → agrees P n ≡ true
  made_agree P x =
      let Q = to_assembly t P in
      let are : addresses P ≡ map (addr_of (vars Q)) (vars Q) = ap addresses (sym x.same_code) ∙ addresses_are Q in
      let many : length (addresses P) ≡ n =
      ap length are ∙ length-map (vars Q) (addr_of (vars Q)) ∙ sym (named_sound (vars Q) (sound_back P))
      ∙ ap named_in x.same_table in
      simp (ap in_order are ∙ ordered Q, eq-eqb (length (addresses P)) n many)

pub agreeing_pairs : AgreeingPairs
agreeing_pairs t long passes P = (
  λ agree. record {
    same_code = code_back t long passes P agree;
    same_table = table_back t long passes P agree;
  },
  made_agree t long passes P,
)
