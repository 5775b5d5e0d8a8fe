-- The machine code of a command names 1 to n in order, seen from the last record backwards (Claims: Pairs). An address
-- is a variable's place from the end among those that were named, and renaming by what keeps names apart keeps the
-- order of first sights.
use mathlib.Core.Path.{◌≡◌, refl, sym, ◌∙◌, ap, ap₂, subst}
use Prim.Native.Nat.{ℕ, suc, ◌≤◌, ◌<◌}
use native.Mathlib.Omega.{arith}
use mathlib.Core.Bool.{Bool, true, false, or-true}
use mathlib.Core.List.{List, [], ◌∷◌, map}
use mathlib.Core.Option.{Option, none, some}
use lib.Dec.{eqb}
use lib.ListN.{length, length-map}
use borrow.Author.Tests.{eqb-true, eqb-false, eq-eqb, ne_eqb}
use Rattle.std.specs.Prelude.{if◌then◌else◌}
use Rattle.base.proofs.Settled.{both}
use Rattle.text.specs.Sizes.{cells}
use Rattle.record.specs.Records.{Record, AssemblyCode, named, rename, address}
use Rattle.record.specs.Bytes.{option_map}
use Rattle.record.specs.declared.Variable.{Variable}
use Rattle.compile.specs.Claims.{Pairs}
use Rattle.compile.specs.Compilation.{ccomp}
use Rattle.compile.specs.Table.{member, mentions, vars, addr_of, to_m_prog, addresses, in_order}
use Rattle.compile.proofs.Entries.{member_first, member_later, address_distinct, member_address, member_once}
use Rattle.compile.proofs.Entries.{named_rename, mentions_one, mentions_none, named_member}
use Rattle.compile.proofs.Tables.{named_variables}

-- ---- Renaming

-- A number that g keeps apart from those of xs is among them where it is among what g makes of them.
member_map : (g : ℕ → ℕ) (v : ℕ) (xs : List ℕ) → ((w : ℕ) → member w xs ≡ true → g v ≡ g w → v ≡ w)
    → member (g v) (map g xs) ≡ member v xs
unfolding member
member_map g v [] apart = refl
member_map g v (x ∷ xs) apart =
    by (eqb x v) refl (apart x (member_first x xs)) (member_map g v xs (λ w m. apart w (member_later x xs w m)))
  where
    by : (b : Bool) → eqb x v ≡ b → (g v ≡ g x → v ≡ x) → member (g v) (map g xs) ≡ member v xs
        → (if eqb (g x) (g v) then true else member (g v) (map g xs)) ≡ (if b then true else member v xs)
    by true e first m = simp (eq-eqb (g x) (g v) (ap g (eqb-true x v e)))
    by false e first m = simp (ne_eqb (g x) (g v) (λ q. eqb-false x v e (sym (first (sym q))))) m

-- Names x become f x, and their numbers u become g u, which keeps the numbers that are named apart: then g makes of
-- what the records name what the renamed records name, in the same order.
module _ {X Y : Type 0} (number : X → ℕ) (number' : Y → ℕ) (f : X → Y) (g : ℕ → ℕ)
    (same : (x : X) → number' (f x) ≡ g (number x)) where
  abbrev pub Apart : List (Record X) → Type 0
  Apart P = (u w : ℕ) → member u (mentions number P) ≡ true → member w (mentions number P) ≡ true → g u ≡ g w → u ≡ w

  pub mentions_renamed : (P : List (Record X)) → Apart P
      → mentions number' (map (rename f) P) ≡ map g (mentions number P)
  unfolding mentions option_map
  mentions_renamed [] h = refl
  mentions_renamed (r ∷ P) h = by (named r) refl (mentions_renamed P (λ u w m k. h u w (among u m) (among w k)))
    where
      xs : List ℕ
      xs = mentions number P

      ys : List ℕ
      ys = mentions number' (map (rename f) P)

      among : (w : ℕ) → member w xs ≡ true → member w (mentions number (r ∷ P)) ≡ true
      among w m = simp (member_once, m, or-true)

      grown : (x : X) → named r ≡ some x → ys ≡ map g xs
          → (if member (number' (f x)) ys then ys else number' (f x) ∷ ys)
          ≡ map g (if member (number x) xs then xs else number x ∷ xs)
      grown x e i =
          ap₂ (λ (a : ℕ) (ys : List ℕ). if member a ys then ys else a ∷ ys) (same x) i
          ∙ ap (λ (b : Bool). if b then map g xs else g (number x) ∷ map g xs)
          (member_map g (number x) xs (λ w m. h (number x) w (named_member number (r ∷ P) 0 x r refl e) (among w m)))
          ∙ out (member (number x) xs)
        where
          out : (b : Bool) → (if b then map g xs else g (number x) ∷ map g xs) ≡ map g (if b then xs else number x ∷ xs)
          out true = refl
          out false = refl

      by : (o : Option X) → named r ≡ o → ys ≡ map g xs
          → mentions number' (rename f r ∷ map (rename f) P) ≡ map g (mentions number (r ∷ P))
      by none e i =
          mentions_none number' (rename f r) (map (rename f) P) (named_rename f r ∙ ap (option_map f) e) ∙ i
          ∙ ap (map g) (sym (mentions_none number r P e))
      by (some x) e i =
          mentions_one number' (rename f r) (map (rename f) P) (named_rename f r ∙ ap (option_map f) e) ∙ grown x e i
          ∙ ap (map g) (sym (mentions_one number r P e))

-- ---- Numbers in order

-- Such numbers are 1 to their number, and no other.
pub member_low : (xs : List ℕ) (a : ℕ) → in_order xs ≡ true → 0 < a → a ≤ length xs → member a xs ≡ true
unfolding member in_order
member_low [] a e l m = absurd (omega arith)
member_low (x ∷ xs) a e l m =
    let o = both (eqb x (suc (length xs))) (in_order xs) e in
    by (eqb x a) refl (eqb-true x (suc (length xs)) o.0) (member_low xs a o.1 l)
  where
    by : (b : Bool) → eqb x a ≡ b → x ≡ suc (length xs) → (a ≤ length xs → member a xs ≡ true)
        → (if b then true else member a xs) ≡ true
    by true f q i = refl
    by false f q i = i (omega (arith, eqb-false x a f))

pub member_high : (xs : List ℕ) (a : ℕ) → in_order xs ≡ true → length xs < a → member a xs ≡ false
unfolding member in_order
member_high [] a e l = refl
member_high (x ∷ xs) a e l =
    let o = both (eqb x (suc (length xs))) (in_order xs) e in
    let q = eqb-true x (suc (length xs)) o.0 in
    simp (ne_eqb x a (λ f. omega arith)) (member_high xs a o.1 (omega arith))

pub member_within : (xs : List ℕ) (a : ℕ) → in_order xs ≡ true → member a xs ≡ true → (0 < a) × (a ≤ length xs)
unfolding member in_order
member_within [] a e m = let no : ◌≡◌ {A = ℕ} 0 1 = cc in absurd (omega arith)
member_within (x ∷ xs) a e m =
    let o = both (eqb x (suc (length xs))) (in_order xs) e in
    by (eqb x a) refl m (eqb-true x (suc (length xs)) o.0) (member_within xs a o.1)
  where
    by : (b : Bool) → eqb x a ≡ b → (if b then true else member a xs) ≡ true → x ≡ suc (length xs)
        → (member a xs ≡ true → (0 < a) × (a ≤ length xs)) → (0 < a) × (a ≤ suc (length xs))
    by true f m q i = (omega (arith, eqb-true x a f), omega (arith, eqb-true x a f))
    by false f m q i = let w = i m in (w.0, omega (arith, w.1))

-- ---- Addresses of what is named

-- A variable more in front of xs, that is not among zs, changes none of their addresses.
same_addresses : (v : ℕ) (xs zs : List ℕ) → member v zs ≡ false → map (addr_of (v ∷ xs)) zs ≡ map (addr_of xs) zs
unfolding member addr_of
same_addresses v xs [] m = refl
same_addresses v xs (z ∷ zs) m = by (eqb z v) refl m (same_addresses v xs zs)
  where
    by : (b : Bool) → eqb z v ≡ b → (if b then true else member v zs) ≡ false
        → (member v zs ≡ false → map (addr_of (v ∷ xs)) zs ≡ map (addr_of xs) zs)
        → map (addr_of (v ∷ xs)) (z ∷ zs) ≡ map (addr_of xs) (z ∷ zs)
    by true e m i = let no : ◌≡◌ {A = ℕ} 0 1 = cc in absurd (omega arith)
    by false e m i =
        ap₂ ◌∷◌ (simp (ne_eqb v z (λ q. eqb-false z v e (sym q)))) (i m)

-- Variables whose addresses are in order
abbrev pub Ordered : List ℕ → Type 0
Ordered xs = in_order (map (addr_of xs) xs) ≡ true

ordered_once : (v : ℕ) (xs : List ℕ) (b : Bool) → member v xs ≡ b → Ordered xs → Ordered (if b then xs else v ∷ xs)
unfolding addr_of in_order
ordered_once v xs true m i = i
ordered_once v xs false m i =
    simp (
      eq-eqb v v refl,
      same_addresses v xs xs m,
      length-map xs (addr_of xs),
      eq-eqb (suc (length xs))
          (suc (length xs)) refl,
    ) i

-- The variables that records name, each at its last mention, are such.
pub ordered : (P : AssemblyCode) → Ordered (vars P)
unfolding mentions in_order
ordered [] = refl
ordered (r ∷ P) = by (named r) refl (ordered P)
  where
    by : (o : Option Variable) → named r ≡ o → Ordered (vars P) → Ordered (vars (r ∷ P))
    by none e i = subst Ordered (sym (mentions_none (λ v. v.0) r P e)) i
    by (some v) e i =
        subst Ordered (sym (mentions_one (λ v. v.0) r P e))
        (ordered_once v.0 (vars P) (member v.0 (vars P)) refl i)

-- ---- A command's machine code

pub addresses_are : (P : AssemblyCode) → addresses (to_m_prog P) ≡ map (addr_of (vars P)) (vars P)
addresses_are P =
    mentions_renamed (λ v. v.0) (λ a. a.0) (λ v. address (addr_of (vars P) v.0)) (addr_of (vars P)) (λ v. refl) P
    (λ u w m k. address_distinct (vars P) u w (member_address (vars P) u m))

pub pairs : Pairs
pairs c h =
    let P = ccomp c in
    rw (addresses_are P) (simp (
      ordered P,
      eq-eqb (length (map (addr_of (vars P)) (vars P))) (cells c)
          (length-map (vars P) (addr_of (vars P)) ∙ (named_variables c h).in_records),
    ))
