-- The table of a command holds 1 to n once each, n being the number of variables that the command names (Claims:
-- Tables, NamedVariables). How often a number stands in the table is how many variables below 64 have it as their
-- address. The variables that records name are below 64 and none stands among them twice: each takes one of the 64 and
-- one address.
use mathlib.Core.Path.{◌≡◌, refl, sym, ◌∙◌, ap}
use Prim.Native.Nat.{ℕ, zero, suc, ◌+◌, ◌≤◌, ◌<◌}
use native.Mathlib.Nat.{add-zero, suc-add, add-suc, zero-add}
use native.Mathlib.Omega.{arith}
use mathlib.Core.Bool.{Bool, true, false, not}
use mathlib.Core.List.{List, [], ◌∷◌}
use mathlib.Core.Option.{Option, none, some}
use lib.Dec.{eqb}
use lib.ListN.{length}
use borrow.Author.Tests.{eqb-true, eqb-false, eq-eqb, ne_eqb}
use Rattle.std.specs.Prelude.{if◌then◌else◌}
use Rattle.text.specs.Syntax.{Command}
use Rattle.text.specs.Encoding.{Valid}
use Rattle.text.specs.Sizes.{how_many, cells, records}
use Rattle.record.specs.Records.{AssemblyCode, named}
use Rattle.record.specs.declared.Variable.{Variable}
use Rattle.compile.specs.Claims.{Tables, NamedVariables}
use Rattle.compile.specs.Compilation.{ccomp}
use Rattle.compile.specs.Table.{member, once, mentions, vars, addr_of, entries, times, named_in, once_each}
use Rattle.compile.specs.Table.{is_table}
use Rattle.compile.proofs.Entries.{address_most, address_none, length_entries}
use Rattle.compile.proofs.Counting.{one_more, none_pass, pass_or_not}
use Rattle.compile.proofs.Mentions.{names_command}
use Rattle.compile.proofs.Naming.{AllPlain, plain_command, plain_named}
use Rattle.compile.proofs.Passing.{once_all}

-- ---- Variables below 64, none twice

abbrev pub Sound : List ℕ → Type 0
Sound [] = Unit {0}
Sound (x ∷ xs) = (x < 64) × (member x xs ≡ false) × Sound xs

pub sound_once : (o : Option Variable) (xs : List ℕ) → ((v : Variable) → o ≡ some v → v.0 < 64) → Sound xs
    → Sound (once (λ v. v.0) o xs)
unfolding once
sound_once none xs h s = s
sound_once (some v) xs h s = by (member v.0 xs) refl
  where
    by : (b : Bool) → member v.0 xs ≡ b → Sound (if b then xs else v.0 ∷ xs)
    by true m = s
    by false m = (h v refl, m, s)

-- The variables of plain records are such.
sound : (most : ℕ) (P : AssemblyCode) → AllPlain most P → Sound (vars P)
unfolding mentions
sound most [] h = tt
sound most (r ∷ P) h =
    sound_once (named r) (vars P) (λ v e. plain_named most r v h.0 e) (sound most P h.1)

-- They are as many as the numbers below 64 among them.
members : (xs : List ℕ) → Sound xs → how_many (λ w. member w xs) 64 ≡ length xs
unfolding member
members [] h = none_pass
members (x ∷ xs) h = one_more (λ w. member w xs) x 64 h.0 h.1 ∙ ap suc (members xs h.2)

-- Each of the addresses 1 to n is the address of one of them.
address_once : (xs : List ℕ) → Sound xs → (a : ℕ) → 1 ≤ a → a ≤ length xs
    → how_many (λ v. eqb (addr_of xs v) a) 64 ≡ 1
unfolding addr_of
address_once [] h a l m = absurd (omega arith)
address_once (x ∷ xs) h a l m = by (eqb (suc (length xs)) a) refl (address_once xs h.2 a l)
  where
    -- the first has the address n, and no other has;
    first : (b : Bool) (v : ℕ) → suc (length xs) ≡ a
        → eqb (if b then suc (length xs) else addr_of xs v) a ≡ (if b then true else false)
    first true v e = eq-eqb (suc (length xs)) a e
    first false v e = ne_eqb (addr_of xs v) a (λ q. omega (arith, address_most xs v))

    -- it has none of the others' addresses
    other : (b : Bool) (v : ℕ) → eqb x v ≡ b → (suc (length xs) ≡ a → ⊥)
        → eqb (if b then suc (length xs) else addr_of xs v) a ≡ eqb (addr_of xs v) a
    other true v p e =
        let none : not (member v xs) ≡ true = ap (λ u. not (member u xs)) (sym (eqb-true x v p)) ∙ ap not h.1 in
        ne_eqb (suc (length xs)) a e
        ∙ sym (ne_eqb (addr_of xs v) a (λ q. omega (arith, eqb-true (addr_of xs v) 0 (address_none xs v ∙ none))))
    other false v p e = refl

    by : (b : Bool) → eqb (suc (length xs)) a ≡ b → (a ≤ length xs → how_many (λ v. eqb (addr_of xs v) a) 64 ≡ 1)
        → how_many (λ v. eqb (if eqb x v then suc (length xs) else addr_of xs v) a) 64 ≡ 1
    by true q i =
        (λ j. how_many (λ v. first (eqb x v) v (eqb-true (suc (length xs)) a q) j) 64)
        ∙ one_more (λ w. false) x 64 h.0 refl
        ∙ ap suc none_pass
    by false q i =
        let past = eqb-false (suc (length xs)) a q in
        (λ j. how_many (λ v. other (eqb x v) v refl past j) 64) ∙ i (omega arith)

-- ---- The table

-- How often a number stands among the addresses from u on is how many variables from u on have it.
times_entries : (xs : List ℕ) (a u k : ℕ)
    → times a (entries xs u k) + how_many (λ v. eqb (addr_of xs v) a) u ≡ how_many (λ v. eqb (addr_of xs v) a) (u + k)
unfolding times entries how_many
times_entries xs a u zero = omega (arith, ap (how_many (λ v. eqb (addr_of xs v) a)) (add-zero u))
times_entries xs a u (suc k) =
    by (eqb (addr_of xs u) a) (times_entries xs a (suc u) k ∙ ap count (suc-add u k ∙ sym (add-suc u k)))
  where
    count : ℕ → ℕ
    count = how_many (λ v. eqb (addr_of xs v) a)

    after : ℕ
    after = times a (entries xs (suc u) k)

    by : (b : Bool) → after + ((if b then 1 else 0) + count u) ≡ count (u + suc k)
        → (if b then suc after else after) + count u ≡ count (u + suc k)
    by true h = omega arith
    by false h = omega arith

-- The same of all the addresses
times_table : (xs : List ℕ) (a k : ℕ) → times a (entries xs 0 k) ≡ how_many (λ v. eqb (addr_of xs v) a) k
unfolding how_many
times_table xs a k =
    omega (arith, times_entries xs a 0 k, ap (how_many (λ v. eqb (addr_of xs v) a)) (zero-add k))

module _ (xs : List ℕ) (h : Sound xs) where
  abbrev t : List ℕ
  t = entries xs 0 64

  -- The variables without an address are those that are not among xs, so with xs they are 64.
  unnamed : times 0 t ≡ how_many (λ v. not (member v xs)) 64
  unnamed = times_table xs 0 64 ∙ (λ j. how_many (λ v. address_none xs v j) 64)

  pub named_sound : named_in t ≡ length xs
  named_sound =
      omega (arith, unnamed, pass_or_not (λ v. member v xs) 64, members xs h, length_entries xs 0 64)

  table_sound : is_table t ≡ true
  table_sound =
      ap (once_each t 1) named_sound
      ∙ once_all t 1 (length xs) (λ a l m. times_table xs a 64 ∙ address_once xs h a l (omega arith))

-- ---- The table of a command

module _ (c : Command) (h : Valid c) where
  sound_command : Sound (vars (ccomp c))
  sound_command = sound (records c) (ccomp c) (plain_command c h)

  named_command : length (vars (ccomp c)) ≡ cells c
  named_command = sym (members (vars (ccomp c)) sound_command) ∙ (λ j. how_many (λ w. names_command w c j) 64)

pub named_variables : NamedVariables
named_variables c h =
    record {
      in_records = named_command c h;
      in_table = named_sound (vars (ccomp c)) (sound_command c h) ∙ named_command c h;
    }

pub tables : Tables
tables c h =
    record {
      long = length_entries (vars (ccomp c)) 0 64;
      passes = table_sound (vars (ccomp c)) (sound_command c h);
    }
