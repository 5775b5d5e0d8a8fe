-- The table by records from the last back to the first: at each the table and n are those of the records passed. A
-- variable's first mention on that way is its last in the records, and gives it the next address.
use mathlib.Core.Path.{◌≡◌, refl, sym, ap, ap₂, ◌∙◌}
use mathlib.Core.Bool.{Bool, true, false, not}
use mathlib.Core.List.{List, [], ◌∷◌}
use mathlib.Core.Option.{none, some}
use Prim.Native.Nat.{ℕ, zero, suc, ◌+◌, ◌-◌, ◌≤◌, ◌<◌}
use native.Mathlib.Numerals.{add-one}
use native.Mathlib.Decide.{ℕ_discrete}
use native.Mathlib.Omega.{arith}
use lib.Dec.{eqb}
use lib.ListN.{length, get_or, set, drop, replicate, length-set, drop_of_length-le}
use lib.Seq.{ext_get_or, get_or-set_same, get_or-set_other, drop-cons}
use borrow.Author.Tests.{eq-eqb, ne_eqb, eqb-true}
use Rattle.std.specs.Prelude.{if◌then◌else◌}
use Rattle.record.specs.Records.{Record, ADD, AssemblyCode, named}
use Rattle.record.specs.declared.Variable.{Variable}
use Rattle.compile.specs.Table.{member, mentions, vars, addr_of, entries, table, times}
use Rattle.compile.proofs.Entries.{address_none, length_entries, table_at, mentions_one, mentions_none}
use Rattle.compile_translation.specs.Steps.{addressed}
use Rattle.compile_translation.specs.Translated.{Numbered}

-- n and the table, by the variables
abbrev numbered : List ℕ → ℕ × List ℕ
numbered xs = (length xs, entries xs 0 64)

-- ---- One record more in front of Q

module _ (r : Record Variable) (Q : AssemblyCode) where
  long : (P : AssemblyCode) → length (table P) ≡ 64
  long P = length_entries (vars P) 0 64

  -- With a variable more, that variable has the next address, and every other its own.
  table_more : (x : ℕ) → x < 64 → vars (r ∷ Q) ≡ x ∷ vars Q
      → table (r ∷ Q) ≡ set (table Q) x (length (vars Q) + 1)
  unfolding addr_of
  table_more x h e =
      ext_get_or 0 _ _ (long (r ∷ Q) ∙ sym (length-set (table Q) x (length (vars Q) + 1) ∙ long Q))
      (λ v l. at v (omega (arith, long (r ∷ Q))) (ℕ_discrete v x))
    where
      here : (v : ℕ) → v < 64
          → get_or (table (r ∷ Q)) v 0 ≡ (if eqb x v then suc (length (vars Q)) else addr_of (vars Q) v)
      here v l = table_at (r ∷ Q) v l ∙ ap (λ (xs : List ℕ). addr_of xs v) e

      at : (v : ℕ) → v < 64 → Dec (v ≡ x)
          → get_or (table (r ∷ Q)) v 0 ≡ get_or (set (table Q) x (length (vars Q) + 1)) v 0
      at v l (yes q) =
          rw q
          (here x h
          ∙ simp (eq-eqb x x refl)
          (sym (get_or-set_same (table Q) x (length (vars Q) + 1) 0 (omega (arith, long Q))
          ∙ add-one (length (vars Q)))))
      at v l (no q) =
          here v l
          ∙ simp (ne_eqb x v (λ e. q (sym e)))
          (sym (get_or-set_other (table Q) x v (length (vars Q) + 1) 0 q ∙ table_at Q v l))

  -- A record that names v: the table is what giving v an address makes of the table after it.
  pub names_one : (v : Variable) → named r ≡ some v → v.0 < 64
      → addressed v.0 (length (vars Q)) (table Q) ≡ numbered (vars (r ∷ Q))
  unfolding addressed
  names_one v e h = by (member v.0 (vars Q)) refl
    where
      n : ℕ
      n = length (vars Q)

      entry : (b : Bool) → member v.0 (vars Q) ≡ b → eqb (get_or (table Q) v.0 0) 0 ≡ not b
      entry b m = ap (λ (a : ℕ). eqb a 0) (table_at Q v.0 h) ∙ address_none (vars Q) v.0 ∙ ap not m

      grown : (b : Bool) → member v.0 (vars Q) ≡ b → vars (r ∷ Q) ≡ (if b then vars Q else v.0 ∷ vars Q)
      grown b m = mentions_one (λ v. v.0) r Q e ∙ ap (λ (b : Bool). if b then vars Q else v.0 ∷ vars Q) m

      by : (b : Bool) → member v.0 (vars Q) ≡ b
          → (if eqb (get_or (table Q) v.0 0) 0 then (n + 1, set (table Q) v.0 (n + 1)) else (n, table Q))
          ≡ numbered (vars (r ∷ Q))
      by true m =
          simp (entry true m) (sym (ap numbered (grown true m)))
      by false m =
          simp (entry false m)
          (λ i. ((add-one n ∙ sym (ap length (grown false m))) i, sym (table_more v.0 h (grown false m)) i))

-- ---- n is at most 64: each address takes an entry that was 0

times_set : (t : List ℕ) (v x : ℕ) → v < length t → get_or t v 0 ≡ 0 → 0 < x → times 0 (set t v x) + 1 ≡ times 0 t
unfolding times
times_set [] v x h e p = absurd (omega arith)
times_set (y ∷ t) zero x h e p = simp (ne_eqb x 0 (λ q. omega arith), eq-eqb y 0 e) (add-one (times 0 t))
times_set (y ∷ t) (suc v) x h e p = by (eqb y 0) (times_set t v x (omega arith) e p)
  where
    by : (b : Bool) → times 0 (set t v x) + 1 ≡ times 0 t
        → (if b then suc (times 0 (set t v x)) else times 0 (set t v x)) + 1
        ≡ (if b then suc (times 0 t) else times 0 t)
    by true q = omega arith
    by false q = q

abbrev counted : ℕ × List ℕ → ℕ
counted p = times 0 p.1 + p.0

all_kept : (v n : ℕ) (t : List ℕ) → v < length t → counted (n, t) ≡ 64 → counted (addressed v n t) ≡ 64
unfolding addressed
all_kept v n t h e = by (eqb (get_or t v 0) 0) refl
  where
    by : (b : Bool) → eqb (get_or t v 0) 0 ≡ b → counted (if b then (n + 1, set t v (n + 1)) else (n, t)) ≡ 64
    by true q = omega (arith, e, times_set t v (n + 1) h (eqb-true (get_or t v 0) 0 q) (omega arith))
    by false q = e

-- ---- The records from i on are passed

module _ (P : AssemblyCode) where
  pub record Stage (t : List ℕ) (n i : ℕ) : Type 0 where
    pub most : i ≤ length P
    pub cells : n ≡ length (vars (drop i P))
    pub table_is : t ≡ table (drop i P)
    pub all : times 0 t + n ≡ 64

  pub stage_long : {t : List ℕ} {n i : ℕ} → Stage t n i → length t ≡ 64
  stage_long {t} {n} {i} s = ap length s.table_is ∙ length_entries (vars (drop i P)) 0 64

  pub stage_start : {t : List ℕ} {count : ℕ} → length P ≡ count → t ≡ replicate 64 0 → Stage t 0 count
  unfolding mentions entries addr_of times
  stage_start {t} {count} e z =
      let none_left : drop count P ≡ [] = drop_of_length-le P {i = count} (omega arith) in
      record {
        most = omega arith;
        cells = rw none_left;
        table_is = z ∙ rw none_left;
        all = ap (λ (l : List ℕ). times 0 l + 0) z;
      }

  pub stage_end : {t : List ℕ} {n i : ℕ} → Stage t n i → i ≤ 0 → Numbered P n t
  stage_end {t} {n} {i} s h =
      let none_left : i ≡ 0 = omega arith in
      record {
        cells = s.cells ∙ ap (λ (j : ℕ). length (vars (drop j P))) none_left;
        table_is = s.table_is ∙ ap (λ (j : ℕ). table (drop j P)) none_left;
      }

  module _ {t : List ℕ} {n i : ℕ} (s : Stage t n i) (h : 0 < i) where
    one_more : drop (i - 1) P ≡ get_or P (i - 1) ADD ∷ drop i P
    one_more =
        let next : suc (i - 1) ≡ i = omega arith in
        rw next at (drop-cons P (i - 1) ADD (omega (arith, s.most)))

    -- The record before them names v,
    pub stage_one : {v : Variable} {m : ℕ} {t' : List ℕ} → named (get_or P (i - 1) ADD) ≡ some v → v.0 < 64
        → (m, t') ≡ addressed v.0 n t → Stage t' m (i - 1)
    stage_one {v} {m} {t'} e l q =
        let step : (m, t') ≡ numbered (vars (drop (i - 1) P)) =
        q
        ∙ ap₂ (addressed v.0) s.cells s.table_is
        ∙ names_one (get_or P (i - 1) ADD) (drop i P) v e l
        ∙ ap (λ (Q : AssemblyCode). numbered (vars Q)) (sym one_more) in
        record {
          most = omega (arith, s.most);
          cells = ap (λ (p : ℕ × List ℕ). p.0) step;
          table_is = ap (λ (p : ℕ × List ℕ). p.1) step;
          all = ap counted q ∙ all_kept v.0 n t (omega (arith, stage_long s)) s.all;
        }

    -- or none.
    pub stage_none : named (get_or P (i - 1) ADD) ≡ none → Stage t n (i - 1)
    stage_none e =
        let same : vars (drop (i - 1) P) ≡ vars (drop i P) =
        ap vars one_more ∙ mentions_none (λ v. v.0) (get_or P (i - 1) ADD) (drop i P) e in
        record {
          most = omega (arith, s.most);
          cells = s.cells ∙ ap length (sym same);
          table_is = s.table_is ∙ ap (λ (xs : List ℕ). entries xs 0 64) (sym same);
          all = s.all;
        }
