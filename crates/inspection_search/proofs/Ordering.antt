-- The search: what its loop keeps, from its first position to its last.
use mathlib.Core.Path.{◌≡◌, refl, sym, ◌∙◌, ap, subst}
use Prim.Native.Nat.{ℕ, zero, suc, ◌+◌, ◌-◌, ◌≤◌, ◌<◌}
use native.Mathlib.Decide.{ℕ_discrete}
use native.Mathlib.Omega.{arith}
use mathlib.Core.Bool.{true, false}
use mathlib.Core.List.{List}
use lib.ListN.{length, get_or, set, replicate, length-set, length-replicate}
use lib.Seq.{get_or-set_same, get_or-set_other}
use Rattle.std.specs.Prelude.{Some, None}
use Rattle.record.specs.Records.{MachineCode}
use Rattle.inspection.specs.Heights.{Reached, first}
use Rattle.inspection_visit.specs.Records.{Given}
use Rattle.inspection_visit.specs.Positions.{Stands, Grew, Held, Looked, Place, Visited}
use Rattle.inspection_visit.proofs.Labelling.{zeros_set, zeros_most}
use Rattle.inspection_visit.proofs.Following.{heights}
use Rattle.inspection_search.specs.Search.{Ready, Blank, Searched}

-- What was looked at stays so.
looked_on : {D : ℕ} {P : MachineCode} {last : ℕ} {ls o : List ℕ} {f : ℕ} {ls' o' : List ℕ} {f' : ℕ}
    → Grew last ls o f ls' o' f' → (p : ℕ) → (get_or ls p 0 ≡ 0 → ⊥) → Looked D P ls p → Looked D P ls' p
looked_on {ls = ls} {ls' = ls'} g p n k =
    let same : get_or ls' p 0 ≡ get_or ls p 0 = g.kept p n in
    record {
      ends = λ e. same ∙ k.ends e;
      enough = λ r due. omega (arith, k.enough r due);
      room = λ r due. rw same (k.room r due);
      ways =
          λ r due taken.
          let w = k.ways r due taken in
          let z = w.2 in
          (w.0, w.1, g.kept w.0 (λ e. omega arith) ∙ rw same z);
    }

-- What the loop keeps, over labels of the length n: i of the f positions found are looked at.
pub record Loops (code : List ℕ) (last D n : ℕ) (ls o : List ℕ) (f i : ℕ) : Type 0 where
  pub stands : Stands last ls o f
  pub long : length ls ≡ n
  pub at_most : i ≤ f
  pub going : (x : Given code last) → Held D x.records ls o f
  pub looked : (x : Given code last) (j : ℕ) → j < i → Looked D x.records ls (get_or o j 0)

-- ---- Arrays of n zeros are blank

zero_there : (n p : ℕ) → get_or (replicate {A = ℕ} n 0) p 0 ≡ 0
zero_there zero p = refl
zero_there (suc n) zero = refl
zero_there (suc n) (suc p) = zero_there n p

pub all_blank : {code : List ℕ} {last D : ℕ} (n : ℕ) → Ready code last D → last < n → n ≤ 4097
    → Blank code last D (replicate n 0) (replicate n 0)
all_blank n r covered small =
    let long : length (replicate {A = ℕ} n 0) ≡ n = length-replicate n 0 in
    record {
      ready = r;
      covered = omega (arith, long);
      wide = refl;
      small = omega (arith, long);
      blank = zero_there n;
    }

-- ---- At first position 0 is found, and no other

module _ {code : List ℕ} {last D : ℕ} {ls o : List ℕ} (b : Blank code last D ls o) where
  abbrev ls₀ : List ℕ
  ls₀ = set ls 0 1

  abbrev o₀ : List ℕ
  o₀ = set o 0 0

  in_labels : 0 < length ls
  in_labels = omega (arith, b.covered)

  one : get_or ls₀ 0 0 ≡ 1
  one = get_or-set_same ls 0 1 0 in_labels

  begun : get_or o₀ 0 0 ≡ 0
  begun = get_or-set_same o 0 0 0 (omega (arith, b.wide, b.covered))

  none_else : (p : ℕ) → (p ≡ 0 → ⊥) → get_or ls₀ p 0 ≡ 0
  none_else p n = get_or-set_other ls 0 p 1 0 n ∙ b.blank p

  only_first : (p : ℕ) → (get_or ls₀ p 0 ≡ 0 → ⊥) → p ≡ 0
  only_first p n = elim (ℕ_discrete p 0) [ yes e ↦ e | no e ↦ absurd (n (none_else p e)) ]

  listed_first : (j : ℕ) → j < 1 → get_or o₀ j 0 ≡ 0
  listed_first j h = ap (λ j. get_or o₀ j 0) (omega arith) ∙ begun

  long : length ls₀ ≡ length ls
  long = length-set ls 0 1

  first_stands : Stands last ls₀ o₀ 1
  first_stands =
      record {
        room =
            record {
              wide = length-set o 0 0 ∙ b.wide ∙ sym long;
              small = omega (arith, b.small, long);
              spare =
                  omega (
                    arith,
                    zeros_set ls 0 1 in_labels (b.blank 0) (λ e. omega arith),
                    zeros_most ls,
                    long,
                  );
            };
        covered = omega (arith, b.covered, long);
        inside = λ j h. omega (arith, listed_first j h);
        labelled =
            λ j h e.
            let z : get_or ls₀ 0 0 ≡ 0 = ap (λ p. get_or ls₀ p 0) (sym (listed_first j h)) ∙ e in
            omega (arith, one);
        low =
            λ p.
            elim (ℕ_discrete p 0) [ yes e ↦ rw e (omega (arith, one)) | no e ↦ omega (arith, none_else p e) ];
      }

  pub begins : Loops code last D (length ls₀) ls₀ o₀ 1 0
  begins =
      record {
        stands = first_stands;
        long = refl;
        at_most = omega arith;
        going =
            λ x. record {
              begun = one;
              listed = λ p n. (0, omega arith, begun ∙ sym (only_first p n));
              reached = λ p n. subst (Reached x.records) (sym (only_first p n)) first;
              forced =
                  λ h H p n.
                  let e : p ≡ 0 = only_first p n in
                  ap (λ p. get_or ls₀ p 0) e ∙ one ∙ ap suc (sym H.start) ∙ ap (λ p. suc (h p)) (sym e);
            };
        looked = λ x j h. absurd (omega arith);
      }

-- ---- A turn

module _ {code : List ℕ} {last D n : ℕ} {ls o : List ℕ} {f i : ℕ} (k : Loops code last D n ls o f i) where
  -- the position that is next
  pub placed : Ready code last D → i < f → Place code last D (get_or o i 0) ls o f
  placed r h =
      record {
        at_most = k.stands.inside i h;
        few = r.few;
        deep = r.deep;
        bytes = r.bytes;
        there = k.stands.labelled i h;
        stands = k.stands;
        passes = r.passes;
      }

  pub goes_on : {ls' o' : List ℕ} {f' : ℕ} → i < f → Visited code last D (get_or o i 0) ls o f (Some f') ls' o'
      → Loops code last D n ls' o' f' (i + 1)
  goes_on h v =
      let g = v.0 in
      record {
        stands = g.stands;
        long = g.long ∙ k.long;
        at_most = omega (arith, g.more);
        going = λ x. (v.1 x (k.going x)).0;
        looked =
            λ x j l.
            elim (ℕ_discrete j i) [
              | yes e ↦
                  rw e (rw (g.same i h) (v.1 x (k.going x)).1)
              | no e ↦
                  let less : j < i = omega arith in
                  let before : j < f = omega (arith, k.at_most) in
                  rw (g.same j before)
                  (looked_on g (get_or o j 0) (k.stands.labelled j before) (k.looked x j less))
            ];
      }

  pub stops : (ls' o' : List ℕ) → Visited code last D (get_or o i 0) ls o f None ls' o' → Searched code last D false
  stops ls' o' v x = v x (k.going x)

  pub all_looked : f ≤ i → Searched code last D true
  all_looked h x = (
    λ p. get_or ls p 0 - 1,
    heights D x.records ls o f (k.going x) (λ j l. k.looked x j (omega arith)),
  )

  -- there is a place for each position found
  pub few_found : f ≤ length o
  few_found = omega (arith, k.stands.room.spare, k.stands.room.wide)

  pub at_most_4097 : f ≤ 4097
  at_most_4097 = omega (arith, few_found, k.stands.room.wide, k.stands.room.small)
