-- A position looked at (Positions: Visited): the end, a record that breaks its height, and a record whose ways are
-- followed, one or two.
use mathlib.Core.Path.{◌≡◌, refl, sym, ◌∙◌, ap, subst}
use Prim.Native.Nat.{ℕ, suc, ◌+◌, ◌-◌, ◌*◌, ◌≤◌, ◌<◌}
use native.Mathlib.Numerals.{add-one}
use native.Mathlib.Decide.{ℕ_discrete}
use native.Mathlib.Omega.{arith}
use mathlib.Core.Bool.{Bool, true, false}
use mathlib.Core.List.{List}
use mathlib.Core.Option.{some}
use lib.ListN.{length, get_or, get_elem?}
use borrow.Author.Tests.{eq-eqb, ne_eqb}
use Rattle.std.specs.Prelude.{Option, Some, None, nat_eq}
use Rattle.std.specs.Bool.{then_some}
use Rattle.word.specs.Numbers.{number_at}
use Rattle.std.specs.Prelude.{Some, None}
use Rattle.word.specs.Targets.{Target}
use Rattle.record.specs.Records.{Record}
use Rattle.record.specs.Bytes.{machine_kind}
use Rattle.record.specs.declared.Address.{Address}
use Rattle.record.proofs.Decoding.{Due, record_due}
use Rattle.record.proofs.Tested.{records_length}
use Rattle.machine.proofs.Inside.{some_below, target_within}
use Rattle.inspection.specs.Heights.{Way, on, by, either, effect, leads, successor, height_after, Reached, Passing}
use Rattle.inspection.proofs.Right.{same_record}
use Rattle.inspection_visit.specs.Records.{checked, checked_at, Known, Given}
use Rattle.inspection_visit.specs.Positions.{Within, Followed, again, Grew, Held, Looked, Place, Visited}
use Rattle.inspection_visit.specs.declared.Checked.{Checked}
use Rattle.inspection_visit.specs.declared.Checked.TheVariants.{Leads, Forks}
use Rattle.inspection_visit.proofs.Labelling.{followed_at}
use Rattle.inspection_visit.proofs.Telling.{ByteTells, byte_tells, Keeping, keeps_one, keeps_two, broken_height}
use Rattle.inspection_visit.proofs.Following.{grew_not, grew_twice, Successor, HasLabel, followed, Only}
use Rattle.inspection_visit.proofs.Following.{held_on, clashed, end_looked, end_clash, reach, only, lost, broken}

-- ---- Where a record leads is within the code

-- the next position
next_within : (last p q : ℕ) → p < last → Some (suc p) ≡ Some q → q ≤ last
next_within last p q h e = let same : suc p ≡ q = cc in omega arith

-- any successor
leads_within : (last p : ℕ) (w : Way) (taken : Bool) (q : ℕ) → p < last → leads last p w taken ≡ Some q → q ≤ last
unfolding leads
leads_within last p on taken q h e = next_within last p q h e
leads_within last p (by i) taken q h e = target_within p i last q e
leads_within last p (either i) true q h e = target_within p i last q e
leads_within last p (either i) false q h e = next_within last p q h e

-- a target that is no further than `last`
within : (last n : ℕ) (t : Target) → last < n → ((q : ℕ) → t ≡ Some q → q ≤ last) → Within n t
within last n (Some q) l h = omega (arith, h q refl)
within last n None l h = tt

-- ---- The end

-- as many records as the tests passed
all_records : {code : List ℕ} {last : ℕ} (x : Given code last) → length x.records ≡ last
all_records {code} {last} x = records_length (machine_kind x.n) code 0 last x.given

module _ {code : List ℕ} {last D p : ℕ} {ls o : List ℕ} {f : ℕ} (s : Place code last D p ls o f) (end : p ≡ last) where
  -- It has height 0,
  end_right : get_or ls p 0 ≡ 1 → Visited code last D p ls o f (Some f) ls o
  end_right one = (
    grew_not s.stands,
    λ x H. (
      H,
      end_looked H p s.there (λ r due. omega (arith, some_below x.records p r due, all_records x)) one,
    ),
  )

  -- or another.
  end_wrong : (get_or ls p 0 ≡ 1 → ⊥) → Visited code last D p ls o f None ls o
  end_wrong n x H = end_clash H p s.there (end ∙ sym (all_records x)) n

  -- Whether it is 0 tells which.
  pub end_told : {label : ℕ} → label ≡ get_or ls p 0
      → Visited code last D p ls o f (then_some (nat_eq label 1) f) ls o
  end_told {label} e =
      elim (ℕ_discrete label 1) [
        | yes y ↦ rw (eq-eqb label 1 y) (end_right (sym e ∙ y))
        | no n ↦ rw (ne_eqb label 1 n) (end_wrong (λ z. n (e ∙ z)))
      ]

-- ---- A record

-- Its byte is one of the seven.
pub known_there : {code : List ℕ} {last D p : ℕ} {ls o : List ℕ} {f : ℕ} → Place code last D p ls o f → p < last
    → (k : ℕ) → k ≤ 64 → Known code last p k
known_there {code} {last} {p = p} s inside k low =
    let x = s.passes in
    let d = record_due (machine_kind x.n) code x.records last p x.given inside in
    let t = byte_tells (machine_kind x.n) 0x50 _ _ d.due d.there in
    record {
      inside = inside;
      few = s.few;
      low = low;
      bytes = s.bytes;
      first = t.from;
      last_one = t.up_to;
    }

-- A record was checked at the height of its position.
pub record CheckedAt (code : List ℕ) (last D p : ℕ) (ls o : List ℕ) (f : ℕ) (result : Option Checked) : Type 0 where
  pub place : Place code last D p ls o f
  pub inside : p < last
  pub checks : result ≡ checked_at code last D p (get_or ls p 0 - 1)

module _ {code : List ℕ} {last D p : ℕ} {ls o : List ℕ} {f : ℕ} {result : Option Checked}
    (s : CheckedAt code last D p ls o f result) (x : Given code last) where
  -- the record there
  due_there : Due (machine_kind x.n) code x.records p
  due_there = record_due (machine_kind x.n) code x.records last p x.given s.inside

  -- its bytes tell what it takes, puts and leads to
  told_there : ByteTells (machine_kind x.n) 0x50 (get_or code (5 * p) 0) (number_at code (5 * p + 1)) due_there.due
  told_there = byte_tells (machine_kind x.n) 0x50 _ _ due_there.due due_there.there

  result_is : result ≡ checked D (length x.records) p (get_or ls p 0 - 1) (effect due_there.due)
  result_is =
      s.checks
      ∙ (λ i. checked D (sym (all_records x) i) p (get_or ls p 0 - 1) (told_there.effect_is i))

-- It was checked here: `label` is its label, and `x` what the check gave.
pub checked_here : {code : List ℕ} {last D p : ℕ} {ls o : List ℕ} {f label : ℕ} {x result : Option Checked}
    → Place code last D p ls o f → (p ≡ last → ⊥) → label ≡ get_or ls p 0
    → x ≡ checked_at code last D p (label - 1) → x ≡ result → CheckedAt code last D p ls o f result
checked_here {code} {last} {D} {p} place off label checks is =
    record {
      place = place;
      inside = omega (arith, place.at_most, off);
      checks = sym is ∙ checks ∙ ap (λ l. checked_at code last D p (l - 1)) label;
    }

-- It takes more than there is or pushes past D.
pub breaks : {code : List ℕ} {last D p : ℕ} {ls o : List ℕ} {f : ℕ} → CheckedAt code last D p ls o f None
    → Visited code last D p ls o f None ls o
breaks s x H =
    broken H _ s.place.there (due_there s x).listed
    (broken_height _ _ _ _ (due_there s x).due (result_is s x))

-- It keeps to its height, leaves l, and leads to `jumped`, with its jump taken, and to `passed`, without.
pub record Leading (code : List ℕ) (last D p : ℕ) (ls o : List ℕ) (f l : ℕ) (jumped passed : Target) : Type 0 where
  pub place : Place code last D p ls o f
  pub inside : p < last
  pub keeping : (x : Given code last) → (r : Record Address) × (get_elem? x.records p ≡ some r)
      × Keeping D (length x.records) p (get_or ls p 0 - 1) r l jumped passed

module _ {code : List ℕ} {last D p : ℕ} {ls o : List ℕ} {f l : ℕ} where
  leads_one : {to : Target} → CheckedAt code last D p ls o f (Some (Leads l to)) → Leading code last D p ls o f l to to
  leads_one s = record {
    place = s.place;
    inside = s.inside;
    keeping = λ x. let d = due_there s x in
        (d.due, d.listed, keeps_one _ _ _ _ d.due _ _ (result_is s x));
  }

  leads_two : {jumped passed : Target} → CheckedAt code last D p ls o f (Some (Forks l jumped passed))
      → Leading code last D p ls o f l jumped passed
  leads_two s = record {
    place = s.place;
    inside = s.inside;
    keeping = λ x. let d = due_there s x in
        (d.due, d.listed, keeps_two _ _ _ _ d.due _ _ _ (result_is s x));
  }

-- The same of what the check gave.
module _ {code : List ℕ} {last D p : ℕ} {ls o : List ℕ} {f label l : ℕ} {x : Option Checked} {y : Checked}
    (place : Place code last D p ls o f) (off : p ≡ last → ⊥) (is_label : label ≡ get_or ls p 0)
    (checks : x ≡ checked_at code last D p (label - 1)) (gives : x ≡ Some y) where
  pub one_way : {to : Target} → y ≡ Leads l to → Leading code last D p ls o f l to to
  one_way is = leads_one (checked_here place off is_label checks (gives ∙ ap Some is))

  pub two_ways : {jumped passed : Target} → y ≡ Forks l jumped passed → Leading code last D p ls o f l jumped passed
  two_ways is = leads_two (checked_here place off is_label checks (gives ∙ ap Some is))

-- ---- A record that keeps to its height

module _ {code : List ℕ} {last D p : ℕ} {ls o : List ℕ} {f l : ℕ} {jumped passed : Target}
    (s : Leading code last D p ls o f l jumped passed) where
  -- where it leads
  abbrev way : Bool → Target
  way true = jumped
  way false = passed

  module _ (x : Given code last) where
    abbrev r : Record Address
    r = (s.keeping x).0

    abbrev listed : get_elem? x.records p ≡ some r
    listed = (s.keeping x).1

    abbrev keeps : Keeping D (length x.records) p (get_or ls p 0 - 1) r l jumped passed
    keeps = (s.keeping x).2

    -- where it leads is where the record leads,
    way_is : (taken : Bool) → way taken ≡ successor (length x.records) p r taken
    way_is true = keeps.jumped_is
    way_is false = keeps.passed_is

    -- no further than `last`
    way_inside : (taken : Bool) (v : ℕ) → way taken ≡ Some v → v ≤ last
    way_inside taken v e =
        omega (
          arith,
          all_records x,
          leads_within (length x.records) p (effect r).way taken v (omega (arith, all_records x, s.inside))
              (sym (way_is taken) ∙ e),
        )

    -- the label is one more than the height left
    label_is : l + 1 ≡ suc (height_after r (get_or ls p 0 - 1))
    label_is = add-one l ∙ ap suc keeps.after_is

    -- the successors can have no other height, can be reached, and are not astray where heights can be given
    module _ (H : Held D x.records ls o f) where
      only_at : (taken : Bool) → Only D x.records (way taken) (l + 1)
      only_at taken h Hh v e =
          label_is ∙ only H p s.place.there listed taken h Hh v (sym (way_is taken) ∙ e)

      reach_at : (taken : Bool) (v : ℕ) → way taken ≡ Some v → Reached x.records v
      reach_at taken v e = reach H p s.place.there listed taken v (sym (way_is taken) ∙ e)

      lost_at : (taken : Bool) → way taken ≡ None → Passing D x.records → ⊥
      lost_at taken e = lost H p s.place.there listed taken (sym (way_is taken) ∙ e)

  -- the label of the height left
  pub low_label : l + 1 ≤ 65
  low_label = let k = keeps s.place.passes in omega (arith, k.room, k.after_is, s.place.deep)

  -- what is known of both ways
  to_follow : (taken : Bool) → Successor last (way taken) (l + 1)
  to_follow taken =
      record { inside = way_inside s.place.passes taken; some_label = λ z. omega arith; low = low_label }

  -- ---- Its jump is followed

  pub jump_within : Within (length ls) jumped
  jump_within = within last (length ls) jumped s.place.stands.covered (to_follow true).inside

  pub jump_clash : {ls₁ o₁ : List ℕ} → Followed ls o f (l + 1) jumped None ls₁ o₁
      → Visited code last D p ls o f None ls₁ o₁
  jump_clash w x H = clashed w (only_at x H true) (lost_at x H true) H

  module _ {f₁ : ℕ} {ls₁ o₁ : List ℕ} (w : Followed ls o f (l + 1) jumped (Some f₁) ls₁ o₁) where
    pub jump_found : Grew last ls o f ls₁ o₁ f₁ × HasLabel ls₁ (l + 1) jumped
    jump_found = followed w s.place.stands (to_follow true)

    held_once : (x : Given code last) → Held D x.records ls o f → Held D x.records ls₁ o₁ f₁
    held_once x H = held_on w s.place.stands (to_follow true) (reach_at x H true) (only_at x H true) H

    -- ---- Then its step

    pub pass_within : Within (length ls₁) passed
    pass_within = within last (length ls₁) passed jump_found.0.stands.covered (to_follow false).inside

    module _ {f₂ : ℕ} {ls₂ o₂ : List ℕ} (v : Followed ls₁ o₁ f₁ (l + 1) passed (Some f₂) ls₂ o₂) where
      pass_found : Grew last ls₁ o₁ f₁ ls₂ o₂ f₂ × HasLabel ls₂ (l + 1) passed
      pass_found = followed v jump_found.0.stands (to_follow false)

      grown : Grew last ls o f ls₂ o₂ f₂
      grown = grew_twice jump_found.0 pass_found.0

      held_twice : (x : Given code last) → Held D x.records ls o f → Held D x.records ls₂ o₂ f₂
      held_twice x H =
          held_on v jump_found.0.stands (to_follow false) (reach_at x H false) (only_at x H false) (held_once x H)

      -- the height is as it was
      still : get_or ls p 0 - 1 ≡ get_or ls₂ p 0 - 1
      still = ap (λ n. n - 1) (sym (grown.kept p s.place.there))

      -- both ways have the label
      ways_have : (taken : Bool) → HasLabel ls₂ (l + 1) (way taken)
      ways_have true =
          let x = jump_found.1 in
          record {
            to = x.to;
            leads = x.leads;
            has = pass_found.0.kept x.to (λ z. omega (arith, x.has)) ∙ x.has;
          }
      ways_have false = pass_found.1

      -- its conditions hold
      looked_at : (x : Given code last) → Looked D x.records ls₂ p
      looked_at x =
          let d = (s.keeping x).0 in
          let same : (r : Record Address) → get_elem? x.records p ≡ some r → d ≡ r =
          λ r due. same_record x.records p d r (s.keeping x).1 due in
          record {
            ends = λ z. absurd (omega (arith, all_records x, s.inside));
            enough =
                λ r due.
                subst (λ r. (effect r).takes ≤ get_or ls₂ p 0 - 1) (same r due)
                (subst (λ k. (effect d).takes ≤ k) still (keeps x).enough);
            room =
                λ r due.
                subst (λ r. height_after r (get_or ls₂ p 0 - 1) ≤ D) (same r due)
                (subst (λ k. height_after d k ≤ D) still (keeps x).room);
            ways =
                λ r due taken.
                let y = ways_have taken in (
                  y.to,
                  ap (λ r. successor (length x.records) p r taken) (sym (same r due)) ∙ sym (way_is x taken)
                      ∙ y.leads,
                  y.has ∙ label_is x ∙ ap (λ k. suc (height_after d k)) still
                      ∙ ap (λ r. suc (height_after r (get_or ls₂ p 0 - 1))) (same r due),
                );
          }

    -- found, or no heights can be given
    pub both_followed : (result : Option ℕ) {ls₂ o₂ : List ℕ} → Followed ls₁ o₁ f₁ (l + 1) passed result ls₂ o₂
        → Visited code last D p ls o f result ls₂ o₂
    both_followed (Some f₂) v = (grown v, λ x H. (held_twice v x H, looked_at v x))
    both_followed None v = λ x H. clashed v (only_at x H false) (lost_at x H false) (held_once x H)

-- ---- One way, followed once: a second time it would be found again.

pub one_followed : {code : List ℕ} {last D p : ℕ} {ls o : List ℕ} {f l : ℕ} {to : Target}
    (s : Leading code last D p ls o f l to to) (result : Option ℕ) {ls₁ o₁ : List ℕ}
    → Followed ls o f (l + 1) to result ls₁ o₁ → Visited code last D p ls o f result ls₁ o₁
one_followed s (Some f₁) w =
    let x = (jump_found s w).1 in
    both_followed s w (Some f₁) (followed_at x.leads (again x.to x.has))
one_followed s None w = jump_clash s w
