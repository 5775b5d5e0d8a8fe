-- The small codes, and where the call declines, by computation (Cases: CodesPass, CodesFail, InspectDeclines).
use mathlib.Core.Path.{◌≡◌, refl, subst}
use Prim.Native.Nat.{ℕ, zero, suc, ◌≤◌}
use native.Mathlib.Omega.{arith}
use mathlib.Core.Bool.{Bool, true, false}
use mathlib.Core.List.{[], ◌∷◌}
use mathlib.Core.Option.{none, some}
use lib.IntN.{pos, negsuc}
use lib.ListN.{length, get_or, get_elem?}
use Rattle.base.specs.Answers.{and_then}
use Rattle.word.specs.Numbers.{number_of, number_at}
use Rattle.word.specs.Targets.{within, target}
use Rattle.std.specs.Prelude.{Some}
use Rattle.record.specs.Records.{Record, MachineCode, LOADI, ADD, STORE, JMP, JMPGE, address}
use Rattle.record.specs.Bytes.{operation, name_of, option_map, is_zero, record_of, in_front, records_from}
use Rattle.record.specs.declared.Address.{Address}
use Rattle.inspection.specs.Heights.{effect, leads, successor, height_after, Reached, first, step, Passing}
use Rattle.inspection.specs.Calls.{inspect_tests}
use Rattle.inspection.specs.Cases.{Passes, Fails, CodesPass, CodesFail, InspectDeclines}
use Rattle.inspection.proofs.Right.{same_target, Right, right_heights}
use Rattle.inspection.proofs.Judging.{judged_passes, judged_fails}

-- ---- Codes that pass

-- Positions that the code does not leave, with the heights h: each of their records keeps to its height, and its ways
-- lead to such positions.
module _ (D : ℕ) (P : MachineCode) (h : ℕ → ℕ) (In : ℕ → Type 0) where
  record Kept (p : ℕ) (r : Record Address) : Type 0 where
    enough : (effect r).takes ≤ h p
    room : height_after r (h p) ≤ D
    ways : (taken : Bool)
        → (q : ℕ) × (successor (length P) p r taken ≡ Some q) × (h q ≡ height_after r (h p)) × In q

  -- a record that is known to stand there
  kept_at : (p : ℕ) {r s : Record Address} → some r ≡ some s → Kept p r → Kept p s
  kept_at p {r} {s} e x = let is : r ≡ s = cc in subst (Kept p) is x

  module _ (in_0 : In 0) (each : (p : ℕ) (r : Record Address) → In p → get_elem? P p ≡ some r → Kept p r) where
    inside : (p : ℕ) → Reached P p → In p
    inside p (first) = in_0
    inside p (step {p = p₀} {r = r} taken w e l) =
        let x = (each p₀ r (inside p₀ w) e).ways taken in
        subst In (same_target _ x.0 p x.1 l) x.3

    passing : h 0 ≡ 0 → (In (length P) → h (length P) ≡ 0) → Passing D P
    passing z e = (h, right_heights D P h z (λ p r w due. right (each p r (inside p w) due)) (λ w. e (inside _ w)))
      where
        right : {p : ℕ} {r : Record Address} → Kept p r → Right D P h p r
        right x = record {
          enough = x.enough;
          room = x.room;
          ways = λ taken. let y = x.ways taken in (y.0, y.1, y.2);
        }

-- past the last record there is none
past : {Q : Type 0} {x : Record Address} → none ≡ some x → Q
past e = absurd (let z : ◌≡◌ {A = ℕ} 0 1 = cc in omega arith)

nothing : (D : ℕ) → Passes D []
nothing D = passing D [] (λ p. 0) (λ p. Unit {0}) tt (λ p r i e. past e) refl (λ i. refl)

around : MachineCode
around = LOADI (pos 0) ∷ LOADI (pos 1) ∷ JMPGE (negsuc 2) ∷ []

abbrev to_2 : ℕ → ℕ
to_2 p = get_or (0 ∷ 1 ∷ 2 ∷ []) p 0

abbrev Any : ℕ → Type 0
Any p = Unit {0}

around_kept : (p : ℕ) (r : Record Address) → Any p → get_elem? around p ≡ some r → Kept 2 around to_2 Any p r
unfolding around effect leads target within
around_kept zero r i e = kept_at 2 around to_2 Any 0 e record {
  enough = omega arith;
  room = omega arith;
  ways = λ taken. (1, refl, refl, tt);
}
around_kept (suc zero) r i e = kept_at 2 around to_2 Any 1 e record {
  enough = omega arith;
  room = omega arith;
  ways = λ taken. (2, refl, refl, tt);
}
around_kept (suc (suc zero)) r i e = kept_at 2 around to_2 Any 2 e record {
  enough = omega arith;
  room = omega arith;
  ways = λ (taken : Bool).
      elim taken as (λ (k : Bool).
      (q : ℕ) × (successor {Name = Address} (length around) 2 (JMPGE (negsuc 2)) k ≡ Some q)
      × (to_2 q ≡ height_after {Name = Address} (JMPGE (negsuc 2)) 2) × Any q) [
        | true ↦ (0, refl, refl, tt)
        | false ↦ (3, refl, refl, tt)
      ];
}
around_kept (suc (suc (suc p))) r i e = past e

loop : Passing 2 around
unfolding around
loop = passing 2 around to_2 Any tt around_kept refl (λ i. refl)

over : MachineCode
over = JMP (pos 1) ∷ ADD ∷ []

-- position 1 is not reached
abbrev NotOne : ℕ → Type 0
NotOne p = p ≡ 1 → ⊥

over_kept : (p : ℕ) (r : Record Address) → NotOne p → get_elem? over p ≡ some r → Kept 0 over (λ p. 0) NotOne p r
unfolding over effect leads target within
over_kept zero r i e = kept_at 0 over (λ p. 0) NotOne 0 e record {
  enough = omega arith;
  room = omega arith;
  ways = λ taken. (2, refl, refl, λ z. omega arith);
}
over_kept (suc zero) r i e = absurd (i refl)
over_kept (suc (suc p)) r i e = past e

skipped : Passing 0 over
skipped = passing 0 over (λ p. 0) NotOne (λ z. omega arith) over_kept refl (λ i. refl)

forever : MachineCode
forever = LOADI (pos 7) ∷ JMP (negsuc 0) ∷ []

abbrev to_1 : ℕ → ℕ
to_1 p = get_or (0 ∷ 1 ∷ []) p 0

-- the end is not reached
abbrev NotTwo : ℕ → Type 0
NotTwo p = p ≡ 2 → ⊥

forever_kept : (p : ℕ) (r : Record Address) → NotTwo p → get_elem? forever p ≡ some r
    → Kept 1 forever to_1 NotTwo p r
unfolding forever effect leads target within
forever_kept zero r i e = kept_at 1 forever to_1 NotTwo 0 e record {
  enough = omega arith;
  room = omega arith;
  ways = λ taken. (1, refl, refl, λ z. omega arith);
}
forever_kept (suc zero) r i e = kept_at 1 forever to_1 NotTwo 1 e record {
  enough = omega arith;
  room = omega arith;
  ways = λ taken. (1, refl, refl, λ z. omega arith);
}
forever_kept (suc (suc p)) r i e = past e

endless : Passing 1 forever
unfolding forever
endless = passing 1 forever to_1 NotTwo (λ z. omega arith) forever_kept refl (λ i. absurd (i refl))

pub codes_pass : CodesPass
unfolding around over forever
codes_pass = record { nothing = nothing 0; loop = loop; skipped = skipped; endless = endless }

-- ---- Codes that do not: the heights that the conditions force contradict one of them

-- two values pushed: positions 1 and 2 are reached
module _ (P : MachineCode) (a : get_elem? P 0 ≡ some (LOADI (pos 0))) (b : get_elem? P 1 ≡ some (LOADI (pos 1))) where
  reached_2 : Reached P 2
  unfolding effect leads
  reached_2 = step true (step true first a refl) b refl

takes_more : (D : ℕ) → Fails D (ADD ∷ [])
unfolding effect
takes_more D (h, H) = omega (arith, H.start, H.enough 0 ADD first refl)

past_D : Fails 0 (LOADI (pos 7) ∷ STORE (address 1) ∷ [])
unfolding effect
past_D (h, H) = omega (arith, H.start, H.room 0 (LOADI (pos 7)) first refl)

two_heights : Fails 64 (LOADI (pos 0) ∷ LOADI (pos 1) ∷ JMPGE (pos 1) ∷ LOADI (pos 7) ∷ [])
unfolding effect leads target within
two_heights (h, H) =
    let at_2 = reached_2 _ refl refl in
    let at_3 = step {r = JMPGE (pos 1)} false at_2 refl refl in
    omega (
      arith,
      H.follows 2 (JMPGE (pos 1)) at_2 refl true 4 refl,
      H.follows 2 (JMPGE (pos 1)) at_2 refl false 3 refl,
      H.follows 3 (LOADI (pos 7)) at_3 refl true 4 refl,
    )

back_higher : Fails 64 (LOADI (pos 7) ∷ JMP (negsuc 1) ∷ [])
unfolding effect leads target within
back_higher (h, H) =
    omega (
      arith,
      H.follows 0 (LOADI (pos 7)) first refl true 1 refl,
      H.follows 1 (JMP (negsuc 1)) (step {r = LOADI (pos 7)} true first refl refl) refl true 0 refl,
    )

below : Fails 64 (JMP (negsuc 1) ∷ [])
unfolding effect leads target within
below (h, H) = H.lands 0 (JMP (negsuc 1)) first refl true refl

past_end : Fails 64 (LOADI (pos 0) ∷ LOADI (pos 1) ∷ JMPGE (pos 1) ∷ [])
unfolding effect leads target within
past_end (h, H) = H.lands 2 (JMPGE (pos 1)) (reached_2 _ refl refl) refl true refl

high_end : Fails 64 (LOADI (pos 7) ∷ [])
unfolding effect leads
high_end (h, H) =
    omega (
      arith,
      H.start,
      H.follows 0 (LOADI (pos 7)) first refl true 1 refl,
      H.ends (step {r = LOADI (pos 7)} true first refl refl),
    )

pub codes_fail : CodesFail
codes_fail = record {
  takes_more = takes_more 64;
  past_D = past_D;
  two_heights = two_heights;
  back_higher = back_higher;
  below = below;
  past_end = past_end;
  high_end = high_end;
}

-- ---- Where the call declines

pub inspect_declines : InspectDeclines
unfolding and_then number_of number_at
    operation name_of option_map is_zero record_of in_front records_from inspect_tests
inspect_declines = record {
  nothing = judged_passes 0 [] (nothing 0);
  nine = refl;
  ten = refl;
  ten_address_0 = refl;
  ten_address_2 = refl;
  ten_second = refl;
  eleven_D = refl;
  eleven_n = refl;
  not_eleven = judged_passes 64 [] (nothing 64);
  thirteen = judged_fails 2 (ADD ∷ []) (takes_more 2);
  nine_ten = refl;
  ten_eleven = refl;
  ten_eleven_n = refl;
  ten_thirteen = refl;
  eleven_thirteen = refl;
}
