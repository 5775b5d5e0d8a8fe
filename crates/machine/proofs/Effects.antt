-- What records do, over any memory and any sum: the laws that the simulation and the code's steps cite.
use mathlib.Core.Path.{◌≡◌, refl, ◌∙◌, ap}
use Prim.Native.Nat.{ℕ, suc, ◌+◌, ◌-◌, ◌≤◌, ◌<◌}
use native.Mathlib.Omega.{arith}
use mathlib.Core.Bool.{Bool, true, false, not, cond, beq}
use lib.IntN.{ℤ, pos, negsuc, ◌+ℤ◌}
use lib.Dec.{T, ltb, leb, lt→ltb, le→leb}
use lib.Arith.{le→nltb}
use lib.Signed.{lt_z}
use Rattle.std.specs.Prelude.{if◌then◌else◌}
use Rattle.base.specs.Acts.{ok, ended, then'}
use Rattle.word.specs.Sums.{Sum}
use Rattle.word.specs.Targets.{within, target}
use Rattle.std.specs.Prelude.{Some, None}
use Rattle.record.specs.Records.{JMPLESS, JMPGE}
use Rattle.base.specs.Ends.{Fault}
use Rattle.machine.specs.Machine.{Memory, at, taken, pop, push, next, land, jump, act}

-- a test that comes out true, or false
pub if_yes : {A : Type 0} (b : Bool) (x y : A) → T b → (if b then x else y) ≡ x
if_yes true x y h = refl
if_yes false x y h = absurd h

pub if_no : {A : Type 0} (b : Bool) (x y : A) → T (not b) → (if b then x else y) ≡ y
if_no true x y h = absurd h
if_no false x y h = refl

-- the same for mathlib's cond, by which +ℤ is defined
cond_no : {A : Type 0} (b : Bool) (x y : A) → T (not b) → cond b x y ≡ y
cond_no true x y h = absurd h
cond_no false x y h = refl

-- the jump back over c records to p
sub_back : (c p j : ℕ) → j ≡ p + c → pos (suc j) +ℤ negsuc c ≡ pos p
sub_back c p j e =
    cond_no (ltb (suc j) (suc c)) (negsuc (suc c - suc (suc j))) (pos (suc j - suc c))
    (le→nltb (suc j) (suc c) (omega arith))
    ∙ ap pos (omega arith)

within_on : (q last : ℕ) → q ≤ last → within last (pos q) ≡ Some q
unfolding within
within_on q last b = if_yes (leb q last) (Some q) None (le→leb q last b)

-- where a jump on by i from the record before q leads, and a jump back over c records to p
pub target_on : (i p q last : ℕ) → suc p ≡ q → q + i ≤ last → target p (pos i) last ≡ Some (q + i)
unfolding target
target_on i p q last e b = ap (λ r. within last (pos (r + i))) e ∙ within_on (q + i) last b

pub target_back : (c p j last : ℕ) → j ≡ p + c → p ≤ last → target j (negsuc c) last ≡ Some p
unfolding target
target_back c p j last e b = ap (within last) (sub_back c p j e) ∙ within_on p last b

module _ {M Name : Type 0} (sum : ℤ → ℤ → Sum) (D : ℕ) (o : Memory M Name) (last : ℕ) where
  pub push_next : (z : ℤ) (p k : ℕ) (m : M) → k < D
      → then' (push sum D o last z (at p k m)) (λ _. next sum D o last) ≡ ok tt (at (suc p) (suc k) (o.poke m k z))
  unfolding push next then'
  push_next z p k m d =
      ap (λ r. then' r (λ _. next sum D o last))
      (if_yes (ltb k D) (ok tt (at p (suc k) (o.poke m k z))) (ended Fault.full) (lt→ltb k D d))

  -- a jump whose target is known
  pub land_on : (i : ℤ) (p k : ℕ) (m : M) (t : ℕ) → target p i last ≡ Some t
      → jump sum D o last i (at p k m) ≡ ok tt (at t k m)
  unfolding jump land
  land_on i p k m t e = ap (λ t. land sum D o last t (at p k m)) e

  pub jump_on : (i p q k : ℕ) (m : M) → suc p ≡ q → q + i ≤ last
      → jump sum D o last (pos i) (at p k m) ≡ ok tt (at (q + i) k m)
  jump_on i p q k m e b = land_on (pos i) p k m (q + i) (target_on i p q last e b)

  pub jump_back : (c p j k : ℕ) (m : M) → j ≡ p + c → p ≤ last
      → jump sum D o last (negsuc c) (at j k m) ≡ ok tt (at p k m)
  jump_back c p j k m e b = land_on (negsuc c) j k m p (target_back c p j last e b)

  pub next_on : (p q k : ℕ) (m : M) → suc p ≡ q → next sum D o last (at p k m) ≡ ok tt (at q k m)
  unfolding next
  next_on p q k m e = ap (λ r. ok tt (at r k m)) e

  -- JMPLESS under the flag true and JMPGE under false jump where the comparison b is the flag
  pub branch_on : (flag b : Bool) (i p q k : ℕ) (m : M) → suc p ≡ q → q + i ≤ last
      → (if flag then (if b then jump sum D o last (pos i) else next sum D o last)
      else (if b then next sum D o last else jump sum D o last (pos i))) (at p k m)
      ≡ ok tt (at (if beq b flag then q + i else q) k m)
  branch_on true true i p q k m e b = jump_on i p q k m e b
  branch_on true false i p q k m e b = next_on p q k m e
  branch_on false true i p q k m e b = next_on p q k m e
  branch_on false false i p q k m e b = jump_on i p q k m e b

  pub compare_on : (flag : Bool) (i p q k : ℕ) (m : M) → suc p ≡ q → q + i ≤ last
      → act sum D o last (if flag then JMPLESS (pos i) else JMPGE (pos i)) (at p (suc (suc k)) m)
      ≡ ok tt (at (if beq (lt_z (o.peek m k) (o.peek m (suc k))) flag then q + i else q) k m)
  unfolding act pop taken then'
  compare_on true i p q k m e b = branch_on true (lt_z (o.peek m k) (o.peek m (suc k))) i p q k m e b
  compare_on false i p q k m e b = branch_on false (lt_z (o.peek m k) (o.peek m (suc k))) i p q k m e b
