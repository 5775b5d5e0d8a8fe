-- Heights of the stack at the positions of code (document 02, W5). They are of the code alone: no value is looked at.
use Rattle.std.specs.Prelude.{◌≡◌, ℕ, suc, ◌+◌, ◌-◌, ◌≤◌, Bool, true, false, List, ℤ, length}
use Rattle.std.proofs.Math.Option.{some}
use Rattle.std.proofs.Math.ListN.{get_elem?}
use Rattle.word.specs.Targets.{Target, target}
use Rattle.std.specs.Prelude.{Some, None}
use Rattle.record.specs.Records.{Record, LOADI, LOAD, ADD, STORE, JMP, JMPLESS, JMPGE}

-- ---- A record: what it takes, what it puts, where it leads

-- On to the next record, by a jump, or either way
pub data Way : Type 0 where
  on : Way
  by : ℤ → Way
  either : ℤ → Way

-- The values that a record takes off the stack, those that it then pushes, and its way
pub record Effect : Type 0 where
  pub takes : ℕ
  pub puts : ℕ
  pub way : Way

infixr 5 takes◌puts◌then◌
abbrev pub takes◌puts◌then◌ : ℕ → ℕ → Way → Effect
takes t puts u then w = record { takes = t; puts = u; way = w }

-- One line for each record. "A comparing jump has both successors"
unfoldable pub effect : {Name : Type 0} → Record Name → Effect
effect (LOADI z) = takes 0 puts 1 then on
effect (LOAD x) = takes 0 puts 1 then on
effect ADD = takes 2 puts 1 then on
effect (STORE x) = takes 1 puts 0 then on
effect (JMP i) = takes 0 puts 0 then by i
effect (JMPLESS i) = takes 2 puts 0 then either i
effect (JMPGE i) = takes 2 puts 0 then either i

-- Where a way leads from p in code that ends at position `last`: with the jump taken, and without
unfoldable pub leads : ℕ → ℕ → Way → Bool → Target
leads last p on taken = Some (suc p)
leads last p (by i) taken = target p i last
leads last p (either i) true = target p i last
leads last p (either i) false = Some (suc p)

-- The successor of the record r at position p: one with its jump taken, one without; the same where it has one way
abbrev pub successor : {Name : Type 0} → ℕ → ℕ → Record Name → Bool → Target
successor last p r taken = leads last p (effect r).way taken

-- "The height left by the record", from the height k
abbrev pub height_after : {Name : Type 0} → Record Name → ℕ → ℕ
height_after r k = k - (effect r).takes + (effect r).puts

-- ---- Code

-- "All positions that jumps and steps can reach from 0"
pub data Reached {Name : Type 0} (P : List (Record Name)) : ℕ → Type 0 where
  first : Reached P 0
  step : {p q : ℕ} {r : Record Name} (taken : Bool) → Reached P p → get_elem? P p ≡ some r
      → successor (length P) p r taken ≡ Some q → Reached P q

-- h gives each position a height; what it gives to positions that cannot be reached is not looked at.
module _ {Name : Type 0} (D : ℕ) (P : List (Record Name)) (h : ℕ → ℕ) where
  -- "Such" records: each r that stands at a position p which can be reached
  abbrev pub EachSuch : (ℕ → Record Name → Type 0) → Type 0
  EachSuch Q = (p : ℕ) (r : Record Name) → Reached P p → get_elem? P p ≡ some r → Q p r

  -- The heights h can be given
  pub record Heights : Type 0 where
    -- "Height 0 stands at position 0"
    pub start : h 0 ≡ 0
    -- "No such record takes more than its height"
    pub enough : EachSuch (λ p r. (effect r).takes ≤ h p)
    -- "none pushes past D" (of a record that pushes nothing this follows from the other conditions)
    pub room : EachSuch (λ p r. height_after r (h p) ≤ D)
    -- "each successor has the height left by the record"
    pub follows : EachSuch (λ p r. (taken : Bool) (q : ℕ) → successor (length P) p r taken ≡ Some q
        → h q ≡ height_after r (h p))
    -- "no such jump lands below 0 or past the end position"
    pub lands : EachSuch (λ p r. (taken : Bool) → successor (length P) p r taken ≡ None → ⊥)
    -- "and the end has height 0 if reached"
    pub ends : Reached P (length P) → h (length P) ≡ 0

-- Code passes where "heights can be given"
abbrev pub Passing : {Name : Type 0} → ℕ → List (Record Name) → Type 0
Passing D P = (h : ℕ → ℕ) × Heights D P h
