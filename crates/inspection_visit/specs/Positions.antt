-- Positions that were found: each is listed in the order o and has a label in ls, one more than its height; 0 is no
-- label. f is how many were found.
use Rattle.std.specs.Prelude.{◌≡◌, ℕ, suc, ◌+◌, ◌-◌, ◌*◌, ◌≤◌, ◌<◌, Bool, List, [], ◌∷◌, eqb, length, get_or, set}
use Rattle.std.proofs.Math.Option.{some}
use Rattle.std.proofs.Math.ListN.{get_elem?}
use Rattle.std.specs.Prelude.{if◌then◌else◌, Option, Some, None}
use Rattle.word.specs.Targets.{Target}
use Rattle.record.specs.Records.{Record, MachineCode}
use Rattle.record.specs.declared.Address.{Address}
use Rattle.inspection.specs.Heights.{effect, successor, height_after, Reached, Heights, Passing}
use Rattle.inspection_visit.specs.Records.{Given}
use Rattle.inspection_visit.specs.declared.Positions.{Positions}

-- ---- The lent arrays

-- The two arrays are those that were lent, each as long as it was, whatever is answered
pub record SameArrays (old new : Positions) : Type 0 where
  pub labels : new.labels.ghost_name ≡ old.labels.ghost_name
  pub labels_long : length new.labels.now ≡ length old.labels.now
  pub order : new.order.ghost_name ≡ old.order.ghost_name
  pub order_long : length new.order.now ≡ length old.order.now

-- ---- A successor

-- How many positions have no label
unfoldable pub zeros : List ℕ → ℕ
zeros [] = 0
zeros (x ∷ l) = (if eqb x 0 then 1 else 0) + zeros l

-- There is room for each position that is not found.
pub record Room (ls o : List ℕ) (f : ℕ) : Type 0 where
  pub wide : length o ≡ length ls
  pub small : length ls ≤ 4097
  pub spare : f + zeros ls ≤ length ls

-- A target that is one of the first n positions
abbrev pub Within : ℕ → Target → Type 0
Within n (Some q) = q < n
Within n None = Unit {0}

-- A successor followed: how many positions are found then; none where its label is another or it is astray
pub data Followed (ls o : List ℕ) (f label : ℕ) : Target → Option ℕ → List ℕ → List ℕ → Type 0 where
  again : (q : ℕ) → get_or ls q 0 ≡ label → Followed ls o f label (Some q) (Some f) ls o
  new : (q : ℕ) → get_or ls q 0 ≡ 0 → Followed ls o f label (Some q) (Some (f + 1)) (set ls q label) (set o f q)
  other : (q : ℕ) → (get_or ls q 0 ≡ 0 → ⊥) → (get_or ls q 0 ≡ label → ⊥) → Followed ls o f label (Some q) None ls o
  astray : Followed ls o f label None None ls o

-- ---- What was found

-- Each position listed is one of code that ends at `last`, and has a label; labels are at most 65.
pub record Stands (last : ℕ) (ls o : List ℕ) (f : ℕ) : Type 0 where
  pub room : Room ls o f
  pub covered : last < length ls
  pub inside : (j : ℕ) → j < f → get_or o j 0 ≤ last
  pub labelled : (j : ℕ) → j < f → get_or ls (get_or o j 0) 0 ≡ 0 → ⊥
  pub low : (p : ℕ) → get_or ls p 0 ≤ 65

-- More is found: what was found is as it was.
pub record Grew (last : ℕ) (ls o : List ℕ) (f : ℕ) (ls' o' : List ℕ) (f' : ℕ) : Type 0 where
  pub stands : Stands last ls' o' f'
  pub long : length ls' ≡ length ls
  pub more : f ≤ f'
  pub kept : (p : ℕ) → (get_or ls p 0 ≡ 0 → ⊥) → get_or ls' p 0 ≡ get_or ls p 0
  pub same : (j : ℕ) → j < f → get_or o' j 0 ≡ get_or o j 0

module _ (D : ℕ) (P : MachineCode) where
  -- What has a label is listed, can be reached, and has the only height that it can have.
  pub record Held (ls o : List ℕ) (f : ℕ) : Type 0 where
    pub begun : get_or ls 0 0 ≡ 1
    pub listed : (p : ℕ) → (get_or ls p 0 ≡ 0 → ⊥) → (j : ℕ) × (j < f) × (get_or o j 0 ≡ p)
    pub reached : (p : ℕ) → (get_or ls p 0 ≡ 0 → ⊥) → Reached P p
    pub forced : (h : ℕ → ℕ) → Heights D P h → (p : ℕ) → (get_or ls p 0 ≡ 0 → ⊥) → get_or ls p 0 ≡ suc (h p)

  -- The conditions on a position, its successors' labels among them
  pub record Looked (ls : List ℕ) (p : ℕ) : Type 0 where
    pub ends : p ≡ length P → get_or ls p 0 ≡ 1
    pub enough : (r : Record Address) → get_elem? P p ≡ some r → (effect r).takes ≤ get_or ls p 0 - 1
    pub room : (r : Record Address) → get_elem? P p ≡ some r → height_after r (get_or ls p 0 - 1) ≤ D
    pub ways : (r : Record Address) → get_elem? P p ≡ some r → (taken : Bool)
        → (q : ℕ) × (successor (length P) p r taken ≡ Some q)
        × (get_or ls q 0 ≡ suc (height_after r (get_or ls p 0 - 1)))

-- ---- A position looked at

-- What is known of it before
pub record Place (code : List ℕ) (last D p : ℕ) (ls o : List ℕ) (f : ℕ) : Type 0 where
  pub at_most : p ≤ last
  pub few : last ≤ 4096
  pub deep : D ≤ 64
  pub bytes : 5 * last ≤ length code
  pub there : get_or ls p 0 ≡ 0 → ⊥
  pub stands : Stands last ls o f
  pub passes : Given code last

-- What is known after: its conditions hold and its successors are found; or no heights can be given
abbrev pub Visited : List ℕ → ℕ → ℕ → ℕ → List ℕ → List ℕ → ℕ → Option ℕ → List ℕ → List ℕ → Type 0
Visited code last D p ls o f (Some f') ls' o' = Grew last ls o f ls' o' f'
    × ((x : Given code last) → Held D x.records ls o f
    → Held D x.records ls' o' f' × Looked D x.records ls' p)
Visited code last D p ls o f None ls' o' =
    (x : Given code last) → Held D x.records ls o f → Passing D x.records → ⊥
