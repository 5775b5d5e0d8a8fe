-- A memory as it is lent, in two slices: a store, and one that has the stack. Machine code's store has no part in it.
use Rattle.std.specs.Prelude.{◌≡◌, ℕ, ◌+◌, ◌-◌, ◌≤◌, ◌<◌, true, List, ℤ, pos, get_or, set}
use Rattle.std.proofs.Common.{refl, arith}
use Rattle.record.specs.Bytes.{Kind, assembly_kind, machine_kind}
use Rattle.record.specs.declared.Variable.{Variable}
use Rattle.record.specs.declared.Address.{Address}
use Rattle.record.proofs.Decoding.{variable_at_most, address_at_most}
use Rattle.machine.specs.Machine.{Memory}
use Rattle.machine.specs.Memories.{Assembly, assembly, machine_cells}

-- D; where the slice has stack slot i; the memory's form; the memory that a store and a stack are; the kind of its
-- records, by the length of the slice that has the stack; that two slices, by their lengths, are as long as it needs;
-- that a name is in them
pub record Lent (M Name : Type 0) : Type 1 where
  pub depth : ℕ
  pub index : ℕ → ℕ
  pub form : Memory M Name
  pub memory : List ℤ → List ℤ → M
  pub kind : ℕ → Kind Name
  pub Fits : ℕ → ℕ → Type 0
  pub Holds : ℕ → ℕ → Name → Type 0

-- What is true of both: their records' first bytes lie `above` those of assembly; all D slots are in the slice, and
-- what it has at their indices are the memory's slots; what is a name is below 256, and is in the slices
pub record LentLaws {M Name : Type 0} (above : ℕ) (x : Lent M Name) : Type 0 where
  pub first : (k : ℕ) → (x.kind k).first ≡ 0x40 + above
  pub deep : (n k : ℕ) → x.Fits n k → x.depth ≤ k
  pub inside : (i : ℕ) → i < x.depth → x.index i < x.depth
  pub peeks : (store stack : List ℤ) (i : ℕ)
      → get_or stack (x.index i) (pos 0) ≡ x.form.peek (x.memory store stack) i
  pub pokes : (store stack : List ℤ) (i : ℕ) (z : ℤ)
      → x.memory store (set stack (x.index i) z) ≡ x.form.poke (x.memory store stack) i z
  pub names : (n k u : ℕ) → x.Fits n k → (x.kind k).is_name u ≡ true
      → (u < 256) × x.Holds n k ((x.kind k).name u)

-- ---- Assembly: a store of 64 cells, and a stack of D cells, bottom first

abbrev pub upward : ℕ → Lent Assembly Variable
upward D = record {
  depth = D;
  index = λ i. i;
  form = assembly;
  memory = λ store stack. record { stack = stack; store = store };
  kind = λ k. assembly_kind;
  Fits = λ n k. (n ≡ 64) × (D ≤ k);
  Holds = λ n k v. v.0 < n;
}

pub upward_laws : (D : ℕ) → LentLaws 0 (upward D)
upward_laws D = record {
  first = λ k. refl;
  deep = λ n k h. h.1;
  inside = λ i h. h;
  peeks = λ store stack i. refl;
  pokes = λ store stack i z. refl;
  names = λ n k u h e. let small = variable_at_most u e in (omega arith, omega (arith, h.0));
}

-- ---- Machine code: one slice, its stack from address −1 down, n from 0 to 64

abbrev pub downward : ℕ → Lent (List ℤ) Address
downward D = record {
  depth = D;
  index = λ i. D - 1 - i;
  form = machine_cells D;
  memory = λ store memory. memory;
  kind = λ k. machine_kind (k - (D + 1));
  Fits = λ n k. (D + 1 ≤ k) × (k ≤ D + 65);
  Holds = λ n k a. D + a.0 < k;
}

pub downward_laws : (D : ℕ) → LentLaws 0x10 (downward D)
downward_laws D = record {
  first = λ k. refl;
  deep = λ n k h. omega (arith, h.0);
  inside = λ i h. omega arith;
  peeks = λ store memory i. refl;
  pokes = λ store memory i z. refl;
  names = λ n k u h e.
      let small = address_at_most (k - (D + 1)) u e in
      (omega (arith, h.0, h.1), omega (arith, h.0, h.1));
}
