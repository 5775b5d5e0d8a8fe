-- Addresses, the table, machine code and the way back (document 01, "Records"; document 001, vars, addr_of, to_m_prog);
-- and whether a table's n and machine code agree (document 02, W6).
use Rattle.std.specs.Prelude.{ℕ, zero, suc, ◌-◌, Bool, true, false, ◌&&◌, List, [], ◌∷◌, map, eqb, length}
use Rattle.std.proofs.Math.Option.{Option, none, some}
use Rattle.std.specs.Prelude.{if◌then◌else◌}
use Rattle.record.specs.Records.{Record, AssemblyCode, MachineCode, variable, address, named, rename}
use Rattle.record.specs.declared.Variable.{Variable}
use Rattle.record.specs.declared.Address.{Address}

-- ---- The published translation

-- "x ∈ set xs"
unfoldable pub member : ℕ → List ℕ → Bool
member v [] = false
member v (x ∷ xs) = if eqb x v then true else member v xs

-- The published vars, of either kind of records
module _ {Name : Type 0} (number : Name → ℕ) where
  -- a name's number in front of others, unless it is among them
  unfoldable pub once : Option Name → List ℕ → List ℕ
  once none xs = xs
  once (some x) xs = if member (number x) xs then xs else number x ∷ xs

  -- the numbers that records name, each at its last mention
  unfoldable pub mentions : List (Record Name) → List ℕ
  mentions [] = []
  mentions (r ∷ P) = once (named r) (mentions P)

-- The published vars: the variables that records name, each at its last mention
abbrev pub vars : AssemblyCode → List ℕ
vars = mentions (λ (v : Variable). v.0)

-- The published addr_of: counted from the end, so that "the variable whose last mention comes last has address 1";
-- 0 if unnamed
unfoldable pub addr_of : List ℕ → ℕ → ℕ
addr_of [] v = 0
addr_of (x ∷ xs) v = if eqb x v then suc (length xs) else addr_of xs v

-- The published to_m_prog: "the machine code is a map over the assembly, record for record"
abbrev pub to_m_prog : AssemblyCode → MachineCode
to_m_prog P = map (rename (λ v. address (addr_of (vars P) v.0))) P

-- ---- The table

-- the addresses of k variables from v on
unfoldable pub entries : List ℕ → ℕ → ℕ → List ℕ
entries xs v zero = []
entries xs v (suc k) = addr_of xs v ∷ entries xs (suc v) k

-- "The table is 64 bytes: each variable's address, 0 if unnamed"
abbrev pub table : AssemblyCode → List ℕ
table P = entries (vars P) 0 64

-- ---- The test of a table that is read

-- how often a stands in a table
unfoldable pub times : ℕ → List ℕ → ℕ
times a [] = 0
times a (x ∷ t) = if eqb x a then suc (times a t) else times a t

-- "n is how many are named": "a call with a table takes n from it"
abbrev pub named_in : List ℕ → ℕ
named_in t = length t - times 0 t

-- each of the k numbers from a on stands in the table once
unfoldable pub once_each : List ℕ → ℕ → ℕ → Bool
once_each t a zero = true
once_each t a (suc k) = if eqb (times a t) 1 then once_each t (suc a) k else false

-- 12: "the nonzero entries are 1 to n, once each"
abbrev pub is_table : List ℕ → Bool
is_table t = once_each t 1 (named_in t)

-- ---- The test of a table's n against machine code (document 02, W6)

-- The published vars, of machine code: the addresses "seen from the last record backwards, .. at their first sight".
-- The one seen last stands in front
abbrev pub addresses : MachineCode → List ℕ
addresses = mentions (λ (a : Address). a.0)

-- whether numbers are, from the last one to the first, "1, 2 and on"
unfoldable pub in_order : List ℕ → Bool
in_order [] = true
in_order (a ∷ xs) = eqb a (suc (length xs)) && in_order xs

-- 14: "the addresses at their first sight are 1, 2 and on to n"
abbrev pub agrees : MachineCode → ℕ → Bool
agrees P n = in_order (addresses P) && eqb (length (addresses P)) n

-- ---- The way back

-- the variable from v on whose entry is a
unfoldable pub variable_at : List ℕ → ℕ → ℕ → ℕ
variable_at [] v a = 0
variable_at (x ∷ t) v a = if eqb x a then v else variable_at t (suc v) a

-- "Going back turns machine records and a table into assembly"
abbrev pub to_assembly : List ℕ → MachineCode → AssemblyCode
to_assembly t P = map (rename (λ a. variable (variable_at t 0 a.0))) P
