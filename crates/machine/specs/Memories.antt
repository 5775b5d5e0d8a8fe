-- The two memories (document 01, "Executors").
use Rattle.std.specs.Prelude.{ℕ, ◌+◌, ◌-◌, List, ℤ, pos, get_or, set}
use Rattle.record.specs.declared.Variable.{Variable}
use Rattle.record.specs.declared.Address.{Address}
use Rattle.machine.specs.Machine.{Memory}

-- "Assembly keeps its stack in a lent slice whose length is D, bottom first", and beside it the store
pub record Assembly : Type 0 where
  pub stack : List ℤ
  pub store : List ℤ

abbrev pub assembly : Memory Assembly Variable
assembly = record {
  load = λ m v. get_or m.store v.0 (pos 0);
  save = λ m v z. record { stack = m.stack; store = set m.store v.0 z };
  peek = λ m i. get_or m.stack i (pos 0);
  poke = λ m i z. record { stack = set m.stack i z; store = m.store };
}

-- "Machine memory has D + 1 + n cells; cell j is address j − D. The stack grows from −1 down": stack slot i has address
-- −1 − i
abbrev pub machine_cells : ℕ → Memory (List ℤ) Address
machine_cells D = record {
  load = λ m a. get_or m (D + a.0) (pos 0);
  save = λ m a z. set m (D + a.0) z;
  peek = λ m i. get_or m (D - 1 - i) (pos 0);
  poke = λ m i z. set m (D - 1 - i) z;
}
