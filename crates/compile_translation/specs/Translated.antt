-- What translating leaves of assembly records P that stood over what was lent.
use Rattle.std.specs.Prelude.{◌≡◌, ℕ, List, length}
use Rattle.record.specs.Records.{AssemblyCode}
use Rattle.record.specs.Bytes.{machine_kind, code_bytes, over}
use Rattle.compile.specs.Table.{vars, table, to_m_prog}

-- n and the table
pub record Numbered (P : AssemblyCode) (n : ℕ) (t : List ℕ) : Type 0 where
  pub cells : n ≡ length (vars P)
  pub table_is : t ≡ table P

-- n, the table, and the machine code over what was lent
pub record Translated (P : AssemblyCode) (lent : List ℕ) (n : ℕ) (t code : List ℕ) : Type 0 where
  pub cells : n ≡ length (vars P)
  pub table_is : t ≡ table P
  pub stand : code ≡ over (code_bytes (machine_kind n) (to_m_prog P)) lent
