-- Profiles A to K (document 01, "Profiles to hold it to"), as one table; where load and read_back decline ("When a call
-- declines"); the preview of a loaded machine (document 02, W3); and code and table in one call (W6).
use Rattle.std.specs.Prelude.{◌≡◌, ℕ, ◌+◌, ◌*◌, List, [], ◌∷◌, ◌++◌, map, ℤ, pos, negsuc, get_or, replicate, take}
use Rattle.base.specs.Answers.{Answer, gives, refused, and_then}
use Rattle.base.specs.Ends.{End, done, spent, fault, short, full, astray, Ran, ran}
use Rattle.text.specs.Syntax.{Command}
use Rattle.text.specs.Reading.{read_text}
use Rattle.text.specs.Sizes.{records, depth, cells}
use Rattle.text.specs.Cases.{A_text, B_text, C_text, D_text, E_text, F_text, G_text, H_text, I_text, J_text}
use Rattle.text.specs.Cases.{K_text}
use Rattle.source.specs.Rules.{Store}
use Rattle.source.specs.Calls.{run_source}
use Rattle.source.specs.Cases.{zeros, sevens}
use Rattle.record.specs.Cases.{five}
use Rattle.record.specs.Records.{AssemblyCode, LOADI, LOAD, ADD, STORE, JMP, JMPGE, variable}
use Rattle.machine.specs.Cases.{memory}
use Rattle.compile.specs.Compilation.{ccomp}
use Rattle.compile.specs.Table.{table}
use Rattle.compile.specs.Calls.{Compiled}
use Rattle.compile.specs.Cases.{B_machine, B_table, two_ones}
use Rattle.fitting.specs.Loading.{loaded}
use Rattle.fitting.specs.Calls.{load, read_back_call, preview_machine}
use Rattle.fitting.specs.Rows.{four_calls}
use Rattle.fitting.specs.Paired.{run_paired}

-- A text and a budget; the assembly records; D; n; the addresses of x0, x1 and x2; and, starting from zeros, the end,
-- the count, the mark and x0
pub record Case : Type 0 where
  pub text : List ℕ
  pub budget : ℕ
  pub records : AssemblyCode
  pub stack : ℕ
  pub cells : ℕ
  pub addresses : List ℕ
  pub end : End
  pub count : ℕ
  pub mark : ℕ
  pub x0 : ℤ

abbrev pub case : List ℕ → ℕ → AssemblyCode → ℕ → ℕ → List ℕ → End → ℕ → ℕ → ℤ → Case
case text b P d n a e k mark x = record {
  text = text;
  budget = b;
  records = P;
  stack = d;
  cells = n;
  addresses = a;
  end = e;
  count = k;
  mark = mark;
  x0 = x;
}

-- ---- The records

abbrev pub B_records : AssemblyCode
B_records = LOAD (variable 1) ∷ LOADI (pos 5) ∷ ADD ∷ STORE (variable 0) ∷ []

-- "8 records, JMPGE 5, JMP −8"
abbrev pub C_records : AssemblyCode
C_records =
    LOAD (variable 0) ∷ LOADI (pos 3) ∷ JMPGE (pos 5)
    ∷ LOAD (variable 0) ∷ LOADI (pos 1) ∷ ADD ∷ STORE (variable 0) ∷ JMP (negsuc 7) ∷ []

abbrev pub D_records : AssemblyCode
D_records = JMP (pos 2) ∷ LOADI (pos 1) ∷ STORE (variable 0) ∷ []

abbrev pub E_records : AssemblyCode
E_records = JMP (pos 1) ∷ JMP (pos 2) ∷ LOADI (pos 1) ∷ STORE (variable 0) ∷ []

abbrev pub F_records : AssemblyCode
F_records =
    JMP (pos 6) ∷ LOADI (pos 2147483647) ∷ LOADI (pos 1) ∷ ADD ∷ LOADI (pos 0) ∷ JMPGE (pos 1) ∷ JMP (pos 0) ∷ []

abbrev pub G_records : AssemblyCode
G_records =
    LOADI (pos 2147483647) ∷ LOADI (pos 1) ∷ ADD ∷ LOADI (pos 0) ∷ JMPGE (pos 2) ∷ JMP (pos 1) ∷ JMP (pos 0) ∷ []

abbrev pub H_records : AssemblyCode
H_records = LOADI (negsuc 2147483647) ∷ LOADI (pos 2147483647) ∷ ADD ∷ STORE (variable 0) ∷ []

abbrev pub I_records : AssemblyCode
I_records = LOAD (variable 1) ∷ STORE (variable 0) ∷ LOAD (variable 1) ∷ STORE (variable 2) ∷ []

abbrev pub J_records : AssemblyCode
J_records = JMP (negsuc 0) ∷ []

abbrev pub K_records : AssemblyCode
K_records = LOADI (pos 1) ∷ LOADI (pos 1) ∷ ADD ∷ LOADI (pos 1) ∷ ADD ∷ STORE (variable 0) ∷ []

-- ---- The table

-- text, budget, records, D, n, addresses of x0, x1 and x2, end, count, mark, x0
unfoldable pub cases : List Case
cases =
    case A_text 1000000 [] 0 0 (0 ∷ 0 ∷ 0 ∷ []) done 0 0 (pos 0)
    ∷ case B_text 1000000 B_records 2 2 (1 ∷ 2 ∷ 0 ∷ []) done 4 2 (pos 5)
    ∷ case B_text 4 B_records 2 2 (1 ∷ 2 ∷ 0 ∷ []) done 4 2 (pos 5)
    ∷ case B_text 3 B_records 2 2 (1 ∷ 2 ∷ 0 ∷ []) spent 3 2 (pos 0)
    ∷ case C_text 1000000 C_records 2 1 (1 ∷ 0 ∷ 0 ∷ []) done 27 2 (pos 3)
    ∷ case D_text 1000000 D_records 1 1 (1 ∷ 0 ∷ 0 ∷ []) done 1 0 (pos 0)
    ∷ case E_text 1000000 E_records 1 1 (1 ∷ 0 ∷ 0 ∷ []) done 3 1 (pos 1)
    ∷ case F_text 1000000 F_records 2 0 (0 ∷ 0 ∷ 0 ∷ []) done 1 0 (pos 0)
    ∷ case G_text 1000000 G_records 2 0 (0 ∷ 0 ∷ 0 ∷ []) done 5 2 (pos 0)
    ∷ case H_text 1000000 H_records 2 1 (1 ∷ 0 ∷ 0 ∷ []) done 4 2 (negsuc 0)
    ∷ case I_text 1000000 I_records 1 3 (3 ∷ 2 ∷ 1 ∷ []) done 4 1 (pos 0)
    ∷ case J_text 0 J_records 0 0 (0 ∷ 0 ∷ 0 ∷ []) spent 0 0 (pos 0)
    ∷ case J_text 1 J_records 0 0 (0 ∷ 0 ∷ 0 ∷ []) spent 1 0 (pos 0)
    ∷ case J_text 1000 J_records 0 0 (0 ∷ 0 ∷ 0 ∷ []) spent 1000 0 (pos 0)
    ∷ case K_text 1000000 K_records 2 1 (1 ∷ 0 ∷ 0 ∷ []) done 6 2 (pos 3)
    ∷ []

-- a case as the definitions have it, its run telling r
unfoldable pub measured : Case → Command → Ran → Store → Case
measured k c r s =
    case k.text k.budget (ccomp c) (depth c) (cells c) (take 3 (table (ccomp c))) r.end r.count
    r.mark (get_or s 0 (pos 0))

-- by the source rules
unfoldable pub by_rules : Case → Command → Answer Case
by_rules k c =
    let r = run_source k.text zeros k.budget in
    and_then r.0 (λ ran. gives (measured k c ran r.1))

-- by the four calls on the machine, the lent buffers filled with other values first
unfoldable pub by_machine : Case → Command → Answer Case
by_machine k c =
    let lent : Compiled = record { code = replicate (5 * records c) 0xee; table = replicate 64 0xee } in
    let memory : List ℤ = replicate (depth c + 1 + cells c) (pos 7) in
    and_then (four_calls k.text lent memory zeros k.budget) (λ (ran, s). gives (measured k c ran s))

-- Every row of the table holds, by the source rules and by the machine.
abbrev pub Profiles : Type 0
Profiles =
    (map (λ k. and_then (read_text k.text) (by_rules k)) cases ≡ map gives cases)
    × (map (λ k. and_then (read_text k.text) (by_machine k)) cases ≡ map gives cases)

-- Profile I's table and a store of 7, 8, 9 and zeros, loaded with D 1: the stack's cell, address 0, then x2, x1, x0.
abbrev pub MemoryOfI : Type 0
MemoryOfI =
    loaded (3 ∷ 2 ∷ 1 ∷ replicate 61 0) 1 3 (pos 7 ∷ pos 8 ∷ pos 9 ∷ replicate 61 (pos 0))
    ≡ pos 0 ∷ pos 0 ∷ pos 9 ∷ pos 8 ∷ pos 7 ∷ []

-- ---- Where load and read_back decline, both alike: 8, 12, 11

-- x0 has address 1, and no other variable has one: n is 1
abbrev pub one_entry : List ℕ
one_entry = 1 ∷ replicate 63 0

-- load, of a table, a store, D and a memory: number and place, and the memory as it was. Where two refusals are due,
-- the first in order is given.
pub record LoadDeclines : Type 0 where
  -- 8: a store of 63 cells; a table of 63 bytes
  pub eight_store : load one_entry (sevens 63) 2 (memory 4) ≡ (refused 8 0, memory 4)
  pub eight_table : load (1 ∷ replicate 62 0) (sevens 64) 2 (memory 4) ≡ (refused 8 0, memory 4)
  -- 12: two entries 1
  pub twelve : load (two_ones 62) (sevens 64) 2 (memory 5) ≡ (refused 12 0, memory 5)
  -- 11: D 2, n 1, 3 cells, and 5 cells; D 65
  pub eleven : load one_entry (sevens 64) 2 (memory 3) ≡ (refused 11 0, memory 3)
  pub eleven_longer : load one_entry (sevens 64) 2 (memory 5) ≡ (refused 11 0, memory 5)
  pub eleven_D : load one_entry (sevens 64) 65 (memory 67) ≡ (refused 11 0, memory 67)
  -- with 4 cells it loads: x0 at address 1, and 0 elsewhere
  pub not_eleven : load one_entry (sevens 64) 2 (memory 4) ≡ (gives 1, pos 0 ∷ pos 0 ∷ pos 0 ∷ pos 7 ∷ [])
  -- 8, and 12: a store of 63 cells, or a table of 63 bytes, and two entries 1
  pub eight_twelve : load (two_ones 62) (sevens 63) 2 (memory 5) ≡ (refused 8 0, memory 5)
  pub eight_twelve_table : load (two_ones 61) (sevens 64) 2 (memory 5) ≡ (refused 8 0, memory 5)
  -- 12, and 11: two entries 1, and 3 cells
  pub twelve_eleven : load (two_ones 62) (sevens 64) 2 (memory 3) ≡ (refused 12 0, memory 3)

-- read_back, of a table, a memory, D and a store: number and place, and the store as it was.
pub record ReadBackDeclines : Type 0 where
  -- 8: a store of 63 cells; a table of 63 bytes
  pub eight_store : read_back_call one_entry (memory 4) 2 (sevens 63) ≡ (refused 8 0, sevens 63)
  pub eight_table : read_back_call (1 ∷ replicate 62 0) (memory 4) 2 (sevens 64) ≡ (refused 8 0, sevens 64)
  -- 12: two entries 1
  pub twelve : read_back_call (two_ones 62) (memory 5) 2 (sevens 64) ≡ (refused 12 0, sevens 64)
  -- 11: D 2, n 1, 3 cells, and 5 cells; D 65
  pub eleven : read_back_call one_entry (memory 3) 2 (sevens 64) ≡ (refused 11 0, sevens 64)
  pub eleven_longer : read_back_call one_entry (memory 5) 2 (sevens 64) ≡ (refused 11 0, sevens 64)
  pub eleven_D : read_back_call one_entry (memory 67) 65 (sevens 64) ≡ (refused 11 0, sevens 64)
  -- with 4 cells it reads back: x0 is what address 1 holds, and every other variable is as it was
  pub not_eleven : read_back_call one_entry (memory 4) 2 (sevens 64) ≡ (gives 1, pos 8 ∷ sevens 63)
  -- 8, and 12: a store of 63 cells, or a table of 63 bytes, and two entries 1
  pub eight_twelve : read_back_call (two_ones 62) (memory 5) 2 (sevens 63) ≡ (refused 8 0, sevens 63)
  pub eight_twelve_table : read_back_call (two_ones 61) (memory 5) 2 (sevens 64) ≡ (refused 8 0, sevens 64)
  -- 12, and 11: two entries 1, and 3 cells
  pub twelve_eleven : read_back_call (two_ones 62) (memory 3) 2 (sevens 64) ≡ (refused 12 0, sevens 64)

-- ---- Previews of a loaded machine

-- B's machine code, loaded from a store of equal cells and previewed over sevens
abbrev pub preview_B : ℤ → ℕ → Answer Ran × Store
preview_B x budget = preview_machine B_machine (loaded B_table 2 2 (replicate 64 x)) 2 B_table (sevens 64) budget

-- Loaded from sevens, under budget 3 and 4: the store so far, and the run's own at its end; loaded from eights, x0 and
-- x1 come from the memory, and the other variables from the store.
abbrev pub PreviewsOfB : Type 0
PreviewsOfB = preview_B (pos 7) 3 ∷ preview_B (pos 7) 4 ∷ preview_B (pos 8) 4 ∷ []
    ≡ (gives (ran spent 3 2), sevens 64) ∷ (gives (ran done 4 2), pos 12 ∷ sevens 63)
    ∷ (gives (ran done 4 2), pos 13 ∷ pos 8 ∷ sevens 62) ∷ []

-- Where it declines, of code, memory, D, table and store under budget 9: number and place, and 64 zeros.
pub record PreviewDeclines : Type 0 where
  -- 9: 4 bytes
  pub nine : preview_machine (replicate 4 0x50) (memory 4) 2 one_entry (sevens 64) 9 ≡ (refused 9 0, zeros)
  -- 8: a store of 63 cells; a table of 63 bytes
  pub eight_store : preview_machine (five 0x50 0) (memory 4) 2 one_entry (sevens 63) 9 ≡ (refused 8 0, zeros)
  pub eight_table :
      preview_machine (five 0x50 0) (memory 4) 2 (1 ∷ replicate 62 0) (sevens 64) 9 ≡ (refused 8 0, zeros)
  -- 12: two entries 1
  pub twelve : preview_machine (five 0x50 0) (memory 5) 2 (two_ones 62) (sevens 64) 9 ≡ (refused 12 0, zeros)
  -- 10: `52 01 00 00 00`; the address 2, where the table names one variable and the memory has a cell more; at index 1
  pub ten : preview_machine (five 0x52 1) (memory 4) 2 one_entry (sevens 64) 9 ≡ (refused 10 0, zeros)
  pub ten_address_2 : preview_machine (five 0x51 2) (memory 5) 2 one_entry (sevens 64) 9 ≡ (refused 10 0, zeros)
  pub ten_second :
      preview_machine (five 0x50 0 ++ five 0x51 0) (memory 4) 2 one_entry (sevens 64) 9 ≡ (refused 10 1, zeros)
  -- 11: D 2, n 1, 3 cells, and 5 cells; D 65
  pub eleven : preview_machine (five 0x50 0) (memory 3) 2 one_entry (sevens 64) 9 ≡ (refused 11 0, zeros)
  pub eleven_longer : preview_machine (five 0x50 0) (memory 5) 2 one_entry (sevens 64) 9 ≡ (refused 11 0, zeros)
  pub eleven_D : preview_machine (five 0x50 0) (memory 67) 65 one_entry (sevens 64) 9 ≡ (refused 11 0, zeros)
  -- with 4 cells it runs: x0 is what address 1 holds
  pub not_eleven :
      preview_machine (five 0x50 0) (memory 4) 2 one_entry (sevens 64) 9 ≡ (gives (ran done 1 1), pos 8 ∷ sevens 63)
  -- 9, and 8: 4 bytes, and a store of 63 cells
  pub nine_eight : preview_machine (replicate 4 0x50) (memory 4) 2 one_entry (sevens 63) 9 ≡ (refused 9 0, zeros)
  -- 8, and 12: a store of 63 cells, and two entries 1
  pub eight_twelve : preview_machine (five 0x50 0) (memory 5) 2 (two_ones 62) (sevens 63) 9 ≡ (refused 8 0, zeros)
  -- 12, and 10: two entries 1, and `52 01 00 00 00`
  pub twelve_ten : preview_machine (five 0x52 1) (memory 5) 2 (two_ones 62) (sevens 64) 9 ≡ (refused 12 0, zeros)
  -- 10, and 11: `52 01 00 00 00`, and 3 cells
  pub ten_eleven : preview_machine (five 0x52 1) (memory 3) 2 one_entry (sevens 64) 9 ≡ (refused 10 0, zeros)

-- ---- Code and its table in one call

-- MLOADI 9, MSTORE 1 and then the rest, from sevens; x0 has address 1, D is 2
abbrev pub after_nine : List ℕ → ℕ → Answer Ran × Store
after_nine rest budget = run_paired (five 0x50 9 ++ (five 0x53 1 ++ rest)) one_entry (sevens 64) 2 budget

abbrev pub nine_left : Ran → Answer Ran × Store
nine_left r = (gives r, pos 9 ∷ sevens 63)

-- "Loads, runs and reads back", whatever the end: x0 is 9, and every other variable is as it was.
pub record PairedEnds : Type 0 where
  pub ends_done : after_nine [] 9 ≡ nine_left (ran done 2 1)
  -- MLOADI 0, past the budget
  pub ends_spent : after_nine (five 0x50 0) 2 ≡ nine_left (ran spent 2 1)
  -- MADD
  pub ends_short : after_nine (five 0x52 0) 9 ≡ nine_left (ran (fault short) 3 1)
  -- three times MLOADI 0
  pub ends_full : after_nine (five 0x50 0 ++ (five 0x50 0 ++ five 0x50 0)) 9 ≡ nine_left (ran (fault full) 5 2)
  -- 2147483647 + 1, which holds (document 02, W8) and stays on the stack
  pub ends_held : after_nine (0x50 ∷ 0xff ∷ 0xff ∷ 0xff ∷ 0x7f ∷ five 0x50 1 ++ five 0x52 0) 9
      ≡ nine_left (ran done 5 2)
  -- MJMP 1
  pub ends_astray : after_nine (five 0x54 1) 9 ≡ nine_left (ran (fault astray) 3 1)

-- B's machine code with its table and D, from sevens: x0 is x1 + 5 once it is stored.
pub record PairedOfB : Type 0 where
  pub under_3 : run_paired B_machine B_table (sevens 64) 2 3 ≡ (gives (ran spent 3 2), sevens 64)
  pub under_4 : run_paired B_machine B_table (sevens 64) 2 4 ≡ (gives (ran done 4 2), pos 12 ∷ sevens 63)

-- Where it declines, of code, table, store and D under budget 9: number and place, and the store as it was.
pub record PairedDeclines : Type 0 where
  -- 9: 4 bytes
  pub nine : run_paired (replicate 4 0x50) one_entry (sevens 64) 2 9 ≡ (refused 9 0, sevens 64)
  -- 8: a store of 63 cells; a table of 63 bytes
  pub eight_store : run_paired (five 0x53 1) one_entry (sevens 63) 2 9 ≡ (refused 8 0, sevens 63)
  pub eight_table : run_paired (five 0x53 1) (1 ∷ replicate 62 0) (sevens 64) 2 9 ≡ (refused 8 0, sevens 64)
  -- 12: two entries 1
  pub twelve : run_paired (five 0x51 2 ++ five 0x53 1) (two_ones 62) (sevens 64) 2 9 ≡ (refused 12 0, sevens 64)
  -- 10: `52 01 00 00 00`; the address 2, where the table names one variable; the address 0, at index 1
  pub ten : run_paired (five 0x52 1 ++ five 0x53 1) one_entry (sevens 64) 2 9 ≡ (refused 10 0, sevens 64)
  pub ten_address_2 : run_paired (five 0x51 2 ++ five 0x53 1) one_entry (sevens 64) 2 9 ≡ (refused 10 0, sevens 64)
  pub ten_second : run_paired (five 0x51 1 ++ five 0x51 0) one_entry (sevens 64) 2 9 ≡ (refused 10 1, sevens 64)
  -- 14: no address, where the table names one variable; 2 seen before 1
  pub fourteen : run_paired (five 0x50 0) one_entry (sevens 64) 2 9 ≡ (refused 14 0, sevens 64)
  pub fourteen_order : run_paired (five 0x51 1 ++ five 0x51 2) B_table (sevens 64) 2 9 ≡ (refused 14 0, sevens 64)
  -- 1 seen before 2: it runs
  pub not_fourteen : run_paired (five 0x51 2 ++ five 0x51 1) B_table (sevens 64) 2 9
      ≡ (gives (ran done 2 2), sevens 64)
  -- 11: D 65; with 64 it runs
  pub eleven : run_paired (five 0x51 1) one_entry (sevens 64) 65 9 ≡ (refused 11 0, sevens 64)
  pub not_eleven : run_paired (five 0x51 1) one_entry (sevens 64) 64 9 ≡ (gives (ran done 1 1), sevens 64)
  -- 9, and 8: 4 bytes, and a store of 63 cells
  pub nine_eight : run_paired (replicate 4 0x50) one_entry (sevens 63) 2 9 ≡ (refused 9 0, sevens 63)
  -- 8, and 12: a store of 63 cells, and two entries 1
  pub eight_twelve : run_paired (five 0x53 1) (two_ones 62) (sevens 63) 2 9 ≡ (refused 8 0, sevens 63)
  -- 12, and 10: two entries 1, and `52 01 00 00 00`
  pub twelve_ten : run_paired (five 0x52 1) (two_ones 62) (sevens 64) 2 9 ≡ (refused 12 0, sevens 64)
  -- 12, and 14: two entries 1, and no address
  pub twelve_fourteen : run_paired (five 0x50 0) (two_ones 62) (sevens 64) 2 9 ≡ (refused 12 0, sevens 64)
  -- 10, and 14: `52 01 00 00 00`, and no address
  pub ten_fourteen : run_paired (five 0x52 1) one_entry (sevens 64) 2 9 ≡ (refused 10 0, sevens 64)
  -- 14, and 11: no address, and D 65
  pub fourteen_eleven : run_paired (five 0x50 0) one_entry (sevens 64) 65 9 ≡ (refused 14 0, sevens 64)
