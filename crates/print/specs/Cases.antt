-- Quoted lines as bytes; and what is printed for B, whole (document 01, "For B it prints, whole"), for C, G and J, and
-- for the example of refusal 3.
use Rattle.std.specs.Prelude.{◌≡◌, [], ◌∷◌}
use Rattle.text.specs.Cases.{B_text, C_text, G_text, J_text, x64_text}
use Rattle.print.specs.Ascii.{lines}
use Rattle.print.specs.Printing.{shown}

-- 'M' is 77, a blank 32, '8' 56, and 10 ends a line.
abbrev pub LinesAsBytes : Type 0
LinesAsBytes = lines ("M 8" ∷ "8" ∷ []) ≡ 77 ∷ 32 ∷ 56 ∷ 10 ∷ 56 ∷ 10 ∷ []

abbrev pub PrintedB : Type 0
PrintedB = shown B_text ≡ lines (
    "records 4 stack 2 cells 2"
    ∷ "0 LOAD 1 | MLOAD 2"
    ∷ "1 LOADI 5 | MLOADI 5"
    ∷ "2 ADD | MADD"
    ∷ "3 STORE 0 | MSTORE 1"
    ∷ "run done 4"
    ∷ "0 5"
    ∷ "1 0"
    ∷ [])

-- C, whole: a jump forward and a jump back, and 27 ticks.
abbrev pub PrintedC : Type 0
PrintedC = shown C_text ≡ lines (
    "records 8 stack 2 cells 1"
    ∷ "0 LOAD 0 | MLOAD 1"
    ∷ "1 LOADI 3 | MLOADI 3"
    ∷ "2 JMPGE 5 | MJMPGE 5"
    ∷ "3 LOAD 0 | MLOAD 1"
    ∷ "4 LOADI 1 | MLOADI 1"
    ∷ "5 ADD | MADD"
    ∷ "6 STORE 0 | MSTORE 1"
    ∷ "7 JMP -8 | MJMP -8"
    ∷ "run done 27"
    ∷ "0 3"
    ∷ [])

-- G, whole: done at 5, with a sum past a limit (document 02, W8); no variable is named.
abbrev pub PrintedG : Type 0
PrintedG = shown G_text ≡ lines (
    "records 7 stack 2 cells 0"
    ∷ "0 LOADI 2147483647 | MLOADI 2147483647"
    ∷ "1 LOADI 1 | MLOADI 1"
    ∷ "2 ADD | MADD"
    ∷ "3 LOADI 0 | MLOADI 0"
    ∷ "4 JMPGE 2 | MJMPGE 2"
    ∷ "5 JMP 1 | MJMP 1"
    ∷ "6 JMP 0 | MJMP 0"
    ∷ "run done 5"
    ∷ [])

-- J, whole: spent at the budget.
abbrev pub PrintedJ : Type 0
PrintedJ = shown J_text ≡ lines (
    "records 1 stack 0 cells 0"
    ∷ "0 JMP -1 | MJMP -1"
    ∷ "run spent 1000000"
    ∷ [])

abbrev pub PrintedRefusal : Type 0
PrintedRefusal = shown x64_text ≡ lines ("refused 3 at 1" ∷ [])
