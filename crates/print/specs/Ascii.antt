-- Words and lines as bytes, in ASCII.
use Rattle.std.specs.Prelude.{ℕ, List, [], ◌∷◌, ◌++◌}
use Prim.Native.Char.{code}
use Prim.Native.String.{String, [] as no_letter, ◌∷◌ as ◌before◌}

-- A quoted word: the code of each letter, 65 of 'A', 32 of a blank
abbrev pub ascii : String → List ℕ
ascii no_letter = []
ascii (letter before word) = code letter ∷ ascii word

-- The end of a line
abbrev pub newline : List ℕ
newline = 10 ∷ []

-- Quoted lines, each with its end
abbrev pub lines : List String → List ℕ
lines [] = []
lines (line ∷ rest) = ascii line ++ (newline ++ lines rest)
