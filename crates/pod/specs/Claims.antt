-- What is claimed of the numbers that the C host is handed. The proof of the same spelling stands in proofs/.
use Rattle.std.specs.Prelude.{ℕ, ◌<◌, List}
use Rattle.base.specs.Answers.{Answer, gives, refused}
use Rattle.text.specs.Encoding.{Bytes}
use Rattle.text.specs.declared.Sizes.{Sizes}
use Rattle.text.specs.Calls.{read_call}
use Rattle.compile.specs.Calls.{Compiled, compile, go_back}

-- The numbers of an answer are within the bits that Packing has for them
abbrev pub SizesFit : Answer Sizes → Type 0
SizesFit (gives z) = (z.records < 65536) × (z.depth < 256) × (z.cells < 256)
SizesFit (refused number place) = (number < 256) × (place < 4294967296)

abbrev pub CountFits : Answer ℕ → Type 0
CountFits (gives n) = n < 65536
CountFits (refused number place) = (number < 256) × (place < 4294967296)

-- The packing cuts nothing off, whatever the host calls with.
pub record NothingCut : Type 0 where
  pub of_read : (text : List ℕ) → Bytes text → SizesFit (read_call text)
  pub of_compile : (text : List ℕ) → Bytes text → (lent : Compiled) → SizesFit (compile text lent).0
  pub of_go_back : (code table out : List ℕ) → CountFits (go_back code table out).0
