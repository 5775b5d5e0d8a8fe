-- Parts in a row stand so in the text with more bytes behind it, and a cache of its ends is one of the longer text's: a
-- construct has a byte at least, so its first byte is inside the text and is the same in both.
use Prim.Native.Nat.{ℕ, ◌<◌}
use native.Mathlib.Omega.{arith}
use mathlib.Core.List.{List, ◌++◌}
use lib.ListN.{length, get_or, length-append, get_or-append}
use Rattle.text_ends.specs.Ends.{Row, none, more, PartEnds}
use Rattle.text_ends.proofs.Passing.{opens, wide}

module _ (text behind : List ℕ) where
  pub row_longer : {i n j : ℕ} → Row text i n j → Row (text ++ behind) i n j
  row_longer none = none
  row_longer (more {i = i} h r) =
      let w : i < length text = omega (arith, wide (get_or text i 0)) in
      opens (text ++ behind) (get_or text i 0) i (get_or-append text behind 0 i w)
      (omega (arith, length-append text behind)) (row_longer r)

  pub ends_longer : {ends : List ℕ} → PartEnds text ends → PartEnds (text ++ behind) ends
  ends_longer p = record { right = λ i h. row_longer (p.right i h) }
