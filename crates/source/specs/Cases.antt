-- How profiles A to K end under the source rules, from zeros (document 01, "Profiles to hold it to"), sums past a limit
-- (document 02, W8), where the call declines ("When a call declines"), and its preview (W3).
use Rattle.std.specs.Prelude.{◌≡◌, ℕ, List, [], ◌∷◌, map, ℤ, pos, negsuc, length, get_or, replicate}
use Rattle.base.specs.Answers.{Answer, gives, refused, and_then}
use Rattle.base.specs.Ends.{End, done, spent, fault, out_of_range, result, Ran, ran}
use Rattle.word.specs.Sums.{stopping}
use Rattle.text.specs.Reading.{read_text}
use Rattle.text.specs.Cases.{B_text, G_text, J_text, texts, x64_text}
use Rattle.source.specs.Rules.{Store, run_rules}
use Rattle.source.specs.Calls.{run_source, preview_source}

unfoldable pub zeros : Store
zeros = replicate 64 (pos 0)

-- a store of some cells, each 7
abbrev pub sevens : ℕ → Store
sevens k = replicate k (pos 7)

-- the answer, and x0 afterwards
abbrev pub with_x0 : Answer Ran × Store → Answer Ran × ℤ
with_x0 (answer, store) = (answer, get_or store 0 (pos 0))

-- an end, a count, a mark and x0
abbrev pub told : End → ℕ → ℕ → ℤ → Answer Ran × ℤ
told e k mark x = (gives (ran e k mark), x)

-- Under budget 1000 each.
abbrev pub Tallies : Type 0
Tallies = map (λ text. with_x0 (run_source text zeros 1000)) texts
    ≡ told done 0 0 (pos 0) ∷ told done 4 2 (pos 5) ∷ told done 27 2 (pos 3) ∷ told done 1 0 (pos 0)
    ∷ told done 3 1 (pos 1) ∷ told done 1 0 (pos 0) ∷ told done 5 2 (pos 0)
    ∷ told done 4 2 (negsuc 0) ∷ told done 4 1 (pos 0) ∷ told spent 1000 0 (pos 0) ∷ told done 6 2 (pos 3) ∷ []

-- x0 := 1 + 2; x1 := 3 in seven runs, under budget 0 to 6: the mark rises with the sum's two values, and stays when the
-- second assignment needs one (document 02, W2).
abbrev pub two_assignments : List ℕ
two_assignments = 0x02 ∷ 0x01 ∷ 0 ∷ 0x12 ∷ 0x13 ∷ 1 ∷ 0x13 ∷ 2 ∷ 0x01 ∷ 1 ∷ 0x13 ∷ 3 ∷ []

abbrev pub MarkTickByTick : Type 0
MarkTickByTick = map (λ budget. (run_source two_assignments zeros budget).0) (0 ∷ 1 ∷ 2 ∷ 3 ∷ 4 ∷ 5 ∷ 6 ∷ [])
    ≡ map gives (ran spent 0 0 ∷ ran spent 1 1 ∷ ran spent 2 2 ∷ ran spent 3 2 ∷ ran spent 4 2 ∷ ran spent 5 2
    ∷ ran done 6 2 ∷ [])

-- ---- Sums past a limit (document 02, W8)

-- x0 := 2147483647 + 1; x1 := −2147483648 + −1
abbrev pub past_both : List ℕ
past_both =
    0x02 ∷ 0x01 ∷ 0 ∷ 0x12 ∷ 0x10 ∷ 0xff ∷ 0xff ∷ 0xff ∷ 0x7f ∷ 0x13 ∷ 1
    ∷ 0x01 ∷ 1 ∷ 0x12 ∷ 0x10 ∷ 0 ∷ 0 ∷ 0 ∷ 0x80 ∷ 0x13 ∷ 0xff ∷ []

pub record Holds : Type 0 where
  -- "Case G is then done at 5": it names no variable, so its store is the one that it was given
  pub G : run_source G_text (sevens 64) 1000 ≡ (gives (ran done 5 2), sevens 64)
  -- by the stopping rule, on which document 01 was built, it ended at 3, with 997 of 1,000 ticks left
  pub G_stopped : and_then (read_text G_text) (λ c. gives (run_rules stopping c 1000 (sevens 64)))
      ≡ gives (result (fault out_of_range) 997 2 (sevens 64))
  -- each sum takes the limit's value, and its tick is charged
  pub at_limits : run_source past_both (sevens 64) 1000
      ≡ (gives (ran done 8 2), pos 2147483647 ∷ negsuc 2147483647 ∷ sevens 62)
  -- "The tick is charged as before": under 2 ticks the sum is not made, under 3 it is, and is not stored yet
  pub two_ticks : run_source past_both (sevens 64) 2 ≡ (gives (ran spent 2 2), sevens 64)
  pub three_ticks : run_source past_both (sevens 64) 3 ≡ (gives (ran spent 3 2), sevens 64)
  pub four_ticks : run_source past_both (sevens 64) 4 ≡ (gives (ran spent 4 2), pos 2147483647 ∷ sevens 63)

-- ---- J

-- J is "spent at every budget".
abbrev pub Forever : Type 0
Forever = (budget : ℕ) (s : Store) → length s ≡ 64
    → run_source J_text s budget ≡ (gives (ran spent budget 0), s)

-- ---- Where run_source declines: 6, reading, 8

-- Number and place, and the store as it was. Where two refusals are due, the first in order is given.
pub record Declines : Type 0 where
  -- 8: B with a store of 63 cells, and of 65
  pub eight : run_source B_text (sevens 63) 9 ≡ (refused 8 0, sevens 63)
  pub eight_longer : run_source B_text (sevens 65) 9 ≡ (refused 8 0, sevens 65)
  -- 6, and reading's 2: 4,097 bytes `7F`
  pub six_reading : run_source (replicate 4097 0x7f) (sevens 64) 9 ≡ (refused 6 0, sevens 64)
  -- reading's 3, and 8: `01 40 11 00` and a store of 63 cells
  pub reading_eight : run_source x64_text (sevens 63) 9 ≡ (refused 3 1, sevens 63)

-- ---- Previews (document 02, W3)

-- The same two assignments from sevens, previewed under budget 3, 4 and 6: the store so far, and the run's own at its
-- end
abbrev pub Previews : Type 0
Previews = map (preview_source two_assignments (sevens 64)) (3 ∷ 4 ∷ 6 ∷ [])
    ≡ (gives (ran spent 3 2), sevens 64) ∷ (gives (ran spent 4 2), pos 3 ∷ sevens 63)
    ∷ (gives (ran done 6 2), pos 3 ∷ pos 3 ∷ sevens 62) ∷ []

-- It declines as the run does, and its store is then 64 zeros.
pub record PreviewDeclines : Type 0 where
  pub eight : preview_source B_text (sevens 63) 9 ≡ (refused 8 0, zeros)
  pub eight_longer : preview_source B_text (sevens 65) 9 ≡ (refused 8 0, zeros)
  pub six_reading : preview_source (replicate 4097 0x7f) (sevens 64) 9 ≡ (refused 6 0, zeros)
  pub reading_eight : preview_source x64_text (sevens 63) 9 ≡ (refused 3 1, zeros)
