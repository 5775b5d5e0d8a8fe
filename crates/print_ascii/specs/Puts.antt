-- What a function that puts bytes leaves: its bytes in the lent buffer, and the place after them.
use Rattle.std.specs.Prelude.{◌≡◌, ℕ, ◌+◌, ◌≤◌, List, ◌++◌, length, take, drop}
use Rattle.print_ascii.specs.declared.Page.{Page}

-- The buffer `old` with the bytes `new` from `at` on is `later`, and `next` is the place after them
pub record Puts (new : List ℕ) (at : ℕ) (old later : List ℕ) (next : ℕ) : Type 0 where
  pub room : at + length new ≤ length old
  pub holds : later ≡ take at old ++ (new ++ drop (at + length new) old)
  pub ends : next ≡ at + length new

-- The same of a page: these bytes from its place on, and its place is then the one after them. It is on the same
-- buffer, which keeps its length
pub record Prints (new : List ℕ) (page later : Page) : Type 0 where
  pub puts : Puts new page.at page.out.now later.out.now later.at
  pub long : length later.out.now ≡ length page.out.now
  pub same_buffer : later.out.ghost_name ≡ page.out.ghost_name
