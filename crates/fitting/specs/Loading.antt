-- Loading and reading back (document 01, "Executors"). D is the number of stack cells; cell D + a is address a.
use Rattle.std.specs.Prelude.{ℕ, zero, suc, ◌+◌, List, [], ◌∷◌, ℤ, pos, get_or, set, replicate}
use Rattle.source.specs.Rules.{Store}

-- x at address a, and nothing for an unnamed variable
unfoldable pub put : ℕ → ℕ → ℤ → List ℤ → List ℤ
put D zero x m = m
put D (suc a) x m = set m (D + suc a) x

-- each variable of a store at its address in a table
unfoldable pub fill : List ℕ → ℕ → Store → List ℤ → List ℤ
fill [] D s m = m
fill (a ∷ t) D [] m = m
fill (a ∷ t) D (x ∷ s) m = put D a x (fill t D s m)

-- "Loading puts each named variable at its address and 0 elsewhere": a memory of D + 1 + n cells
abbrev pub loaded : List ℕ → ℕ → ℕ → Store → List ℤ
loaded t D n s = fill t D s (replicate (D + 1 + n) (pos 0))

-- what address a holds; x for an unnamed variable
unfoldable pub got : ℕ → ℕ → List ℤ → ℤ → ℤ
got D zero m x = x
got D (suc a) m x = get_or m (D + suc a) (pos 0)

-- "Reading back changes only named variables"
unfoldable pub read_back : List ℕ → ℕ → Store → List ℤ → Store
read_back [] D s m = s
read_back (a ∷ t) D [] m = []
read_back (a ∷ t) D (x ∷ s) m = got D a m x ∷ read_back t D s m
