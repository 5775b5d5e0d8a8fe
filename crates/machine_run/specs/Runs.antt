-- What the tests of a call on machine code gave.
use Rattle.std.specs.Prelude.{◌≡◌, ℕ, ◌+◌, List, ℤ, length}
use Rattle.base.specs.Answers.{gives, and_then}
use Rattle.machine.specs.Calls.{machine_tests, state_tests}
use Rattle.machine.specs.declared.State.{State}

-- The tests gave this many records
abbrev pub Tested : List ℕ → List ℤ → ℕ → ℕ → ℕ → Type 0
Tested code m D n last = and_then (machine_tests code m D n) (λ P. gives (length P)) ≡ gives last

-- So did the tests of a call from a state with a budget, which is spent at the count `limit`
abbrev pub TestedState : List ℕ → List ℤ → ℕ → ℕ → State → ℕ → ℕ → ℕ → Type 0
TestedState code m D n s budget limit last =
    (and_then (state_tests code m D n s budget) (λ P. gives (length P)) ≡ gives last) × (limit ≡ s.count + budget)
