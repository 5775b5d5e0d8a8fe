-- Acts one after the other: the form in which reading, the source rules and the machine's records are written.

-- An act on a state gives a value and the next state, or ends with what that end hands on
pub data Outcome (State Ended A : Type 0) : Type 0 where
  ok : A → State → Outcome State Ended A
  ended : Ended → Outcome State Ended A

abbrev pub Act : Type 0 → Type 0 → Type 0 → Type 0
Act State Ended A = State → Outcome State Ended A

-- One act and then the next, which gets the first one's value; an end stays an end
unfoldable pub then' : {S E A B : Type 0} → Outcome S E A → (A → Act S E B) → Outcome S E B
then' (ok a s) f = f a s
then' (ended e) f = ended e

infixl 10 ◌>>=◌
infixl 10 ◌>>◌
abbrev pub ◌>>=◌ : {S E A B : Type 0} → Act S E A → (A → Act S E B) → Act S E B
◌>>=◌ x f s = then' (x s) f

abbrev pub ◌>>◌ : {S E A B : Type 0} → Act S E A → Act S E B → Act S E B
◌>>◌ x y s = then' (x s) (λ _. y)

-- The value a, and nothing done
unfoldable pub give : {S E A : Type 0} → A → Act S E A
give a s = ok a s
