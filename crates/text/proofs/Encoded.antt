-- From the encoding to the reading: a construct within the limits is read wherever its bytes stand in a text.
-- By induction on the tree: a construct is its first byte and its parts, and readers in a row read bytes in a row.
use mathlib.Core.Path.{◌≡◌, ap}
use Prim.Native.Nat.{ℕ, zero, suc, ◌+◌, ◌-◌, ◌≤◌}
use native.Mathlib.Numerals.{sub-one}
use native.Mathlib.Omega.{arith}
use mathlib.Core.Bool.{Bool, true, false}
use mathlib.Core.List.{List, [], ◌∷◌, ◌++◌}
use lib.Dec.{eqb}
use lib.IntN.{ℤ}
use lib.ListN.{length}
use mir.Syntax.{w8, w32}
use mir.Val.{SFits}
use borrow.Author.Tests.{le-leb}
use Rattle.std.specs.Prelude.{if◌then◌else◌}
use Rattle.base.specs.Acts.{ok, then', ◌>>=◌, ◌>>◌, give}
use Rattle.word.specs.Numbers.{number_at, bytes_of, byte_of}
use Rattle.word.proofs.Claims.{number_of_bytes, signed_bytes}
use Rattle.text.specs.Syntax.{four_bytes, one_byte}
use Rattle.text.specs.Syntax.{Expression, Constant, Variable, Plus, Condition, Bc, Not, And, Less, Command}
use Rattle.text.specs.Syntax.{SKIP, ◌:=◌, ◌⨾◌, IF◌THEN◌ELSE◌, WHILE◌DO◌}
use Rattle.text.specs.Reading.{Reader, expression_byte, condition_byte, command_byte, there, due, pass, operand}
use Rattle.text.specs.Reading.{number_due, number, expression_of, expression, condition_of, condition, command_of}
use Rattle.text.specs.Reading.{command}
use Rattle.text.specs.Encoding.{expression_bytes, condition_bytes, command_bytes}
use Rattle.text.specs.Encoding.{ValidExpression, ValidCondition, Valid}
use Rattle.text.specs.Encoding.{expression_nesting, condition_nesting, nesting}
use Rattle.text.proofs.Standing.{Holds, parted}

-- Wherever these bytes stand in the text, the reader gives a and goes on after them
pub record Reads {A : Type 0} (text : List ℕ) (r : Reader A) (bytes : List ℕ) (a : A) : Type 0 where
  pub reads : (i j : ℕ) → Holds text i bytes j → r i ≡ ok a j

module _ (text : List ℕ) where
  -- ---- Readers in a row

  -- A reader and then the next read bytes in a row.
  next : {A B : Type 0} {r : Reader A} (f : A → Reader B) {xs ys : List ℕ} {x : A} {y : B}
      → Reads text r xs x → Reads text (f x) ys y → Reads text (r >>= f) (xs ++ ys) y
  unfolding then'
  next f {xs = xs} {ys = ys} h g = record {
    reads = λ i k s. let (j, p, q) = parted text xs ys i k s in rw (h.reads i j p) (g.reads j k q);
  }

  -- A construct is made with its last part.
  last : {A B : Type 0} {r : Reader A} (f : A → B) {xs : List ℕ} {x : A}
      → Reads text r xs x → Reads text (do y ← r; give (f y)) xs (f x)
  unfolding then' give
  last f h = record { reads = λ i j s. rw (h.reads i j s) }

  -- A byte is passed, whatever it is.
  passed : {A : Type 0} {r : Reader A} {b : ℕ} {bytes : List ℕ} {a : A}
      → Reads text r bytes a → Reads text (do pass text 1; r) (b ∷ bytes) a
  unfolding Holds pass then'
  passed h = record { reads = λ i j s. h.reads (i + 1) j s.2 }

  -- ---- A first byte with no part, one, two and three parts after it

  none : {A : Type 0} (a : A) {b : ℕ} → Reads text (do pass text 1; give a) (b ∷ []) a
  unfolding Holds give
  none a = passed (record { reads = λ i j s. ap (ok a) s })

  one : {A B : Type 0} (f : A → B) {r : Reader A} {b : ℕ} {xs : List ℕ} {x : A}
      → Reads text r xs x → Reads text (do pass text 1; x ← r; give (f x)) (b ∷ xs) (f x)
  one f h = passed (last f h)

  two : {A B C : Type 0} (f : A → B → C) {r : Reader A} {s : Reader B} {b : ℕ} {xs ys : List ℕ} {x : A} {y : B}
      → Reads text r xs x → Reads text s ys y
      → Reads text (do pass text 1; x ← r; y ← s; give (f x y)) (b ∷ (xs ++ ys)) (f x y)
  two f h g = passed (next _ h (last (f _) g))

  three : {A B C D : Type 0} (f : A → B → C → D) {r : Reader A} {s : Reader B} {t : Reader C} {b : ℕ}
      {xs ys zs : List ℕ} {x : A} {y : B} {z : C} → Reads text r xs x → Reads text s ys y → Reads text t zs z
      → Reads text (do pass text 1; x ← r; y ← s; z ← t; give (f x y z)) (b ∷ (xs ++ (ys ++ zs))) (f x y z)
  three f h g k = passed (next _ h (next _ g (last (f _ _) k)))

  -- A construct is read by its first byte.
  begins : {A : Type 0} (f : ℕ → Reader A) {b : ℕ} {bytes : List ℕ} {a : A}
      → Reads text (f b) (b ∷ bytes) a → Reads text (do there text 1; c ← due text; f c) (b ∷ bytes) a
  unfolding Holds there due then'
  begins f g = record { reads = λ i j s. rw (le-leb (i + 1) (length text) (omega arith), s.1) (g.reads i j s) }

  -- ---- Operands

  operand_reads : (most b : ℕ) → b ≤ most → Reads text (operand text most) (b ∷ []) b
  unfolding Holds operand there due pass give then'
  operand_reads most b h = record {
    reads = λ i j s. rw (le-leb (i + 1) (length text) (omega arith), s.1, le-leb b most h, s.2);
  }

  byte_reads : (z : ℤ) → SFits w8 z → Reads text (number text one_byte) (byte_of z ∷ []) z
  unfolding Holds number there number_due then'
  byte_reads z f = record {
    reads = λ i j s.
        rw (le-leb (i + 1) (length text) (omega arith), s.1, s.2) (ap (λ z. ok z j) (signed_bytes.number_again z f));
  }

  number_reads : (z : ℤ) → SFits w32 z → Reads text (number text four_bytes) (bytes_of z) z
  unfolding Holds number there number_due then' number_at bytes_of
  number_reads z f = record {
    reads = λ i j s.
        let second : i + 2 ≡ i + 1 + 1 = omega arith in
        let third : i + 3 ≡ i + 1 + 1 + 1 = omega arith in
        let after : i + 4 ≡ j = omega arith in
        let value : number_at (bytes_of z) 0 ≡ z = number_of_bytes z f in
        rw (le-leb (i + 4) (length text) (omega arith)) (cc);
  }

  -- ---- The same for each kind, where nesting is left

  expression_begins : (nest : ℕ) → 1 ≤ nest → {b : ℕ} {bytes : List ℕ} {a : Expression}
      → Reads text (expression_of text (expression text (nest - 1)) (expression_byte b)) (b ∷ bytes) a
      → Reads text (expression text nest) (b ∷ bytes) a
  unfolding expression
  expression_begins zero n h = absurd (omega arith)
  expression_begins (suc nest) n h = begins _ (rw (sub-one (suc nest)) at h)

  condition_begins : (nest : ℕ) → 1 ≤ nest → {b : ℕ} {bytes : List ℕ} {a : Condition}
      → Reads text (condition_of text (expression text (nest - 1)) (condition text (nest - 1)) (condition_byte b))
      (b ∷ bytes) a
      → Reads text (condition text nest) (b ∷ bytes) a
  unfolding condition
  condition_begins zero n h = absurd (omega arith)
  condition_begins (suc nest) n h = begins _ (rw (sub-one (suc nest)) at h)

  command_begins : (nest : ℕ) → 1 ≤ nest → {b : ℕ} {bytes : List ℕ} {a : Command}
      → Reads text (command_of text (expression text (nest - 1)) (condition text (nest - 1)) (command text (nest - 1))
      (command_byte b)) (b ∷ bytes) a
      → Reads text (command text nest) (b ∷ bytes) a
  unfolding command
  command_begins zero n h = absurd (omega arith)
  command_begins (suc nest) n h = begins _ (rw (sub-one (suc nest)) at h)

  -- ---- Constructs

  pub expression_encoded : (a : Expression) (nest : ℕ) → ValidExpression a → expression_nesting a ≤ nest
      → Reads text (expression text nest) (expression_bytes a) a
  unfolding expression_bytes ValidExpression expression_nesting expression_byte expression_of
  expression_encoded (Constant four_bytes z) nest v n =
      expression_begins nest n (one (Constant four_bytes) (number_reads z v))
  expression_encoded (Constant one_byte z) nest v n =
      expression_begins nest n (one (Constant one_byte) (byte_reads z v))
  expression_encoded (Variable w) nest v n = expression_begins nest n (one Variable (operand_reads 63 w (omega arith)))
  expression_encoded (Plus a b) nest v n =
      let x = expression_encoded a (nest - 1) v.0 (omega arith) in
      let y = expression_encoded b (nest - 1) v.1 (omega arith) in
      expression_begins nest (omega arith) (two Plus x y)

  -- Bc's byte is read as its value.
  value_reads : (v : Bool) → Reads text (do b ← operand text 1; give (Bc (eqb b 1))) ((if v then 1 else 0) ∷ []) (Bc v)
  value_reads true = last (λ b. Bc (eqb b 1)) (operand_reads 1 1 (omega arith))
  value_reads false = last (λ b. Bc (eqb b 1)) (operand_reads 1 0 (omega arith))

  pub condition_encoded : (b : Condition) (nest : ℕ) → ValidCondition b → condition_nesting b ≤ nest
      → Reads text (condition text nest) (condition_bytes b) b
  unfolding condition_bytes ValidCondition condition_nesting condition_byte condition_of
  condition_encoded (Bc t) nest v n = condition_begins nest n (passed (value_reads t))
  condition_encoded (Not b) nest v n =
      condition_begins nest (omega arith) (one Not (condition_encoded b (nest - 1) v (omega arith)))
  condition_encoded (And b c) nest v n =
      let x = condition_encoded b (nest - 1) v.0 (omega arith) in
      let y = condition_encoded c (nest - 1) v.1 (omega arith) in
      condition_begins nest (omega arith) (two And x y)
  condition_encoded (Less a b) nest v n =
      let x = expression_encoded a (nest - 1) v.0 (omega arith) in
      let y = expression_encoded b (nest - 1) v.1 (omega arith) in
      condition_begins nest (omega arith) (two Less x y)

  pub command_encoded : (c : Command) (nest : ℕ) → Valid c → nesting c ≤ nest
      → Reads text (command text nest) (command_bytes c) c
  unfolding command_bytes Valid nesting command_byte command_of
  command_encoded SKIP nest v n = command_begins nest n (none SKIP)
  command_encoded (w := a) nest v n =
      let x = operand_reads 63 w (omega arith) in
      let y = expression_encoded a (nest - 1) v.1 (omega arith) in
      command_begins nest (omega arith) (two ◌:=◌ x y)
  command_encoded (c ⨾ d) nest v n =
      let x = command_encoded c (nest - 1) v.0 (omega arith) in
      let y = command_encoded d (nest - 1) v.1 (omega arith) in
      command_begins nest (omega arith) (two ◌⨾◌ x y)
  command_encoded (IF b THEN c ELSE d) nest v n =
      let t = condition_encoded b (nest - 1) v.0 (omega arith) in
      let x = command_encoded c (nest - 1) v.1 (omega arith) in
      let y = command_encoded d (nest - 1) v.2 (omega arith) in
      command_begins nest (omega arith) (three IF◌THEN◌ELSE◌ t x y)
  command_encoded (WHILE b DO c) nest v n =
      let t = condition_encoded b (nest - 1) v.0 (omega arith) in
      let x = command_encoded c (nest - 1) v.1 (omega arith) in
      command_begins nest (omega arith) (two WHILE◌DO◌ t x)
