-- From the reading to the encoding: what is read stands in the text, within the limits, and what ends a reading
-- is a refusal of 1 to 5 with its place in the text. By induction on the nesting left; each construct goes by its
-- first byte, in the order of the tests of `expression_byte` and its like.
use mathlib.Core.Path.{◌≡◌, refl, sym, ap}
use Prim.Native.Nat.{ℕ, zero, suc, ◌+◌, ◌≤◌, ◌<◌}
use native.Mathlib.Omega.{arith}
use mathlib.Core.Bool.{Bool, true, false}
use mathlib.Core.List.{List, [], ◌∷◌}
use lib.Dec.{leb, eqb}
use lib.ListN.{length, get_or}
use borrow.Author.Tests.{leb-true, eqb-true}
use Rattle.std.specs.Prelude.{if◌then◌else◌}
use Rattle.base.specs.Acts.{Outcome, ok, ended, then', ◌>>=◌, ◌>>◌, give}
use Rattle.word.specs.Numbers.{number_at}
use Rattle.word.proofs.Claims.{bytes_of_number, numbers_fit, signed_bytes}
use Rattle.text.specs.Syntax.{Width, four_bytes, one_byte}
use Rattle.text.specs.Syntax.{Constant, Variable, Plus, Bc, Not, And, Less}
use Rattle.text.specs.Syntax.{SKIP, ◌:=◌, ◌⨾◌, IF◌THEN◌ELSE◌, WHILE◌DO◌}
use Rattle.base.specs.Answers.{Refusal, refusal}
use Rattle.text.specs.Reading.{Reader, ExpressionByte, expression_byte, ConditionByte}
use Rattle.text.specs.Reading.{condition_byte, CommandByte, command_byte, decline, there, due, pass, operand}
use Rattle.text.specs.Reading.{number_due, number, expression_of, expression, condition_of, condition, command_of}
use Rattle.text.specs.Reading.{command}
use Rattle.text.specs.Encoding.{Bytes, expression_bytes, condition_bytes, command_bytes}
use Rattle.text.specs.Encoding.{ValidExpression, ValidCondition, Valid}
use Rattle.text.specs.Encoding.{expression_nesting, condition_nesting, nesting}
use Rattle.text.proofs.Standing.{Holds, Kind, expressions, conditions, commands, operands, numbers}
use Rattle.text.proofs.Standing.{pairs, Stands, both}

-- What a reading owes: Q of what it gives and of the position after it, or a refusal of 1 to 5 in the text
pub data Fine (text : List ℕ) {A : Type 0} (Q : A → ℕ → Type 0) : Outcome ℕ Refusal A → Type 0 where
  goes : {a : A} {j : ℕ} → Q a j → Fine text Q (ok a j)
  ends : (k p : ℕ) → (1 ≤ k) × (k ≤ 5) × (p ≤ length text) → Fine text Q (ended (refusal k p))

-- What is read, from any position, stands there.
abbrev pub Finds : {A : Type 0} → Kind A → List ℕ → ℕ → Reader A → Type 0
Finds K text nest r = (i : ℕ) → Fine text (Stands K text nest i) (r i)

-- A construct of kind M is parts of kind K after the byte b, with one nesting more.
abbrev Makes : {P A : Type 0} → Kind P → Kind A → ℕ → (P → A) → Type 0
Makes {P} K M b f =
    (p : P) → K.Valid p → (M.bytes (f p) ≡ b ∷ K.bytes p) × M.Valid (f p) × (M.nesting (f p) ≤ suc (K.nesting p))

-- What holds of both outcomes of a test holds of the test.
either : {X : Type 0} (P : X → Type 0) (t : Bool) {x y : X} → (t ≡ true → P x) → P y → P (if t then x else y)
either P true h g = h refl
either P false h g = g

-- Bc's byte, 0 or 1, is the byte of the value that is read from it.
value_byte : (v : ℕ) → v ≤ 1 → (if eqb v 1 then 1 else 0) ≡ v
value_byte zero h = refl
value_byte (suc zero) h = refl
value_byte (suc (suc v)) h = absurd (omega arith)

value_made : Makes (operands 1) conditions 0x20 (λ v. Bc (eqb v 1))
unfolding condition_bytes ValidCondition condition_nesting
value_made p v = (ap (λ (b : ℕ). 0x20 ∷ b ∷ []) (value_byte p v), tt, omega arith)

module _ (text : List ℕ) where
  -- ---- Readers in a row

  -- What a reader owes is handed to the next; an end stays an end.
  on : {A B : Type 0} {P : A → ℕ → Type 0} {Q : B → ℕ → Type 0} {r : Outcome ℕ Refusal A} {f : A → Reader B}
      → Fine text P r → ((a : A) (j : ℕ) → P a j → Fine text Q (f a j)) → Fine text Q (then' r f)
  unfolding then'
  on (goes h) g = g _ _ h
  on (ends k p h) g = ends k p h

  -- Where n bytes are there reading goes on; else it ends with 1 at the text's length.
  enough : {A : Type 0} {Q : A → ℕ → Type 0} (n i : ℕ) (f : Reader A)
      → (i + n ≤ length text → Fine text Q (f i)) → Fine text Q ((do there text n; f) i)
  unfolding there then'
  enough {Q = Q} n i f h =
      either (λ (o : Outcome ℕ Refusal (Unit {0})). Fine text Q (then' o (λ _. f))) (leb (i + n) (length text))
      (λ e. h (leb-true (i + n) (length text) e))
      (ends 1 (length text) (omega arith))

  declines : {A : Type 0} {Q : A → ℕ → Type 0} (k i : ℕ) → (1 ≤ k) × (k ≤ 5) × (i ≤ length text)
      → Fine text Q (decline text k i)
  unfolding decline
  declines k i h = ends k i h

  -- ---- Operands

  operand_decoded : (most nest : ℕ) → Finds (operands most) text nest (operand text most)
  unfolding Holds operand due pass give then'
  operand_decoded most nest i =
      enough 1 i _ (λ w.
      either (λ (r : Reader ℕ). Fine text (Stands (operands most) text nest i) (r i)) (leb (get_or text i 0) most)
      (λ e. goes (record { holds = (omega arith, refl, refl); valid = leb-true _ most e; nested = omega arith }))
      (declines 3 i (omega arith)))

  -- The text's four bytes from i on
  bytes_at : (i : ℕ) → i + 4 ≤ length text
      → Holds text i (get_or text i 0 ∷ get_or text (i + 1) 0 ∷ get_or text (i + 2) 0 ∷ get_or text (i + 3) 0 ∷ [])
      (i + 4)
  unfolding Holds
  bytes_at i h =
      let second : i + 1 + 1 ≡ i + 2 = omega arith in
      let third : i + 1 + 1 + 1 ≡ i + 3 = omega arith in
      (omega arith, refl, (omega arith, refl, (omega arith, cc, (omega arith, cc, omega arith))))

  number_decoded : Bytes text → (w : Width) (nest : ℕ) → Finds (numbers w) text nest (number text w)
  unfolding Holds number number_due then' number_at
  number_decoded small four_bytes nest i =
      enough 4 i _ (λ w. goes (record {
        holds = rw (bytes_of_number _ _ _ _ (small i) (small (i + 1)) (small (i + 2)) (small (i + 3))) (bytes_at i w);
        valid = numbers_fit _ _ _ _ (small i) (small (i + 1)) (small (i + 2)) (small (i + 3));
        nested = omega arith;
      }))
  number_decoded small one_byte nest i =
      enough 1 i _ (λ w. goes (record {
        holds = (omega arith, sym (signed_bytes.byte_again _ (small i)), refl);
        valid = signed_bytes.fits _ (small i);
        nested = omega arith;
      }))

  -- ---- A first byte with no part, one, two and three parts after it

  -- The text has the byte b at i
  abbrev Opens : ℕ → ℕ → Type 0
  Opens i b = (i < length text) × (get_or text i 0 ≡ b)

  -- A construct stands where its first byte stands and then its parts.
  made : {P A : Type 0} {K : Kind P} {M : Kind A} {b nest i j : ℕ} {p : P} (f : P → A)
      → Opens i b → Makes K M b f → Stands K text nest (i + 1) p j → Stands M text (suc nest) i (f p) j
  unfolding Holds
  made {p = p} f o m s = record {
    holds = rw (m p s.valid).0 (o.0, o.1, s.holds);
    valid = (m p s.valid).1;
    nested = omega (arith, (m p s.valid).2);
  }

  skip : {nest i : ℕ} → Opens i 0x00 → Fine text (Stands commands text (suc nest) i) ((do pass text 1; give SKIP) i)
  unfolding Holds pass give then' command_bytes Valid nesting
  skip {i = i} o =
      goes {a = SKIP} {j = i + 1} (record { holds = (o.0, o.1, refl); valid = tt; nested = omega arith })

  one : {A B : Type 0} {K : Kind A} {M : Kind B} {r : Reader A} {b nest i : ℕ} (f : A → B) → Opens i b
      → Makes K M b f → Finds K text nest r
      → Fine text (Stands M text (suc nest) i) ((do pass text 1; x ← r; give (f x)) i)
  unfolding pass give then'
  one {i = i} f o m h = on (h (i + 1)) (λ x j s. goes (made f o m s))

  two : {A B C : Type 0} {K : Kind A} {L : Kind B} {M : Kind C} {r : Reader A} {s : Reader B} {b nest i : ℕ}
      (f : A → B → C) → Opens i b → Makes (pairs K L) M b (λ p. f p.0 p.1)
      → Finds K text nest r → Finds L text nest s
      → Fine text (Stands M text (suc nest) i) ((do pass text 1; x ← r; y ← s; give (f x y)) i)
  unfolding pass give then'
  two {i = i} f o m h g = on (h (i + 1)) (λ x j s. on (g j) (λ y k t. goes (made _ o m (both s t))))

  three : {A B C D : Type 0} {K : Kind A} {L : Kind B} {N : Kind C} {M : Kind D} {r : Reader A} {s : Reader B}
      {t : Reader C} {b nest i : ℕ} (f : A → B → C → D) → Opens i b
      → Makes (pairs K (pairs L N)) M b (λ p. f p.0 p.1.0 p.1.1)
      → Finds K text nest r → Finds L text nest s → Finds N text nest t
      → Fine text (Stands M text (suc nest) i) ((do pass text 1; x ← r; y ← s; z ← t; give (f x y z)) i)
  unfolding pass give then'
  three {i = i} f o m h g e =
      on (h (i + 1)) (λ x j s. on (g j) (λ y k t. on (e k) (λ z l u. goes (made _ o m (both s (both t u))))))

  -- ---- Which construct it is

  begins : {A : Type 0} {Q : A → ℕ → Type 0} (i : ℕ) (f : ℕ → Reader A)
      → (i < length text → Fine text Q (f (get_or text i 0) i)) → Fine text Q ((do there text 1; b ← due text; f b) i)
  unfolding due then'
  begins i f h = enough 1 i _ (λ w. h (omega arith))

  -- The byte at i is b, or the next test tells.
  by_byte : {X : Type 0} (P : X → Type 0) (i : ℕ) → i < length text → (b : ℕ) {x y : X} → (Opens i b → P x) → P y
      → P (if eqb (get_or text i 0) b then x else y)
  by_byte P i w b h g = either P (eqb (get_or text i 0) b) (λ e. h (w, eqb-true (get_or text i 0) b e)) g

  -- ---- Constructs, by induction on the nesting left

  module _ (small : Bytes text) where
    pub expression_decoded : (nest : ℕ) → Finds expressions text nest (expression text nest)
    unfolding expression expression_of expression_byte expression_bytes ValidExpression expression_nesting
    expression_decoded zero i = enough 1 i _ (λ w. declines 4 i (omega arith))
    expression_decoded (suc nest) i =
        let At : ExpressionByte → Type 0 =
        λ k. Fine text (Stands expressions text (suc nest) i) (expression_of text (expression text nest) k i) in
        let a = expression_decoded nest in
        begins i _ (λ w.
        by_byte At i w 0x10
        (λ o. one (Constant four_bytes) o (λ p v. (refl, v, omega arith)) (number_decoded small four_bytes nest))
        (by_byte At i w 0x11 (λ o. one Variable o (λ p v. (refl, omega arith, omega arith)) (operand_decoded 63 nest))
        (by_byte At i w 0x12 (λ o. two Plus o (λ p v. (refl, v, omega arith)) a a)
        (by_byte At i w 0x13
        (λ o. one (Constant one_byte) o (λ p v. (refl, v, omega arith)) (number_decoded small one_byte nest))
        (declines 2 i (omega arith))))))

    pub condition_decoded : (nest : ℕ) → Finds conditions text nest (condition text nest)
    unfolding condition condition_of condition_byte condition_bytes ValidCondition condition_nesting
    condition_decoded zero i = enough 1 i _ (λ w. declines 4 i (omega arith))
    condition_decoded (suc nest) i =
        let At : ConditionByte → Type 0 =
        λ k. Fine text (Stands conditions text (suc nest) i)
        (condition_of text (expression text nest) (condition text nest) k i) in
        let a = expression_decoded nest in
        let b = condition_decoded nest in
        begins i _ (λ w.
        by_byte At i w 0x20 (λ o. one (λ v. Bc (eqb v 1)) o value_made (operand_decoded 1 nest))
        (by_byte At i w 0x21 (λ o. one Not o (λ p v. (refl, v, omega arith)) b)
        (by_byte At i w 0x22 (λ o. two And o (λ p v. (refl, v, omega arith)) b b)
        (by_byte At i w 0x23 (λ o. two Less o (λ p v. (refl, v, omega arith)) a a)
        (declines 2 i (omega arith))))))

    pub command_decoded : (nest : ℕ) → Finds commands text nest (command text nest)
    unfolding command command_of command_byte command_bytes Valid nesting
    command_decoded zero i = enough 1 i _ (λ w. declines 4 i (omega arith))
    command_decoded (suc nest) i =
        let At : CommandByte → Type 0 =
        λ k. Fine text (Stands commands text (suc nest) i)
        (command_of text (expression text nest) (condition text nest) (command text nest) k i) in
        let a = expression_decoded nest in
        let b = condition_decoded nest in
        let c = command_decoded nest in
        let variable = operand_decoded 63 nest in
        begins i _ (λ w.
        by_byte At i w 0x00 (λ o. skip o)
        (by_byte At i w 0x01 (λ o. two ◌:=◌ o (λ p v. (refl, (omega arith, v.1), omega arith)) variable a)
        (by_byte At i w 0x02 (λ o. two ◌⨾◌ o (λ p v. (refl, v, omega arith)) c c)
        (by_byte At i w 0x03 (λ o. three IF◌THEN◌ELSE◌ o (λ p v. (refl, (v.0, v.1.0, v.1.1), omega arith)) b c c)
        (by_byte At i w 0x04 (λ o. two WHILE◌DO◌ o (λ p v. (refl, v, omega arith)) b c)
        (declines 2 i (omega arith)))))))
