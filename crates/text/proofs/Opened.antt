-- What a part that was read says of the text's bytes and of its own parts. Its first byte is in the text and nesting
-- is left for it; by that byte it has operands, whose bytes are there, or parts, each read where the one before it
-- ends. The idea: an act and then more gave a value only if the act did (`after`).
use mathlib.Core.Path.{◌≡◌, refl, sym, ap, ◌∙◌}
use mathlib.Core.Logic.{◌⊎◌, inl, inr}
use Prim.Native.Nat.{ℕ, ◌+◌, ◌-◌, ◌*◌, ◌≤◌, ◌<◌}
use native.Mathlib.Omega.{arith}
use mathlib.Core.Bool.{Bool, true, false}
use mathlib.Core.List.{List}
use lib.Dec.{ltb, leb, eqb}
use lib.ListN.{length, get_or}
use borrow.Author.Tests.{ltb-true, ltb-false, leb-true, eqb-true, eqb-false}
use Rattle.std.specs.Prelude.{if◌then◌else◌}
use Rattle.base.specs.Acts.{Outcome, ok, ended, then', ◌>>◌, give}
use Rattle.base.specs.Answers.{Answer, gives, refused, unless◌refuse◌at◌else◌, and_then}
use Rattle.text.specs.Syntax.{Width, bytes_in}
use Rattle.text.specs.Syntax.{Expression, Constant, Variable, Plus, Condition, Bc, Not, And, Less, Command}
use Rattle.text.specs.Syntax.{SKIP, ◌:=◌, ◌⨾◌, IF◌THEN◌ELSE◌, WHILE◌DO◌}
use Rattle.base.specs.Answers.{Refusal, refusal}
use Rattle.text.specs.Reading.{Reader, decline, there, due, pass, operand, operand_number, number_due, number}
use Rattle.text.specs.Reading.{ExpressionByte, constant, expression_byte, expression_of, expression}
use Rattle.text.specs.Reading.{ConditionByte, condition_byte, condition_of, condition}
use Rattle.text.specs.Reading.{CommandByte, command_byte, command_of, command, all_read, read_text}
use Rattle.text.specs.Sizes.{sizes}
use Rattle.text.specs.declared.Sizes.{Sizes}
use Rattle.text.specs.Calls.{read_call}
use Rattle.text.proofs.Heads.{is_variable, is_plus, is_no_expression, is_truth, is_negation}
use Rattle.text.proofs.Heads.{is_conjunction, is_comparison, is_no_condition, is_skip, is_assignment}
use Rattle.text.proofs.Heads.{is_sequence, is_choice, is_loop, is_no_command}
use Rattle.text.proofs.Heads.{expression_past, expression_deep, expression_at, condition_past, condition_deep}
use Rattle.text.proofs.Heads.{condition_at, command_past, command_deep, command_at}

abbrev Reading : Type 0 → Type 0
Reading A = Outcome ℕ Refusal A

-- ---- Acts in a row

no_end : {A : Type 0} {r : Refusal} {a : A} {n : ℕ} → ◌≡◌ {A = Reading A} (ended r) (ok a n) → ⊥
no_end e = let no : ◌≡◌ {A = ℕ} 0 1 = cc in omega arith

-- An act and then more gave a value, so the act did.
record After {A B : Type 0} (o : Reading A) (f : A → Reader B) (b : B) (n : ℕ) : Type 0 where
  pub part : A
  pub end : ℕ
  pub first : o ≡ ok part end
  pub rest : f part end ≡ ok b n

after : {A B : Type 0} (o : Reading A) (f : A → Reader B) {b : B} {n : ℕ} → then' o f ≡ ok b n → After o f b n
unfolding then'
after (ok a i) f e = record { part = a; end = i; first = refl; rest = e }
after (ended r) f e = absurd (no_end e)

-- A part made of one part,
pub record One {A C : Type 0} (x : Reading A) (h : A → C) (c : C) (n : ℕ) : Type 0 where
  pub part : A
  pub read : x ≡ ok part n
  pub is : c ≡ h part

one : {A C : Type 0} (x : Reading A) (h : A → C) {c : C} {n : ℕ} → then' x (λ a. give (h a)) ≡ ok c n → One x h c n
unfolding give
one x h e =
    let a = after x _ e in
    let p = a.first in
    let q = a.rest in
    record { part = a.part; read = cc; is = cc }

-- of two in a row,
pub record Two {A B C : Type 0} (x : Reading A) (y : Reader B) (h : A → B → C) (c : C) (n : ℕ) : Type 0 where
  pub one : A
  pub two : B
  pub middle : ℕ
  pub first : x ≡ ok one middle
  pub second : y middle ≡ ok two n
  pub is : c ≡ h one two

pub two : {A B C : Type 0} (x : Reading A) (y : Reader B) (h : A → B → C) {c : C} {n : ℕ}
    → then' x (λ a i. then' (y i) (λ b. give (h a b))) ≡ ok c n → Two x y h c n
two x y h e =
    let a = after x _ e in
    let b = one (y a.end) (h a.part) a.rest in
    record {
      one = a.part;
      two = b.part;
      middle = a.end;
      first = a.first;
      second = b.read;
      is = b.is;
    }

-- of three in a row
pub record Three {A B C D : Type 0} (x : Reading A) (y : Reader B) (z : Reader C) (h : A → B → C → D) (d : D) (n : ℕ)
    : Type 0 where
  pub one : A
  pub end : ℕ
  pub first : x ≡ ok one end
  pub others : Two (y end) z (h one) d n

three : {A B C D : Type 0} (x : Reading A) (y : Reader B) (z : Reader C) (h : A → B → C → D) {d : D} {n : ℕ}
    → then' x (λ a i. then' (y i) (λ b j. then' (z j) (λ c. give (h a b c)))) ≡ ok d n → Three x y z h d n
three x y z h e =
    let a = after x _ e in
    record { one = a.part; end = a.end; first = a.first; others = two (y a.end) z (h a.part) a.rest }

-- A part with no parts: at i it is x, of so many bytes; it was read as a, up to n
pub record Leaf {A : Type 0} (text : List ℕ) (o : Reading A) (bytes i : ℕ) (x a : A) (n : ℕ) : Type 0 where
  pub inside : i + bytes ≤ length text
  pub read : o ≡ ok x (i + bytes)
  pub is : a ≡ x
  pub ends : i + bytes ≡ n

leaf : {A : Type 0} {text : List ℕ} {o : Reading A} {bytes i : ℕ} {x a : A} {n : ℕ} → o ≡ ok a n → a ≡ x
    → i + bytes ≡ n → i + bytes ≤ length text → Leaf text o bytes i x a n
leaf e f g h = record { inside = h; read = cc; is = f; ends = g }

-- ---- Bytes that are there

module _ (text : List ℕ) where
  enough : {A : Type 0} {a : A} {n : ℕ} (k i : ℕ) (f : Reader A) → (do there text k; f) i ≡ ok a n
      → (i + k ≤ length text) × (f i ≡ ok a n)
  unfolding there then'
  enough {A} {a} {n} k i f e = by (leb (i + k) (length text)) refl e
    where
      by : (t : Bool) → leb (i + k) (length text) ≡ t
          → then' {A = Unit {0}} (if t then ok tt i else ended (refusal 1 (length text))) (λ _. f) ≡ ok a n
          → (i + k ≤ length text) × (f i ≡ ok a n)
      by true t e = (leb-true (i + k) (length text) t, e)
      by false t e = absurd (no_end e)

  -- An operand of one byte
  record Operand (most i v n : ℕ) : Type 0 where
    pub inside : i < length text
    pub small : get_or text i 0 ≤ most
    pub is : v ≡ get_or text i 0
    pub end : n ≡ i + 1

  operand_read : (most i : ℕ) {v n : ℕ} → operand text most i ≡ ok v n → Operand most i v n
  unfolding operand due pass give then' decline
  operand_read most i {v} {n} e =
      let w = enough 1 i _ e in
      by (leb (get_or text i 0) most) refl (omega arith) w.1
    where
      by : (t : Bool) → leb (get_or text i 0) most ≡ t → i < length text
          → (if t then (do pass text 1; give (get_or text i 0)) else decline text 3) i ≡ ok v n
          → Operand most i v n
      by true t w e = record { inside = w; small = leb-true (get_or text i 0) most t; is = cc; end = cc }
      by false t w e = absurd (no_end e)

-- ---- A construct's first byte

-- The first byte is there, and nesting is left
pub record Opened (text : List ℕ) (nest i : ℕ) : Type 0 where
  pub inside : i < length text
  pub nested : 0 < nest

-- so twice the nesting left for its parts, and one more, is below twice its own.
pub down : {text : List ℕ} {nest i t : ℕ} → Opened text nest i → 2 * nest ≡ t → 2 * (nest - 1) + 1 < t
down o e = omega (arith, o.nested)

open_by : {A : Type 0} {a : A} {n : ℕ} (text : List ℕ) (nest i : ℕ) (o : Reading A)
    → (length text ≤ i → o ≡ ended (refusal 1 (length text)))
    → (i < length text → nest ≡ 0 → o ≡ ended (refusal 4 i)) → o ≡ ok a n → Opened text nest i
open_by text nest i o past deep e = by (ltb i (length text)) refl (eqb nest 0) refl
  where
    by : (t : Bool) → ltb i (length text) ≡ t → (z : Bool) → eqb nest 0 ≡ z → Opened text nest i
    by true t true z = absurd (no_end (sym (deep (ltb-true i _ t) (eqb-true nest 0 z)) ∙ e))
    by true t false z =
        let w : i < length text = ltb-true i (length text) t in
        let k : nest ≡ 0 → ⊥ = eqb-false nest 0 z in
        record { inside = w; nested = omega arith }
    by false t z f = absurd (no_end (sym (past (ltb-false i (length text) t)) ∙ e))

module _ (text : List ℕ) (nest i : ℕ) where
  -- the parts' readers
  abbrev side : Reader Expression
  side = expression text (nest - 1)

  abbrev test : Reader Condition
  test = condition text (nest - 1)

  abbrev body : Reader Command
  body = command text (nest - 1)

  -- ---- Expressions
  module _ {a : Expression} {n : ℕ} (e : expression text nest i ≡ ok a n) where
    pub expression_opened : Opened text nest i
    expression_opened =
        open_by text nest i (expression text nest i) (expression_past text nest i) (expression_deep text nest i) e

    as_expression : (k : ExpressionByte) → expression_byte (get_or text i 0) ≡ k → expression_of text side k i ≡ ok a n
    as_expression k b =
        let o = expression_opened in
        ap (λ k. expression_of text side k i) (sym b)
        ∙ sym (expression_at text nest i o.inside (omega arith)) ∙ e

    pub constant_at : (w : Width) → expression_byte (get_or text i 0) ≡ constant w
        → Leaf text (expression text nest i) (1 + bytes_in w) i (Constant w (operand_number w text (i + 1))) a n
    unfolding expression_of pass number number_due give then'
    constant_at w b =
        let c = one (number text w (i + 1)) (Constant w) (as_expression _ b) in
        let k = enough text (bytes_in w) (i + 1) _ c.read in
        let q = k.1 in
        let p = c.is in
        let s : i + 1 + bytes_in w ≡ n = cc in
        leaf e (cc) (omega arith) (omega (arith, k.0))

    pub variable_at : get_or text i 0 ≡ 0x11
        → (get_or text (i + 1) 0 ≤ 63) × Leaf text (expression text nest i) 2 i (Variable (get_or text (i + 1) 0)) a n
    unfolding expression_of pass then'
    variable_at b =
        let c = one (operand text 63 (i + 1)) Variable (as_expression _ (is_variable b)) in
        let v = operand_read text 63 (i + 1) c.read in
        let p = c.is in
        let q = v.is in
        (v.small, leaf e (cc) (omega (arith, v.end)) (omega (arith, v.inside)))

    pub plus_at : get_or text i 0 ≡ 0x12 → Two (side (i + 1)) side Plus a n
    unfolding expression_of pass then'
    plus_at b = two (side (i + 1)) side Plus (as_expression _ (is_plus b))

    -- what is neither a variable nor a Plus is a constant, of either width
    pub last_expression : (get_or text i 0 ≡ 0x11 → ⊥) → (get_or text i 0 ≡ 0x12 → ⊥)
        → (get_or text i 0 ≡ 0x10) ⊎ (get_or text i 0 ≡ 0x13)
    unfolding expression_of decline
    last_expression n1 n2 = by (eqb (get_or text i 0) 0x10) refl (eqb (get_or text i 0) 0x13) refl
      where
        by : (s : Bool) → eqb (get_or text i 0) 0x10 ≡ s → (t : Bool) → eqb (get_or text i 0) 0x13 ≡ t
            → (get_or text i 0 ≡ 0x10) ⊎ (get_or text i 0 ≡ 0x13)
        by true s t e = inl (eqb-true _ 0x10 s)
        by false s true e = inr (eqb-true _ 0x13 e)
        by false s false e =
            absurd (no_end (as_expression _ (is_no_expression (eqb-false _ 0x10 s) n1 n2 (eqb-false _ 0x13 e))))

  -- ---- Conditions
  module _ {a : Condition} {n : ℕ} (e : condition text nest i ≡ ok a n) where
    pub condition_opened : Opened text nest i
    condition_opened =
        open_by text nest i (condition text nest i) (condition_past text nest i) (condition_deep text nest i) e

    as_condition : (k : ConditionByte) → condition_byte (get_or text i 0) ≡ k → condition_of text side test k i ≡ ok a n
    as_condition k b =
        let o = condition_opened in
        ap (λ k. condition_of text side test k i) (sym b)
        ∙ sym (condition_at text nest i o.inside (omega arith)) ∙ e

    pub bc_at : get_or text i 0 ≡ 0x20
        → Leaf text (condition text nest i) 2 i (Bc (eqb (get_or text (i + 1) 0) 1)) a n
    unfolding condition_of pass then'
    bc_at b =
        let c = one (operand text 1 (i + 1)) (λ v. Bc (eqb v 1)) (as_condition _ (is_truth b)) in
        let v = operand_read text 1 (i + 1) c.read in
        let p = c.is in
        let q = v.is in
        leaf e (cc) (omega (arith, v.end)) (omega (arith, v.inside))

    pub not_at : get_or text i 0 ≡ 0x21 → One (test (i + 1)) Not a n
    unfolding condition_of pass then'
    not_at b = one (test (i + 1)) Not (as_condition _ (is_negation b))

    pub and_at : get_or text i 0 ≡ 0x22 → Two (test (i + 1)) test And a n
    unfolding condition_of pass then'
    and_at b = two (test (i + 1)) test And (as_condition _ (is_conjunction b))

    pub less_at : get_or text i 0 ≡ 0x23 → Two (side (i + 1)) side Less a n
    unfolding condition_of pass then'
    less_at b = two (side (i + 1)) side Less (as_condition _ (is_comparison b))

    pub last_condition : (get_or text i 0 ≡ 0x20 → ⊥) → (get_or text i 0 ≡ 0x21 → ⊥) → (get_or text i 0 ≡ 0x22 → ⊥)
        → get_or text i 0 ≡ 0x23
    unfolding condition_of decline
    last_condition n0 n1 n2 = by (eqb (get_or text i 0) 0x23) refl
      where
        by : (t : Bool) → eqb (get_or text i 0) 0x23 ≡ t → get_or text i 0 ≡ 0x23
        by true t = eqb-true _ 0x23 t
        by false t = absurd (no_end (as_condition _ (is_no_condition n0 n1 n2 (eqb-false _ 0x23 t))))

  -- ---- Commands
  module _ {a : Command} {n : ℕ} (e : command text nest i ≡ ok a n) where
    pub command_opened : Opened text nest i
    command_opened =
        open_by text nest i (command text nest i) (command_past text nest i) (command_deep text nest i) e

    as_command : (k : CommandByte) → command_byte (get_or text i 0) ≡ k → command_of text side test body k i ≡ ok a n
    as_command k b =
        let o = command_opened in
        ap (λ k. command_of text side test body k i) (sym b)
        ∙ sym (command_at text nest i o.inside (omega arith)) ∙ e

    pub skip_at : get_or text i 0 ≡ 0x00 → Leaf text (command text nest i) 1 i SKIP a n
    unfolding command_of pass give then'
    skip_at b =
        let d = as_command _ (is_skip b) in
        let w = command_opened.inside in
        leaf e (cc) (cc) (omega arith)

    pub assignment_at : get_or text i 0 ≡ 0x01
        → (i + 1 < length text) × (get_or text (i + 1) 0 ≤ 63)
        × One (side (i + 2)) (λ x. get_or text (i + 1) 0 := x) a n
    unfolding command_of pass then'
    assignment_at b =
        let t = two (operand text 63 (i + 1)) side ◌:=◌ (as_command _ (is_assignment b)) in
        let v = operand_read text 63 (i + 1) t.first in
        let p = t.is in
        let q = v.is in
        let r = t.second in
        let s : t.middle ≡ i + 2 = omega (arith, v.end) in
        (v.inside, v.small, record { part = t.two; read = cc; is = cc })

    pub sequence_at : get_or text i 0 ≡ 0x02 → Two (body (i + 1)) body ◌⨾◌ a n
    unfolding command_of pass then'
    sequence_at b = two (body (i + 1)) body ◌⨾◌ (as_command _ (is_sequence b))

    pub choice_at : get_or text i 0 ≡ 0x03 → Three (test (i + 1)) body body IF◌THEN◌ELSE◌ a n
    unfolding command_of pass then'
    choice_at b = three (test (i + 1)) body body IF◌THEN◌ELSE◌ (as_command _ (is_choice b))

    pub while_at : get_or text i 0 ≡ 0x04 → Two (test (i + 1)) body WHILE◌DO◌ a n
    unfolding command_of pass then'
    while_at b = two (test (i + 1)) body WHILE◌DO◌ (as_command _ (is_loop b))

    pub last_command : (get_or text i 0 ≡ 0x00 → ⊥) → (get_or text i 0 ≡ 0x01 → ⊥) → (get_or text i 0 ≡ 0x02 → ⊥)
        → (get_or text i 0 ≡ 0x03 → ⊥) → get_or text i 0 ≡ 0x04
    unfolding command_of decline
    last_command n0 n1 n2 n3 = by (eqb (get_or text i 0) 0x04) refl
      where
        by : (t : Bool) → eqb (get_or text i 0) 0x04 ≡ t → get_or text i 0 ≡ 0x04
        by true t = eqb-true _ 0x04 t
        by false t = absurd (no_end (as_command _ (is_no_command n0 n1 n2 n3 (eqb-false _ 0x04 t))))

-- ---- A whole text

-- An accepted text is one command, read with nesting 64
pub record Taken (text : List ℕ) (c : Command) : Type 0 where
  pub end : ℕ
  pub short : length text ≤ 4096
  pub part : command text 64 0 ≡ ok c end

no_refusal : {A : Type 0} {a : A} {k p : ℕ} → ◌≡◌ {A = Answer A} (refused k p) (gives a) → ⊥
no_refusal e = let no : ◌≡◌ {A = ℕ} 0 1 = cc in omega arith

pub taken : (text : List ℕ) {c : Command} → read_text text ≡ gives c → Taken text c
unfolding read_text all_read
taken text {c} e = by (leb (length text) 4096) refl (command text 64 0) refl e
  where
    ends : (t : Bool) (d : Command) (i : ℕ) → (unless t refuse 5 at i else gives d) ≡ gives c → d ≡ c
    ends true d i e = cc
    ends false d i e = absurd (no_refusal e)

    by : (t : Bool) → leb (length text) 4096 ≡ t → (o : Reading Command) → command text 64 0 ≡ o
        → (unless t refuse 6 at 0 else all_read text o) ≡ gives c → Taken text c
    by true t (ok d i) o e = record {
      end = i;
      short = leb-true (length text) 4096 t;
      part = o ∙ ap (λ d. ok d i) (ends (leb (length text) i) d i e);
    }
    by true t (ended (refusal k p)) o e = absurd (no_refusal e)
    by false t r o e = absurd (no_refusal e)

-- What the call `read` answers says of the text
pub read_gives : (text : List ℕ) {s : Sizes} → gives s ≡ read_call text → (c : Command) × (read_text text ≡ gives c)
unfolding read_call and_then
read_gives text {s} e = by (read_text text) refl e
  where
    by : (a : Answer Command) → read_text text ≡ a → gives s ≡ and_then a (λ c. gives (sizes c))
        → (c : Command) × (read_text text ≡ gives c)
    by (gives c) r e = (c, r)
    by (refused k p) r e = absurd (no_refusal (sym e))

pub read_refuses : (text : List ℕ) {k p : ℕ} → refused k p ≡ read_call text → read_text text ≡ refused k p
unfolding read_call and_then
read_refuses text {k} {p} e = by (read_text text) e
  where
    by : (a : Answer Command) → refused k p ≡ and_then a (λ c. gives (sizes c)) → a ≡ refused k p
    by (gives c) e = absurd (no_refusal e)
    by (refused k' p') e = cc
