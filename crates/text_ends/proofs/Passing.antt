-- Where a part ends. A part that was read, of any kind, is a row of one part (`expression_row` and its like, by
-- induction on the nesting left); parts in a row have one end; the invariant of the loop that passes over them.
use mathlib.Core.Path.{◌≡◌, refl, sym, subst, ◌∙◌}
use mathlib.Core.Logic.{◌⊎◌, inl, inr}
use Prim.Native.Nat.{ℕ, zero, suc, ◌+◌, ◌-◌, ◌≤◌, ◌<◌}
use native.Mathlib.Numerals.{sub-one}
use native.Mathlib.Omega.{arith}
use mathlib.Core.Bool.{Bool, true, false}
use mathlib.Core.List.{List}
use lib.Dec.{eqb}
use lib.ListN.{length, get_or}
use borrow.Author.Tests.{eqb-true, eqb-false, ne_eqb}
use Rattle.std.specs.Prelude.{if◌then◌else◌}
use Rattle.base.specs.Acts.{Outcome, ok}
use Rattle.text.specs.Syntax.{Condition, Command}
use Rattle.base.specs.Answers.{Refusal}
use Rattle.text.specs.Reading.{Reader, expression, condition, command}
use Rattle.text.proofs.Opened.{expression_opened, variable_at, plus_at}
use Rattle.text.proofs.Opened.{last_expression, condition_opened, bc_at, not_at, and_at, less_at, last_condition}
use Rattle.text.proofs.Opened.{command_opened, skip_at, assignment_at, sequence_at, choice_at, while_at, last_command}
use Rattle.text_shape.specs.Shape.{begins_constant, constant_width}
use Rattle.text_shape.proofs.Constants.{Begins, begins_none, constant_read}
use Rattle.text_ends.specs.Ends.{width, due_after, Row, none, more}

-- ---- A constant's first byte: its own bytes, and no part

pub constant_wide : {b : ℕ} → Begins b → width b ≡ 1 + constant_width b
unfolding width
constant_wide (inl e) = rw e
constant_wide (inr e) = rw e

pub constant_due : {b : ℕ} → Begins b → (n : ℕ) → due_after b n ≡ n
unfolding due_after
constant_due (inl e) n = rw e
constant_due (inr e) n = rw e

-- ---- A part that was read is one part of a row

ends_at : {A : Type 0} {o : Outcome ℕ Refusal A} {a b : A} {n m : ℕ} → o ≡ ok a n → o ≡ ok b m → n ≡ m
ends_at e f = cc

module _ (text : List ℕ) where
  -- what a reader reads stands before any row that begins where it ends
  abbrev Before : {A : Type 0} → Reader A → Type 0
  Before {A} r = (i : ℕ) (a : A) (n k j : ℕ) → r i ≡ ok a n → Row text n k j → Row text i (suc k) j

  pub opens : (b i : ℕ) {n j : ℕ} → get_or text i 0 ≡ b → i + width b ≤ length text
      → Row text (i + width b) (due_after b n) j → Row text i (suc n) j
  opens b i {n} {j} e h r =
      more (subst (λ b. i + width b ≤ length text) (sym e) h)
      (subst (λ b. Row text (i + width b) (due_after b n) j) (sym e) r)

  pub constant_opens : (i : ℕ) {n j : ℕ} → Begins (get_or text i 0)
      → i + (1 + constant_width (get_or text i 0)) ≤ length text
      → Row text (i + (1 + constant_width (get_or text i 0))) n j → Row text i (suc n) j
  constant_opens i {n} {j} b h r =
      let w = constant_wide b in
      more {i = i} {n = n} {j = j} (rw w h) (rw (w, constant_due b n) r)

  -- a row that begins at n, or at m
  moved : {A : Type 0} {o : Outcome ℕ Refusal A} {a b : A} {n m k j : ℕ} → o ≡ ok a n → o ≡ ok b m → Row text n k j
      → Row text m k j
  moved {k = k} {j = j} e f r = subst (λ (i : ℕ). Row text i k j) (ends_at e f) r

  expression_first : (nest : ℕ) → Before (expression text (nest - 1)) → Before (expression text nest)
  unfolding width due_after
  expression_first nest side i a n k j e r = by (eqb (get_or text i 0) 0x11) refl (eqb (get_or text i 0) 0x12) refl
    where
      by : (s : Bool) → eqb (get_or text i 0) 0x11 ≡ s → (t : Bool) → eqb (get_or text i 0) 0x12 ≡ t
          → Row text i (suc k) j
      by true s t g =
          let b = eqb-true _ 0x11 s in
          let p = (variable_at text nest i e b).1 in
          opens 0x11 i b p.inside (moved e p.read r)
      by false s true g =
          let b = eqb-true _ 0x12 g in
          let t = plus_at text nest i e b in
          let w = (expression_opened text nest i e).inside in
          opens 0x12 i b (omega arith) (side _ _ _ _ _ t.first (side _ _ _ _ _ t.second r))
      by false s false g =
          let b = last_expression text nest i e (eqb-false _ 0x11 s) (eqb-false _ 0x12 g) in
          let p = constant_read text nest i e b in
          constant_opens i b p.inside (moved e p.read r)

  expression_row : (nest : ℕ) → Before (expression text nest)
  expression_row zero = λ i a n k j e r. absurd (let w = (expression_opened text 0 i e).nested in omega arith)
  expression_row (suc l) =
      expression_first (suc l)
      (subst (λ (n : ℕ). Before (expression text n)) (sym (sub-one (suc l))) (expression_row l))

  condition_first : (nest : ℕ) → Before (condition text (nest - 1)) → Before (condition text nest)
  unfolding width due_after
  condition_first nest part i a n k j e r =
      by (eqb (get_or text i 0) 0x20) refl (eqb (get_or text i 0) 0x21) refl (eqb (get_or text i 0) 0x22) refl
    where
      w : i + 1 ≤ length text
      w = let h = (condition_opened text nest i e).inside in omega arith

      by : (s : Bool) → eqb (get_or text i 0) 0x20 ≡ s → (t : Bool) → eqb (get_or text i 0) 0x21 ≡ t
          → (u : Bool) → eqb (get_or text i 0) 0x22 ≡ u → Row text i (suc k) j
      by true s t g u h =
          let b = eqb-true _ 0x20 s in
          let p = bc_at text nest i e b in
          opens 0x20 i b p.inside (moved e p.read r)
      by false s true g u h =
          let b = eqb-true _ 0x21 g in
          opens 0x21 i b w (part _ _ _ _ _ (not_at text nest i e b).read r)
      by false s false g true h =
          let b = eqb-true _ 0x22 h in
          let t = and_at text nest i e b in
          opens 0x22 i b w (part _ _ _ _ _ t.first (part _ _ _ _ _ t.second r))
      by false s false g false h =
          let b = last_condition text nest i e (eqb-false _ 0x20 s) (eqb-false _ 0x21 g) (eqb-false _ 0x22 h) in
          let t = less_at text nest i e b in
          let side = expression_row (nest - 1) in
          opens 0x23 i b w (side _ _ _ _ _ t.first (side _ _ _ _ _ t.second r))

  condition_row : (nest : ℕ) → Before (condition text nest)
  condition_row zero = λ i a n k j e r. absurd (let w = (condition_opened text 0 i e).nested in omega arith)
  condition_row (suc l) =
      condition_first (suc l) (subst (λ (n : ℕ). Before (condition text n)) (sym (sub-one (suc l))) (condition_row l))

  command_first : (nest : ℕ) → Before (command text (nest - 1)) → Before (command text nest)
  unfolding width due_after
  command_first nest part i a n k j e r =
      by (eqb (get_or text i 0) 0x00) refl (eqb (get_or text i 0) 0x01) refl (eqb (get_or text i 0) 0x02) refl
      (eqb (get_or text i 0) 0x03) refl
    where
      w : i + 1 ≤ length text
      w = let h = (command_opened text nest i e).inside in omega arith

      by : (s : Bool) → eqb (get_or text i 0) 0x00 ≡ s → (t : Bool) → eqb (get_or text i 0) 0x01 ≡ t
          → (u : Bool) → eqb (get_or text i 0) 0x02 ≡ u → (v : Bool) → eqb (get_or text i 0) 0x03 ≡ v
          → Row text i (suc k) j
      by true s t g u h v l = let b = eqb-true _ 0x00 s in opens 0x00 i b w (moved e (skip_at text nest i e b).read r)
      by false s true g u h v l =
          let b = eqb-true _ 0x01 g in
          let p = assignment_at text nest i e b in
          let w = p.0 in
          opens 0x01 i b (omega arith) (expression_row (nest - 1) _ _ _ _ _ p.2.read r)
      by false s false g true h v l =
          let b = eqb-true _ 0x02 h in
          let t = sequence_at text nest i e b in
          opens 0x02 i b w (part _ _ _ _ _ t.first (part _ _ _ _ _ t.second r))
      by false s false g false h true l =
          let b = eqb-true _ 0x03 l in
          let t = choice_at text nest i e b in
          let o = t.others in
          opens 0x03 i b w
          (condition_row (nest - 1) _ _ _ _ _ t.first (part _ _ _ _ _ o.first (part _ _ _ _ _ o.second r)))
      by false s false g false h false l =
          let b =
          last_command text nest i e (eqb-false _ 0x00 s) (eqb-false _ 0x01 g) (eqb-false _ 0x02 h) (eqb-false _ 0x03 l)
          in
          let t = while_at text nest i e b in
          opens 0x04 i b w (condition_row (nest - 1) _ _ _ _ _ t.first (part _ _ _ _ _ t.second r))

  command_row : (nest : ℕ) → Before (command text nest)
  command_row zero = λ i a n k j e r. absurd (let w = (command_opened text 0 i e).nested in omega arith)
  command_row (suc l) =
      command_first (suc l) (subst (λ (n : ℕ). Before (command text n)) (sym (sub-one (suc l))) (command_row l))

  -- ---- Two rows, one after the other

  due_sum : (b n m : ℕ) → due_after b n + m ≡ due_after b (n + m)
  unfolding due_after
  due_sum b n m =
      by (eqb b 0x00) (eqb b 0x01) (eqb b 0x03) (begins_constant b) (eqb b 0x11) (eqb b 0x20) (eqb b 0x21)
    where
      by : (s t u v w x y : Bool)
          → (if s then n else if t then suc n else if u then suc (suc (suc n)) else if v then n else if w then n else
          if x then n else if y then suc n else suc (suc n)) + m
          ≡ (if s then n + m else if t then suc (n + m) else if u then suc (suc (suc (n + m))) else if v then n + m else
          if w then n + m else if x then n + m else if y then suc (n + m) else suc (suc (n + m)))
      by true t u v w x y = refl
      by false true u v w x y = omega arith
      by false false true v w x y = omega arith
      by false false false true w x y = refl
      by false false false false true x y = refl
      by false false false false false true y = refl
      by false false false false false false true = omega arith
      by false false false false false false false = omega arith

  pub in_a_row : {i n j m k : ℕ} → Row text i n j → Row text j m k → Row text i (n + m) k
  in_a_row {i = i} {m = m} {k = k} none s = subst (λ (d : ℕ). Row text i d k) (omega arith) s
  in_a_row {i = i} {m = m} {k = k} (more {n = n} h r) s =
      let b = get_or text i 0 in
      let rest = subst (λ (d : ℕ). Row text (i + width b) d k) (due_sum b n m) (in_a_row r s) in
      subst (λ (d : ℕ). Row text i d k) (omega arith) (more {n = n + m} h rest)

  -- ---- A row has one end

  one_end : {i n j k : ℕ} → Row text i n j → Row text i n k → j ≡ k
  one_end none none = refl
  one_end (more h r) (more g s) = one_end r s

  -- so where a condition or a command was read, this is the position after it.
  pub condition_end : (nest i : ℕ) {b : Condition} {n j : ℕ} → condition text nest i ≡ ok b n → Row text i 1 j → j ≡ n
  condition_end nest i e r = one_end r (condition_row nest i _ _ _ _ e none)

  pub command_end : (nest i : ℕ) {c : Command} {n j : ℕ} → command text nest i ≡ ok c n → Row text i 1 j → j ≡ n
  command_end nest i e r = one_end r (command_row nest i _ _ _ _ e none)

  pub condition_ends : (nest i : ℕ) {b : Condition} {n : ℕ} → condition text nest i ≡ ok b n
      → (end : ℕ) × Row text i 1 end
  condition_ends nest i {n = n} e = (n, condition_row nest i _ _ _ _ e none)

  pub command_ends : (nest i : ℕ) {c : Command} {n : ℕ} → command text nest i ≡ ok c n → (end : ℕ) × Row text i 1 end
  command_ends nest i {n = n} e = (n, command_row nest i _ _ _ _ e none)

-- ---- The loop that passes over a part

-- A construct has a byte at least, and no fewer parts are due after it than were.
least : (t : Bool) (m k : ℕ) {l : ℕ} → l ≤ m → l ≤ k → l ≤ (if t then m else k)
least true m k p q = p
least false m k p q = q

pub wide : (b : ℕ) → 1 ≤ width b
unfolding width
wide b =
    least (eqb b 0x01) 2 _ (omega arith) (least (begins_constant b) (1 + constant_width b) _ (omega arith)
    (least (eqb b 0x11) 2 _ (omega arith) (least (eqb b 0x20) 2 1 (omega arith) (omega arith))))

no_fewer : (b n : ℕ) → n ≤ due_after b n
unfolding due_after
no_fewer b n =
    least (eqb b 0x00) n _ (omega arith) (least (eqb b 0x01) (suc n) _ (omega arith)
    (least (eqb b 0x03) (suc (suc (suc n))) _ (omega arith) (least (begins_constant b) n _ (omega arith)
    (least (eqb b 0x11) n _ (omega arith) (least (eqb b 0x20) n _ (omega arith)
    (least (eqb b 0x21) (suc n) (suc (suc n)) (omega arith) (omega arith)))))))

-- So parts in a row have a byte each at least, and end inside the text.
room : {text : List ℕ} {i n j : ℕ} → i ≤ length text → Row text i n j → (i + n ≤ j) × (j ≤ length text)
room h none = (omega arith, h)
room {text} h (more {i = i} {n = n} g r) =
    let (p, q) = room g r in
    let w : 1 ≤ width (get_or text i 0) = wide (get_or text i 0) in
    let d : n ≤ due_after (get_or text i 0) n = no_fewer (get_or text i 0) n in
    (omega arith, q)

-- A byte that is none of the others': one byte, and two parts
module _ (b : ℕ) (n0 : b ≡ 0x00 → ⊥) (n1 : b ≡ 0x01 → ⊥) (n2 : b ≡ 0x03 → ⊥) (n3 : Begins b → ⊥) (n4 : b ≡ 0x11 → ⊥)
    (n5 : b ≡ 0x20 → ⊥) (n6 : b ≡ 0x21 → ⊥) where
  pub pair_width : width b ≡ 1
  unfolding width
  pair_width = simp (ne_eqb b 0x01 n1, begins_none n3, ne_eqb b 0x11 n4, ne_eqb b 0x20 n5)

  pub pair_due : (n : ℕ) → due_after b n ≡ suc (suc n)
  unfolding due_after
  pair_due n =
      simp (
        ne_eqb b 0x00 n0,
        ne_eqb b 0x01 n1,
        ne_eqb b 0x03 n2,
        begins_none n3,
        ne_eqb b 0x11 n4,
        ne_eqb b 0x20 n5,
        ne_eqb b 0x21 n6,
      )

-- From here the parts due reach the end that the part at the start has
pub record Passing (text : List ℕ) (start i due : ℕ) : Type 0 where
  pub end : ℕ
  pub from : Row text start 1 end
  pub here : Row text i due end

-- A turn: from a construct's first byte b, past its own bytes
pub record Turn (text : List ℕ) (start i wide due : ℕ) : Type 0 where
  pub inside : i + wide + due ≤ length text
  pub goes_on : Passing text start (i + wide) due

pub opened : {text : List ℕ} {i n j : ℕ} → Row text i n j → (n ≡ 0 → ⊥)
    → (i + width (get_or text i 0) ≤ length text)
    × Row text (i + width (get_or text i 0)) (due_after (get_or text i 0) (n - 1)) j
opened none h = absurd (h refl)
opened {text} {j = j} (more {i = i} {n = n} g r) h =
    (g, subst (λ (m : ℕ). Row text (i + width (get_or text i 0)) (due_after (get_or text i 0) m) j) (omega arith) r)

module _ {text : List ℕ} {start i n : ℕ} (p : Passing text start i n) (h : n ≡ 0 → ⊥) where
  pub byte_inside : i < length text
  byte_inside = let w = (opened p.here h).0 in omega (arith, wide (get_or text i 0))

  pub turn : (b : ℕ) → get_or text i 0 ≡ b → (due : ℕ) → due_after b (n - 1) ≡ due → Turn text start i (width b) due
  turn b e due f =
      let o = opened p.here h in
      let w : i + width b ≤ length text = rw e at o.0 in
      let r : Row text (i + width b) due p.end = rw (e, f) at o.1 in
      let (a, z) = room w r in
      record { inside = omega arith; goes_on = record { end = p.end; from = p.from; here = r } }

  -- SKIP's byte, Assign's, IF's and Not's
  pub turn_skip : get_or text i 0 ≡ 0x00 → Turn text start i 1 (n - 1)
  unfolding width due_after
  turn_skip e = turn 0x00 e _ refl

  pub turn_assign : get_or text i 0 ≡ 0x01 → Turn text start i 2 n
  unfolding width due_after
  turn_assign e = turn 0x01 e _ (omega arith)

  pub turn_choice : get_or text i 0 ≡ 0x03 → Turn text start i 1 (n + 2)
  unfolding width due_after
  turn_choice e = turn 0x03 e _ (omega arith)

  pub turn_not : get_or text i 0 ≡ 0x21 → Turn text start i 1 n
  unfolding width due_after
  turn_not e = turn 0x21 e _ (omega arith)

  -- a constant's byte: its own bytes, and no part
  pub turn_constant : Begins (get_or text i 0) → Turn text start i (1 + constant_width (get_or text i 0)) (n - 1)
  turn_constant b = rw (constant_wide b) at (turn (get_or text i 0) refl (n - 1) (constant_due b (n - 1)))

  -- a variable's byte or Bc's: two bytes, and no part
  pub turn_leaf : (get_or text i 0 ≡ 0x11) ⊎ (get_or text i 0 ≡ 0x20) → Turn text start i 2 (n - 1)
  unfolding width due_after
  turn_leaf (inl e) = turn 0x11 e (n - 1) refl
  turn_leaf (inr e) = turn 0x20 e (n - 1) refl

  -- a byte that is none of the others': one byte, and two parts
  pub turn_rest : (get_or text i 0 ≡ 0x00 → ⊥) → (get_or text i 0 ≡ 0x01 → ⊥) → (get_or text i 0 ≡ 0x03 → ⊥)
      → (Begins (get_or text i 0) → ⊥) → (get_or text i 0 ≡ 0x11 → ⊥) → (get_or text i 0 ≡ 0x20 → ⊥)
      → (get_or text i 0 ≡ 0x21 → ⊥) → Turn text start i 1 (n + 1)
  turn_rest n0 n1 n2 n3 n4 n5 n6 =
      let b = get_or text i 0 in
      let two : suc (suc (n - 1)) ≡ n + 1 = omega arith in
      rw (pair_width b n0 n1 n2 n3 n4 n5 n6)
      at (turn b refl (n + 1) (pair_due b n0 n1 n2 n3 n4 n5 n6 (n - 1) ∙ two))
