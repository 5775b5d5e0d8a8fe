-- Where a construct stands in a text: its bytes are the text's bytes from one position up to another.
-- Both directions, from an encoding to its reading and back, go through this; positions are never computed with.
use mathlib.Core.Path.{◌≡◌, refl, sym, ap, ◌∙◌}
use Prim.Native.Nat.{ℕ, ◌+◌, ◌≤◌, ◌<◌, max}
use native.Mathlib.Numerals.{add-one}
use native.Mathlib.Omega.{arith}
use mathlib.Core.List.{List, [], ◌∷◌, ◌++◌, append-nil}
use lib.ListN.{length, get_or, drop, length-drop}
use lib.Seq.{drop-cons, drop-length}
use lib.IntN.{ℤ}
use mir.Syntax.{w8, w32}
use mir.Val.{SFits}
use Rattle.word.specs.Numbers.{bytes_of, byte_of}
use Rattle.text.specs.Syntax.{Width, four_bytes, one_byte}
use Rattle.text.specs.Syntax.{Expression, Condition, Command}
use Rattle.text.specs.Encoding.{expression_bytes, condition_bytes, command_bytes}
use Rattle.text.specs.Encoding.{ValidExpression, ValidCondition, Valid}
use Rattle.text.specs.Encoding.{expression_nesting, condition_nesting, nesting}

-- The text holds these bytes from position i up to position j
unfoldable pub Holds : List ℕ → ℕ → List ℕ → ℕ → Type 0
Holds text i [] j = i ≡ j
Holds text i (b ∷ bytes) j = (i < length text) × (get_or text i 0 ≡ b) × Holds text (i + 1) bytes j

module _ (text : List ℕ) where
  -- Bytes in a row: from i to j and from j to k,
  pub joined : (xs ys : List ℕ) (i j k : ℕ) → Holds text i xs j → Holds text j ys k → Holds text i (xs ++ ys) k
  unfolding Holds
  joined [] ys i j k h g = rw h g
  joined (x ∷ xs) ys i j k h g = (h.0, h.1, joined xs ys (i + 1) j k h.2 g)

  -- and back.
  pub parted : (xs ys : List ℕ) (i k : ℕ) → Holds text i (xs ++ ys) k
      → (j : ℕ) × Holds text i xs j × Holds text j ys k
  unfolding Holds
  parted [] ys i k h = (i, refl, h)
  parted (x ∷ xs) ys i k h = let (j, g, r) = parted xs ys (i + 1) k h.2 in (j, (h.0, h.1, g), r)

  -- Bytes that are held do not reach past the text's end.
  pub still_inside : (xs : List ℕ) (i j : ℕ) → i ≤ length text → Holds text i xs j → j ≤ length text
  unfolding Holds
  still_inside [] i j n h = omega arith
  still_inside (x ∷ xs) i j n h = still_inside xs (i + 1) j (omega arith) h.2

  -- What is left from i on is the bytes and what is left from j on.
  rest : (xs : List ℕ) (i j : ℕ) → Holds text i xs j → drop i text ≡ xs ++ drop j text
  unfolding Holds
  rest [] i j h = ap (λ (n : ℕ). drop n text) h
  rest (x ∷ xs) i j h = cc (drop-cons text i 0 h.0, add-one i, rest xs (i + 1) j h.2)

  -- The bytes from the text's beginning to its end are the text,
  pub whole_text : (xs : List ℕ) → Holds text 0 xs (length text) → xs ≡ text
  whole_text xs h = sym (rest xs 0 (length text) h ∙ (rw (drop-length text) (append-nil xs)))

  -- and a text's bytes are held from its beginning to its end.
  from_here : (xs : List ℕ) (i : ℕ) → i ≤ length text → drop i text ≡ xs → Holds text i xs (length text)
  unfolding Holds
  from_here [] i h e = omega (arith, length-drop i text, ap length e)
  from_here (x ∷ xs) i h e =
      let there : i < length text = omega (arith, length-drop i text, ap length e) in
      let first = drop-cons text i 0 there in
      (there, cc, from_here xs (i + 1) (omega arith) (cc (add-one i)))

pub own_bytes : (text : List ℕ) → Holds text 0 text (length text)
own_bytes text = from_here text text 0 (omega arith) refl

-- ---- Kinds of constructs

-- What a kind of construct has: its bytes, its limits, its nesting
pub record Kind (A : Type 0) : Type 1 where
  pub bytes : A → List ℕ
  pub Valid : A → Type 0
  pub nesting : A → ℕ

abbrev pub expressions : Kind Expression
expressions = record { bytes = expression_bytes; Valid = ValidExpression; nesting = expression_nesting }

abbrev pub conditions : Kind Condition
conditions = record { bytes = condition_bytes; Valid = ValidCondition; nesting = condition_nesting }

abbrev pub commands : Kind Command
commands = record { bytes = command_bytes; Valid = Valid; nesting = nesting }

-- Operands have no nesting of their own: a byte that is at most `most`, and a constant's bytes, by its width
abbrev pub operands : ℕ → Kind ℕ
operands most = record { bytes = λ v. v ∷ []; Valid = λ v. v ≤ most; nesting = λ v. 0 }

abbrev pub numbers : Width → Kind ℤ
numbers four_bytes = record { bytes = bytes_of; Valid = SFits w32; nesting = λ z. 0 }
numbers one_byte = record { bytes = λ z. byte_of z ∷ []; Valid = SFits w8; nesting = λ z. 0 }

-- Two parts in a row
abbrev pub pairs : {A B : Type 0} → Kind A → Kind B → Kind (A × B)
pairs K L = record {
  bytes = λ p. K.bytes p.0 ++ L.bytes p.1;
  Valid = λ p. K.Valid p.0 × L.Valid p.1;
  nesting = λ p. max (K.nesting p.0) (L.nesting p.1);
}

-- A construct within the limits stands in the text from i up to j, with this nesting left for it
pub record Stands {A : Type 0} (K : Kind A) (text : List ℕ) (nest i : ℕ) (a : A) (j : ℕ) : Type 0 where
  pub holds : Holds text i (K.bytes a) j
  pub valid : K.Valid a
  pub nested : K.nesting a ≤ nest

-- Two parts stand in a row where the second stands from the end of the first.
pub both : {A B : Type 0} {K : Kind A} {L : Kind B} {text : List ℕ} {nest i j k : ℕ} {x : A} {y : B}
    → Stands K text nest i x j → Stands L text nest j y k → Stands (pairs K L) text nest i (x, y) k
both {text = text} h g = record {
  holds = joined text _ _ _ _ _ h.holds g.holds;
  valid = (h.valid, g.valid);
  nested = omega arith;
}
