-- How reading goes at a construct, without the cases of the nesting left: past the text's end it ends with 1, where
-- no nesting is left with 4, and else its first byte says which construct it is, and with which bytes it is none.
use mathlib.Core.Path.{◌≡◌, refl}
use Prim.Native.Nat.{ℕ, zero, suc, ◌+◌, ◌-◌, ◌≤◌, ◌<◌}
use native.Mathlib.Numerals.{sub-one}
use native.Mathlib.Omega.{arith}
use mathlib.Core.List.{List}
use lib.ListN.{length, get_or}
use borrow.Author.Tests.{le-leb, lt-leb, ne_eqb}
use Rattle.base.specs.Acts.{ended, then', ◌>>◌}
use Rattle.base.specs.Answers.{refusal}
use Rattle.text.specs.Syntax.{four_bytes, one_byte}
use Rattle.text.specs.Reading.{Reader, decline, there, due}
use Rattle.text.specs.Reading.{constant, variable, plus, no_expression, expression_byte}
use Rattle.text.specs.Reading.{expression_of, expression}
use Rattle.text.specs.Reading.{truth, negation, conjunction, comparison, no_condition, condition_byte}
use Rattle.text.specs.Reading.{condition_of, condition}
use Rattle.text.specs.Reading.{skip, assignment, sequence, choice, loop, no_command, command_byte}
use Rattle.text.specs.Reading.{command_of, command}

-- ---- What a byte begins

module _ {b : ℕ} where
  pub is_constant : b ≡ 0x10 → expression_byte b ≡ constant four_bytes
  unfolding expression_byte
  is_constant e = rw e

  pub is_one_byte_constant : b ≡ 0x13 → expression_byte b ≡ constant one_byte
  unfolding expression_byte
  is_one_byte_constant e = rw e

  pub is_variable : b ≡ 0x11 → expression_byte b ≡ variable
  unfolding expression_byte
  is_variable e = rw e

  pub is_plus : b ≡ 0x12 → expression_byte b ≡ plus
  unfolding expression_byte
  is_plus e = rw e

  pub is_no_expression : (b ≡ 0x10 → ⊥) → (b ≡ 0x11 → ⊥) → (b ≡ 0x12 → ⊥) → (b ≡ 0x13 → ⊥)
      → expression_byte b ≡ no_expression
  unfolding expression_byte
  is_no_expression n0 n1 n2 n3 = rw (ne_eqb b 0x10 n0, ne_eqb b 0x11 n1, ne_eqb b 0x12 n2, ne_eqb b 0x13 n3)

  pub is_truth : b ≡ 0x20 → condition_byte b ≡ truth
  unfolding condition_byte
  is_truth e = rw e

  pub is_negation : b ≡ 0x21 → condition_byte b ≡ negation
  unfolding condition_byte
  is_negation e = rw e

  pub is_conjunction : b ≡ 0x22 → condition_byte b ≡ conjunction
  unfolding condition_byte
  is_conjunction e = rw e

  pub is_comparison : b ≡ 0x23 → condition_byte b ≡ comparison
  unfolding condition_byte
  is_comparison e = rw e

  pub is_no_condition : (b ≡ 0x20 → ⊥) → (b ≡ 0x21 → ⊥) → (b ≡ 0x22 → ⊥) → (b ≡ 0x23 → ⊥)
      → condition_byte b ≡ no_condition
  unfolding condition_byte
  is_no_condition n0 n1 n2 n3 = rw (ne_eqb b 0x20 n0, ne_eqb b 0x21 n1, ne_eqb b 0x22 n2, ne_eqb b 0x23 n3)

  pub is_skip : b ≡ 0x00 → command_byte b ≡ skip
  unfolding command_byte
  is_skip e = rw e

  pub is_assignment : b ≡ 0x01 → command_byte b ≡ assignment
  unfolding command_byte
  is_assignment e = rw e

  pub is_sequence : b ≡ 0x02 → command_byte b ≡ sequence
  unfolding command_byte
  is_sequence e = rw e

  pub is_choice : b ≡ 0x03 → command_byte b ≡ choice
  unfolding command_byte
  is_choice e = rw e

  pub is_loop : b ≡ 0x04 → command_byte b ≡ loop
  unfolding command_byte
  is_loop e = rw e

  pub is_no_command : (b ≡ 0x00 → ⊥) → (b ≡ 0x01 → ⊥) → (b ≡ 0x02 → ⊥) → (b ≡ 0x03 → ⊥) → (b ≡ 0x04 → ⊥)
      → command_byte b ≡ no_command
  unfolding command_byte
  is_no_command n0 n1 n2 n3 n4 =
      rw (ne_eqb b 0x00 n0, ne_eqb b 0x01 n1, ne_eqb b 0x02 n2, ne_eqb b 0x03 n3, ne_eqb b 0x04 n4)

module _ (text : List ℕ) where
  -- ---- The first tests of a construct, of any kind

  -- Past the end a byte is not there,
  past : {A : Type 0} (i : ℕ) (f : Reader A) → length text ≤ i
      → (do there text 1; f) i ≡ ended (refusal 1 (length text))
  unfolding there then'
  past i f h = rw (lt-leb (i + 1) (length text) (omega arith))

  -- inside the text it is.
  inside : {A : Type 0} (i : ℕ) (f : Reader A) → i < length text → (do there text 1; f) i ≡ f i
  unfolding there then'
  inside i f h = rw (le-leb (i + 1) (length text) (omega arith))

  -- ---- Expressions

  pub expression_past : (nest i : ℕ) → length text ≤ i → expression text nest i ≡ ended (refusal 1 (length text))
  unfolding expression
  expression_past zero i h = past i _ h
  expression_past (suc nest) i h = past i _ h

  pub expression_deep : (nest i : ℕ) → i < length text → nest ≡ 0 → expression text nest i ≡ ended (refusal 4 i)
  unfolding expression decline
  expression_deep zero i h e = inside i _ h
  expression_deep (suc nest) i h e = absurd (omega arith)

  pub expression_at : (nest i : ℕ) → i < length text → (nest ≡ 0 → ⊥)
      → expression text nest i ≡ expression_of text (expression text (nest - 1)) (expression_byte (get_or text i 0)) i
  unfolding expression due then'
  expression_at zero i h n = absurd (n refl)
  expression_at (suc nest) i h n = rw (sub-one (suc nest)) (inside i _ h)

  -- ---- Conditions

  pub condition_past : (nest i : ℕ) → length text ≤ i → condition text nest i ≡ ended (refusal 1 (length text))
  unfolding condition
  condition_past zero i h = past i _ h
  condition_past (suc nest) i h = past i _ h

  pub condition_deep : (nest i : ℕ) → i < length text → nest ≡ 0 → condition text nest i ≡ ended (refusal 4 i)
  unfolding condition decline
  condition_deep zero i h e = inside i _ h
  condition_deep (suc nest) i h e = absurd (omega arith)

  pub condition_at : (nest i : ℕ) → i < length text → (nest ≡ 0 → ⊥)
      → condition text nest i
      ≡ condition_of text (expression text (nest - 1)) (condition text (nest - 1)) (condition_byte (get_or text i 0)) i
  unfolding condition due then'
  condition_at zero i h n = absurd (n refl)
  condition_at (suc nest) i h n = rw (sub-one (suc nest)) (inside i _ h)

  -- ---- Commands

  pub command_past : (nest i : ℕ) → length text ≤ i → command text nest i ≡ ended (refusal 1 (length text))
  unfolding command
  command_past zero i h = past i _ h
  command_past (suc nest) i h = past i _ h

  pub command_deep : (nest i : ℕ) → i < length text → nest ≡ 0 → command text nest i ≡ ended (refusal 4 i)
  unfolding command decline
  command_deep zero i h e = inside i _ h
  command_deep (suc nest) i h e = absurd (omega arith)

  pub command_at : (nest i : ℕ) → i < length text → (nest ≡ 0 → ⊥)
      → command text nest i
      ≡ command_of text (expression text (nest - 1)) (condition text (nest - 1)) (command text (nest - 1))
      (command_byte (get_or text i 0)) i
  unfolding command due then'
  command_at zero i h n = absurd (n refl)
  command_at (suc nest) i h n = rw (sub-one (suc nest)) (inside i _ h)
