-- The claims of reading (Claims: Accepted, OneCommand, OneAnswer), from the two directions: a command within the
-- limits is read from its bytes (Encoded), and every text's answer is such a command or a refusal (Decoded).
use mathlib.Core.Path.{◌≡◌, refl, subst}
use mathlib.Core.Logic.{◌⊎◌, inl, inr}
use Prim.Native.Nat.{ℕ, ◌≤◌}
use native.Mathlib.Omega.{arith}
use mathlib.Core.Bool.{Bool, true, false}
use mathlib.Core.List.{List}
use lib.Dec.{leb}
use lib.ListN.{length}
use borrow.Author.Tests.{leb-true, le-leb}
use Rattle.base.specs.Acts.{Outcome}
use Rattle.base.specs.Answers.{Answer, gives, refused, unless◌refuse◌at◌else◌}
use Rattle.text.specs.Syntax.{Command}
use Rattle.base.specs.Answers.{Refusal}
use Rattle.text.specs.Reading.{all_read, read_text}
use Rattle.text.specs.Encoding.{Bytes, command_bytes, Within}
use Rattle.text.specs.Claims.{Accepted, OneCommand, Declined, OneAnswer}
use Rattle.text.proofs.Standing.{commands, Stands, whole_text, own_bytes, still_inside}
use Rattle.text.proofs.Encoded.{command_encoded}
use Rattle.text.proofs.Decoded.{Fine, goes, ends, command_decoded}

-- A command within the limits is read from its bytes.
pub encoded : (c : Command) → Within c → read_text (command_bytes c) ≡ gives c
unfolding read_text all_read
encoded c w =
    let text : List ℕ = command_bytes c in
    rw (
      le-leb (length text) 4096 w.short,
      (command_encoded text c 64 w.valid w.nested).reads 0 (length text) (own_bytes text),
      le-leb (length text) (length text) (omega arith),
    )

-- What a text's answer owes: its command is within the limits, with the text for its bytes; its refusal has a number
-- of 1 to 6 and a place in the text
abbrev Settled : List ℕ → Answer Command → Type 0
Settled text (gives c) = Within c × (command_bytes c ≡ text)
Settled text (refused number place) = (1 ≤ number) × (number ≤ 6) × (place ≤ length text)

-- A test of the call is passed, or its refusal is the answer.
settled_unless : (text : List ℕ) (t : Bool) (number place : ℕ) (rest : Answer Command) → (t ≡ true → Settled text rest)
    → Settled text (refused number place) → Settled text (unless t refuse number at place else rest)
settled_unless text true number place rest h g = h refl
settled_unless text false number place rest h g = g

-- A whole text: its command's bytes end where the text ends, or there are bytes left over.
settled_whole : (text : List ℕ) {o : Outcome ℕ Refusal Command} → length text ≤ 4096
    → Fine text (Stands commands text 64 0) o → Settled text (all_read text o)
unfolding all_read
settled_whole text n (goes {a = c} {j = j} s) =
    let inside : j ≤ length text = still_inside text (command_bytes c) 0 j (omega arith) s.holds in
    settled_unless text (leb (length text) j) 5 j (gives c)
    (λ t.
    let end : j ≡ length text = omega (arith, leb-true (length text) j t) in
    let same : command_bytes c ≡ text = whole_text text (command_bytes c) (rw end at s.holds) in
    (record { valid = s.valid; nested = s.nested; short = rw same n }, same))
    (omega arith)
settled_whole text n (ends k p h) = omega arith

-- Every text's answer owes this.
settled : (text : List ℕ) → Bytes text → Settled text (read_text text)
unfolding read_text
settled text small =
    settled_unless text (leb (length text) 4096) 6 0 _
    (λ t. settled_whole text (leb-true (length text) 4096 t) (command_decoded text small 64 0))
    (omega arith)

pub accepted : Accepted
accepted text small c =
    (λ e. subst (Settled text) e (settled text small), λ (within, same). rw same at (encoded c within))

pub one_command : OneCommand
one_command c d within-c within_d same =
    let first = encoded c within-c in
    let second = encoded d within_d in
    cc

pub one_answer : OneAnswer
one_answer text small = by (read_text text) refl (settled text small)
  where
    by : (a : Answer Command) → read_text text ≡ a → Settled text a
        → ((c : Command) × (read_text text ≡ gives c) × Within c × (command_bytes c ≡ text))
        ⊎ ((number : ℕ) × (place : ℕ) × Declined text number place)
    by (gives c) e s = inl (c, e, s.0, s.1)
    by (refused number place) e s = inr (
      number,
      place,
      record {
        answer = e;
        least = s.0;
        most = s.1;
        inside = s.2;
        none = λ c within same.
            let read = encoded c within in
            let no : ◌≡◌ {A = ℕ} 0 1 = cc in
            omega arith;
      },
    )
