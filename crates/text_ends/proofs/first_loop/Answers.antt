-- Where there is no WHILE's byte its first one stands at the end; else it is the one that is found.
use Rattle.std.proofs.Common.{ℕ, ◌≡◌, ◌+◌, ◌∷◌, [], List, refl, sym, ◌∙◌, add-one, rules, tests}
use Rattle.std.proofs.lemmas.Iterator.{IsFirst-from_position, index_from_first, YieldsList-from_slice}
use borrow.Author.Tests.{eq-eqb, ne_eqb}
use Rattle.text_ends.specs.Ends.{first}
use Rattle.text_ends.proofs.Finding.{not_there}
use Rattle.text_ends.proofs.first_loop.Goals as goal

abbrev Loop : ℕ → Type 0
Loop byte = byte ≡ 0x04

hit : (x : ℕ) (xs : List ℕ) → Loop x → first 0x04 (x ∷ xs) ≡ 0
unfolding first
hit x xs e = simp (eq-eqb x 0x04 e)

miss : (x : ℕ) (xs : List ℕ) → (Loop x → ⊥) → first 0x04 (x ∷ xs) ≡ first 0x04 xs + 1
unfolding first
miss x xs n = rw (ne_eqb x 0x04 n, add-one)

none : first 0x04 [] ≡ 0
unfolding first
none = refl

pub returns-then-loop_bytes-eq0 : goal.returns-then-loop_bytes-eq0
returns-then-loop_bytes-eq0 c =
    not_there 0x04 c.args.text.now (sym c.loop_bytes.ensures ∙ c.if-loop_bytes-eq0.true)

pub returns : goal.returns
returns c =
    let text = c.args.text.now in
    let found =
    IsFirst-from_position _ _ _ Loop (λ x. Loop x → ⊥) c.position.ensures.ran (YieldsList-from_slice text cc)
    (λ x q k. search (rules, tests)) (λ x q k. search (rules, tests)) in
    c.unwrap_or.ensures ∙ sym (index_from_first (first 0x04) Loop (λ x. Loop x → ⊥) none hit miss text _ found)
