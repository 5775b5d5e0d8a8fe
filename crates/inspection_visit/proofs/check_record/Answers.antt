-- Both limits by the record's number, then its way: numbers below 4 step on, 4 jumps, those above do either.
use Rattle.std.proofs.Common.{◌≡◌, ℕ, ◌+◌, ◌-◌, ◌*◌, ◌≤◌, ◌<◌, List, ℤ, pos, get_or, Option, Some, None, sym, ap}
use Rattle.std.proofs.Common.{ap₂, ◌∙◌, add-one}
use borrow.Author.Tests.{le-leb, lt-leb, lt-ltb, le-ltb, eq-eqb, ne_eqb}
use Rattle.word.specs.Numbers.{number_at}
use Rattle.inspection.specs.Heights.{Way, on, by, either, Effect}
use Rattle.inspection_visit.specs.Records.{goes, checked, numbered_effect, checked_at}
use Rattle.inspection_visit.specs.declared.Checked.{Checked}
use Rattle.inspection_visit.specs.declared.Checked.TheVariants.{Leads, Forks}
use Rattle.inspection_visit.proofs.check_record.Goals as goal

-- ---- What a record comes to, by its effect

module _ (D last p k : ℕ) (e : Effect) where
  takes_more : k < e.takes → None ≡ checked D last p k e
  unfolding checked
  takes_more h = simp (lt-leb _ _ h)

  past_D : e.takes ≤ k → D < k - e.takes + e.puts → None ≡ checked D last p k e
  unfolding checked
  past_D h g = simp (le-leb _ _ h, lt-leb _ _ g)

  keeps : (w : Way) → e.way ≡ w → e.takes ≤ k → k - e.takes + e.puts ≤ D
      → Some (goes last p (k - e.takes + e.puts) w) ≡ checked D last p k e
  unfolding checked
  keeps w is h g =
      ap (λ w. Some (goes last p (k - e.takes + e.puts) w)) (sym is) ∙ simp (le-leb _ _ h, le-leb _ _ g)

-- ---- By its number

module _ (j : ℕ) (i : ℤ) where
  steps_on : j < 4 → (numbered_effect j i).way ≡ on
  steps_on h = simp (lt-ltb _ _ h)

  jumps : 4 ≤ j → j ≡ 4 → (numbered_effect j i).way ≡ by i
  jumps h e = simp (le-ltb _ _ h, eq-eqb _ _ e)

  does_either : 4 ≤ j → (j ≡ 4 → ⊥) → (numbered_effect j i).way ≡ either i
  does_either h n = simp (le-ltb _ _ h, ne_eqb _ _ n)

-- The height that it leaves, from k
abbrev left : ℕ → ℕ → ℕ
left k j = let e = numbered_effect j (pos 0) in k - e.takes + e.puts

-- ---- By its bytes: j is the number of the byte b there

module _ (code : List ℕ) (last D p k : ℕ) {b j : ℕ} (byte : b ≡ get_or code (5 * p) 0) (number : j ≡ b - 0x50) where
  as_read : {result : Option Checked}
      → result ≡ checked D last p k (numbered_effect j (number_at code (5 * p + 1)))
      → result ≡ checked_at code last D p k
  as_read e =
      e
      ∙ ap
      (λ j. checked D last p k (numbered_effect j (number_at code (5 * p + 1))))
      (number ∙ ap (λ b. b - 0x50) byte)

  by_way : (w : Way) → let e = numbered_effect j (number_at code (5 * p + 1)) in
      e.way ≡ w → e.takes ≤ k → k - e.takes + e.puts ≤ D
      → Some (goes last p (k - e.takes + e.puts) w) ≡ checked_at code last D p k
  by_way w is h g = as_read (keeps D last p k _ w is h g)

pub returns-then-height-takes : goal.returns-then-height-takes
returns-then-height-takes c =
    as_read c.args.code.now c.args.last c.args.depth c.args.at c.args.height c.byte_at.ensures c.from-number.ensures
    (takes_more _ _ _ _ _ c.if-height-takes.true)

pub returns-then-depth-after : goal.returns-then-depth-after
returns-then-depth-after c =
    as_read c.args.code.now c.args.last c.args.depth c.args.at c.args.height c.byte_at.ensures c.from-number.ensures
    (past_D _ _ _ _ _ c.if-height-takes.false c.if-depth-after.true)

pub returns-then-number-lt-JMP : goal.returns-then-number-lt-JMP
returns-then-number-lt-JMP c =
    ap (λ p. Some (Leads (left c.args.height c.from-number.result) (Some p))) (add-one c.args.at)
    ∙ by_way c.args.code.now c.args.last c.args.depth c.args.at c.args.height c.byte_at.ensures c.from-number.ensures
    on (steps_on _ _ c.if-number-lt-JMP.true)
    c.if-height-takes.false c.if-depth-after.false

pub returns-then-number-eq-JMP : goal.returns-then-number-eq-JMP
returns-then-number-eq-JMP c =
    ap (λ t. Some (Leads (left c.args.height c.from-number.result) t)) c.jump_at-jump.ensures
    ∙ by_way c.args.code.now c.args.last c.args.depth c.args.at c.args.height c.byte_at.ensures c.from-number.ensures
    (by _) (jumps _ _ c.if-number-lt-JMP.false c.if-number-eq-JMP.true)
    c.if-height-takes.false c.if-depth-after.false

pub returns : goal.returns
returns c =
    ap₂ (λ j p. Some (Forks (left c.args.height c.from-number.result) j (Some p))) c.jump_at-jump.ensures
    (add-one c.args.at)
    ∙ by_way c.args.code.now c.args.last c.args.depth c.args.at c.args.height c.byte_at.ensures c.from-number.ensures
    (either _)
    (does_either _ _ c.if-number-lt-JMP.false c.if-number-eq-JMP.false)
    c.if-height-takes.false c.if-depth-after.false
