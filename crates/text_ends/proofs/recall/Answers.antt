-- An entry is what the cache knows, and past its end it knows nothing.
use Rattle.std.proofs.Common.{ℕ, ◌≡◌, Bool, true, false, eqb, get_or, refl, sym, ◌∙◌, Some, None, arith, rules, eq-eqb}
use Rattle.std.specs.Prelude.{not, if◌then◌else◌}
use Rattle.std.specs.Bool.{then_some}
use Rattle.text_ends.specs.Ends.{known}
use Rattle.text_ends.proofs.recall.Goals as goal

said : (entry : ℕ) → then_some (not (eqb entry 0)) entry ≡ known entry
unfolding known
said entry = by (eqb entry 0)
  where
    by : (t : Bool) → then_some (not t) entry ≡ (if t then None else Some entry)
    by true = refl
    by false = refl

nothing : (entry : ℕ) → entry ≡ 0 → known entry ≡ None
unfolding known
nothing entry e = rw (eq-eqb entry 0 e)

pub returns-in_err-end : goal.returns-in_err-end
returns-in_err-end c =
    let entry = get_or c.args.cache.now c.args.at 0 in
    let none = rw c.in_err-end.was at (c.get.ensures.lookup.4 (omega arith) 0) in
    rw (nothing entry (sym none)) (search rules)

pub returns : goal.returns
returns c =
    let entry = get_or c.args.cache.now c.args.at 0 in
    c.then_some.ensures ∙ rw (c.from.ensures, c.in_ok-end.ensures.lookup.3.1 0) (said entry)
