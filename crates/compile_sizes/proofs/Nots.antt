-- The Nots in front of a condition, passed one by one: what takes a Not's part under the other flag, as the size does,
-- is the same behind them.
use mathlib.Core.Path.{◌≡◌, refl, sym, ap, ◌∙◌}
use mathlib.Core.Bool.{Bool, not}
use mathlib.Core.List.{List}
use Prim.Native.Nat.{ℕ, ◌+◌, ◌-◌}
use native.Mathlib.Omega.{arith}
use lib.ListN.{get_or}
use Rattle.base.specs.Acts.{Outcome, ok}
use Rattle.base.specs.Answers.{Refusal}
use Rattle.text.specs.Syntax.{Condition, Bc, Not, And, Less}
use Rattle.text.specs.Reading.{condition}
use Rattle.text.specs.Sizes.{condition_records}
use Rattle.text.proofs.Opened.{not_at}
use Rattle.compile_sizes.specs.Nots.{without_nots, Passed, Behind}
use Rattle.compile_sizes.specs.Parts.{Countable, Counts, Sized}
use Rattle.compile_sizes.specs.declared.Bare.{Bare}
use Rattle.compile_sizes.specs.declared.PartSize.{PartSize}
use Rattle.compile_sizes.proofs.Counting.{size, sized}

-- ---- What is the same

module _ {A : Type 0} (f : Condition → Bool → A)
    (turns : (b : Condition) (flag : Bool) → f (Not b) flag ≡ f b (not flag)) where
  of_bare : (b : Condition) (flag : Bool) → f b flag ≡ f (without_nots b flag).0 (without_nots b flag).1
  unfolding without_nots
  of_bare (Bc v) flag = refl
  of_bare (Not b) flag = turns b flag ∙ of_bare b (not flag)
  of_bare (And b c) flag = refl
  of_bare (Less a b) flag = refl

  pub alike : {text : List ℕ} {deepest : ℕ} {under : Bool} {b : Condition} {n : ℕ} {told : Bare}
      (p : Passed text deepest under b n told) → f p.part told.flag ≡ f b under
  alike {under = under} {b = b} {told = told} p =
      of_bare p.part told.flag ∙ ap (λ (u : Condition × Bool). f u.0 u.1) p.same
      ∙ sym (of_bare b under)

-- ---- One more Not passed

pub one_passed : {text : List ℕ} {deepest at nest : ℕ} {under flag : Bool} {read : Outcome ℕ Refusal Condition}
    → Behind text deepest under read (record { at = at; nest = nest; flag = flag }) → get_or text at 0 ≡ 0x21
    → Behind text deepest under read (record { at = at + 1; nest = nest - 1; flag = not flag })
unfolding without_nots
one_passed {text} {at = at} {nest = nest} {flag = flag} h byte b n e =
    let p = h b n e in
    let q = not_at text nest at p.read byte in
    record {
      part = q.part;
      read = q.read;
      same = ap (λ (c : Condition). without_nots c flag) (sym q.is) ∙ p.same;
      nest = omega (arith, p.nest);
    }

-- ---- The size

same_size : {text : List ℕ} {deepest : ℕ} {under : Bool} {b : Condition} {n : ℕ} {told : Bare}
    (p : Passed text deepest under b n told) → size told.flag p.part ≡ size under b
unfolding condition_records
same_size p = alike condition_records (λ b flag. refl) p

module _ {text : List ℕ} {deepest : ℕ} {under : Bool} {read : Outcome ℕ Refusal Condition} {told : Bare}
    (h : Behind text deepest under read told) where
  pub countable : Countable (size under) read → Countable (size told.flag) (condition text told.nest told.at)
  countable q =
      let p = h _ _ q.is in
      record { part = p.part; next = q.next; is = p.read; few = omega (arith, same_size p, q.few) }

  pub counts : {t : PartSize} → Counts (size told.flag) (condition text told.nest told.at) t
      → Counts (size under) read t
  counts c b n e =
      let p = h b n e in
      let r = c _ _ p.read in
      (r.0, r.1 ∙ same_size p)

  pub sized_behind : {b : Condition} {n whole : ℕ} → read ≡ ok b n → Sized (size under) read whole
      → Sized (size told.flag) (condition text told.nest told.at) whole
  sized_behind e s =
      let p = h _ _ e in
      sized (size told.flag) p.read (s _ _ e ∙ sym (same_size p))
