-- And's two sides are measured in a row, and the left one's size is noted; every condition is measured behind the Nots
-- in front of it.
use Rattle.std.proofs.Common.{◌≡◌, ◌∙◌, sym, ap, subst, ℕ, ◌+◌, ◌-◌, List, Bool, false, get_or, arith, rules}
use Rattle.text.specs.Syntax.{And}
use Rattle.text.specs.Reading.{condition}
use Rattle.text.specs.Sizes.{condition_records}
use Rattle.text.proofs.Opened as text_says
use Rattle.compile_sizes.specs.Parts.{Countable}
use Rattle.compile_sizes.specs.Cache.{ConditionSizes}
use Rattle.compile_sizes.proofs.Caching.{stays_right}
use Rattle.compile_sizes.proofs.Counting.{size, told, Pair, first_countable, second_countable, both}
use Rattle.compile_sizes.proofs.Nots as nots
use Rattle.compile_sizes.proofs.+both_size_condition_size.Goals as goal

-- ---- And

-- An And's two sides
sides : (text : List ℕ) (nest at : ℕ) (flag : Bool) (q : Countable (size flag) (condition text nest at))
    → get_or text at 0 ≡ 0x22
    → Pair (condition text (nest - 1)) (condition text (nest - 1)) And q.part (size false) (size flag) 0 (at + 1) q.next
    (size flag q.part)
unfolding condition_records
sides text nest at flag q byte =
    let p = text_says.and_at text nest at q.is byte in
    let sum = ap (size flag) p.is in
    record { parts = p; sum = omega (arith, sum); few = q.few }

pub both_size-overflow_sub-inner : goal.both_size-overflow_sub-inner
both_size-overflow_sub-inner t c = (text_says.condition_opened _ _ _ c.requires.countable.is).nested

pub both_size-condition_size-first-requires : goal.both_size-condition_size-first-requires
both_size-condition_size-first-requires t c =
    let q = c.requires.countable in
    let s = sides c.args.text.now c.args.nest c.args.at c.args.flag q c.requires.first_byte in (
      text_says.down (text_says.condition_opened _ _ _ q.is) c.decreases,
      (first_countable s, c.requires.condition_sizes),
    )

pub both_size-condition_size-second-requires : goal.both_size-condition_size-second-requires
both_size-condition_size-second-requires t c =
    let text = c.args.text.now in
    let q = c.requires.countable in
    let s = sides text c.args.nest c.args.at c.args.flag q c.requires.first_byte in
    let first = c.condition_size-first.ensures in
    let right =
    stays_right text (c.args.nest - 1) (c.args.at + 1) (λ i. (c.type_inv.text i).fits) first.condition_sizes_after
    (first_countable s) first.counts in (
      text_says.down (text_says.condition_opened _ _ _ q.is) c.decreases,
      (second_countable s first.counts, subst (ConditionSizes text) (sym c.note.ensures) right),
    )

pub both_size-overflow_add-result : goal.both_size-overflow_add-result
both_size-overflow_add-result t c =
    let q = c.requires.countable in
    let s = sides c.args.text.now c.args.nest c.args.at c.args.flag q c.requires.first_byte in
    let b = both s c.condition_size-first.ensures.counts c.condition_size-second.ensures.counts in
    record { fits = omega (arith, b.few) }

pub both_size-returns-clause-counts : goal.both_size-returns-clause-counts
both_size-returns-clause-counts t c =
    let q = c.requires.countable in
    let s = sides c.args.text.now c.args.nest c.args.at c.args.flag q c.requires.first_byte in
    let b = both s c.condition_size-first.ensures.counts c.condition_size-second.ensures.counts in
    told q b.ends (omega (arith, b.all))

-- ---- Every condition

pub condition_size-bounds-text-here : goal.condition_size-bounds-text-here
condition_size-bounds-text-here t c =
    let q = nots.countable c.past_nots-bare.ensures.behind c.requires.countable in
    (text_says.condition_opened _ _ _ q.is).inside

pub condition_size-bounds-text-here-in-32 : goal.condition_size-bounds-text-here-in-32
condition_size-bounds-text-here-in-32 t c =
    let q = nots.countable c.past_nots-bare.ensures.behind c.requires.countable in
    omega (arith, (text_says.bc_at _ _ _ q.is c.in-32.is).inside)

pub condition_size-both_size-requires : goal.condition_size-both_size-requires
condition_size-both_size-requires t c =
    let behind = c.past_nots-bare.ensures.behind in
    let q = nots.countable behind c.requires.countable in (
      omega (arith, (behind _ _ c.requires.countable.is).nest, c.decreases),
      (c.in-34.is, (q, c.requires.condition_sizes)),
    )

pub condition_size-less_size-requires-clause-first_byte :
    goal.condition_size-less_size-requires-clause-first_byte
condition_size-less_size-requires-clause-first_byte t c =
    let q = nots.countable c.past_nots-bare.ensures.behind c.requires.countable in
    let bare = c.past_nots-bare.result in
    let no_bc : get_or c.args.text.now bare.at 0 ≡ 0x20 → ⊥ = λ e. omega (arith, e) in
    let no_and : get_or c.args.text.now bare.at 0 ≡ 0x22 → ⊥ = λ e. search (rules, e) in
    text_says.last_condition c.args.text.now bare.nest bare.at q.is no_bc c.past_nots-bare.ensures.no_not no_and

pub condition_size-less_size-requires-clause-countable :
    goal.condition_size-less_size-requires-clause-countable
condition_size-less_size-requires-clause-countable t c =
    nots.countable c.past_nots-bare.ensures.behind c.requires.countable

pub condition_size-returns-in-32-clause-counts : goal.condition_size-returns-in-32-clause-counts
unfolding condition_records
condition_size-returns-in-32-clause-counts t c =
    let behind = c.past_nots-bare.ensures.behind in
    let q = nots.countable behind c.requires.countable in
    let v = text_says.bc_at _ _ _ q.is c.in-32.is in
    nots.counts behind (told q v.ends (c.value_size.ensures ∙ sym (ap (size c.past_nots-bare.result.flag) v.is)))

pub condition_size-returns-in-34-clause-counts : goal.condition_size-returns-in-34-clause-counts
condition_size-returns-in-34-clause-counts t c =
    nots.counts c.past_nots-bare.ensures.behind c.both_size.ensures.counts

pub condition_size-returns-in_default-clause-counts :
    goal.condition_size-returns-in_default-clause-counts
condition_size-returns-in_default-clause-counts t c =
    nots.counts c.past_nots-bare.ensures.behind c.less_size.ensures
