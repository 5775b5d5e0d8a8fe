-- A Less's size: its two sides are measured as a sum's.
use Rattle.std.proofs.Common.{◌≡◌, ◌∙◌, sym, ap, ℕ, ◌+◌, List, arith}
use Rattle.base.specs.Acts.{ok, then', give}
use Rattle.text.specs.Syntax.{Plus, Condition, Less}
use Rattle.text.specs.Reading.{plus, pass, expression_of, expression}
use Rattle.text.specs.Sizes.{expression_records, condition_records}
use Rattle.text.proofs.Opened as text_says
use Rattle.text_conditions.specs.Code.{expression_parts}
use Rattle.compile_sizes.proofs.Counting.{size, told}
use Rattle.compile_sizes.proofs.less_size.Goals as goal

-- Less's two sides, read as a sum's
less_read : (text : List ℕ) (left i : ℕ) {b : Condition} {n : ℕ}
    (p : text_says.Two (expression text left (i + 1)) (expression text left) Less b n)
    → expression_parts text left plus i ≡ ok (Plus p.one p.two) n
unfolding expression_of pass then' give
less_read text left i p = rw (p.first, p.second)

pub overflow_sub-nest : goal.overflow_sub-nest
overflow_sub-nest c = (text_says.condition_opened _ _ _ c.requires.countable.is).nested

pub two_sizes-requires : goal.two_sizes-requires
unfolding expression_records condition_records
two_sizes-requires c =
    let q = c.requires.countable in
    let p = text_says.less_at _ _ _ q.is c.requires.first_byte in
    record {
      part = Plus p.one p.two;
      next = _;
      is = less_read _ _ _ p;
      few = omega (arith, q.few, ap (size c.args.flag) p.is);
    }

pub returns : goal.returns
unfolding expression_records condition_records
returns c =
    let q = c.requires.countable in
    let p = text_says.less_at _ _ _ q.is c.requires.first_byte in
    let r = c.two_sizes.ensures _ _ (less_read _ _ _ p) in
    told q r.0 (r.1 ∙ sym (ap (size c.args.flag) p.is))
