-- Each end has its word, or none.
use Rattle.std.proofs.Common.{◌≡◌, ap, inl, inr, arith}
use Rattle.base.specs.Code.{end_of}
use Rattle.base.specs.declared.End.{End}
use Rattle.print_ascii.specs.declared.Page.{Page}
use Rattle.print_ascii.specs.Puts.{Prints}
use Rattle.print_ascii.proofs.Puts.{prints_is, prints_none}
use Rattle.print.specs.Printing.{end_text}
use Rattle.print_lines.proofs.put_end.Goals as goal

-- The word of the end that the match found
found : {end e : End} {page later : Page} → end ≡ e → Prints (end_text (end_of e)) page later
    → Prints (end_text (end_of end)) page later
found told p = prints_is p (ap (λ (x : End). end_text (end_of x)) told)

pub returns-in-Done : goal.returns-in-Done
unfolding end_text
returns-in-Done c = found c.in-Done.is c.put_word.ensures

pub returns-in-Spent : goal.returns-in-Spent
unfolding end_text
returns-in-Spent c = found c.in-Spent.is c.put_word-in-Spent.ensures

pub returns-in-Short : goal.returns-in-Short
unfolding end_text
returns-in-Short c = elim c.in-Short.is [
  | inl e ↦ found e (prints_none (omega arith))
  | inr f ↦ elim f [
    | inl e ↦ found e (prints_none (omega arith))
    | inr e ↦ found e (prints_none (omega arith))
  ]
]
