-- `put_digits` has one digit less left at each call.
use Rattle.print_ascii.proofs.Page.+put_digits.Given as goal

abbrev pub decreases-put_digits : goal.decreases-put_digits
decreases-put_digits l = l.most
