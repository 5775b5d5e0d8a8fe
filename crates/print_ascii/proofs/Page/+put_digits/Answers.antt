-- Digits by recursion: those before the last, where there are any, and the last.
use Rattle.std.proofs.Common.{◌≡◌, ◌+◌, ◌-◌, ◌%◌, ◌∷◌, [], ap, ◌∙◌, arith}
use Rattle.print_ascii.proofs.Puts.{prints_is, prints_none, prints_both, room_left}
use Rattle.print_ascii.proofs.Decimals.{no_digits, one_digit, more_digits, digits_allowed}
use Rattle.print_ascii.proofs.Page.+put_digits.Goals as goal
use Rattle.print_ascii.proofs.Page.+put_digits.Goals.{then-n-ge10, else-n-ge10}

pub returns-then-most-eq0 : goal.returns-then-most-eq0
returns-then-most-eq0 t c =
    prints_is (prints_none (omega arith)) (no_digits c.args.most c.args.n c.if-most-eq0.true)

-- The last digit has room.
pub put_byte-requires : goal.put_byte-requires
put_byte-requires t c =
    elim c.if-n-ge10.branch [
      | then-n-ge10 w ↦
          rw w.self-is
          (room_left w.put_digits.ensures (c.args.most - 1) 1 (digits_allowed _ _) (omega arith))
      | else-n-ge10 w ↦ rw w.self-is (omega arith)
    ]

pub returns : goal.returns
returns t c =
    let most = c.args.most in
    let n = c.args.n in
    elim c.if-n-ge10.branch [
      | then-n-ge10 w ↦
          prints_is (prints_both w.put_digits.ensures (rw w.self-is at c.put_byte.ensures))
          (more_digits most n (omega arith) (omega (arith, w.if-n-ge10.true)))
      | else-n-ge10 w ↦
          let digit : n ≡ n % 10 = omega (arith, w.if-n-ge10.false) in
          prints_is (rw w.self-is at c.put_byte.ensures)
          (one_digit most n (omega arith) (omega (arith, w.if-n-ge10.false)) ∙ ap (λ d. (48 + d) ∷ []) digit)
    ]
