-- Bytes put into a buffer, as lists, and printed on a page. What stands before the place and after the bytes stays, so
-- bytes put right behind others are one put of both.
use mathlib.Core.Path.{◌≡◌, refl, sym, ap, subst, ◌∙◌}
use mathlib.Core.List.{List, [], ◌++◌, append_assoc}
use Prim.Native.Nat.{ℕ, ◌+◌, ◌≤◌}
use native.Mathlib.Nat.{add-zero}
use native.Mathlib.Omega.{arith}
use lib.ListN.{length, take, drop, length-append, take-append-drop}
use lib.Seq.{take_at, drop_at, drop-drop, length-take-le}
use Rattle.print_ascii.specs.declared.Page.{Page}
use Rattle.print_ascii.specs.Puts.{Puts, Prints}

-- Two puts in a row are a put of the joined bytes.
puts_both : {p q : List ℕ} {at : ℕ} {old xs ys : List ℕ} {r s : ℕ} → Puts p at old xs r → length xs ≡ length old
    → Puts q r xs ys s → Puts (p ++ q) at old ys s
puts_both {p} {q} {at} {old} {xs} {ys} {r} {s} v long w =
    record {
      room = omega (arith, length-append p q, w.room, long, v.ends);
      holds =
          w.holds
          ∙ (λ i. take r (front i) ++ (q ++ drop (r + length q) (front i)))
          ∙ (λ i. take_at (x ++ p) rest r reach i ++ (q ++ after i))
          ∙ append_assoc x p (q ++ drop (at + length (p ++ q)) old)
          ∙ ap (λ (l : List ℕ). x ++ l) (sym (append_assoc p q (drop (at + length (p ++ q)) old)));
      ends = omega (arith, length-append p q, v.ends, w.ends);
    }
  where
    x : List ℕ
    x = take at old

    rest : List ℕ
    rest = drop (at + length p) old

    front : xs ≡ (x ++ p) ++ rest
    front = v.holds ∙ sym (append_assoc x p rest)

    reach : length (x ++ p) ≡ r
    reach = omega (arith, length-append x p, length-take-le at old (omega (arith, v.room)), v.ends)

    both_long : at + length p + length q ≡ at + length (p ++ q)
    both_long = omega (arith, length-append p q)

    after : drop (r + length q) ((x ++ p) ++ rest) ≡ drop (at + length (p ++ q)) old
    after =
        sym (drop-drop (length q) r ((x ++ p) ++ rest))
        ∙ ap (drop (length q)) (drop_at (x ++ p) rest r reach)
        ∙ drop-drop (length q) (at + length p) old
        ∙ ap (λ (n : ℕ). drop n old) both_long

-- The same bytes are printed.
pub prints_is : {new other : List ℕ} {page later : Page} → Prints new page later → other ≡ new
    → Prints other page later
prints_is {page = page} {later = later} p e =
    subst (λ (l : List ℕ). Prints l page later) (sym e) p

-- None are printed.
pub prints_none : {page : Page} → page.at ≤ length page.out.now → Prints [] page page
prints_none {page} h =
    record {
      puts =
          record {
            room = omega arith;
            holds = rw add-zero (sym (take-append-drop page.at page.out.now));
            ends = omega arith;
          };
      long = refl;
      same_buffer = refl;
    }

-- What is printed in two steps is the joined bytes.
pub prints_both : {p q : List ℕ} {page later last : Page} → Prints p page later → Prints q later last
    → Prints (p ++ q) page last
prints_both v w =
    record {
      puts = puts_both v.puts v.long w.puts;
      long = w.long ∙ v.long;
      same_buffer = w.same_buffer ∙ v.same_buffer;
    }

-- What is left of a room after at most `most` bytes of it.
pub room_left : {new : List ℕ} {page later : Page} → Prints new page later
    → (most left : ℕ) → length new ≤ most → page.at + (most + left) ≤ length page.out.now
    → later.at + left ≤ length later.out.now
room_left p most left h room = omega (arith, p.long, p.puts.ends)
