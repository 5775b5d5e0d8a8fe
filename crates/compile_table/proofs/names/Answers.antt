-- `names` is the table's test: the word of its address marks is looked at as a whole (AddressMarks: WordTest).
use Rattle.std.proofs.Common.{ℕ, ◌≡◌, List, length, Bool, true, false, Some, None, refl, sym, ap, ◌∙◌, arith}
use Rattle.compile.specs.Table.{named_in, is_table}
use Rattle.compile_table.specs.AddressMarks.{address_marks, lowest}
use Rattle.compile_table.specs.Tested.{tested}
use Rattle.compile_table.proofs.Tested.{found_table, found_none}
use Rattle.compile_table.proofs.AddressMarks.{word_test}
use Rattle.compile_table.proofs.names.Goals as goal

module _ (t : List ℕ) {word n : ℕ} (size : length t ≡ 64) (whole : word ≡ address_marks t)
    (count : n ≡ named_in t) where
  passes : word ≡ lowest n → Some n ≡ tested t
  passes e = found_table t count ((word_test t size).as_a_whole.1 (sym whole ∙ e ∙ ap lowest count))

  fails : (word ≡ lowest n → ⊥) → None ≡ tested t
  fails e =
      found_none t
      (by (is_table t) (λ p. e (whole ∙ (word_test t size).as_a_whole.0 p ∙ sym (ap lowest count))))
    where
      by : (b : Bool) → (b ≡ true → ⊥) → b ≡ false
      by true e = absurd (e refl)
      by false e = refl

pub returns-then-marked-lowest : goal.returns-then-marked-lowest
returns-then-marked-lowest c =
    passes _ c.requires c.mark_all-marked.ensures.0 c.mark_all-marked.ensures.1
    (omega (arith, c.if-marked-lowest.true, c.lowest.ensures))

pub returns-else-marked-lowest : goal.returns-else-marked-lowest
returns-else-marked-lowest c =
    fails _ c.requires c.mark_all-marked.ensures.0 c.mark_all-marked.ensures.1
    (λ e. omega (arith, e, c.if-marked-lowest.false, c.lowest.ensures))
