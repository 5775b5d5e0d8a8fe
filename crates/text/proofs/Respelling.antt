-- What the widths of constants do not change (Respelling): by induction on the tree, a command in full has the same
-- record count, D, named variables and nesting; so two commands that are the same in full have.
use mathlib.Core.Path.{◌≡◌, refl, sym, ap, ◌∙◌}
use Prim.Native.Nat.{ℕ, suc}
use mathlib.Core.Bool.{Bool, false, not}
use mir.Facts.{sfits_widen}
use Rattle.text.specs.Syntax.{four_bytes, one_byte}
use Rattle.text.specs.Syntax.{Expression, Constant, Variable, Plus, Condition, Bc, Not, And, Less, Command}
use Rattle.text.specs.Syntax.{SKIP, ◌:=◌, ◌⨾◌, IF◌THEN◌ELSE◌, WHILE◌DO◌}
use Rattle.text.specs.Encoding.{ValidExpression, ValidCondition, Valid}
use Rattle.text.specs.Encoding.{expression_nesting, condition_nesting, nesting}
use Rattle.text.specs.Sizes.{expression_records, condition_records, records, expression_depth, condition_depth}
use Rattle.text.specs.Sizes.{depth, expression_names, condition_names, names, how_many, cells, sizes}
use Rattle.text.specs.Respelling.{expression_in_full, condition_in_full, in_full, Respelled}
use Rattle.text.specs.Respelling.{EitherAccepted, FullFits, SameSizes}
use Rattle.text.proofs.Accepted.{encoded}

-- ---- What is the same in full is the same of both

pub of_both : {A : Type 0} (f : Command → A) → ((c : Command) → f (in_full c) ≡ f c) → (c d : Command) → Respelled c d
    → f c ≡ f d
of_both f same c d e = sym (same c) ∙ ap f e ∙ same d

-- ---- In full, sizes and nesting are the same

record SameExpression (a : Expression) : Type 0 where
  pub records : expression_records (expression_in_full a) ≡ expression_records a
  pub depth : expression_depth (expression_in_full a) ≡ expression_depth a
  pub names : (w : ℕ) → expression_names (expression_in_full a) w ≡ expression_names a w
  pub nesting : expression_nesting (expression_in_full a) ≡ expression_nesting a

same_expression : (a : Expression) → SameExpression a
unfolding expression_in_full expression_records expression_depth expression_names expression_nesting
same_expression (Constant w z) = record { records = refl; depth = refl; names = λ w. refl; nesting = refl }
same_expression (Variable v) = record { records = refl; depth = refl; names = λ w. refl; nesting = refl }
same_expression (Plus a b) =
    let x = same_expression a in
    let y = same_expression b in
    record {
      records = rw (x.records, y.records);
      depth = rw (x.depth, y.depth);
      names = λ w. rw (x.names w, y.names w);
      nesting = rw (x.nesting, y.nesting);
    }

record SameCondition (b : Condition) : Type 0 where
  pub records : (flag : Bool) → condition_records (condition_in_full b) flag ≡ condition_records b flag
  pub depth : condition_depth (condition_in_full b) ≡ condition_depth b
  pub names : (w : ℕ) → condition_names (condition_in_full b) w ≡ condition_names b w
  pub nesting : condition_nesting (condition_in_full b) ≡ condition_nesting b

same_condition : (b : Condition) → SameCondition b
unfolding condition_in_full condition_records condition_depth condition_names condition_nesting
same_condition (Bc v) = record { records = λ flag. refl; depth = refl; names = λ w. refl; nesting = refl }
same_condition (Not b) =
    let x = same_condition b in
    record {
      records = λ flag. x.records (not flag);
      depth = x.depth;
      names = x.names;
      nesting = ap suc x.nesting;
    }
same_condition (And b c) =
    let x = same_condition b in
    let y = same_condition c in
    record {
      records = λ flag. rw (x.records false, y.records flag);
      depth = rw (x.depth, y.depth);
      names = λ w. rw (x.names w, y.names w);
      nesting = rw (x.nesting, y.nesting);
    }
same_condition (Less a b) =
    let x = same_expression a in
    let y = same_expression b in
    record {
      records = λ flag. rw (x.records, y.records);
      depth = rw (x.depth, y.depth);
      names = λ w. rw (x.names w, y.names w);
      nesting = rw (x.nesting, y.nesting);
    }

record SameCommand (c : Command) : Type 0 where
  pub records : records (in_full c) ≡ records c
  pub depth : depth (in_full c) ≡ depth c
  pub names : (w : ℕ) → names (in_full c) w ≡ names c w
  pub nesting : nesting (in_full c) ≡ nesting c

same_command : (c : Command) → SameCommand c
unfolding in_full records depth names nesting
same_command SKIP = record { records = refl; depth = refl; names = λ w. refl; nesting = refl }
same_command (v := a) =
    let x = same_expression a in
    record {
      records = rw x.records;
      depth = x.depth;
      names = λ w. rw (x.names w);
      nesting = ap suc x.nesting;
    }
same_command (c ⨾ d) =
    let x = same_command c in
    let y = same_command d in
    record {
      records = rw (x.records, y.records);
      depth = rw (x.depth, y.depth);
      names = λ w. rw (x.names w, y.names w);
      nesting = rw (x.nesting, y.nesting);
    }
same_command (IF b THEN c ELSE d) =
    let t = same_condition b in
    let x = same_command c in
    let y = same_command d in
    record {
      records = rw (t.records false, x.records, y.records);
      depth = rw (t.depth, x.depth, y.depth);
      names = λ w. rw (t.names w, x.names w, y.names w);
      nesting = rw (t.nesting, x.nesting, y.nesting);
    }
same_command (WHILE b DO c) =
    let t = same_condition b in
    let x = same_command c in
    record {
      records = rw (t.records false, x.records);
      depth = rw (t.depth, x.depth);
      names = λ w. rw (t.names w, x.names w);
      nesting = rw (t.nesting, x.nesting);
    }

pub same_sizes : SameSizes
same_sizes = of_both sizes (λ c.
    let s = same_command c in
    let variables : cells (in_full c) ≡ cells c = λ i. how_many (λ w. s.names w i) 64 in
    rw (s.records, s.depth, variables))

-- ---- In full, each constant fits

full_expression : (a : Expression) → ValidExpression a → ValidExpression (expression_in_full a)
unfolding expression_in_full ValidExpression
full_expression (Constant four_bytes z) v = v
full_expression (Constant one_byte z) v = sfits_widen tt v
full_expression (Variable w) v = v
full_expression (Plus a b) v = (full_expression a v.0, full_expression b v.1)

full_condition : (b : Condition) → ValidCondition b → ValidCondition (condition_in_full b)
unfolding condition_in_full ValidCondition
full_condition (Bc t) v = v
full_condition (Not b) v = full_condition b v
full_condition (And b c) v = (full_condition b v.0, full_condition c v.1)
full_condition (Less a b) v = (full_expression a v.0, full_expression b v.1)

pub full_fits : FullFits
unfolding in_full Valid
full_fits SKIP v = v
full_fits (w := a) v = (v.0, full_expression a v.1)
full_fits (c ⨾ d) v = (full_fits c v.0, full_fits d v.1)
full_fits (IF b THEN c ELSE d) v = (full_condition b v.0, full_fits c v.1, full_fits d v.2)
full_fits (WHILE b DO c) v = (full_condition b v.0, full_fits c v.1)

-- ---- Either spelling is accepted: its nesting is the other's

pub either_accepted : EitherAccepted
either_accepted c d e within valid short =
    let same : nesting c ≡ nesting d = of_both nesting (λ c. (same_command c).nesting) c d e in
    encoded d (record { valid = valid; nested = rw same at within.nested; short = short })
