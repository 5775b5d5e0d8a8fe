-- Answers to parts in a row: what the code's answer says of a construct, from the answers to its parts.
-- A construct is read part by part: each part but the last was read (ReadAs), and the last part's answer settles the
-- construct's.
use mathlib.Core.Path.{◌≡◌, refl, sym, ap, ◌∙◌}
use Prim.Native.Nat.{ℕ, ◌+◌, ◌<◌, max}
use native.Mathlib.Omega.{arith}
use mathlib.Core.Bool.{Bool, true, false, ◌||◌}
use mathlib.Core.List.{List}
use lib.Dec.{eqb}
use lib.ListN.{length, get_or, set, length-set}
use lib.Seq.{get_or-set_same, get_or-set_other}
use borrow.Author.Tests.{eqb-true, eqb-false}
use Rattle.std.specs.Prelude.{if◌then◌else◌}
use Rattle.base.specs.Acts.{Outcome, ok, ended, then', ◌>>=◌, ◌>>◌, give}
use Rattle.base.specs.Answers.{Refusal, refusal}
use Rattle.base.specs.Code.{number_of}
use Rattle.base.specs.declared.Reason.{Reason}
use Rattle.text.specs.Syntax.{Width, Constant}
use Rattle.text.specs.Reading.{Reader, expression_byte, pass, number, expression_of}
use Rattle.text.specs.Sizes.{expression_records, expression_depth, expression_names}
use Rattle.text_shape.specs.Shape.{width_of}
use Rattle.text_shape.proofs.Constants.{Begins, is_constant}
use Rattle.text_conditions.specs.Code.{Sized, expressions, numbers, Noted, ReadAs, Answered}
use Rattle.text_conditions.specs.Code.{expression_parts, together}
use Rattle.text_conditions.specs.declared.PartReading.{PartReading}
use Rattle.text_conditions.specs.declared.PartReading.TheVariants.{Read, Refused}

-- ---- Names noted

-- Where nothing is named the notes stay,
pub noted_none : (m : List ℕ) → Noted (λ w. false) m m
noted_none m = record { kept = refl; at = λ w h. refl }

-- one variable is noted,
pub noted_one : (m : List ℕ) (v : ℕ) → length m ≡ 64 → v < 64 → Noted (eqb v) m (set m v 1)
noted_one m v n h = record { kept = length-set m v 1; at = λ w g. by w (eqb v w) refl }
  where
    by : (w : ℕ) (t : Bool) → eqb v w ≡ t → get_or (set m v 1) w 0 ≡ (if t then 1 else get_or m w 0)
    by w true e = rw (← eqb-true v w e) (get_or-set_same m v 1 0 (omega arith))
    by w false e = get_or-set_other m v w 1 0 (λ s. eqb-false v w e (sym s))

-- and what is named by either of two parts in a row is noted after both.
noted_both : {f g h : ℕ → Bool} {m m' m'' : List ℕ} → Noted f m m' → Noted g m' m''
    → ((w : ℕ) → h w ≡ (f w || g w)) → Noted h m m''
noted_both {f} {g} {h} {m} {m'} {m''} x y e = record {
  kept = y.kept ∙ x.kept;
  at = λ w b. y.at w b ∙ (rw (x.at w b, e w) (either (f w) (g w) (get_or m w 0)));
}
  where
    either : (s t : Bool) (n : ℕ) → (if t then 1 else if s then 1 else n) ≡ (if s || t then 1 else n)
    either true true n = refl
    either true false n = refl
    either false true n = refl
    either false false n = refl

-- ---- Answers that the code makes itself

pub declines : {A : Type 0} (K : Sized A) {reason : Reason} {p : ℕ} {r : PartReading} (m m' : List ℕ)
    → r ≡ Refused reason p → Answered K (ended (refusal (number_of reason) p)) r m m'
unfolding Answered
declines K m m' e = record { reason = _; is = e; numbered = refl }

pub tells : {A : Type 0} (K : Sized A) (a : A) (n : ℕ) (m m' : List ℕ) → Noted (K.names a) m m'
    → Answered K (ok a n) (Read (K.records a) (K.depth a) n) m m'
unfolding Answered
tells K a n m m' h = record { is = refl; noted = h }

-- ---- Parts in a row

-- What was read, where the answer says that something was
record Got {A : Type 0} (K : Sized A) (o : Outcome ℕ Refusal A) (n k d : ℕ) (m m' : List ℕ) : Type 0 where
  pub part : A
  pub read : o ≡ ok part n
  pub read_as : ReadAs (Read k d n) n (K.records part) (K.depth part) (K.names part) m m'

got : {A : Type 0} (K : Sized A) (o : Outcome ℕ Refusal A) {r : PartReading} {m m' : List ℕ} {n k d : ℕ}
    → Answered K o r m m' → r ≡ Read k d n → Got K o n k d m m'
unfolding Answered
got K (ok a i) {n = n} h e =
    let is = h.is in
    let same : i ≡ n = cc in
    record { part = a; read = ap (ok a) same; read_as = record { is = cc; noted = h.noted } }
got K (ended (refusal k p)) h e = absurd (let is = h.is in let no : ◌≡◌ {A = ℕ} 0 1 = cc in omega arith)

-- The sizes of b together with those of a part a before it, as the code joins them
abbrev pub after : {A B : Type 0} → Sized A → A → Sized B → ℕ → ℕ → Sized B
after K a Q more lift = record {
  records = λ b. K.records a + Q.records b + more;
  depth = λ b. max (K.depth a) (Q.depth b + lift);
  names = λ b w. K.names a w || Q.names b w;
}

-- A part that was read, and an answer to the next
joins : {A B : Type 0} (K : Sized A) (Q : Sized B) (a : A) (o : Outcome ℕ Refusal B) {r : PartReading}
    (r' : PartReading) {n : ℕ} {m m' : List ℕ} (m'' : List ℕ) (more lift : ℕ)
    → ReadAs r n (K.records a) (K.depth a) (K.names a) m m'
    → Answered Q o r' m' m'' → Answered (after K a Q more lift) o (together r r' more lift) m m''
unfolding Answered together
joins K Q a (ok b j) r' m'' more lift x y =
    record { is = rw (x.is, y.is); noted = noted_both x.noted y.noted (λ w. refl) }
joins K Q a (ended (refusal k p)) r' m'' more lift x y =
    record { reason = y.reason; is = rw (x.is, y.is) refl; numbered = y.numbered }

-- A construct f a has the sizes of a
pub record Alike {A C : Type 0} (K : Sized A) (W : Sized C) (f : A → C) : Type 0 where
  pub records : (a : A) → W.records (f a) ≡ K.records a
  pub depth : (a : A) → W.depth (f a) ≡ K.depth a
  pub names : (a : A) (w : ℕ) → W.names (f a) w ≡ K.names a w

-- so it has the same answer.
makes : {A C : Type 0} (K : Sized A) (W : Sized C) (f : A → C) (o : Outcome ℕ Refusal A) (r : PartReading)
    (m m' : List ℕ) → Alike K W f → Answered K o r m m' → Answered W (then' o (λ a. give (f a))) r m m'
unfolding Answered give then'
makes K W f (ok a j) r m m' s h = record {
  is = rw (s.records a, s.depth a) h.is;
  noted = noted_both (noted_none m) h.noted (s.names a);
}
makes K W f (ended (refusal k p)) r m m' s h = h

-- A part that is refused is the construct's refusal.
ends : {A C : Type 0} (K : Sized A) (W : Sized C) (o : Outcome ℕ Refusal A) (f : A → Reader C) {r : PartReading}
    (m m' l l' : List ℕ) {reason : Reason} {p : ℕ} → Answered K o r m m' → r ≡ Refused reason p
    → Answered W (then' o f) r l l'
unfolding Answered then'
ends K W (ok a i) f m m' l l' h e = absurd (let is = h.is in let no : ◌≡◌ {A = ℕ} 0 1 = cc in omega arith)
ends K W (ended (refusal k p)) f m m' l l' h e = h

-- ---- A first byte with one, two and three parts after it

module _ (text : List ℕ) {C : Type 0} (W : Sized C) where
  pub one : {A : Type 0} (K : Sized A) (f : A → C) (x : Reader A) (i : ℕ) (r : PartReading) (m m' : List ℕ)
      → Alike K W f → Answered K (x (i + 1)) r m m' → Answered W ((do pass text 1; a ← x; give (f a)) i) r m m'
  unfolding pass then'
  one K f x i r m m' s h = makes K W f (x (i + 1)) r m m' s h

  pub two : {A B : Type 0} (K : Sized A) (Q : Sized B) (f : A → B → C) (x : Reader A) (y : Reader B) (i : ℕ)
      {r : PartReading} (r' : PartReading) (m m' m'' : List ℕ) (more lift : ℕ) {n k d : ℕ} {s : PartReading}
      → ((a : A) → Alike (after K a Q more lift) W (f a))
      → Answered K (x (i + 1)) r m m' → r ≡ Read k d n → Answered Q (y n) r' m' m''
      → s ≡ together (Read k d n) r' more lift
      → Answered W ((do pass text 1; a ← x; b ← y; give (f a b)) i) s m m''
  unfolding pass then'
  two K Q f x y i r' m m' m'' more lift {n} same h e h' j =
      let g = got K (x (i + 1)) h e in
      let a = g.part in
      rw (g.read, j)
      (makes (after K a Q more lift) W (f a) (y n) _ m m'' (same a)
      (joins K Q a (y n) r' m'' more lift g.read_as h'))

  pub three : {A B D : Type 0} (K : Sized A) (Q : Sized B) (R : Sized D) (f : A → B → D → C) (x : Reader A)
      (y : Reader B) (z : Reader D) (i : ℕ) {r r' : PartReading} (r'' : PartReading) (m m' m'' m''' : List ℕ)
      (more lift : ℕ) {n k d n' k' d' : ℕ} {s t : PartReading}
      → ((a : A) (b : B) → Alike (after K a (after Q b R 0 0) more lift) W (f a b))
      → Answered K (x (i + 1)) r m m' → r ≡ Read k d n → Answered Q (y n) r' m' m'' → r' ≡ Read k' d' n'
      → Answered R (z n') r'' m'' m''' → s ≡ together (Read k' d' n') r'' 0 0 → t ≡ together (Read k d n) s more lift
      → Answered W ((do pass text 1; a ← x; b ← y; c ← z; give (f a b c)) i) t m m'''
  unfolding pass then'
  three K Q R f x y z i r'' m m' m'' m''' more lift {n} {n' = n'} same h e h' e' h'' j j' =
      let g = got K (x (i + 1)) h e in
      let g' = got Q (y n) h' e' in
      let a = g.part in
      let b = g'.part in
      rw (g.read, g'.read, j', j)
      (makes (after K a (after Q b R 0 0) more lift) W (f a b) (z n') _ m m''' (same a b)
      (joins K (after Q b R 0 0) a (z n') _ m''' more lift g.read_as
      (joins Q R b (z n') r'' m''' 0 0 g'.read_as h'')))

  -- The first part is refused,
  pub first_ends : {A : Type 0} (K : Sized A) (x : Reader A) (f : A → Reader C) (i : ℕ) {r : PartReading}
      (m m' l l' : List ℕ) {reason : Reason} {p : ℕ} → Answered K (x (i + 1)) r m m' → r ≡ Refused reason p
      → Answered W ((do pass text 1; a ← x; f a) i) r l l'
  unfolding pass then'
  first_ends K x f i m m' l l' h e = ends K W (x (i + 1)) f m m' l l' h e

  -- or the second.
  pub second_ends : {A B : Type 0} (K : Sized A) (Q : Sized B) (x : Reader A) (y : Reader B) (f : A → B → Reader C)
      (i : ℕ) {r r' : PartReading} (m m' m'' l : List ℕ) {n k d p : ℕ} {reason : Reason}
      → Answered K (x (i + 1)) r m m' → r ≡ Read k d n → Answered Q (y n) r' m' m'' → r' ≡ Refused reason p
      → Answered W ((do pass text 1; a ← x; b ← y; f a b) i) r' m l
  unfolding pass then'
  second_ends K Q x y f i m m' m'' l {n} h e h' e' =
      let g = got K (x (i + 1)) h e in
      rw g.read (ends Q W (y n) (f g.part) m' m'' m l h' e')

-- ---- Constants

constant_alike : (width : Width) → Alike numbers expressions (Constant width)
unfolding expression_records expression_depth expression_names
constant_alike width = record { records = λ z. refl; depth = λ z. refl; names = λ z w. refl }

-- An answer to a constant's operand is one to the constant.
pub constant_told : (text : List ℕ) (nest i : ℕ) (r : PartReading) (m : List ℕ) → Begins (get_or text i 0)
    → Answered numbers (number text (width_of (get_or text i 0)) (i + 1)) r m m
    → Answered expressions (expression_parts text nest (expression_byte (get_or text i 0)) i) r m m
unfolding expression_of
constant_told text nest i r m b h =
    rw (is_constant b) (one text expressions numbers (Constant _) (number text _) i r m m (constant_alike _) h)
