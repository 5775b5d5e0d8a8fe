-- The call `read` from its command's answer: too long, refused, bytes left over, or accepted. The notes, of which none
-- was made at first, are then the variables that the text names, so their count is n.
use mathlib.Core.Path.{◌≡◌, refl}
use Prim.Native.Nat.{ℕ, zero, suc, ◌≤◌, ◌<◌}
use native.Mathlib.Omega.{arith}
use mathlib.Core.Bool.{Bool, true, false}
use mathlib.Core.List.{List}
use lib.Dec.{eqb}
use lib.ListN.{length, replicate, get_or-replicate}
use borrow.Author.Tests.{le-leb, lt-leb}
use Rattle.std.specs.Prelude.{if◌then◌else◌}
use Rattle.base.specs.Acts.{Outcome, ok, ended}
use Rattle.base.specs.Answers.{gives, refused, and_then}
use Rattle.base.specs.Code.{number_of}
use Rattle.base.specs.declared.Reason.{Reason}
use Rattle.text.specs.Syntax.{Command}
use Rattle.base.specs.Answers.{Refusal, refusal}
use Rattle.text.specs.Reading.{command, all_read, read_text}
use Rattle.text.specs.Sizes.{records, depth, names, how_many, cells}
use Rattle.text.specs.Calls.{read_call}
use Rattle.text_conditions.specs.Code.{Noted, Answered}
use Rattle.text_conditions.specs.declared.PartReading.{PartReading}
use Rattle.text_conditions.specs.declared.PartReading.TheVariants.{Read, Refused}
use Rattle.text_commands.specs.Code.{commands}
use Rattle.text_read.specs.Noted.{noted}

-- ---- How many are named

-- Tests that agree below k count the same.
same_count : (f g : ℕ → Bool) (k : ℕ) → ((w : ℕ) → w < k → f w ≡ g w) → how_many f k ≡ how_many g k
unfolding how_many
same_count f g zero h = refl
same_count f g (suc k) h = rw (h k (omega arith), same_count f g k (λ w l. h w (omega arith)))

-- Notes made from none are the variables named, of which there are 64.
count_notes : (named : ℕ → Bool) (m : List ℕ) → Noted named (replicate 64 0) m
    → how_many (noted m) (length m) ≡ how_many named 64
count_notes named m h =
    rw h.kept
    (same_count (noted m) named 64 (λ w l. rw (h.at w l, get_or-replicate {A = ℕ} 64 w 0 0 l) (by (named w))))
  where
    by : (t : Bool) → eqb (if t then 1 else 0) 1 ≡ t
    by true = refl
    by false = refl

-- ---- The call's answers

module _ (text : List ℕ) where
  module _ (short : length text ≤ 4096) where
    -- The command is refused,
    pub call_refused : (o : Outcome ℕ Refusal Command) → command text 64 0 ≡ o → {r : PartReading} (m m' : List ℕ)
        {reason : Reason} {p : ℕ} → Answered commands o r m m' → r ≡ Refused reason p
        → refused (number_of reason) p ≡ read_call text
    unfolding Answered read_call read_text all_read and_then
    call_refused (ok c i) q m m' h e = absurd (let is = h.is in let no : ◌≡◌ {A = ℕ} 0 1 = cc in omega arith)
    call_refused (ended (refusal k i)) q m m' {reason} {p} h e =
        let is = h.is in
        let same : h.reason ≡ reason = cc in
        let place : i ≡ p = cc in
        rw (le-leb (length text) 4096 short, q, ← h.numbered, same, place)

    -- or it ends before the text does,
    pub call_left_over : (o : Outcome ℕ Refusal Command) → command text 64 0 ≡ o → {r : PartReading} (m m' : List ℕ)
        {n k d : ℕ} → Answered commands o r m m' → r ≡ Read k d n → n < length text → refused 5 n ≡ read_call text
    unfolding Answered read_call read_text all_read and_then
    call_left_over (ok c i) q m m' {n} h e l =
        let is = h.is in
        let same : i ≡ n = cc in
        rw (le-leb (length text) 4096 short, q, same, lt-leb (length text) n l)
    call_left_over (ended (refusal k p)) q m m' h e l =
        absurd (let is = h.is in let no : ◌≡◌ {A = ℕ} 0 1 = cc in omega arith)

    -- or it is the whole text.
    pub call_accepted : (o : Outcome ℕ Refusal Command) → command text 64 0 ≡ o → {r : PartReading} (m : List ℕ)
        {n k d : ℕ} → Answered commands o r (replicate 64 0) m → r ≡ Read k d n → length text ≤ n
        → gives (record { records = k; depth = d; cells = how_many (noted m) (length m) }) ≡ read_call text
    unfolding Answered read_call read_text all_read and_then
    call_accepted (ok c i) q m {n} {k} {d} h e l =
        let is = h.is in
        let same : i ≡ n = cc in
        let same_records : k ≡ records c = cc in
        let same_depth : d ≡ depth c = cc in
        let same_cells : how_many (noted m) (length m) ≡ cells c = count_notes (names c) m h.noted in
        rw (
          le-leb (length text) 4096 short,
          q,
          same,
          le-leb (length text) n l,
          same_records,
          same_depth,
          same_cells,
        )
    call_accepted (ended (refusal k p)) q m h e l =
        absurd (let is = h.is in let no : ◌≡◌ {A = ℕ} 0 1 = cc in omega arith)
