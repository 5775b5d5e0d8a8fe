-- Lengths of written code: each record is five bytes, and the bytes of records in a row stand in a row.
use mathlib.Core.Path.{◌≡◌, refl, sym, ap, ◌∙◌}
use mathlib.Core.List.{List, [], ◌∷◌, ◌++◌, append_assoc}
use Prim.Native.Nat.{ℕ, ◌≤◌}
use native.Mathlib.Omega.{arith}
use lib.ListN.{length, length-append, length-drop}
use Rattle.word.specs.Numbers.{bytes_of}
use Rattle.record.specs.Records.{Record}
use Rattle.record.specs.Bytes.{Kind, record_bytes, code_bytes, over}
use Rattle.record.specs.Claims.{FiveBytes}

-- Five bytes to a record.
pub five_bytes : FiveBytes
unfolding code_bytes bytes_of
five_bytes Name k [] = refl
five_bytes Name k (r ∷ P) = omega (arith, five_bytes Name k P)

-- The bytes of P and then Q are P's bytes and then Q's.
pub code_bytes_append : {Name : Type 0} (k : Kind Name) (P Q : List (Record Name))
    → code_bytes k (P ++ Q) ≡ code_bytes k P ++ code_bytes k Q
unfolding code_bytes
code_bytes_append k [] Q = refl
code_bytes_append k (r ∷ P) Q =
    ap (λ (l : List ℕ). record_bytes k r ++ l) (code_bytes_append k P Q)
    ∙ sym (append_assoc (record_bytes k r) (code_bytes k P) (code_bytes k Q))

-- A buffer keeps its length when something no longer is written over its start.
pub length_over : (new old : List ℕ) → length new ≤ length old → length (over new old) ≡ length old
length_over new old h = simp (length-append, length-drop) (omega arith)
