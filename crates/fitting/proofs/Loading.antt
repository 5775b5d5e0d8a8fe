-- Loading and reading back by a table t whose entries are at most n and, where they are not 0, distinct:
-- what is loaded is read back, and the machine's cells are a lawful memory that stands for the store.
use mathlib.Core.Path.{◌≡◌, refl, sym, ◌∙◌, ap, subst}
use mathlib.Core.Logic.{◌≢◌}
use Prim.Native.Nat.{ℕ, zero, suc, ◌+◌, ◌-◌, ◌≤◌, ◌<◌}
use native.Mathlib.Omega.{arith}
use native.Mathlib.Decide.{ℕ_discrete}
use mathlib.Core.List.{List, [], ◌∷◌}
use lib.IntN.{ℤ, pos}
use lib.ListN.{length, get_or, set, replicate, length-set, length-replicate}
use lib.Seq.{get_or-set_same, get_or-set_other, ext_get_or}
use Rattle.machine.proofs.Renaming.{through}
use Rattle.machine.specs.Machine.{Memory}
use Rattle.record.specs.Records.{address}
use Rattle.record.specs.declared.Variable.{Variable}
use Rattle.machine.specs.Memories.{machine_cells}
use Rattle.compile.proofs.Entries.{Distinct}
use Rattle.fitting.specs.Simulation.{Laws}
use Rattle.fitting.specs.Loading.{put, fill, loaded, got, read_back}

pub length_back : (t : List ℕ) (D : ℕ) (s m : List ℤ) → length (read_back t D s m) ≡ length s
unfolding read_back
length_back [] D s m = refl
length_back (a ∷ t) D [] m = refl
length_back (a ∷ t) D (x ∷ s) m = ap suc (length_back t D s m)

pub back_at : (t : List ℕ) (D : ℕ) (s m : List ℤ) (v : ℕ) → v < length s
    → get_or (read_back t D s m) v (pos 0) ≡ got D (get_or t v 0) m (get_or s v (pos 0))
unfolding read_back got
back_at [] D s m v l = refl
back_at (a ∷ t) D [] m v l = absurd (omega arith)
back_at (a ∷ t) D (x ∷ s) m zero l = refl
back_at (a ∷ t) D (x ∷ s) m (suc v) l = back_at t D s m v (omega arith)

pub got_at : (D a : ℕ) (m : List ℤ) (x : ℤ) → 0 < a → got D a m x ≡ get_or m (D + a) (pos 0)
unfolding got
got_at D zero m x l = absurd (omega arith)
got_at D (suc a) m x l = refl

got_other : (D a j : ℕ) (m : List ℤ) (x z : ℤ) → (0 < a → D + a ≢ j) → got D a (set m j z) x ≡ got D a m x
unfolding got
got_other D zero j m x z h = refl
got_other D (suc a) j m x z h = get_or-set_other m j (D + suc a) z (pos 0) (h (omega arith))

-- a cell that no named variable has
back_other : (t : List ℕ) (D : ℕ) (s m : List ℤ) (j : ℕ) (z : ℤ) → ((v : ℕ) → 0 < get_or t v 0 → D + get_or t v 0 ≢ j)
    → read_back t D s (set m j z) ≡ read_back t D s m
back_other t D s m j z h =
    ext_get_or (pos 0) _ _ (length_back t D s (set m j z) ∙ sym (length_back t D s m))
    (λ v l.
    let b : v < length s = omega (arith, length_back t D s (set m j z)) in
    back_at t D s (set m j z) v b ∙ got_other D (get_or t v 0) j m (get_or s v (pos 0)) z (h v)
    ∙ sym (back_at t D s m v b))

-- the cell of variable v
back_same : (t : List ℕ) (D : ℕ) (s m : List ℤ) (v : ℕ) (z : ℤ) → Distinct t → v < length s → 0 < get_or t v 0
    → D + get_or t v 0 < length m
    → read_back t D s (set m (D + get_or t v 0) z) ≡ set (read_back t D s m) v z
back_same t D s m v z d b l f =
    ext_get_or (pos 0) _ _
    (length_back t D s m' ∙ sym (length_back t D s m) ∙ sym (length-set (read_back t D s m) v z))
    (λ w l'. at w (omega (arith, length_back t D s m')) (ℕ_discrete w v))
  where
    m' : List ℤ
    m' = set m (D + get_or t v 0) z

    at : (w : ℕ) → w < length s → Dec (w ≡ v)
        → get_or (read_back t D s m') w (pos 0) ≡ get_or (set (read_back t D s m) v z) w (pos 0)
    at w b' (yes e) =
        subst (λ w. get_or (read_back t D s m') w (pos 0) ≡ get_or (set (read_back t D s m) v z) w (pos 0)) (sym e)
        (back_at t D s m' v b ∙ got_at D (get_or t v 0) m' (get_or s v (pos 0)) l
        ∙ get_or-set_same m (D + get_or t v 0) z (pos 0) f
        ∙ sym (get_or-set_same (read_back t D s m) v z (pos 0) (omega (arith, length_back t D s m))))
    at w b' (no e) =
        back_at t D s m' w b'
        ∙ got_other D (get_or t w 0) (D + get_or t v 0) m (get_or s w (pos 0)) z (λ p q. e (d w v p (omega arith)))
        ∙ sym (back_at t D s m w b') ∙ sym (get_or-set_other (read_back t D s m) v w z (pos 0) e)

-- ---- loading, and then reading back
length_put : (D a : ℕ) (x : ℤ) (m : List ℤ) → length (put D a x m) ≡ length m
unfolding put
length_put D zero x m = refl
length_put D (suc a) x m = length-set m (D + suc a) x

length_fill : (t : List ℕ) (D : ℕ) (s m : List ℤ) → length (fill t D s m) ≡ length m
unfolding fill
length_fill [] D s m = refl
length_fill (a ∷ t) D [] m = refl
length_fill (a ∷ t) D (x ∷ s) m = length_put D a x (fill t D s m) ∙ length_fill t D s m

put_same : (D a : ℕ) (x : ℤ) (m : List ℤ) → 0 < a → D + a < length m → get_or (put D a x m) (D + a) (pos 0) ≡ x
unfolding put
put_same D zero x m l b = absurd (omega arith)
put_same D (suc a) x m l b = get_or-set_same m (D + suc a) x (pos 0) b

put_other : (D a j : ℕ) (x : ℤ) (m : List ℤ) → (0 < a → j ≢ D + a) → get_or (put D a x m) j (pos 0) ≡ get_or m j (pos 0)
unfolding put
put_other D zero j x m h = refl
put_other D (suc a) j x m h = get_or-set_other m (D + suc a) j x (pos 0) (h (omega arith))

fill_at : (t : List ℕ) (D : ℕ) (s m : List ℤ) (v : ℕ) → Distinct t → v < length s → 0 < get_or t v 0
    → D + get_or t v 0 < length m
    → get_or (fill t D s m) (D + get_or t v 0) (pos 0) ≡ get_or s v (pos 0)
unfolding fill
fill_at [] D s m v d b l f = absurd (omega arith)
fill_at (a ∷ t) D [] m v d b l f = absurd (omega arith)
fill_at (a ∷ t) D (x ∷ s) m zero d b l f = put_same D a x (fill t D s m) l (omega (arith, length_fill t D s m))
fill_at (a ∷ t) D (x ∷ s) m (suc v) d b l f =
    put_other D a (D + get_or t v 0) x (fill t D s m) (λ p q. omega (arith, d (suc v) 0 l (omega arith)))
    ∙ fill_at t D s m v (λ v w p q. omega (arith, d (suc v) (suc w) p q)) (omega arith) l f

got_is : (D a : ℕ) (m : List ℤ) (x : ℤ) → (0 < a → get_or m (D + a) (pos 0) ≡ x) → got D a m x ≡ x
unfolding got
got_is D zero m x h = refl
got_is D (suc a) m x h = h (omega arith)

pub length_loaded : (t : List ℕ) (D n : ℕ) (s : List ℤ) → length (loaded t D n s) ≡ D + 1 + n
length_loaded t D n s = length_fill t D s (replicate (D + 1 + n) (pos 0)) ∙ length-replicate (D + 1 + n) (pos 0)

pub back_loaded : (t : List ℕ) (D n : ℕ) (s : List ℤ) → Distinct t → ((v : ℕ) → get_or t v 0 ≤ n)
    → read_back t D s (loaded t D n s) ≡ s
back_loaded t D n s d small =
    ext_get_or (pos 0) _ _ (length_back t D s (loaded t D n s))
    (λ v l.
    let b : v < length s = omega (arith, length_back t D s (loaded t D n s)) in
    back_at t D s (loaded t D n s) v b
    ∙ got_is D (get_or t v 0) (loaded t D n s) (get_or s v (pos 0))
    (λ p. fill_at t D s (replicate (D + 1 + n) (pos 0)) v d b p
    (omega (arith, small v, length-replicate (D + 1 + n) (pos 0)))))

-- ---- the machine's cells, each variable v at the address f v, its entry in the table

module _ (D n : ℕ) (t : List ℕ) (d : Distinct t) (small : (v : ℕ) → get_or t v 0 ≤ n) (f : ℕ → ℕ) (s : List ℤ) where
  abbrev pub Placed : Variable → Type 0
  Placed v = (v.0 < length s) × (0 < get_or t v.0 0) × (f v.0 ≡ get_or t v.0 0)

  -- the memory that a variable's record is run on, in terms of addresses
  abbrev pub addressed : Memory (List ℤ) Variable
  addressed = through (λ v. address (f v.0)) (machine_cells D)

  pub cells_laws : Laws D addressed (read_back t D s) (λ m. length m ≡ D + 1 + n) Placed
  cells_laws = record {
    load_view = λ m v G x.
        ap (λ a. get_or m (D + a) (pos 0)) x.2
        ∙ sym (back_at t D s m v.0 x.0 ∙ got_at D (get_or t v.0 0) m (get_or s v.0 (pos 0)) x.1);
    save_view = λ m v z G x.
        ap (λ a. read_back t D s (set m (D + a) z)) x.2
        ∙ back_same t D s m v.0 z d x.0 x.1 (omega (arith, small v.0));
    save_good = λ m v z G x. length-set m (D + f v.0) z ∙ G;
    poke_view = λ m i z G l. back_other t D s m (D - 1 - i) z (λ v p. omega arith);
    poke_good = λ m i z G l. length-set m (D - 1 - i) z ∙ G;
    peek_poke = λ m i z G l. get_or-set_same m (D - 1 - i) z (pos 0) (omega arith);
    peek_below = λ m i j z G l b. get_or-set_other m (D - 1 - i) (D - 1 - j) z (pos 0) (omega arith);
  }
