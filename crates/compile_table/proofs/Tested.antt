-- What the test of a table finds.
use mathlib.Core.Path.{◌≡◌, refl}
use mathlib.Core.Bool.{Bool, true, false}
use mathlib.Core.List.{List}
use Prim.Native.Nat.{ℕ}
use native.Mathlib.Omega.{arith}
use Rattle.std.specs.Prelude.{if◌then◌else◌, Some, None}
use Rattle.compile.specs.Table.{named_in, is_table}
use Rattle.compile_table.specs.Tested.{tested}

module _ (t : List ℕ) where
  pub found_table : {n : ℕ} → n ≡ named_in t → is_table t ≡ true → Some n ≡ tested t
  unfolding tested
  found_table e h = simp (h, e)

  pub found_none : is_table t ≡ false → None ≡ tested t
  unfolding tested
  found_none h = simp h

  -- The other way
  pub table_found : {n : ℕ} → tested t ≡ Some n → (is_table t ≡ true) × (n ≡ named_in t)
  unfolding tested
  table_found {n} e = by (is_table t) e
    where
      by : (b : Bool) → (if b then Some (named_in t) else None) ≡ Some n → (b ≡ true) × (n ≡ named_in t)
      by true e = (refl, cc)
      by false e = let no : ◌≡◌ {A = ℕ} 0 1 = cc in absurd (omega arith)

  pub none_found : tested t ≡ None → is_table t ≡ false
  unfolding tested
  none_found e = by (is_table t) e
    where
      by : (b : Bool) → (if b then Some (named_in t) else None) ≡ None → b ≡ false
      by true e = let no : ◌≡◌ {A = ℕ} 0 1 = cc in absurd (omega arith)
      by false e = refl
