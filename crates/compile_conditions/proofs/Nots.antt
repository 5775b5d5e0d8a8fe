-- Behind the Nots in front of a condition the same records are to be written.
use mathlib.Core.Path.{◌≡◌, refl, ap, subst}
use mathlib.Core.Bool.{Bool}
use mathlib.Core.List.{List}
use Prim.Native.Nat.{ℕ}
use native.Mathlib.Omega.{arith}
use lib.ListN.{length}
use Rattle.base.specs.Acts.{Outcome}
use Rattle.base.specs.Answers.{Refusal}
use Rattle.text.specs.Syntax.{Condition}
use Rattle.text.specs.Reading.{condition}
use Rattle.record.specs.Records.{AssemblyCode}
use Rattle.compile.specs.Compilation.{bcomp}
use Rattle.compile_sizes.specs.Nots.{Passed, Behind}
use Rattle.compile_sizes.specs.declared.Bare.{Bare}
use Rattle.compile_sizes.specs.declared.PartSize.{PartSize}
use Rattle.compile_sizes.proofs.Nots.{alike}
use Rattle.compile_conditions.specs.Parts.{jumping, Writable, Wrote, Writes}

same_code : (distance : ℕ) {text : List ℕ} {deepest : ℕ} {under : Bool} {b : Condition} {n : ℕ} {told : Bare}
    (p : Passed text deepest under b n told) → jumping told.flag distance p.part ≡ jumping under distance b
unfolding bcomp
same_code distance p = alike (λ b flag. jumping flag distance b) (λ b flag. refl) p

module _ {text : List ℕ} {deepest : ℕ} {under : Bool} {read : Outcome ℕ Refusal Condition} {told : Bare}
    (h : Behind text deepest under read told) {old : List ℕ} (distance : ℕ) where
  pub writable : Writable (jumping under distance) distance read old
      → Writable (jumping told.flag distance) distance (condition text told.nest told.at) old
  writable q =
      let p = h _ _ q.is in
      let same = ap length (same_code distance p) in
      record {
        part = p.part;
        next = q.next;
        is = p.read;
        room = omega (arith, same, q.room);
        few = omega (arith, same, q.few);
      }

  pub writes : {new : List ℕ} {t : PartSize}
      → Writes (jumping told.flag distance) (condition text told.nest told.at) old new t
      → Writes (jumping under distance) read old new t
  writes {new} {t} w b n e =
      let p = h b n e in
      subst (λ (P : AssemblyCode). Wrote P n old new t) (same_code distance p) (w _ _ p.read)
