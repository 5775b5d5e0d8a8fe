-- What the call answers of records, from whether heights can be given.
use mathlib.Core.Path.{refl, sym}
use Prim.Native.Nat.{ℕ}
use lib.ListN.{length}
use Rattle.base.specs.Answers.{gives, refused}
use Rattle.base.proofs.Settled.{not_both}
use Rattle.record.specs.Records.{MachineCode}
use Rattle.inspection.specs.Heights.{Passing}
use Rattle.inspection.specs.Calls.{Judged}

pub judged_passes : (D : ℕ) (P : MachineCode) → Passing D P → Judged D P (gives (length P))
judged_passes D P x = record {
  passes = (λ e. x, λ y. refl);
  refuses = (λ e. not_both (sym e), λ none. absurd (none x));
}

pub judged_fails : (D : ℕ) (P : MachineCode) → (Passing D P → ⊥) → Judged D P (refused 13 0)
judged_fails D P none = record {
  passes = (λ e. not_both e, λ x. absurd (none x));
  refuses = (λ e. none, λ x. refl);
}
