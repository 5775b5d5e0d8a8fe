-- A spent run is told as its state, any other by its end.
use Rattle.std.proofs.Common.{◌≡◌, ℕ, List, ℤ, refl, sym, ap, ◌∙◌, rules}
use Rattle.base.specs.Ends.{ran}
use Rattle.base.specs.Code.{end_of, told_run}
use Rattle.base.specs.declared.End.{End}
use Rattle.base.specs.declared.Ended as Code
use Rattle.base.specs.declared.End.TheVariants.{Done, Spent, Short, Full, Astray}
use Rattle.machine.specs.Machine as Rules
use Rattle.machine.specs.Calls.{finished, tell}
use Rattle.machine_step.specs.Code.{machine_of}
use Rattle.machine_step.proofs.Halted.piece.Goals as goal

told_end : (e : End) (k mark : ℕ) (s : Rules.Machine (List ℤ)) → (e ≡ Spent → ⊥)
    → finished (ran (end_of e) k mark) ≡ tell (end_of e) k mark s
unfolding tell
told_end Done k mark s h = refl
told_end Spent k mark s h = absurd (h refl)
told_end Short k mark s h = refl
told_end Full k mark s h = refl
told_end Astray k mark s h = refl

pub returns-in-Spent : goal.returns-in-Spent
unfolding tell
returns-in-Spent c memory =
    let m = c.args.self.machine in
    ap (λ (e : End). tell (end_of e) m.count m.mark (machine_of m memory)) (sym c.in-Spent.is)

pub returns-in_default : goal.returns-in_default
returns-in_default c memory =
    ap (λ (x : Code.Ended). finished (told_run x)) c.answer.ensures
    ∙ told_end c.args.self.end _ _ (machine_of c.args.self.machine memory) (search rules)
