-- Profiles A to K under the source rules, a mark tick by tick, sums past a limit, where the call declines, and
-- previews, by computation (Cases: Tallies, MarkTickByTick, Holds, Declines, Previews, PreviewDeclines); J at every
-- budget, pass by pass (Forever).
use mathlib.Core.Path.{◌≡◌, refl, ◌∙◌, ap}
use Prim.Native.Nat.{ℕ, zero, suc, ◌-◌, ◌<◌}
use native.Mathlib.Omega.{arith}
use mathlib.Core.Bool.{true, false}
use Rattle.base.specs.Acts.{then', give}
use Rattle.base.specs.Answers.{gives, and_then, settle, previewed}
use Rattle.base.specs.Ends.{End, Result, result, ran, report}
use Rattle.word.specs.Numbers.{number_of, number_at, byte_number}
use Rattle.word.specs.Sums.{limited, stopping, clamped, holding}
use Rattle.text.specs.Reading.{expression_byte, condition_byte, command_byte, decline, there, due, pass, operand}
use Rattle.text.specs.Reading.{number_due, number, expression_of, expression, condition_of, condition, command_of}
use Rattle.text.specs.Reading.{command, all_read, read_text}
use Rattle.text.specs.Syntax.{Bc, SKIP, WHILE◌DO◌}
use Rattle.text.specs.Cases.{A_text, B_text, C_text, D_text, E_text, F_text, G_text, H_text, I_text, J_text, K_text}
use Rattle.text.specs.Cases.{texts}
use Rattle.source.specs.Rules.{Store, start, run_rules}
use Rattle.source.specs.Rules.{charge, tick, raise, lower, cell, assign, in_range, add, value, truth, loop, exec}
use Rattle.source.specs.Rules.{end_of, result_of}
use Rattle.source.specs.Calls.{sums, source_tests, run_source, preview_source}
use Rattle.source.specs.Cases.{zeros, Tallies, MarkTickByTick, Holds, Forever, Declines, Previews}
use Rattle.source.specs.Cases.{PreviewDeclines}
use Rattle.source.proofs.Calls.{source_runs}

pub tallies : Tallies
unfolding texts A_text B_text C_text D_text E_text F_text G_text H_text I_text J_text K_text zeros
    then' give and_then settle number_of number_at clamped holding
    expression_byte condition_byte command_byte decline there due pass operand number_due number
    expression_of expression condition_of condition command_of command all_read read_text
    charge tick raise lower cell assign in_range add value truth loop exec end_of result_of source_tests run_source
tallies = refl

pub mark_tick_by_tick : MarkTickByTick
unfolding zeros then' give and_then settle byte_number clamped holding
    expression_byte condition_byte command_byte decline there due pass operand number_due number
    expression_of expression condition_of condition command_of command all_read read_text
    charge tick raise lower cell assign in_range add value truth loop exec end_of result_of source_tests run_source
mark_tick_by_tick = refl

-- ---- Sums past a limit

pub holds : Holds
unfolding G_text then' give and_then settle number_of number_at byte_number limited stopping clamped holding
    expression_byte condition_byte command_byte decline there due pass operand number_due number
    expression_of expression condition_of condition command_of command all_read read_text
    charge tick raise lower cell assign in_range add value truth loop exec end_of result_of source_tests run_source
holds = record {
  G = refl;
  G_stopped = refl;
  at_limits = refl;
  two_ticks = refl;
  three_ticks = refl;
  four_ticks = refl;
}

-- ---- J

-- J's command: the passes allowed are always enough, and each takes a tick and changes nothing
forever_loop : (g n : ℕ) (s : Store) → n < g
    → result_of (loop sums g (truth sums (Bc true) false) (exec sums SKIP) (start n s)) ≡ result End.spent 0 0 s
unfolding loop truth exec give then' tick charge result_of end_of
forever_loop zero n s l = absurd (omega arith)
forever_loop (suc g) zero s l = refl
forever_loop (suc g) (suc n) s l = forever_loop g n s (omega arith)

forever_rules : (n : ℕ) (s : Store) → run_rules sums (WHILE (Bc true) DO SKIP) n s ≡ result End.spent 0 0 s
unfolding exec
forever_rules n s = forever_loop (suc n) n s (omega arith)

J_read : read_text J_text ≡ gives (WHILE (Bc true) DO SKIP)
unfolding J_text then' give
    expression_byte condition_byte command_byte decline there due pass operand number_due number
    expression_of expression condition_of condition command_of command all_read read_text
J_read = refl

pub forever : Forever
forever budget s long =
    source_runs J_text (WHILE (Bc true) DO SKIP) s budget J_read long
    ∙ ap (λ (r : Result Store). (gives (report budget r), r.leaves)) (forever_rules budget s)
    ∙ ap (λ k. (gives (ran End.spent k 0), s)) (let z : budget - 0 ≡ budget = omega arith in z)

-- ---- Where the call declines

pub declines : Declines
unfolding B_text then' give and_then settle number_of number_at
    expression_byte condition_byte command_byte decline there due pass operand number_due number
    expression_of expression condition_of condition command_of command all_read read_text
    source_tests run_source
declines = record {
  eight = refl;
  eight_longer = refl;
  six_reading = refl;
  reading_eight = refl;
}

-- ---- Previews

pub previews : Previews
unfolding then' give and_then settle previewed byte_number clamped holding
    expression_byte condition_byte command_byte decline there due pass operand number_due number
    expression_of expression condition_of condition command_of command all_read read_text
    charge tick raise lower cell assign in_range add value truth loop exec end_of result_of
    source_tests run_source preview_source
previews = refl

pub preview_declines : PreviewDeclines
unfolding B_text zeros then' give and_then settle previewed number_of number_at
    expression_byte condition_byte command_byte decline there due pass operand number_due number
    expression_of expression condition_of condition command_of command all_read read_text
    source_tests run_source preview_source
preview_declines = record {
  eight = refl;
  eight_longer = refl;
  six_reading = refl;
  reading_eight = refl;
}
