use Rattle.std.proofs.Common.{◌≡◌, List, length, arith, ap, rules, sym, [], ◌∙◌}
use Rattle.mq_trace.specs.declared.refusal.Refusal.{Refusal}
use Rattle.mq_cli.specs.Lines.{lines_of}
use Rattle.mq_cli.specs.Parts.{lines_left}
use Rattle.mq_cli.specs.Recording.{recorded_from, recording}
use Rattle.mq_cli.proofs.LinesLemmas.{length-lines_of-le}
use Rattle.mq_cli.proofs.RecordLemmas.{line_recorded, lines_recorded, run_ends}
use Rattle.mq_cli.proofs.serial.record.record_lines.Goals as goal

pub loop-line-init : goal.loop-line-init
loop-line-init g c =
    let all : lines_left c.into_iter-line-iterator.result.rest ≡ lines_of c.args.script.now = search rules in
    let none : c.new-refusals.result.items ≡ [] = search rules in
    let begun = ap (λ (l : List Refusal). recorded_from 1 (recording c.args.session.now l) (lines_of c.args.script.now)) (sym none) in
    rw all (tt, tt, begun, omega (arith, length-lines_of-le c.args.script.now))

pub loop-line-preserved : goal.loop-line-preserved
loop-line-preserved g c =
    let inv = c.loop-line.invariant in
    let left = c.in-Some.ensures.steps in (
      tt,
      tt,
      (rw left at inv.2) ∙ line_recorded _ _ _ _ _ c.in_default.ensures,
      omega (arith, ap length left, inv.3),
    )

pub returns-in-Err : goal.returns-in-Err
returns-in-Err g c =
    let inv = c.loop-line.invariant in
    run_ends _ _ _ _ c.record_line.new.session _ _ _ (rw c.in-Some.ensures.steps at inv.2) c.in-Err.ensures

pub returns : goal.returns
returns g c =
    let inv = c.loop-line.invariant in
    let none : lines_left c.loop-line.line-iterator.rest ≡ [] = search (rules, c.in-None.ensures.steps) in
    (rw none at inv.2) ∙ lines_recorded _ _
