use Rattle.std.proofs.Common.{◌≡◌, length, arith, ap, rules, []}
use Rattle.mq_cli.specs.Lines.{lines_of}
use Rattle.mq_cli.specs.Parts.{lines_left}
use Rattle.mq_cli.proofs.LinesLemmas.{length-lines_of-le}
use Rattle.mq_cli.proofs.Runs.{so_far_nothing, so_far_step, so_far_failed, so_far_end}
use Rattle.mq_cli.proofs.serial.run_lines.Goals as goal

pub loop-line-init : goal.loop-line-init
loop-line-init g c =
    let all : lines_left c.into_iter-line-iterator.result.rest ≡ lines_of c.args.script.now = search rules in
    rw all (tt, tt, so_far_nothing _ _, omega (arith, length-lines_of-le c.args.script.now))

pub loop-line-preserved : goal.loop-line-preserved
loop-line-preserved g c =
    let inv = c.loop-line.invariant in
    let left = c.in-Some.ensures.steps in (
      tt,
      tt,
      so_far_step _ _ _ _ _ _ _ _ _ (rw left at inv.2) c.in_default.ensures,
      omega (arith, ap length left, inv.3),
    )

pub returns-in-Err : goal.returns-in-Err
returns-in-Err g c =
    let inv = c.loop-line.invariant in
    so_far_failed _ _ _ _ _ _ _ _ _ _ (rw c.in-Some.ensures.steps at inv.2) c.in-Err.ensures

pub returns : goal.returns
returns g c =
    let inv = c.loop-line.invariant in
    let none : lines_left c.loop-line.line-iterator.rest ≡ [] = search (rules, c.in-None.ensures.steps) in
    so_far_end _ _ _ _ _ (rw none at inv.2)
