use Rattle.std.proofs.Common.{◌≡◌, length, arith, ap, rules, [], ◌∙◌, sym, subst, lit≤, ◌+◌, ◌≤◌, vec_len}
use Rattle.mq_cli.specs.declared.limits.TheConstants.{MAX_WORKERS}
use Rattle.mq_cli.specs.Lines.{lines_of}
use Rattle.mq_cli.specs.Parts.{lines_left}
use Rattle.mq_cli.specs.ThreadsParsed.{wanted_seen}
use Rattle.mq_cli.specs.ThreadsScript.{nothing, wanted_from}
use Rattle.mq_cli.proofs.LinesLemmas.{length-lines_of-le}
use Rattle.mq_cli.proofs.ThreadsRuns.{sections_seen, line_read, lines_done}
use Rattle.mq_cli.proofs.WantedLemmas.{IsSmall, passed_small, said_small, small_countable}
use Rattle.mq_cli.proofs.threads.script.read_threads_script.Goals as goal

pub loop-line-init : goal.loop-line-init
loop-line-init c =
    let all : lines_left c.into_iter-line-iterator.result.rest ≡ lines_of c.args.script.now = search rules in
    let none : wanted_seen c.new-wanted.result ≡ nothing = c.new-wanted.ensures in
    let small : IsSmall 0 (wanted_seen c.new-wanted.result) = subst (IsSmall 0) (sym none) (lit≤ tt, tt) in
    let begun = ap (λ w. wanted_from 1 w (lines_of c.args.script.now)) (sym none) in
    rw all (tt, tt, begun, omega (arith, length-lines_of-le c.args.script.now), small)

pub loop-line-preserved-in-Ok-None : goal.loop-line-preserved-in-Ok-None
loop-line-preserved-in-Ok-None c =
    let inv = c.loop-line.invariant in
    let left = c.in-Some.ensures.steps in
    let said = rw c.in-Ok-None.field-0-is at c.in-Ok-None.ensures in (
      tt,
      tt,
      (rw left at inv.2) ∙ line_read _ _ _ _ _ _ (sections_seen c.loop-line.wanted ∙ sym c.len.ensures) said,
      omega (arith, ap length left, inv.3),
      passed_small c.loop-line.number (wanted_seen c.loop-line.wanted) inv.4,
    )

pub returns-in-Err : goal.returns-in-Err
returns-in-Err c =
    let inv = c.loop-line.invariant in
    (rw c.in-Some.ensures.steps at inv.2) ∙ line_read _ _ _ _ _ _ (sections_seen c.loop-line.wanted ∙ sym c.len.ensures) c.in-Err.ensures

pub loop-line-preserved : goal.loop-line-preserved
loop-line-preserved c =
    let inv = c.loop-line.invariant in
    let left = c.in-Some.ensures.steps in
    let said = rw c.in-Ok-Some.field-0-is at c.in-Ok-Some.ensures in
    let count = sections_seen c.loop-line.wanted ∙ sym c.len.ensures in
    let added = c.in-Ok.ensures in (
      tt,
      tt,
      (rw left at inv.2) ∙ line_read _ _ _ _ _ _ count said
          ∙ ap (λ w. wanted_from (c.loop-line.number + 1 + 1) w (lines_left c.next.new.self.rest)) (sym added),
      omega (arith, ap length left, inv.3),
      subst (IsSmall (c.loop-line.number + 1)) (sym added) (said_small c.loop-line.number (c.loop-line.number + 1) c.len.result (wanted_seen c.loop-line.wanted) c.in-Some.line.now c.in-Ok-Some.said count said inv.4),
    )

pub returns : goal.returns
returns c =
    let inv = c.loop-line.invariant in
    let none : lines_left c.loop-line.line-iterator.rest ≡ [] = search (rules, c.in-None.ensures.steps) in
    let few : vec_len c.loop-line.wanted.sections ≤ MAX_WORKERS = omega (arith, sections_seen c.loop-line.wanted, inv.4.0) in
    record {
      is = (rw none at inv.2) ∙ lines_done _ _;
      few = few;
      countable = small_countable c.loop-line.number c.loop-line.wanted.sections.items (omega (arith, inv.3)) inv.4.1;
    }
