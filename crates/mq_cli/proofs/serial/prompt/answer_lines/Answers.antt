use Rattle.std.proofs.Common.{arith}
use Rattle.mq_cli.proofs.PromptLemmas.{none_more, none_yet, one_failed, one_more, some_left}
use Rattle.mq_cli.proofs.serial.prompt.answer_lines.Goals as goal

pub loop-number-init : goal.loop-number-init
loop-number-init g c = none_yet _ _ _

pub loop-number-preserved : goal.loop-number-preserved
loop-number-preserved g c = one_more _ _ _ _ _ _ _ _ _ _ _ c.in-Ok-true.field-0-test c.loop-number.invariant c.in-Ok-true.ensures

pub returns-in-Ok-false : goal.returns-in-Ok-false
returns-in-Ok-false g c = none_more _ _ _ _ _ _ _ _ _ _ _ c.in-Ok-false.field-0-test c.loop-number.invariant c.in-Ok-false.ensures

pub returns-in-Err : goal.returns-in-Err
returns-in-Err g c =
    one_failed (g.R.Read.remaining c.args.reader.now) _ (g.R.Read.remaining c.answer_next.new.reader) (g.W.Write.contents c.args.writer.now) _ (g.W.Write.contents c.answer_next.new.writer)
    c.args.session.now _ _ c.answer_next.new.session c.in-Err.fault c.loop-number.invariant c.in-Err.ensures

pub returns : goal.returns
returns g c = some_left _ _ _ _ _ _ _ (omega arith) c.loop-number.invariant
