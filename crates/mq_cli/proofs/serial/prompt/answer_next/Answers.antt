use Rattle.std.proofs.Common.{ap, length, arith}
use Rattle.mq_cli.proofs.PromptLemmas.{line_read, next_answered, next_refused, next_unflushed, some_read}
use Rattle.mq_cli.proofs.serial.prompt.answer_next.Goals as goal

pub returns-in-Err-answer_line : goal.returns-in-Err-answer_line
returns-in-Err-answer_line g c =
    let line = line_read _ _ _ _ _ _ _ c.clear.ensures.items c.in-Ok.ensures.bytes c.deref.ensures.value c.first_long_part.ensures c.trimmed.ensures in
    next_refused _ _ _ _ _ c.answer_line.new.session _ c.in-Err-answer_line.fault line c.in-Err-answer_line.ensures

pub returns-in-Ok-flush : goal.returns-in-Ok-flush
returns-in-Ok-flush g c =
    let line = line_read _ _ _ _ _ _ _ c.clear.ensures.items c.in-Ok.ensures.bytes c.deref.ensures.value c.first_long_part.ensures c.trimmed.ensures in
    let some = some_read _ _ _ c.in-Ok.field-0 c.clear.ensures.items c.in-Ok.ensures.bytes (omega (arith, ap length c.clear.ensures.items, c.in-Ok.ensures.ok)) (omega arith) in
    next_answered _ _ _ _ _ _ _ _ _ line some c.in-Ok.ensures.rest c.in_default.ensures c.in-Ok-flush.ensures.bytes

pub returns-in-Err-flush : goal.returns-in-Err-flush
returns-in-Err-flush g c =
    let line = line_read _ _ _ _ _ _ _ c.clear.ensures.items c.in-Ok.ensures.bytes c.deref.ensures.value c.first_long_part.ensures c.trimmed.ensures in
    (tt, next_unflushed _ _ _ _ _ _ c.answer_line.new.session _ line c.in_default.ensures c.in-Err-flush.ensures.bytes)
