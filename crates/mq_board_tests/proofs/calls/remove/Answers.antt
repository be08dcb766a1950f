use Rattle.std.proofs.Common.{◌<◌, ◌^◌, length, arith}
use Rattle.mq_board_tests.specs.Shown.{IsShown}
use Rattle.mq_board_tests.proofs.Ready.{pending}
use Rattle.mq_board_tests.proofs.calls.remove.Goals as goal

pub returns-in-Ok : goal.returns-in-Ok
returns-in-Ok g c =
    let removed = c.in-Ok.ensures in
    pending _ _ _ _ _ _ _ removed.answer.base c.requires removed.noticed removed.answer.tail
    removed.lawful (omega arith)

pub returns : goal.returns
returns g c =
    let refused = c.in-Err.ensures in
    let removed = c.in-Ok-remove.ensures in
    let shown : IsShown c.in-Err.queue.base c.in-Err.queue.tail c.remove.new.notice =
    rw (refused.answer, refused.noticed) c.requires in
    let short : length c.in-Err.queue.tail < 2 ^ 63 = rw refused.answer (omega arith) in
    pending _ _ _ _ _ _ _ removed.answer.base shown removed.noticed removed.answer.tail
    removed.lawful short
