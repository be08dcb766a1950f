use Rattle.std.proofs.Common.{◌<◌, ◌^◌, length, arith}
use Rattle.mq_board_tests.specs.Shown.{IsShown}
use Rattle.mq_board_tests.proofs.Ready.{pending}
use Rattle.mq_board_tests.proofs.calls.send.Goals as goal

pub returns-in-Ok : goal.returns-in-Ok
returns-in-Ok g c =
    let sent = c.in-Ok.ensures in
    pending _ _ _ _ _ _ _ sent.answer.base c.requires sent.noticed sent.answer.tail
    c.holds.ensures.lawful (omega arith)

pub returns : goal.returns
returns g c =
    let refused = c.in-Err.ensures in
    let sent = c.in-Ok-send.ensures in
    let shown : IsShown c.send.new.self.base c.send.new.self.tail c.send.new.notice =
    rw (refused.answer.unchanged, refused.noticed) c.requires in
    let short : length c.send.new.self.tail < 2 ^ 63 = rw refused.answer.unchanged (omega arith) in
    pending _ _ _ _ _ _ _ sent.answer.base shown sent.noticed sent.answer.tail
    c.holds-in-Ok-send.ensures.lawful short
