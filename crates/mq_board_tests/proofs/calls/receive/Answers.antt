use Rattle.std.proofs.Common.{◌<◌, ◌^◌, length, arith}
use Rattle.mq_board_tests.specs.Shown.{IsShown}
use Rattle.mq_board_tests.proofs.Ready.{pending}
use Rattle.mq_board_tests.proofs.calls.receive.Goals as goal

pub returns-in-Ok : goal.returns-in-Ok
returns-in-Ok g c =
    let received = c.in-Ok.ensures in
    pending _ _ _ _ _ _ _ received.answer.base c.requires received.noticed received.answer.tail
    c.holds.ensures.lawful (omega arith)

pub returns : goal.returns
returns g c =
    let refused = c.in_default.ensures in
    let received = c.in-Ok-receive.ensures in
    let shown : IsShown c.receive.new.self.base c.receive.new.self.tail c.receive.new.notice =
    rw (refused.answer.unchanged, refused.noticed) c.requires in
    let short : length c.receive.new.self.tail < 2 ^ 63 = rw refused.answer.unchanged (omega arith) in
    pending _ _ _ _ _ _ _ received.answer.base shown received.noticed received.answer.tail
    c.holds-in-Ok-receive.ensures.lawful short
