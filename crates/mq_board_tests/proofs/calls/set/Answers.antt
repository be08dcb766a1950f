use Rattle.std.proofs.Common.{◌<◌, ◌^◌, length, arith}
use Rattle.mq_board_tests.specs.Shown.{IsShown}
use Rattle.mq_board_tests.proofs.Ready.{pending}
use Rattle.mq_board_tests.proofs.calls.set.Goals as goal

pub returns-in-Ok : goal.returns-in-Ok
returns-in-Ok g c =
    let changed = c.in-Ok.ensures in
    pending _ _ _ _ _ _ _ changed.answer.base c.requires changed.noticed changed.answer.tail
    c.holds.ensures.lawful (omega arith)

pub returns : goal.returns
returns g c =
    let refused = c.in_default.ensures in
    let changed = c.in-Ok-set.ensures in
    let shown : IsShown c.set.new.self.base c.set.new.self.tail c.set.new.notice =
    rw (refused.answer.unchanged, refused.noticed) c.requires in
    let short : length c.set.new.self.tail < 2 ^ 63 = rw refused.answer.unchanged (omega arith) in
    pending _ _ _ _ _ _ _ changed.answer.base shown changed.noticed changed.answer.tail
    c.holds-in-Ok-set.ensures.lawful short
