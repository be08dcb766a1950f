use Rattle.std.proofs.Common.{length, ap, ◌∙◌, arith}
use Rattle.mq_board_tests.proofs.Ready.{taken_from}
use Rattle.mq_board_tests.proofs.posts.send.Goals as goal

pub publish-requires : goal.publish-requires
publish-requires g c =
    let sent = c.in-Ok.ensures in
    taken_from _ _ _ c.send.new.self.tail _ (sent.answer.base ∙ c.requires.whole) c.requires.idle
    sent.noticed (rw c.requires.same sent.answer.tail)
    c.holds.ensures.lawful (omega (arith, ap length c.requires.same))
