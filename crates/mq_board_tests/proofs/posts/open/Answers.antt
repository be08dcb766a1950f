use Rattle.std.proofs.Common.{length, ap, arith}
use Rattle.mq_board_tests.proofs.Ready.{taken_from}
use Rattle.mq_board_tests.proofs.posts.open.Goals as goal

pub publish-requires : goal.publish-requires
publish-requires g c =
    let made = c.in_ok-queue.ensures in
    taken_from _ _ _ c.in_ok-queue.queue.tail _ made.answer.base c.requires.idle made.noticed
    (rw c.requires.empty made.answer.tail)
    c.holds.ensures.lawful (omega (arith, ap length c.requires.empty))
