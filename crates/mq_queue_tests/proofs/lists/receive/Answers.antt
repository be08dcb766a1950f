use Rattle.std.proofs.Common.{◌∙◌, sym}
use Rattle.mq_message.proofs.Places.{picked_waits}
use Rattle.mq_queue_tests.proofs.lists.receive.Goals as goal

pub take-requires : goal.take-requires
take-requires g c =
    picked_waits _ (g.W.Waiting.messages c.args.list.now) c.args.selection _ (sym c.find.ensures ∙ c.in_ok-place.was)
