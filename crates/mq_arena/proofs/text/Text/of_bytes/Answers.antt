use Rattle.std.proofs.Common.{◌-◌, ◌*◌, ◌^◌, length, replicate}
use Rattle.mq_arena.specs.declared.page.TheConstants.{PAGE_LEN}
use Rattle.mq_arena.proofs.Drafts.{in_taken}
use Rattle.mq_arena.proofs.text.Text.of_bytes.Goals as goal

pub returns-clause-ok : goal.returns-clause-ok
returns-clause-ok g c =
    in_taken c.args.arena.now c.take_filled.new.self c.in_ok-block.block c.order_for-order.result c.args.bytes.now
    (replicate (PAGE_LEN * 2 ^ c.order_for-order.result - length c.args.bytes.now) 0) c.of.result
    c.order_for-order.ensures.value c.in_ok-block.ensures.lent c.in_ok-block.ensures.bytes c.of.ensures.text
