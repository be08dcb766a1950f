use Rattle.std.proofs.Common.{rules}
use Rattle.mq_cli.specs.Transcript.{receive_step}
use Rattle.mq_cli.proofs.Seats.{seated}
use Rattle.mq_cli.proofs.serial.answer.answer.Goals as goal

pub returns-in-Receive : goal.returns-in-Receive
returns-in-Receive g c =
    let call = c.in-Receive.call in
    rw c.in-Receive.is
    (seated c.receive.result c.args.session.now
    (receive_step c.args.line c.args.session.now.seat c.args.session.now.queues call.id call.size call.mtype call.flags.except call.flags.noerror)
    c.args.out.now.items c.receive.new.out.items c.receive.new.queues _ (rw (← c.session.view_is) c.receive.ensures) (search rules))
