use Rattle.std.proofs.Common.{ℕ}
use Rattle.mq_calls.specs.State.{QueuesState}
use Rattle.mq_cli.specs.Transcript.{at}
use Rattle.mq_cli.proofs.RefusedLemmas.{refusal_replied}
use Rattle.mq_cli.proofs.serial.answer.set.Goals as goal

pub returns-in_ok-write_refused-in-Err : goal.returns-in_ok-write_refused-in-Err
returns-in_ok-write_refused-in-Err g c =
    let is = rw c.from_number.ensures at c.in-Err.ensures.answer.refused in
    refusal_replied c.args.queues.now c.args.id (λ (t : ℕ × QueuesState). (at t.0, t.1)) _ c.in-Err.refused c.set.new.self c.args.out.now.items c.write_refused.new.out.items
    is c.in-Err.ensures.answer.unchanged c.in_ok-write_refused-in-Err.ensures.ok c.in_ok-write_refused-in-Err.ensures.memory
