use Rattle.std.proofs.Common.{rules}
use Rattle.std.proofs.lemmas.Int.{to_z-of_z}
use Rattle.std.specs.Int.{w32}
use Rattle.std.specs.Int.RustNames.{FitsSigned}
use Rattle.mq_calls.specs.State.{QueuesState}
use Rattle.mq_calls.specs.declared.results.Got.{Got}
use Rattle.mq_cli.specs.Transcript.{given}
use Rattle.mq_cli.proofs.RefusedLemmas.{errno_replied}
use Rattle.mq_cli.proofs.serial.answer.get.Goals as goal

pub returns-in_ok-write_refused-in-Err : goal.returns-in_ok-write_refused-in-Err
returns-in_ok-write_refused-in-Err g c =
    let fits : FitsSigned w32 c.args.call.key = search rules in
    let is = simp (to_z-of_z, fits) at c.in-Err.ensures.answer.refused in
    errno_replied c.args.queues.now (λ (t : Got × QueuesState). (given t.0.id, t.1)) _ c.in-Err.errno c.msgget.new.self c.args.out.now.items c.write_refused.new.out.items
    is c.in-Err.ensures.answer.unchanged c.in_ok-write_refused-in-Err.ensures.ok c.in_ok-write_refused-in-Err.ensures.memory
