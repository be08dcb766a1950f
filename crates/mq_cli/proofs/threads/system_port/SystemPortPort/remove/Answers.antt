use Rattle.std.proofs.Common.{rules}
use Rattle.mq_table.specs.Ids.{seq_of, slot_of}
use Rattle.mq_system.specs.Refusals.{MayRemove, out_of_slots}
use Rattle.mq_system.specs.Seen.{remove_verdict}
use Rattle.mq_cli.proofs.PortLemmas.{refused_call}
use Rattle.mq_cli.proofs.threads.system_port.SystemPortPort.remove.Goals as goal
use Rattle.mq_cli.proofs.threads.system_port.SystemPortPort.remove.Goals.{in-Ok, in-Err}

pub returns-clause-done : goal.returns-clause-done
returns-clause-done g c = elim c.match-rmid.branch [
  | in-Ok w ↦ rw w.result-is (search (rules, w.in-Ok.ensures.answer))
  | in-Err w ↦
      rw w.result-is
      (refused_call (out_of_slots g.N.Names.slots c.args.id) MayRemove (slot_of c.args.id) (remove_verdict (seq_of c.args.id)) c.args.self.now.seat.now c.rmid.new.seat
      w.in-Err.refused w.in-Err.ensures.answer)
]
