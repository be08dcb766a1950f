use Rattle.std.proofs.Common.{false, rules}
use mir.Val.{SFits}
use mir.Syntax.{w64}
use Rattle.std.proofs.lemmas.Int.{to_z-of_z}
use Rattle.mq_queue.specs.declared.limits.TheConstants.{MSGMAX}
use Rattle.mq_message.specs.Selection.{selection_of}
use Rattle.mq_table.specs.Ids.{seq_of, slot_of}
use Rattle.mq_system.specs.Refusals.{MayReceive, out_of_slots}
use Rattle.mq_system.specs.Seen.{receive_verdict}
use Rattle.mq_cli.proofs.PortLemmas.{or_none, refused_call}
use Rattle.mq_cli.proofs.threads.system_port.SystemPort.take_one.Goals as goal

pub returns-in-Err-clause-done : goal.returns-in-Err-clause-done
returns-in-Err-clause-done g c =
    let fits : SFits w64 c.args.call.now.msgtyp = search rules in
    let turned = rw (or_none g.T.Patience.ends) at (simp to_z-of_z at c.in-Err.ensures.answer) in
    refused_call (out_of_slots g.N.Names.slots c.args.call.now.id) (MayReceive g.T.Patience.ends false) (slot_of c.args.call.now.id)
    (receive_verdict (seq_of c.args.call.now.id) MSGMAX (selection_of c.args.call.now.msgtyp false) false) c.args.self.now.seat.now c.msgrcv_within.new.seat c.in-Err.refused turned
