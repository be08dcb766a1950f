use Rattle.std.proofs.Common.{inr, rules}
use mir.Val.{SFits}
use mir.Syntax.{w64}
use Rattle.std.proofs.lemmas.Int.{to_z-of_z}
use Rattle.mq_table.specs.Ids.{seq_of, slot_of}
use Rattle.mq_system.specs.Refusals.{MaySend, never_sent}
use Rattle.mq_system.specs.Seen.{send_verdict}
use Rattle.mq_cli.proofs.PortLemmas.{or_none, refused_call}
use Rattle.mq_cli.proofs.threads.system_port.SystemPortPort.put.Goals as goal

pub returns-in-Err-msgsnd_within-clause-done : goal.returns-in-Err-msgsnd_within-clause-done
returns-in-Err-msgsnd_within-clause-done g c =
    let fits : SFits w64 c.args.call.now.mtype = search rules in
    let told = rw (or_none g.T.Patience.ends) at (simp to_z-of_z at c.in-Err-msgsnd_within.ensures.answer) in
    let drafted = rw c.in-Ok.ensures.answer.ok at told in
    let turned = rw c.bytes_of-bytes.ensures.count at drafted in
    inr (refused_call (never_sent g.N.Names.slots c.args.call.now.id c.args.call.now.mtype) (MaySend g.T.Patience.ends) (slot_of c.args.call.now.id)
    (send_verdict (seq_of c.args.call.now.id) c.args.call.now.mtype c.args.call.now.length) c.args.self.now.seat.now c.msgsnd_within.new.seat c.in-Err-msgsnd_within.refusal.refused turned)
