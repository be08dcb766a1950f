use Rattle.std.proofs.Common.{rules, ◌≡◌, ◌+◌, length, ◌∙◌, arith}
use Rattle.mq_cli.specs.contracts.threads.notes.StreamPartialEq.TheImpl.{eq-value}
use Rattle.mq_cli.proofs.FarLemmas.{comes_by, comes_not, noted_all}
use Rattle.mq_cli.proofs.threads.plan.Progress.take_some.Goals as goal

pub returns-in-Err-clause-called : goal.returns-in-Err-clause-called
returns-in-Err-clause-called g c =
    let p = g.Q.Port in
    comes_not eq-value.it p.puts p.takes p.removes c.args.call.now.id c.args.call.now.msgtyp g.T.Patience.ends c.args.call.now.moment c.args.n c.args.port.now c.args.self.now c.reserve.new.self c.in-Err.errno
    c.in-Err.ensures.room c.requires.some c.in-Err.ensures.empty c.in-Err.ensures.sent c.in-Err.ensures.received c.in-Err.ensures.notes

pub returns-clause-called : goal.returns-clause-called
returns-clause-called g c =
    let p = g.Q.Port in
    let did = c.take_many-answer.ensures.done in
    let noted = noted_all eq-value.it c.args.self.now.notes c.reserve.new.self.notes c.note_all.new.self _ c.in-Ok.ensures.notes c.note_all.ensures in
    search (rules, comes_by, did, noted)
