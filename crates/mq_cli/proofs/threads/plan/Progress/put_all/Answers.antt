use Rattle.std.proofs.Common.{rules, ◌≡◌, ◌+◌, None, Some, Ok, Err, refl, arith}
use Rattle.mq_cli.specs.Calls.{sends_after}
use Rattle.mq_cli.proofs.FarLemmas.{goes_sending}
use Rattle.mq_cli.proofs.WorkLemmas.{none_called, sent_more, sent_until}
use Rattle.mq_cli.specs.contracts.threads.notes.StreamPartialEq.TheImpl.{eq-value}
use Rattle.mq_cli.proofs.threads.plan.Progress.put_all.Goals as goal

pub loop-init : goal.loop-init
loop-init g c = (
  omega arith,
  omega arith,
  refl,
  omega arith,
  refl,
  none_called g.Q.Port.puts g.Q.Port.takes g.Q.Port.removes c.args.port.now,
)

pub loop-preserved : goal.loop-preserved
loop-preserved g c =
    let p = g.Q.Port in
    let before = c.args.self.now in
    let next : before.sent + 1 + c.loop.counter ≡ c.loop.self.sent + 1 = omega arith in
    let so = c.loop.invariant.5 in
    let told = λ (done : p.puts c.loop.port c.args.call.now.id c.args.call.now.mtype (c.loop.self.sent + 1) c.args.call.now.length g.T.Patience.ends c.args.call.now.moment (Ok c.in-Ok.field-0) c.put.new.self).
    sent_more p.puts p.takes p.removes before.sent c.args.call.now.id c.args.call.now.mtype c.loop.counter c.args.call.now.length g.T.Patience.ends c.args.call.now.moment (c.loop.self.sent + 1) c.in-Ok.field-0
    c.args.port.now c.loop.port c.put.new.self next so done in
    let done = c.in-Ok.ensures.done in (
      omega arith,
      omega arith,
      c.loop.invariant.2,
      omega (arith, c.in-Ok.ensures.calls, c.loop.invariant.3),
      c.loop.invariant.4,
      search (rules, told, done),
    )

pub returns-in-Err-clause-counted : goal.returns-in-Err-clause-counted
returns-in-Err-clause-counted g c = search (rules, c.in-Err.ensures.calls, c.loop.invariant.3)

pub returns-clause-counted : goal.returns-clause-counted
returns-clause-counted g c =
    let all : c.loop.counter ≡ c.args.count = omega arith in
    record {
      least_sent = omega arith;
      least_received = omega arith;
      sent = omega arith;
      received = omega arith;
      all = (omega arith, omega arith);
      done = omega (arith, c.loop.invariant.3);
      refused = tt;
    }

pub returns-in-Err-clause-called : goal.returns-in-Err-clause-called
returns-in-Err-clause-called g c =
    let p = g.Q.Port in
    let before = c.args.self.now in
    let next : before.sent + 1 + c.loop.counter ≡ c.loop.self.sent + 1 = omega arith in
    let so = c.loop.invariant.5 in
    let told = λ (failed : p.puts c.loop.port c.args.call.now.id c.args.call.now.mtype (c.loop.self.sent + 1) c.args.call.now.length g.T.Patience.ends c.args.call.now.moment (Err c.in-Err.errno) c.put.new.self).
    goes_sending eq-value.it p.puts p.takes p.removes (sends_after before.sent c.args.call.now.id c.args.call.now.mtype c.args.count c.args.call.now.length g.T.Patience.ends c.args.call.now.moment)
    c.args.port.now c.put.new.self before c.loop.self c.loop.counter (Some c.in-Err.errno) c.loop.invariant.1 c.loop.invariant.2 c.loop.invariant.4
    (sent_until p.puts p.takes p.removes before.sent c.args.call.now.id c.args.call.now.mtype c.loop.counter c.args.count c.args.call.now.length g.T.Patience.ends c.args.call.now.moment (c.loop.self.sent + 1) c.in-Err.errno
    c.args.port.now c.loop.port c.put.new.self next c.loop-test.true so failed) in
    let failed = c.in-Err.ensures.done in
    search (rules, told, failed)

pub returns-clause-called : goal.returns-clause-called
returns-clause-called g c =
    let p = g.Q.Port in
    let before = c.args.self.now in
    let all : c.loop.counter ≡ c.args.count = omega arith in
    let so = c.loop.invariant.5 in
    let it = rw all at so in
    let sent : c.loop.self.sent ≡ before.sent + c.args.count = omega arith in
    let told = goes_sending eq-value.it p.puts p.takes p.removes (sends_after before.sent c.args.call.now.id c.args.call.now.mtype c.args.count c.args.call.now.length g.T.Patience.ends c.args.call.now.moment)
    c.args.port.now c.loop.port before c.loop.self c.args.count None sent c.loop.invariant.2 c.loop.invariant.4 it in
    search (rules, told)
