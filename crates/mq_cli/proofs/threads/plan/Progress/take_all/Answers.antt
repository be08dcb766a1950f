use Rattle.std.proofs.Common.{rules, ◌≡◌, ◌+◌, ◌≤◌, [], length, None, refl, ◌∙◌, arith}
use Rattle.mq_cli.specs.Calls.{receive}
use Rattle.mq_cli.specs.contracts.threads.notes.StreamPartialEq.TheImpl.{eq-value}
use Rattle.mq_cli.proofs.FarLemmas.{further_more, further_until, goes_nowhere}
use Rattle.mq_cli.proofs.WorkLemmas.{none_called}
use Rattle.mq_cli.proofs.threads.plan.Progress.take_all.Goals as goal

pub loop-done-init : goal.loop-done-init
loop-done-init g c =
    let p = g.Q.Port in (
      omega arith,
      omega arith,
      refl,
      omega arith,
      omega arith,
      goes_nowhere eq-value.it p.puts p.takes p.removes [] c.args.port.now c.args.port.now c.args.self.now None (none_called p.puts p.takes p.removes c.args.port.now),
    )

pub loop-done-preserved : goal.loop-done-preserved
loop-done-preserved g c =
    let p = g.Q.Port in
    let far = c.loop-done.invariant in
    let so = far.5 in
    let by = c.in-Ok.ensures.called in
    let call = receive c.args.call.now.id c.args.call.now.msgtyp g.T.Patience.ends c.args.call.now.moment in
    let now = c.take_some.new.self in
    let on = further_more eq-value.it p.puts p.takes p.removes call c.loop-done.done (length now.came.items) c.args.port.now c.loop-done.port c.take_some.new.port c.args.self.now c.loop-done.self now so by.called in (
      omega (arith, by.count.1, far.0),
      search rules,
      by.sent ∙ far.2,
      omega (arith, by.received, far.3),
      omega (arith, c.in-Ok.ensures.calls, far.4),
      search (rules, on),
    )

pub returns-in-Err-clause-counted : goal.returns-in-Err-clause-counted
returns-in-Err-clause-counted g c =
    let far = c.loop-done.invariant in
    let by = c.in-Err.ensures.called in
    record {
      least_sent = omega (arith, by.sent, far.2);
      least_received = omega (arith, by.received, far.3);
      sent = omega (arith, by.sent, far.2);
      received = omega (arith, by.count, by.received, far.0, far.3);
      all = tt;
      done = tt;
      refused = omega (arith, by.sent, far.2, c.in-Err.ensures.calls, far.4);
    }

pub returns-in-Err-clause-called : goal.returns-in-Err-clause-called
returns-in-Err-clause-called g c =
    let p = g.Q.Port in
    let far = c.loop-done.invariant in
    let so = far.5 in
    let by = c.in-Err.ensures.called in
    let call = receive c.args.call.now.id c.args.call.now.msgtyp g.T.Patience.ends c.args.call.now.moment in
    let within : c.loop-done.done + c.no_more_than-n.result ≤ c.args.count = omega (arith, far.0) in
    further_until eq-value.it p.puts p.takes p.removes call c.loop-done.done c.no_more_than-n.result c.args.count c.args.port.now c.loop-done.port c.take_some.new.port
    c.args.self.now c.loop-done.self c.take_some.new.self c.in-Err.errno within so by.called

pub returns-clause-counted : goal.returns-clause-counted
returns-clause-counted g c =
    let far = c.loop-done.invariant in
    record {
      least_sent = omega (arith, far.2);
      least_received = omega (arith, far.3);
      sent = omega (arith, far.2);
      received = omega (arith, far.0, far.3);
      all = (omega (arith, far.2), omega (arith, far.0, far.3));
      done = omega (arith, far.0, far.2, far.4);
      refused = tt;
    }

pub returns-clause-called : goal.returns-clause-called
returns-clause-called g c =
    let all : c.loop-done.done ≡ c.args.count = omega (arith, c.loop-done.invariant.0) in
    let so = c.loop-done.invariant.5 in
    rw all at so
