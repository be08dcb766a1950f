use Rattle.std.proofs.Common.{rules, inr, ◌≡◌, ◌≤◌, length, Ok, arith}
use Rattle.mq_calls.specs.Look.{refused_or_memory}
use Rattle.mq_calls.specs.declared.errno.Errno.TheVariants.{E2BIG}
use Rattle.mq.specs.Local.{receives}
use Rattle.mq.proofs.ReceiveLemmas.{received_fits}
use Rattle.mq.proofs.local_messages.take.Goals as goal
use Rattle.mq.proofs.local_messages.take.Goals.{then-ne-via-then-ne, then-ne-via-else-ne+then-size-most}

pub returns-in-Ok-clause-answer : goal.returns-in-Ok-clause-answer
returns-in-Ok-clause-answer g c =
    let at = c.loop-id.invariant in
    let s = c.args.queues.now in
    let told : receives s c.args.seat c.args.call.id c.loop-id.size c.args.call.selection
    c.args.call.options.noerror c.args.call.moment ≡ Ok (c.in-Ok.received, c.msgrcv.new.self) =
    search (rules, at.0, c.in-Ok.ensures.answer) in record {
      room = c.loop-id.size;
      is_room = record { within = at.2; cut = at.4 };
      answer = told;
    }

pub returns-in-Ok-clause-room : goal.returns-in-Ok-clause-room
returns-in-Ok-clause-room g c =
    let fits : length c.in-Ok.received.text.bytes ≤ c.loop-id.size =
    received_fits c.loop-id.queues c.msgrcv.new.self c.args.seat c.args.call.id c.loop-id.size
    c.in-Some.msgtyp c.in-Some.except c.args.call.options.noerror c.args.call.moment c.in-Ok.received
    (search (rules, c.in-Ok.ensures.answer)) in
    search (rules, arith, fits)

pub returns-then-ne-clause-answer : goal.returns-then-ne-clause-answer
returns-then-ne-clause-answer g c =
    let at = c.loop-id.invariant in
    let r = c.in-Err.refused in
    let s = c.args.queues.now in
    let told : r.errno ≡ (refused_or_memory s c.args.call.id (receives s c.args.seat c.args.call.id
    c.loop-id.size c.args.call.selection c.args.call.options.noerror c.args.call.moment)).errno =
    search (rules, at.0, c.in-Err.ensures.answer) in
    let all : r.errno ≡ E2BIG → c.loop-id.size ≡ c.args.call.options.size = λ is.
    elim c.then-ne.branch [
      | then-ne-via-then-ne w ↦ search (rules, is, w.if-ne)
      | then-ne-via-else-ne+then-size-most w ↦ omega (arith, at.2, w.if-size-most)
    ] in
    inr (inr (record {
      room = c.loop-id.size;
      is_room = record { within = at.2; cut = at.4 };
      all = all;
      refused = told;
    }))
