use Rattle.std.proofs.Common.{rules, inl, inr, ◌≡◌, ◌<◌, false, min, refl, arith}
use Rattle.mq_queue.specs.declared.limits.TheConstants.{MSGMAX}
use Rattle.mq_table.specs.Ids.{seq_of, slot_of}
use Rattle.mq_calls.specs.declared.errno.Errno.TheVariants.{E2BIG}
use Rattle.mq_system.specs.Outcome.{IsNotReceived, IsReceived}
use Rattle.mq_system.specs.Refusals.{MayReceive, out_of_slots}
use Rattle.mq_system.specs.Seen.{receive_verdict}
use Rattle.mq_system.proofs.LaterLemmas.{look_self}
use Rattle.mq.specs.Caller.{is_selectable}
use Rattle.mq.proofs.ReceiptLemmas.{looked, not_cut, received_after, too_long, turned_after}
use Rattle.mq.proofs.receive.take.Goals as goal
use Rattle.mq.proofs.receive.take.Goals.{then-ne-via-then-ne, then-ne-via-else-ne+then-size-most}

pub returns-in_default-clause-answer : goal.returns-in_default-clause-answer
returns-in_default-clause-answer g c =
    let other : is_selectable c.args.call.selection ≡ false = search rules in record {
      room = min c.args.call.options.size MSGMAX;
      is_room = record { within = search rules; cut = λ _. refl };
      all = λ is. absurd (cc is);
      turned = record {
        allowed = tt;
        look = look_self c.args.seat.now;
        why = inl (inl ((refl, other), refl));
      };
    }

pub returns-then-is_err-clause-answer : goal.returns-then-is_err-clause-answer
returns-then-is_err-clause-answer g c =
    let at = c.loop-id.invariant in
    let some : 0 < c.args.call.options.size = search (rules, arith, at.2) in record {
      room = c.loop-id.size;
      is_room = record { within = at.2; cut = at.4 };
      all = λ is. absurd (cc is);
      turned = record {
        allowed = tt;
        look = looked g.N.Names.slots c.args.call.id c.args.call.options.size c.args.call.selection
            c.args.call.options.noerror g.T.Patience.ends c.args.seat.now c.loop-id.seat at.0;
        why = inl (inr (refl, some, at.0));
      };
    }

pub returns-in-Ok-clause-answer : goal.returns-in-Ok-clause-answer
returns-in-Ok-clause-answer g c =
    let at = c.loop-id.invariant in
    let look = looked g.N.Names.slots c.args.call.id c.args.call.options.size c.args.call.selection c.args.call.options.noerror
    g.T.Patience.ends c.args.seat.now c.loop-id.seat at.0 in
    let told : IsReceived g.P.Pledge.kept g.N.Names.slots c.args.call.id c.loop-id.size c.args.call.selection
    c.args.call.options.noerror c.args.call.moment c.loop-id.seat c.msgrcv_within.new.seat c.in-Ok.received =
    search (rules, c.in-Ok.ensures.answer) in record {
      room = c.loop-id.size;
      is_room = record { within = at.2; cut = at.4 };
      received = received_after g.P.Pledge.kept g.N.Names.slots c.args.call.id c.loop-id.size c.args.call.selection
          c.args.call.options.noerror c.args.call.moment c.args.seat.now c.loop-id.seat
          c.msgrcv_within.new.seat c.in-Ok.received look told;
    }

pub returns-then-ne-clause-answer : goal.returns-then-ne-clause-answer
returns-then-ne-clause-answer g c =
    let at = c.loop-id.invariant in
    let look = looked g.N.Names.slots c.args.call.id c.args.call.options.size c.args.call.selection c.args.call.options.noerror
    g.T.Patience.ends c.args.seat.now c.loop-id.seat at.0 in
    let r = c.in-Err.refused in
    let told : IsNotReceived g.N.Names.slots c.args.call.id c.loop-id.size c.args.call.selection
    c.args.call.options.noerror g.T.Patience.ends c.loop-id.seat c.msgrcv_within.new.seat r =
    search (rules, c.in-Err.ensures.answer) in
    let turned = turned_after (out_of_slots g.N.Names.slots c.args.call.id)
    (MayReceive g.T.Patience.ends c.args.call.options.noerror) (slot_of c.args.call.id)
    (receive_verdict (seq_of c.args.call.id) c.loop-id.size c.args.call.selection c.args.call.options.noerror)
    c.args.seat.now c.loop-id.seat c.msgrcv_within.new.seat r look told in
    let all : r.errno ≡ E2BIG → c.loop-id.size ≡ c.args.call.options.size = λ is.
    elim c.then-ne.branch [
      | then-ne-via-then-ne w ↦ search (rules, is, w.if-ne)
      | then-ne-via-else-ne+then-size-most w ↦ omega (arith, at.2, w.if-size-most)
    ] in record {
      room = c.loop-id.size;
      is_room = record { within = at.2; cut = at.4 };
      all = all;
      turned = record {
        allowed = search (rules, turned);
        look = turned.look;
        why = inr (record { entry = r.entry; turned = turned });
      };
    }

pub loop-id-preserved : goal.loop-id-preserved
loop-id-preserved g c =
    let at = c.loop-id.invariant in
    let look = looked g.N.Names.slots c.args.call.id c.args.call.options.size c.args.call.selection c.args.call.options.noerror
    g.T.Patience.ends c.args.seat.now c.loop-id.seat at.0 in
    let r = c.in-Err.refused in
    let told : IsNotReceived g.N.Names.slots c.args.call.id c.loop-id.size c.args.call.selection
    c.args.call.options.noerror g.T.Patience.ends c.loop-id.seat c.msgrcv_within.new.seat r =
    search (rules, c.in-Err.ensures.answer) in
    let long : r.errno ≡ E2BIG = search rules in
    let less : c.loop-id.size < c.args.call.options.size = search (rules, arith) in
    let may = MayReceive g.T.Patience.ends c.args.call.options.noerror in
    let verdict =
    receive_verdict (seq_of c.args.call.id) c.loop-id.size c.args.call.selection c.args.call.options.noerror in
    let uncut : c.args.call.options.noerror ≡ false = not_cut (out_of_slots g.N.Names.slots c.args.call.id)
    g.T.Patience.ends c.args.call.options.noerror (slot_of c.args.call.id)
    (receive_verdict (seq_of c.args.call.id) c.loop-id.size c.args.call.selection c.args.call.options.noerror)
    c.loop-id.seat c.msgrcv_within.new.seat r told long in (
      inr (
        c.loop-id.size,
        less,
        too_long (out_of_slots g.N.Names.slots c.args.call.id) may (slot_of c.args.call.id)
            verdict c.args.seat.now c.msgrcv_within.new.seat r long
            (turned_after (out_of_slots g.N.Names.slots c.args.call.id) may (slot_of c.args.call.id) verdict
            c.args.seat.now c.loop-id.seat c.msgrcv_within.new.seat r look told),
      ),
      search rules,
      search (rules, arith),
      search (rules, arith, at.3),
      λ cut. absurd (cc (uncut, cut)),
    )
