use Rattle.std.proofs.Common.{◌≡◌, length, refl, rules, ◌∙◌}
use Rattle.mq_queue.specs.Answer.{received_header}
use Rattle.mq_table.specs.Calls.{receives}
use Rattle.mq_table.proofs.Kepts.{entries_is, live_is}
use Rattle.mq_table.proofs.Whole.{receive_refused}
use Rattle.mq_calls.specs.Look.{errno_of}
use Rattle.mq_system.specs.Answer.{refused_here}
use Rattle.mq_system.proofs.AnswerLemmas.{answered_by, not_delivered, refused_by}
use Rattle.mq_system.proofs.PledgeLemmas.{delivers_it, found_pledged, meets, meets_whole, receipt_fits}
use Rattle.mq_system.specs.Shared.{locked_all}
use Rattle.mq_system.proofs.SharedLemmas.{has_appended, receive_appends}
use Rattle.mq_system.proofs.slots.slot.SlotParts.receive.Goals as goal

pub receive-requires : goal.receive-requires
receive-requires g c = record {
  live = live_is _ _ c.requires.behind.shared.published.kept ∙ c.in_ok-look.ensures.live;
}

pub returns-in-Ok-clause-behind : goal.returns-in-Ok-clause-behind
returns-in-Ok-clause-behind g c =
    rw (← c.number-number.ensures) (receive_appends _ _ _ _ c.args.self.now.writer _ c.receive.new.self _ _ (rw (← c.number-number.ensures) at c.requires.behind) c.holds.ensures.few c.holds.ensures.made c.in_ok-look.ensures.live c.args.request.now.size
    c.args.request.now.selection c.args.request.now.noerror c.args.request.now.moment (received_header c.in-Ok.received) (cc (c.in-Ok.ensures.answer.ok))).behind

pub returns-in-Ok-clause-answer : goal.returns-in-Ok-clause-answer
returns-in-Ok-clause-answer g c =
    let its = receive_appends _ _ _ _ c.args.self.now.writer _ _ _ _ (rw (← c.number-number.ensures) at c.requires.behind) c.holds.ensures.few c.holds.ensures.made c.in_ok-look.ensures.live c.args.request.now.size
    c.args.request.now.selection c.args.request.now.noerror c.args.request.now.moment _ c.in-Ok.ensures.answer.ok in
    let there = c.in_ok-look.ensures.value in
    let at = c.in-Ok.ensures.answer.entry ∙ entries_is _ _ c.requires.behind.shared.published.kept in
    let turn = delivers_it c.args.self.now.slot.messages c.args.request.now.size _ c.in-Ok.received at _ _ its.left c.in-Ok.ensures.answer.waited.body in
    let ok = answered_by (locked_all c.args.self.now.writer.events c.args.self.now.slot).whole _ there _ _ _ turn in
    rw (c.of.ensures, ← c.number-number.ensures)
    (search (rules, has_appended _ _ _ _ c.args.self.now.writer _ _ _ _ _ its _ _ ok))

pub returns-in-Ok-clause-pledge : goal.returns-in-Ok-clause-pledge
returns-in-Ok-clause-pledge g c =
    let its = receive_appends _ _ _ _ c.args.self.now.writer _ _ _ _ (rw (← c.number-number.ensures) at c.requires.behind) c.holds.ensures.few c.holds.ensures.made c.in_ok-look.ensures.live c.args.request.now.size
    c.args.request.now.selection c.args.request.now.noerror c.args.request.now.moment _ c.in-Ok.ensures.answer.ok in
    let r = c.in-Ok.received in
    let met = meets g.P.Pledge.kept c.args.request.now.size r _
    (found_pledged g.P.Pledge.kept c.args.self.now.slot.messages r.place c.requires.behind.shared.pledged)
    c.in-Ok.ensures.answer.waited.sent c.in-Ok.ensures.answer.waited.body in
    rw c.of.ensures
    (record {
      part = met;
      uncut =
          λ cut. meets_whole g.P.Pledge.kept c.args.request.now.size r met
          (receipt_fits (locked_all c.args.self.now.writer.events c.args.self.now.slot).whole _ c.args.request.now.size c.args.request.now.selection c.number-number.result c.args.request.now.moment _
          c.args.request.now.noerror cut its.left);
    })

pub returns-in-Err-clause-answer : goal.returns-in-Err-clause-answer
returns-in-Err-clause-answer g c =
    let live = c.in_ok-look.ensures.live in
    let there = c.in_ok-look.ensures.value in
    let s = (locked_all c.args.self.now.writer.events c.args.self.now.slot).whole in
    let why = c.in-Err.ensures.answer.refused
    ∙ receive_refused _ _ c.requires.behind.shared.published.kept live c.args.request.now.size c.args.request.now.selection
    c.args.request.now.noerror c.number-number.result c.args.request.now.moment
    ∙ not_delivered c.args.self.now.slot.messages c.args.request.now.size (length s.events)
    (receives s c.args.request.now.size c.args.request.now.selection c.args.request.now.noerror c.number-number.result c.args.request.now.moment) in
    let is : c.refused.result ≡ refused_here s (errno_of c.in-Err.refusal) = search rules in
    (record {
      why = rw (← c.number-number.ensures) (refused_by s _ there _ _ _ why is);
      unchanged = search rules;
      same = refl;
    })
