use Rattle.std.proofs.Common.{◌≡◌, ℕ, pos, int_lt, false, Ok, Err, ap, refl, sym, rules, ◌∙◌}
use mir.Val.{SFits}
use mir.Syntax.{w64}
use Rattle.std.proofs.lemmas.Int.{to_z-of_z}
use Rattle.mq_arena.specs.Text.{PlainText}
use Rattle.mq_message.specs.declared.message.Message.{Message}
use Rattle.mq_table.specs.Calls.{sends}
use Rattle.mq_table.specs.KeptCalls.{kept_sends}
use Rattle.mq_table.proofs.Kepts.{live_is}
use Rattle.mq_table.proofs.Whole.{send_refused}
use Rattle.mq_calls.specs.Look.{errno_of, refused_early}
use Rattle.mq_calls.specs.Texts.{bytes_of}
use Rattle.mq_calls.specs.declared.errno.Errno.TheVariants.{EINVAL}
use Rattle.mq_system.specs.Answer.{SlotAnswer, in_slot_queue, refused_here}
use Rattle.mq_system.specs.Answer.{refused_or_memory_in_slot}
use Rattle.mq_system.proofs.AnswerLemmas.{answered_by, refused_by}
use Rattle.mq_system.proofs.RefusalLemmas.{if_false}
use Rattle.mq_system.specs.Shared.{locked_all}
use Rattle.mq_system.proofs.SharedLemmas.{has_appended, send_appends}
use Rattle.mq_system.proofs.slots.slot.SlotParts.send.Goals as goal

pub send-requires : goal.send-requires
send-requires g c = record {
  live = live_is _ _ c.requires.behind.shared.published.kept ∙ c.in-Ok.ensures.live;
}

pub returns-in-Ok-send-clause-behind : goal.returns-in-Ok-send-clause-behind
returns-in-Ok-send-clause-behind g c =
    let fits : SFits w64 c.args.letter.mtype = search rules in
    let message : Message PlainText = record {
      mtype = c.args.letter.mtype;
      tag = c.args.letter.tag;
      body = c.args.letter.text;
      sender = c.number.result;
    } in
    let told : kept_sends bytes_of c.args.self.now.slot message c.args.moment ≡ Ok (c.in-Ok-send.entry, c.send.new.self) =
    search (rules, to_z-of_z) in
    rw (← c.number.ensures) (send_appends _ _ _ _ c.args.self.now.writer _ _ _ _ (rw (← c.number.ensures) at c.requires.behind) c.holds.ensures.few c.holds.ensures.made c.in-Ok.ensures.live message
    c.args.moment c.in-Ok-send.entry refl (rw c.number.ensures c.requires.pledge) told).behind

pub returns-in-Ok-send-clause-answer : goal.returns-in-Ok-send-clause-answer
returns-in-Ok-send-clause-answer g c =
    let sent : int_lt c.args.letter.mtype (pos 1) ≡ false = search rules in
    let fits : SFits w64 c.args.letter.mtype = search rules in
    let message : Message PlainText = record {
      mtype = c.args.letter.mtype;
      tag = c.args.letter.tag;
      body = c.args.letter.text;
      sender = c.number.result;
    } in
    let told : kept_sends bytes_of c.args.self.now.slot message c.args.moment ≡ Ok (c.in-Ok-send.entry, c.send.new.self) =
    search (rules, to_z-of_z) in
    let its = send_appends _ _ _ _ c.args.self.now.writer _ _ _ _ (rw (← c.number.ensures) at c.requires.behind) c.holds.ensures.few c.holds.ensures.made c.in-Ok.ensures.live message
    c.args.moment c.in-Ok-send.entry refl (rw c.number.ensures c.requires.pledge) told in
    let there = c.in-Ok.ensures.value in
    let queue = answered_by (locked_all c.args.self.now.writer.events c.args.self.now.slot).whole _ there _ _ _ its.left in
    let ok = if_false (int_lt c.args.letter.mtype (pos 1)) (Err (refused_early EINVAL)) _ sent ∙ queue in
    rw (← c.number.ensures) (search (rules, has_appended _ _ _ _ c.args.self.now.writer _ _ _ _ _ its _ _ ok))

pub returns-in-Err-send-clause-answer : goal.returns-in-Err-send-clause-answer
returns-in-Err-send-clause-answer g c =
    let sent : int_lt c.args.letter.mtype (pos 1) ≡ false = search rules in
    let fits : SFits w64 c.args.letter.mtype = search rules in
    let message : Message PlainText = record {
      mtype = c.args.letter.mtype;
      tag = c.args.letter.tag;
      body = c.args.letter.text;
      sender = c.number.result;
    } in
    let live = c.in-Ok.ensures.live in
    let there = c.in-Ok.ensures.value in
    let refused = simp to_z-of_z at c.in-Err-send.ensures.answer.refused in
    let why = refused
    ∙ send_refused _ _ c.requires.behind.shared.published.kept live bytes_of message c.args.moment in
    let s = (locked_all c.args.self.now.writer.events c.args.self.now.slot).whole in
    let is : c.refused.result ≡ refused_here s (errno_of c.in-Err-send.refusal) = search rules in
    let queue = refused_by s _ there (sends bytes_of s message c.args.moment) _ _ why is in
    let asked : SlotAnswer ℕ =
    in_slot_queue s c.args.id (sends bytes_of s message c.args.moment) in
    rw (← c.number.ensures)
    (record {
      why =
          queue
          ∙ ap (λ a. refused_or_memory_in_slot s a)
          (sym (if_false (int_lt c.args.letter.mtype (pos 1)) (Err (refused_early EINVAL)) asked sent));
      unchanged = search rules;
      same = refl;
    })
