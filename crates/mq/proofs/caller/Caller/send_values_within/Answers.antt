use Rattle.std.proofs.Common.{rules, arith, ◌≡◌, ◌+◌, ◌-◌, ◌<◌, length, Ok, Err, ap, ◌∙◌, length-append}
use Rattle.mq_system.specs.SeenMany.{AreSent}
use Rattle.mq_system.specs.declared.many.TheConstants.{MAX_BATCH}
use Rattle.mq.specs.ValueBatches.{AreDrafted, AreValuesSent}
use Rattle.mq.proofs.BatchLemmas.{all_sent, none_sent, some_sent}
use Rattle.mq.proofs.caller.Caller.send_values_within.Goals as goal

pub returns-in_default-clause-answer : goal.returns-in_default-clause-answer
returns-in_default-clause-answer g c =
    let some : 0 < length c.args.letters.now = search (rules, arith) in
    none_sent g.P.Value.Wire.bytes_of g.N.Names.slots c.args.id g.N.Names.height c.args.self.now.moments.now
    g.T.Patience.ends c.args.self.now.seat c.args.letters.now some

pub returns-in-Ok-ended-clause-answer : goal.returns-in-Ok-ended-clause-answer
returns-in-Ok-ended-clause-answer g c =
    let slots = g.N.Names.slots in
    let moment = c.send_texts_within-sent.new.self.moments.now in
    let seat = c.args.self.now.seat in
    let new = c.send_texts_within-sent.new.self.seat in
    let drafts = c.from_vec-texts.result.items in
    let left = c.send_texts_within-sent.new.letters.items in
    let first = c.send_texts_within-sent.result.first in
    let drafted : AreDrafted g.P.Value.Wire.bytes_of slots g.N.Names.height c.args.id g.T.Patience.ends
    c.args.letters.now drafts c.draft_values-drafted.result =
    rw c.from_vec-texts.ensures.items c.draft_values-drafted.ensures.answer in
    let sent : AreSent slots c.args.id g.T.Patience.ends moment MAX_BATCH seat new drafts left first (Ok tt) =
    search (rules, c.send_texts_within-sent.ensures.answer) in
    let long : length drafts ≡ length sent.sent + length left =
    ap length sent.split ∙ length-append sent.sent left in
    let counted : (c.len-count.result - c.len.result) + length left ≡ length drafts =
    search (rules, arith, long) in
    let told : AreValuesSent g.P.Value.Wire.bytes_of slots g.N.Names.height c.args.id g.T.Patience.ends moment seat
    new c.args.letters.now (record {
      count = c.len-count.result - c.len.result;
      first = first;
      ended = c.draft_values-drafted.result;
    }) =
    all_sent g.P.Value.Wire.bytes_of slots c.args.id g.N.Names.height moment g.T.Patience.ends seat new
    c.args.letters.now drafts left first c.draft_values-drafted.result (c.len-count.result - c.len.result)
    drafted sent counted in
    search (rules, told)

pub returns-in-Err-clause-answer : goal.returns-in-Err-clause-answer
returns-in-Err-clause-answer g c =
    let slots = g.N.Names.slots in
    let moment = c.send_texts_within-sent.new.self.moments.now in
    let seat = c.args.self.now.seat in
    let new = c.send_texts_within-sent.new.self.seat in
    let drafts = c.from_vec-texts.result.items in
    let left = c.send_texts_within-sent.new.letters.items in
    let first = c.send_texts_within-sent.result.first in
    let drafted : AreDrafted g.P.Value.Wire.bytes_of slots g.N.Names.height c.args.id g.T.Patience.ends
    c.args.letters.now drafts c.draft_values-drafted.result =
    rw c.from_vec-texts.ensures.items c.draft_values-drafted.ensures.answer in
    let sent : AreSent slots c.args.id g.T.Patience.ends moment MAX_BATCH seat new drafts left first
    (Err c.in-Err.refused) =
    search (rules, c.send_texts_within-sent.ensures.answer) in
    let long : length drafts ≡ length sent.sent + length left =
    ap length sent.split ∙ length-append sent.sent left in
    let counted : (c.len-count.result - c.len.result) + length left ≡ length drafts =
    search (rules, arith, long) in
    let told : AreValuesSent g.P.Value.Wire.bytes_of slots g.N.Names.height c.args.id g.T.Patience.ends moment seat
    new c.args.letters.now (record {
      count = c.len-count.result - c.len.result;
      first = first;
      ended = Err c.in-Err.refused;
    }) =
    some_sent g.P.Value.Wire.bytes_of slots c.args.id g.N.Names.height moment g.T.Patience.ends seat new
    c.args.letters.now drafts left first c.draft_values-drafted.result c.in-Err.refused
    (c.len-count.result - c.len.result) drafted sent counted in
    search (rules, told)
