use Rattle.std.proofs.Common.{rules, arith, inl, refl, ◌≡◌, ◌≤◌, false, min, vec_capacity}
use Rattle.mq_queue.specs.declared.limits.TheConstants.{MSGMAX}
use Rattle.mq_system.proofs.LaterLemmas.{look_self}
use Rattle.mq_system.specs.declared.many.TheConstants.{MAX_BATCH}
use Rattle.mq.specs.Batches.{AreReceivedTexts}
use Rattle.mq.proofs.BatchLemmas.{all_vowed, readable, values_received}
use Rattle.mq.proofs.caller.Caller.receive_values_within.Goals as goal

pub returns-then-most-eq0-clause-answer : goal.returns-then-most-eq0-clause-answer
returns-then-most-eq0-clause-answer g c =
    let none : 0 ≡ min c.args.most MAX_BATCH = search (rules, arith) in
    rw (c.none.ensures.values, c.none.ensures.unread, c.none.ensures.ended) (inl (record {
      now = c.args.self.now.seat;
      look = look_self c.args.self.now.seat;
      turns = refl;
      all = none;
      refused = tt;
    }))

pub read_values-requires-clause-texts : goal.read_values-requires-clause-texts
read_values-requires-clause-texts g c =
    let slots = g.N.Names.slots in
    let got = c.receive_texts_within-texts in
    let moment = got.new.self.moments.now in
    let n = min c.args.most MAX_BATCH in
    let told : AreReceivedTexts g.P.Pledge.kept slots c.args.id MSGMAX c.args.selection false
    g.T.Patience.ends moment n c.args.self.now.seat got.new.self.seat got.result.texts.items got.result.ended =
    search (rules, got.ensures.answer) in
    let big : MSGMAX ≤ vec_capacity c.reserve-reserved.new.self = search (rules, arith) in
    readable g.P.Pledge.kept slots c.args.id MSGMAX c.args.selection moment
    (vec_capacity c.reserve-reserved.new.self) g.T.Patience.ends n c.args.self.now.seat got.new.self.seat
    got.result.texts.items got.result.ended big told

pub returns-clause-answer : goal.returns-clause-answer
returns-clause-answer g c =
    let slots = g.N.Names.slots in
    let got = c.receive_texts_within-texts in
    let moment = got.new.self.moments.now in
    let n = min c.args.most MAX_BATCH in
    let told : AreReceivedTexts g.P.Pledge.kept slots c.args.id MSGMAX c.args.selection false
    g.T.Patience.ends moment n c.args.self.now.seat got.new.self.seat got.result.texts.items got.result.ended =
    search (rules, got.ensures.answer) in
    rw (c.read_values.ensures.moments, c.read_values.ensures.seat, c.from_vec.ensures.items)
    (values_received g.P.Value.Wire.bytes_of g.P.ValuePledge.vowed g.P.Pledge.kept slots c.args.id MSGMAX
    c.args.selection moment g.T.Patience.ends n c.args.self.now.seat got.new.self.seat got.result.texts.items
    got.result.ended g.P.Value.Wire.allocates c.read_values.new.values.items c.read_values.new.texts.items
    told c.read_values.ensures.answer)

pub returns-clause-vow : goal.returns-clause-vow
returns-clause-vow g c =
    let read = c.read_values.ensures.answer in
    rw c.from_vec.ensures.items (all_vowed g.P.Value.Wire.bytes_of g.P.ValuePledge.vowed read.read
    c.read_values.new.values.items read.each)
