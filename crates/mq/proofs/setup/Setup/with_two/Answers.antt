use Rattle.std.proofs.Common.{refl, rules}
use Rattle.mq.specs.Workers.{AreOfTwo}
use Rattle.mq.proofs.EitherLemmas.{two_after, same_two}
use Rattle.mq.proofs.setup.Setup.with_two.Goals as goal

pub apart-requires-clause-len : goal.apart-requires-clause-len
apart-requires-clause-len g c =
    let left = c.in_ok-ended.ensures.after in
    let two = two_after g.A.Worker.after g.B.Worker.after c.args.one c.args.other c.in-Ok.workers.items left.seats
    c.in_ok-ended.ended.answer.items (search rules) left.each in
    rw two.answers_are refl

pub apart-requires-clause-two : goal.apart-requires-clause-two
apart-requires-clause-two g c =
    let left = c.in_ok-ended.ensures.after in
    let two = two_after g.A.Worker.after g.B.Worker.after c.args.one c.args.other c.in-Ok.workers.items left.seats
    c.in_ok-ended.ended.answer.items (search rules) left.each in
    (two.x, two.y, two.answers_are)

pub returns-clause-after : goal.returns-clause-after
returns-clause-after g c =
    let left = c.in_ok-ended.ensures.after in
    let two = two_after g.A.Worker.after g.B.Worker.after c.args.one c.args.other c.in-Ok.workers.items left.seats
    c.in_ok-ended.ended.answer.items (search rules) left.each in
    let same = same_two g.A.Worker.after g.B.Worker.after c.in_ok-ended.ended.answer.items two.x c.apart.result.0 two.y c.apart.result.1
    two.answers_are c.apart.ensures in
    let told : AreOfTwo g.A.Worker.after g.B.Worker.after c.args.self.config.last_seq c.args.one c.args.other c.apart.result
    c.in_ok-ended.ended.slots.items =
    record {
      seat = two.seat;
      next = two.next;
      one_is = rw same.0 two.one_is;
      other_is = rw same.1 two.other_is;
      changes = rw two.seats_are at left.changes;
    } in
    search (rules, told)
