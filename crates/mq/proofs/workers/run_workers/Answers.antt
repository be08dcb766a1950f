use Rattle.std.proofs.Common.{◌≡◌, length, rules, arith, vec_len}
use Rattle.mq_system.specs.Started.{AreFresh}
use Rattle.mq.proofs.WorkerLemmas.{none_left}
use Rattle.mq.proofs.workers.run_workers.Goals as goal

pub returns-then-is_empty-clause-after : goal.returns-then-is_empty-clause-after
returns-then-is_empty-clause-after g c =
    let none : vec_len c.args.workers ≡ 0 = search rules in
    let nobody : length c.args.workers.items ≡ 0 = omega (arith, none, c.args.workers.ok.0) in
    let one : c.args.config.seats ≡ 1 = c.requires.none nobody in
    let count : vec_len c.in-Ok.seats ≡ g.N.Names.seats = search rules in
    let seats : length c.in-Ok.seats.items ≡ 1 = omega (arith, one, count, c.requires.names.seats, c.in-Ok.seats.ok.0) in
    let fresh : AreFresh g.N.Names.slots c.in-Ok.seats.items = search rules in
    none_left g.W.Worker.after g.N.Names.last_seq g.N.Names.slots c.in-Ok.seats.items c.args.workers.items c.of.result.answer.items
    c.of.result.slots.items seats fresh (rw c.of.ensures.slots c.close-closed.ensures.ends)
    (rw c.of.ensures.slots c.close-closed.ensures.total) nobody (rw c.of.ensures.answer c.new-then-is_empty.ensures.items)
