use Rattle.std.proofs.Common.{◌≡◌, ◌≤◌, ◌∷◌, [], vec_capacity, refl, arith}
use Rattle.mq_cli.proofs.BatchLemmas.{of_more, took_none, took_one}
use Rattle.mq_cli.proofs.threads.system_port.SystemPortPort.take_many.Goals as goal

pub returns-in-Ok-clause-done : goal.returns-in-Ok-clause-done
returns-in-Ok-clause-done g c =
    let few : vec_capacity c.in-Ok.batch ≤ c.args.most = omega (arith, c.in-Ok.ensures.exact, c.min.ensures) in
    let told = c.take_batch.ensures.done in
    of_more _ c.args.call.now.id c.args.call.now.msgtyp g.T.Patience.ends c.args.call.now.moment (vec_capacity c.in-Ok.batch) c.args.most _ _ _ _ few told

pub returns-in-Ok-take_one-clause-done : goal.returns-in-Ok-take_one-clause-done
returns-in-Ok-take_one-clause-done g c =
    let told = c.in-Ok-take_one.ensures.done in
    let one : c.push_reserved.new.self.items ≡ c.in-Ok-take_one.taken ∷ [] = rw c.requires.empty at c.push_reserved.ensures.items in
    took_one (λ p. p.seat.now) (λ p s. record p { seat = record p.seat { now = s } }) (λ p s. refl {a = s}) g.N.Names.slots c.args.call.now.id c.args.call.now.msgtyp g.T.Patience.ends c.args.call.now.moment c.args.most c.args.self.now
    c.take_one.new.self c.in-Ok-take_one.taken c.push_reserved.new.self.items one c.requires.some told

pub returns-in-Err-clause-done : goal.returns-in-Err-clause-done
returns-in-Err-clause-done g c =
    let told = c.in-Err.ensures.done in
    took_none (λ p. p.seat.now) (λ p s. record p { seat = record p.seat { now = s } }) (λ p s. refl {a = s}) g.N.Names.slots c.args.call.now.id c.args.call.now.msgtyp g.T.Patience.ends c.args.call.now.moment c.args.most c.args.self.now
    c.take_one.new.self c.args.out.now.items c.in-Err.errno c.requires.empty c.requires.some told
