use Rattle.std.proofs.Common.{rules, ◌≡◌, ◌<◌, ◌∙◌, length, refl, sym, ap, arith}
use mir.Val.{SFits}
use mir.Syntax.{w64}
use Rattle.std.proofs.lemmas.Int.{to_z-of_z}
use Rattle.std.proofs.lemmas.List.{length-map}
use Rattle.mq_calls.specs.declared.errno.Errno.TheVariants.{ENOMSG}
use Rattle.mq_cli.specs.Ports.{taken_of}
use Rattle.mq_cli.proofs.BatchLemmas.{batch_counted, took_some, took_until}
use Rattle.mq_cli.proofs.threads.system_port.SystemPort.take_batch.Goals as goal

pub returns-in-Ok-clause-calls : goal.returns-in-Ok-clause-calls
returns-in-Ok-clause-calls g c =
    let fits : SFits w64 c.args.call.now.msgtyp = search rules in
    let selected = simp to_z-of_z at c.read.ensures in
    let told = rw selected at c.in-Ok.ensures.answer in
    batch_counted g.N.Names.slots c.args.call.now.id c.args.call.now.msgtyp c.args.call.now.moment g.T.Patience.ends _ c.args.self.now.seat.now c.msgrcv_many_within-ended.new.seat
    c.msgrcv_many_within-ended.new.out.items c.spend_all.new.out.items _ c.spend_all.ensures told

pub returns-in-Ok-clause-done : goal.returns-in-Ok-clause-done
returns-in-Ok-clause-done g c =
    let fits : SFits w64 c.args.call.now.msgtyp = search rules in
    let selected = simp to_z-of_z at c.read.ensures in
    let told = rw selected at c.in-Ok.ensures.answer in
    took_some (λ p. p.seat.now) (λ p s. record p { seat = record p.seat { now = s } }) (λ p s. refl {a = s}) g.N.Names.slots c.args.call.now.id c.args.call.now.msgtyp g.T.Patience.ends c.args.call.now.moment _ _
    c.args.self.now _ c.msgrcv_many_within-ended.new.out.items c.spend_all.new.out.items _ c.spend_all.ensures (omega (arith, told.all)) (omega (arith, told.all)) told

pub returns-then-ne-clause-calls : goal.returns-then-ne-clause-calls
returns-then-ne-clause-calls g c =
    let fits : SFits w64 c.args.call.now.msgtyp = search rules in
    let selected = simp to_z-of_z at c.read.ensures in
    let told = rw selected at c.in-Err.ensures.answer in
    batch_counted g.N.Names.slots c.args.call.now.id c.args.call.now.msgtyp c.args.call.now.moment g.T.Patience.ends _ c.args.self.now.seat.now c.msgrcv_many_within-ended.new.seat
    c.msgrcv_many_within-ended.new.out.items c.spend_all.new.out.items _ c.spend_all.ensures told

pub returns-then-ne-clause-done : goal.returns-then-ne-clause-done
returns-then-ne-clause-done g c =
    let fits : SFits w64 c.args.call.now.msgtyp = search rules in
    let selected = simp to_z-of_z at c.read.ensures in
    let told = rw selected at c.in-Err.ensures.answer in
    let count : length c.spend_all.new.out.items ≡ length c.msgrcv_many_within-ended.new.out.items =
    ap length c.spend_all.ensures ∙ length-map c.msgrcv_many_within-ended.new.out.items taken_of in
    let none : c.in-Err.refused.errno ≡ ENOMSG → length c.msgrcv_many_within-ended.new.out.items ≡ 0 =
    λ same. sym count ∙ search (rules, same) in
    took_until (λ p. p.seat.now) (λ p s. record p { seat = record p.seat { now = s } }) (λ p s. refl {a = s}) g.N.Names.slots c.args.call.now.id c.args.call.now.msgtyp g.T.Patience.ends c.args.call.now.moment _ _
    c.args.self.now _ c.msgrcv_many_within-ended.new.out.items c.spend_all.new.out.items c.in-Err.refused c.spend_all.ensures (omega arith) none told

pub returns-else-is_empty-clause-calls : goal.returns-else-is_empty-clause-calls
returns-else-is_empty-clause-calls g c =
    let fits : SFits w64 c.args.call.now.msgtyp = search rules in
    let selected = simp to_z-of_z at c.read.ensures in
    let told = rw selected at c.in-Err.ensures.answer in
    batch_counted g.N.Names.slots c.args.call.now.id c.args.call.now.msgtyp c.args.call.now.moment g.T.Patience.ends _ c.args.self.now.seat.now c.msgrcv_many_within-ended.new.seat
    c.msgrcv_many_within-ended.new.out.items c.spend_all.new.out.items _ c.spend_all.ensures told

pub returns-else-is_empty-clause-done : goal.returns-else-is_empty-clause-done
returns-else-is_empty-clause-done g c =
    let fits : SFits w64 c.args.call.now.msgtyp = search rules in
    let selected = simp to_z-of_z at c.read.ensures in
    let told = rw selected at c.in-Err.ensures.answer in
    let count : length c.spend_all.new.out.items ≡ length c.msgrcv_many_within-ended.new.out.items =
    ap length c.spend_all.ensures ∙ length-map c.msgrcv_many_within-ended.new.out.items taken_of in
    let some : 0 < length c.spend_all.new.out.items = search rules in
    took_some (λ p. p.seat.now) (λ p s. record p { seat = record p.seat { now = s } }) (λ p s. refl {a = s}) g.N.Names.slots c.args.call.now.id c.args.call.now.msgtyp g.T.Patience.ends c.args.call.now.moment _ _
    c.args.self.now _ c.msgrcv_many_within-ended.new.out.items c.spend_all.new.out.items _ c.spend_all.ensures (omega (arith, count, some)) (omega (arith, told.all)) told
