use Rattle.std.proofs.Common.{◌≡◌, List, [], take, rules, sym, subst}
use Rattle.mq_trace.specs.declared.refusal.Refusal.{Refusal}
use Rattle.mq_cli.specs.RecordedThreads.{RecordedMain}
use Rattle.mq_cli.proofs.MainLemmas.{taken_more}
use Rattle.mq_cli.proofs.RecordThreadsLemmas.{recorded_more, recorded_nothing}
use Rattle.mq_cli.proofs.threads.main_part.record_main.Goals as goal

pub loop-call-init : goal.loop-call-init
loop-call-init g c =
    let slots = g.N.Names.slots in
    let last_seq = g.N.Names.last_seq in
    let none : c.new-refusals.result.items ≡ [] = search rules in
    subst (λ (l : List Refusal). RecordedMain slots last_seq [] l c.args.seat.now c.args.seat.now) (sym none) (recorded_nothing slots last_seq c.args.seat.now)

pub loop-call-preserved : goal.loop-call-preserved
loop-call-preserved g c =
    let calls = c.args.calls.now in
    let k = c.loop-call.call-index in
    let call = c.call-item.result in
    let more = taken_more calls k call c.loop-call-test.true c.call-item.is in
    rw more
    (recorded_more g.N.Names.slots g.N.Names.last_seq (take k calls) call _ _ _ _ _ _ _ _ _ c.loop-call.invariant c.in_ok-told.ensures c.refusal_in_main.ensures c.in_ok-keep.ensures)
