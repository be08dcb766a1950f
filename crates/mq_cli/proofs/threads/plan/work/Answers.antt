use Rattle.std.proofs.Common.{rules, ◌≡◌, ◌+◌, ◌^◌, ◌<◌, ◌++◌, ◌∷◌, [], List, take, take_all, take-append-drop, drop, None, Some, refl, sym, ap, subst, ◌∙◌, append_assoc, arith}
use Rattle.std.proofs.lemmas.Grind.{common_steps}
use Rattle.std.proofs.lemmas.List.Sums.{sum_by_more_le}
use Rattle.mq_cli.specs.declared.threads.step.Step.{Step}
use Rattle.mq_cli.specs.Plans.{puts_in, puts_of, removes_in, removes_of, takes_in, takes_of}
use Rattle.mq_cli.specs.Works.{HasWorked}
use Rattle.mq_cli.specs.contracts.threads.notes.StreamPartialEq.TheImpl.{eq-value}
use Rattle.mq_cli.proofs.FarLemmas.{far_end, far_more, far_until, told_end, told_received, told_sent}
use Rattle.mq_cli.proofs.MainLemmas.{taken_more}
use Rattle.mq_cli.proofs.WorkLemmas.{none_called}
use Rattle.mq_cli.proofs.threads.plan.work.Goals as goal

pub loop-step-init : goal.loop-step-init
loop-step-init g c =
    let p = g.Q.Port in (
      refl,
      refl,
      omega arith,
      record {
        received = [];
        called = none_called p.puts p.takes p.removes c.args.port.now;
        count = refl;
        notes = c.new.ensures;
      },
    )

pub step-requires : goal.step-requires
step-requires g c =
    let puts = sum_by_more_le puts_of c.args.plan.now c.loop-step.step-index c.step-item.result (search rules) in
    let takes = sum_by_more_le takes_of c.args.plan.now c.loop-step.step-index c.step-item.result (search rules) in
    let put = ap puts_of c.step-item.is in
    let taken = ap takes_of c.step-item.is in
    let sent : c.loop-step.progress.sent + puts_of c.step-item.result < 2 ^ 64 = omega (arith, puts, put, c.loop-step.invariant.0, c.requires) in
    let received : c.loop-step.progress.received + takes_of c.step-item.result < 2 ^ 64 = omega (arith, takes, taken, c.loop-step.invariant.1, c.requires) in
    record { sent = sent; received = received }

pub returns-in-Err-clause-done : goal.returns-in-Err-clause-done
returns-in-Err-clause-done g c =
    let puts = sum_by_more_le puts_of c.args.plan.now c.loop-step.step-index c.step-item.result (search rules) in
    let takes = sum_by_more_le takes_of c.args.plan.now c.loop-step.step-index c.step-item.result (search rules) in
    let sent : c.outcome.result.sent ≡ c.step.new.self.sent = told_sent c.outcome.result c.step.new.self _ c.outcome.ensures in
    let received : c.outcome.result.received ≡ c.step.new.self.received = told_received c.outcome.result c.step.new.self _ c.outcome.ensures in
    let end : c.outcome.result.end ≡ Some c.in-Err.errno = search (rules, told_end) in
    let counted = c.in-Err.ensures.counted in
    record { all = rw end tt; sent = search rules; received = search rules }

pub returns-in-Err-clause-grown : goal.returns-in-Err-clause-grown
returns-in-Err-clause-grown g c =
    let removals = sum_by_more_le removes_of c.args.plan.now c.loop-step.step-index c.step-item.result (search rules) in
    let sent : c.outcome.result.sent ≡ c.step.new.self.sent = told_sent c.outcome.result c.step.new.self _ c.outcome.ensures in
    let received : c.outcome.result.received ≡ c.step.new.self.received = told_received c.outcome.result c.step.new.self _ c.outcome.ensures in
    let end : c.outcome.result.end ≡ Some c.in-Err.errno = search (rules, told_end) in
    let counted = c.in-Err.ensures.counted.refused in
    record {
      all = rw end tt;
      least = omega (arith, sent, received, counted, c.loop-step.invariant.2);
      most = omega (arith, sent, received, counted, removals, c.loop-step.invariant.2);
    }

pub returns-in-Err-clause-worked : goal.returns-in-Err-clause-worked
returns-in-Err-clause-worked g c =
    let p = g.Q.Port in
    let plan = c.args.plan.now in
    let k = c.loop-step.step-index in
    let step = c.step-item.result in
    let more = taken_more plan k step c.loop-step-test.true c.step-item.is in
    let cut : plan ≡ take k plan ++ step ∷ drop (k + 1) plan =
    sym (take-append-drop (k + 1) plan) ∙ ap (λ (l : List Step). l ++ drop (k + 1) plan) more ∙ append_assoc (take k plan) (step ∷ []) (drop (k + 1) plan) in
    far_until eq-value.it p.puts p.takes p.removes (take k plan) (drop (k + 1) plan) plan step c.in-Err.errno c.args.port.now c.loop-step.port c.step.new.port
    c.loop-step.progress c.step.new.self c.outcome.result cut c.loop-step.invariant.3 c.loop-step.invariant.0 c.in-Err.ensures.called c.outcome.ensures

pub loop-step-preserved : goal.loop-step-preserved
loop-step-preserved g c =
    let p = g.Q.Port in
    let plan = c.args.plan.now in
    let k = c.loop-step.step-index in
    let step = c.step-item.result in
    let more = taken_more plan k step c.loop-step-test.true c.step-item.is in
    let told = far_more eq-value.it p.puts p.takes p.removes (take k plan) step c.args.port.now c.loop-step.port c.step.new.port c.loop-step.progress c.step.new.self
    c.loop-step.invariant.3 c.loop-step.invariant.0 c.in_default.ensures.called in
    (grind (arith, common_steps), grind (arith, common_steps), grind (arith, common_steps), rw more (search (rules, told)))

pub returns-clause-done : goal.returns-clause-done
returns-clause-done g c =
    let k = c.loop-step.step-index in
    let plan = c.args.plan.now in
    let whole : take k plan ≡ plan = take_all k plan c.loop-step-test.false in
    let puts : puts_in (take k plan) ≡ puts_in plan = ap puts_in whole in
    let takes : takes_in (take k plan) ≡ takes_in plan = ap takes_in whole in
    let sent : c.outcome-2.result.sent ≡ c.loop-step.progress.sent = told_sent c.outcome-2.result c.loop-step.progress _ c.outcome-2.ensures in
    let received : c.outcome-2.result.received ≡ c.loop-step.progress.received = told_received c.outcome-2.result c.loop-step.progress _ c.outcome-2.ensures in
    let end : c.outcome-2.result.end ≡ None = search (rules, told_end) in
    let all_sent : c.outcome-2.result.sent ≡ puts_in plan = omega (arith, sent, puts, c.loop-step.invariant.0) in
    let all_received : c.outcome-2.result.received ≡ takes_in plan = omega (arith, received, takes, c.loop-step.invariant.1) in
    record { all = rw end (all_sent, all_received); sent = omega arith; received = omega arith }

pub returns-clause-grown : goal.returns-clause-grown
returns-clause-grown g c =
    let k = c.loop-step.step-index in
    let plan = c.args.plan.now in
    let whole : take k plan ≡ plan = take_all k plan c.loop-step-test.false in
    let removals : removes_in (take k plan) ≡ removes_in plan = ap removes_in whole in
    let sent : c.outcome-2.result.sent ≡ c.loop-step.progress.sent = told_sent c.outcome-2.result c.loop-step.progress _ c.outcome-2.ensures in
    let received : c.outcome-2.result.received ≡ c.loop-step.progress.received = told_received c.outcome-2.result c.loop-step.progress _ c.outcome-2.ensures in
    let end : c.outcome-2.result.end ≡ None = search (rules, told_end) in
    record {
      all = rw end (omega (arith, sent, received, removals, c.loop-step.invariant.2));
      least = omega (arith, sent, received, c.loop-step.invariant.2);
      most = omega (arith, sent, received, removals, c.loop-step.invariant.2);
    }

pub returns-clause-worked : goal.returns-clause-worked
returns-clause-worked g c =
    let p = g.Q.Port in
    let k = c.loop-step.step-index in
    let plan = c.args.plan.now in
    let whole : take k plan ≡ plan = take_all k plan c.loop-step-test.false in
    let told = far_end eq-value.it p.puts p.takes p.removes (take k plan) c.args.port.now c.loop-step.port c.loop-step.progress c.outcome-2.result
    c.loop-step.invariant.3 c.outcome-2.ensures in
    subst (λ (steps : List Step). HasWorked p.puts p.takes p.removes steps c.outcome-2.result c.args.port.now c.loop-step.port) whole told
