use Rattle.std.proofs.Common.{ap, refl, rules, sym, ◌∙◌, subst, arith}
use mathlib.Core.List.{IsPrefix}
use Rattle.mq_system.proofs.HomeLemmas.{back_again, none_out, one_out}
use Rattle.mq_system.proofs.close.take_readers.Goals as goal

pub loop-seat-init : goal.loop-seat-init
loop-seat-init g c = (
  refl,
  search (rules, none_out c.args.writer.now.events c.args.fronts.now.items c.args.writer.now.home),
)

pub loop-seat-preserved : goal.loop-seat-preserved
loop-seat-preserved g c =
    let kept = c.loop-seat.invariant in
    let now = c.loop-seat.fronts.items in
    let reader = c.in-Some.reader in
    let item = c.index_mut.result.now in
    let is = c.index_mut.ensures.value in
    let handed = c.in-Some.ensures in
    let back = c.take_back.ensures in (
      back_again c.args.writer.now c.loop-seat.writer c.take_back.new.self kept.0 back.same,
      one_out c.args.writer.now.events c.loop-seat.seat reader.place c.args.fronts.now.items now
          c.loop-seat.writer.home c.take_back.new.self.home item c.hand_out.new.self reader.events
          kept.1
          (omega (arith, c.loop-seat-test.true, c.len-seat-end.ensures))
          (sym (ap (λ f. f.fronts) is) ∙ handed.last)
          (handed.same ∙ ap (λ f. f.place) is)
          (handed.place ∙ ap (λ f. f.place) is)
          (subst (IsPrefix reader.events) (ap (λ w. w.events) kept.0) back.front)
          back.away back.home back.kept,
    )

pub returns-clause-left : goal.returns-clause-left
returns-clause-left g c =
    let out = c.loop-seat.invariant.1 in
    record {
      count = out.same;
      each = λ k d low. out.out k d (omega (arith, low, c.loop-seat-test.false, c.len-seat-end.ensures));
    }

pub returns-clause-places : goal.returns-clause-places
returns-clause-places g c i j d less low =
    c.loop-seat.invariant.1.apart i j d less (omega (arith, low, c.loop-seat-test.false, c.len-seat-end.ensures))
