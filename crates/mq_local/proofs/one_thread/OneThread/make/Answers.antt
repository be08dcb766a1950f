use Rattle.std.proofs.Common.{rules, ◌≡◌, arith, IfOk, IfErr, OnErr, Result, Ok, Err}
use Rattle.std.proofs.lemmas.Grind.{common_steps}
use mir.Val.{SFits}
use mir.Syntax.{w32}
use Rattle.std.proofs.lemmas.Int.{to_z-of_z}
use Rattle.mq_queue.specs.Memory.{or_memory}
use Rattle.mq_table.specs.KeptShown.{next_id_now}
use Rattle.mq_table.specs.Keys.{entered}
use Rattle.mq_local.specs.Outcome.{Answers}
use Rattle.mq_calls.specs.State.{QueuesState}
use Rattle.mq_local.proofs.KeptLemmas.{kept_made, kept_same}
use Rattle.mq_local.proofs.one_thread.OneThread.make.Goals.{in-Ok, in-Err}
use Rattle.mq_local.proofs.one_thread.OneThread.make.Goals as goal

pub invariant_of-self : goal.invariant_of-self
invariant_of-self g c =
    let within = rw (← c.self.view_is) at c.in-Some.ensures.free.within in
    let empty = rw (← c.self.view_is) at c.in-Some.ensures.free.empty in
    let left = rw (← c.self.view_is) at c.in-Some.ensures.free.left in
    let fits : SFits w32 c.args.key = search rules in
    elim c.match-make_under.branch [
      | in-Ok w ↦
          let made = simp to_z-of_z at w.in-Ok.ensures.answer.made in
          let put = simp to_z-of_z at w.in-Ok.ensures.answer.entered in
          let entering : c.make_under.new.keys
          ≡ entered c.args.key (next_id_now c.index_mut.result.now) c.self.inside.keys =
          rw (← w.in-Ok.ensures.answer.id) put in
          kept_made _ _ _ _ _ c.self.invariant _ within _ c.make_under.new.slot _
          c.index_mut.ensures.value
          c.args.key c.args.seat c.args.moment empty left made _ entering
      | in-Err w ↦
          kept_same _ _ _ _ _ c.self.invariant _ within _ c.make_under.new.slot _
          c.index_mut.ensures.value _ w.in-Err.ensures.answer.1 w.in-Err.ensures.answer.0
    ]

-- a call answers so by what is known where it is done, and where it is refused
answers_by : {T E : Type 0} (answer : Result (T × QueuesState) E) (memory : E)
    (before after : QueuesState)
    (result : Result T E) → IfOk result (λ told. answer ≡ Ok (told, after))
    → IfErr result (λ e. e ≡ or_memory memory answer) → OnErr result (after ≡ before)
    → Answers answer memory before after result
answers_by answer memory before after (Ok told) done refused same = done
answers_by answer memory before after (Err e) done refused same =
    record { refused = refused; unchanged = same }

pub returns-clause-answer : goal.returns-clause-answer
returns-clause-answer g c =
    answers_by _ _ _ _ _ (grind (arith, common_steps)) (grind (arith, common_steps))
    (grind (arith, common_steps))
