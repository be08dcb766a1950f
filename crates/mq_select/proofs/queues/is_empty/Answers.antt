use Rattle.std.proofs.Common.{◌≡◌, ◌∙◌, ap, arith, sym, Some, length}
use Rattle.std.proofs.lemmas.Bool.{eqb-false}
use Rattle.std.proofs.lemmas.List.{nil_from_length}
use Rattle.std.proofs.lemmas.Bool.Decides.{nat_tests}
use Rattle.std.proofs.lemmas.Option.{same_Some, none-some}
use Rattle.std.proofs.lemmas.Int.{to_z-of_z}
use Rattle.mq_select.proofs.queues.is_empty.Goals as goal

pub returns-in-Some-clause-some : goal.returns-in-Some-clause-some
returns-in-Some-clause-some g c e =
    let at = simp (to_z-of_z, c.ranges.mtype) at c.in-Some.ensures.value in
    let zero : length c.in-Some.queue.now ≡ 0 = grind (arith, nat_tests, e, c.len.ensures) in
    let none = nil_from_length c.in-Some.queue.now zero in
    sym at ∙ ap Some none

pub returns-in-Some-clause-none : goal.returns-in-Some-clause-none
returns-in-Some-clause-none g c e h =
    let at = simp (to_z-of_z, c.ranges.mtype) at c.in-Some.ensures.value in
    let is = at ∙ h in
    let empty : length c.in-Some.queue.now ≡ 0 = ap length (same_Some _ _ is) in
    eqb-false _ _ e (c.len.ensures ∙ empty)

pub returns-in-None-clause-none : goal.returns-in-None-clause-none
returns-in-None-clause-none g c e h =
    let at = simp (to_z-of_z, c.ranges.mtype) at c.in-None.ensures.value in
    none-some _ (at ∙ h)
