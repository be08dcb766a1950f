use Rattle.std.proofs.Common.{refl, true, false, Some, None}
use Rattle.mq_select.proofs.Sames.{found_both}
use Rattle.mq_select.proofs.layered.find_in.Goals as goal

pub returns-then-is_preferred : goal.returns-then-is_preferred
returns-then-is_preferred g c =
    found_both (λ m. m.1.mtype) c.args.first.now.mtype c.args.first.now.messages c.args.rest.now.messages c.args.selection true (Some c.in-Some.place) _ c.in-Some.ensures.same (cc (c.is_preferred.ensures, c.if-is_preferred.true)) c.in-Some.ensures.found c.find-then-is_preferred.ensures

pub returns-else-is_preferred : goal.returns-else-is_preferred
returns-else-is_preferred g c =
    found_both (λ m. m.1.mtype) c.args.first.now.mtype c.args.first.now.messages c.args.rest.now.messages c.args.selection false (Some c.in-Some.place) _ c.in-Some.ensures.same (cc (c.is_preferred.ensures, c.if-is_preferred.false)) c.in-Some.ensures.found refl

pub returns-in-None : goal.returns-in-None
returns-in-None g c =
    found_both (λ m. m.1.mtype) c.args.first.now.mtype c.args.first.now.messages c.args.rest.now.messages c.args.selection _ None _ c.in-None.ensures.same refl c.in-None.ensures.found c.find-in-None.ensures
