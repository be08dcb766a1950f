use Rattle.std.proofs.Common.{◌∙◌, sym, ap, true, false}
use Rattle.std.specs.Option.{option_map}
use Rattle.mq_select.proofs.Sames.{same_picks}
use Rattle.mq_select.proofs.same.SameType.find.Goals as goal

pub returns-then-is_picked : goal.returns-then-is_picked
returns-then-is_picked g c =
    let tested = rw (← c.self.view_is) at c.is_picked.ensures in
    let is = same_picks (λ m. m.1.mtype) c.self.inside.mtype c.self.inside.list.messages c.args.selection c.self.invariant.0 true (cc (tested, c.if-is_picked.true)) in
    rw (← c.self.view_is) (record { found = c.find.ensures ∙ ap (option_map (λ m. m.0)) (sym is); same = c.self.invariant.0 })

pub returns-else-is_picked : goal.returns-else-is_picked
returns-else-is_picked g c =
    let tested = rw (← c.self.view_is) at c.is_picked.ensures in
    let is = same_picks (λ m. m.1.mtype) c.self.inside.mtype c.self.inside.list.messages c.args.selection c.self.invariant.0 false (cc (tested, c.if-is_picked.false)) in
    rw (← c.self.view_is) (record { found = ap (option_map (λ m. m.0)) (sym is); same = c.self.invariant.0 })
