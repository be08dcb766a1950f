use Rattle.std.proofs.Common.{◌≡◌, rules, arith, None}
use Rattle.std.proofs.lemmas.Int.{to_z-of_z}
use Rattle.mq_message.specs.declared.selection.Selection.TheVariants.{Except}
use Rattle.mq_message.specs.Selection.{pick}
use Rattle.mq_select.proofs.Sames.{all_same, none_is}
use Rattle.mq_select.proofs.crossing.is_of.Goals as goal

pub returns : goal.returns
returns g c h =
    let none : c.find.result ≡ None = search (rules, arith, c.is_none.ensures, h) in
    let found = simp (to_z-of_z, c.ranges.mtype) at c.find.ensures in
    all_same (λ m. m.1.mtype) c.args.mtype c.args.list.now.messages (none_is (λ m. m.0) (pick (λ m. m.1.mtype) c.args.list.now.messages (Except c.args.mtype)) (cc (found, none)))
