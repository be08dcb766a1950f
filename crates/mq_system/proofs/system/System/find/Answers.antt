use Rattle.std.proofs.Common.{rules}
use mir.Val.{SFits}
use mir.Syntax.{w32}
use Rattle.std.proofs.lemmas.Int.{to_z-of_z}
use Rattle.mq_system.proofs.LaterLemmas.{later_self}
use Rattle.mq_system.proofs.GetLemmas.{below_around, found_before}
use Rattle.mq_system.proofs.system.System.find.Goals as goal

pub returns-in-Some-search-clause-found : goal.returns-in-Some-search-clause-found
returns-in-Some-search-clause-found g c =
    let fits : SFits w32 c.args.key = search rules in
    let mid = c.look.new.seat in
    let now = c.search.new.seat in
    let told = simp to_z-of_z at c.in-Some-search.ensures.found in
    found_before c.args.key c.args.seat.now mid now _ c.look.ensures.look.later told

pub returns-in-None-clause-lacked : goal.returns-in-None-clause-lacked
returns-in-None-clause-lacked g c =
    let fits : SFits w32 c.args.key = search rules in
    let mid = c.look.new.seat in
    let now = c.search.new.seat in
    let told = simp to_z-of_z at c.in-None.ensures.lacked in
    below_around _ c.args.seat.now mid now now _ c.look.ensures.look.later (later_self now) told
