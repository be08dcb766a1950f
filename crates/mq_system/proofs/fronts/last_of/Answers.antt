use Rattle.std.proofs.Common.{sym, ◌∙◌}
use Rattle.mq_system.proofs.FrontLemmas.{last_seat}
use Rattle.mq_system.proofs.fronts.last_of.Goals as goal

pub returns-clause-last : goal.returns-clause-last
returns-clause-last g c =
    (last_seat c.args.board c.args.place c.pop.new.self.items c.in-Some.last c.requires.some
    (sym c.in-Some.ensures.items ∙ c.requires.readers)).0

pub returns-clause-left : goal.returns-clause-left
returns-clause-left g c =
    (last_seat c.args.board c.args.place c.pop.new.self.items c.in-Some.last c.requires.some
    (sym c.in-Some.ensures.items ∙ c.requires.readers)).1
