use Rattle.std.proofs.Common.{rules}
use Rattle.mq.specs.declared.either.Either.TheVariants.{One, Other}
use Rattle.mq.proofs.EitherLemmas.{last_two}
use Rattle.mq.proofs.either.apart.Goals as goal

pub unreachable-requires-in_default-second : goal.unreachable-requires-in_default-second
unreachable-requires-in_default-second g c =
    let two = c.requires.two in
    let last = last_two (One two.0) (Other two.1) c.args.both.items c.pop.new.self.items c.pop-2.new.self.items
    c.in-Some-pop.first c.in-Some.second two.2 (search rules) (search rules) in
    let is = c.in_default-second.is in
    absurd (cc (last.1, is))

pub unreachable-requires-in_default-first : goal.unreachable-requires-in_default-first
unreachable-requires-in_default-first g c =
    let two = c.requires.two in
    let last = last_two (One two.0) (Other two.1) c.args.both.items c.pop.new.self.items c.pop-2.new.self.items
    c.in-Some-pop.first c.in-Some.second two.2 (search rules) (search rules) in
    let is = c.in_default-first.is in
    absurd (cc (last.0, is))
