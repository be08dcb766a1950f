use Rattle.std.proofs.Common.{◌∙◌, [], length, get_or, ap}
use Rattle.mq_arena.proofs.TextParts.{held_by, parts_count, parts_each}
use Rattle.mq_arena.proofs.text.Text.parts.Goals as goal

pub returns-in-Some-clause-count : goal.returns-in-Some-clause-count
returns-in-Some-clause-count g c =
    ap length c.parts_to.ensures.parts ∙ parts_count (held_by c.self.inside.len c.self.view_is c.in-Some.is c.self.invariant)

pub returns-in-Some-clause-parts : goal.returns-in-Some-clause-parts
returns-in-Some-clause-parts g c = λ i below.
    ap (λ parts. get_or parts i []) c.parts_to.ensures.parts ∙ parts_each (held_by c.self.inside.len c.self.view_is c.in-Some.is c.self.invariant) i below
