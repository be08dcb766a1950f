use Rattle.std.proofs.Common.{refl}
use Rattle.mq_arena.proofs.TextParts.{held_by, part_of}
use Rattle.mq_arena.proofs.text.Text.part.Goals as goal

pub returns : goal.returns
returns g c =
    let is = part_of c.args.i (held_by c.self.inside.len c.self.view_is c.in-Some.is c.self.invariant) c.requires in
    rw (c.part_len.ensures, c.part.ensures.value, ← is.part) refl
