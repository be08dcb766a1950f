use Rattle.std.proofs.Common.{◌≡◌, refl}
use Rattle.mq_arena.specs.Text.{text_part}
use Rattle.mq_arena.proofs.TextParts.{held_by, part_of}
use Rattle.mq_arena.proofs.Loans.{part_left}
use Rattle.mq_arena.proofs.text.Text.part_mut.Goals as goal

pub returns : goal.returns
returns g c =
    let text = c.args.self.now in
    let i = c.args.i in
    let is = part_of i (held_by c.self.inside.len c.self.view_is c.in-Some.is c.self.invariant) c.requires in
    let value : c.front_mut.result.now ≡ text_part text.bytes i =
    rw (c.front_mut.ensures.value, c.in-Some.is, c.part_len-len.ensures, ← is.part) refl in (
      (
        refl {a = c.front_mut.result.ghost_name},
        λ w. rw c.in-Some.is (part_left text c.self.inside.len i c.in-Some.block w is),
      ),
      record { writes_back = tt; value = value },
    )
