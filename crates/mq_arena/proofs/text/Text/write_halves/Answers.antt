use Rattle.std.proofs.Common.{◌≡◌, ◌∙◌, ◌-◌, ◌*◌, ◌^◌, ◌++◌, take, replicate, refl, sym, rules}
use Rattle.std.specs.List.{concat}
use Rattle.mq_arena.specs.declared.page.TheConstants.{PAGE_LEN}
use Rattle.mq_arena.proofs.Kept.{at_same}
use Rattle.mq_arena.proofs.TextParts.{held_by}
use Rattle.mq_arena.proofs.Written.{alone_in, pages_of, still_held}
use Rattle.mq_arena.proofs.text.Text.write_halves.Goals as goal

pub returns-clause-halves : goal.returns-clause-halves
returns-clause-halves g c =
    let before = held_by c.self.inside.len c.self.view_is c.in-Some.is c.self.invariant in
    let cleared : concat c.clear_from.new.self.pages
    ≡ take c.self.inside.len (concat c.in-Some.block.pages) ++ replicate (PAGE_LEN * 2 ^ c.in-Some.block.order - c.self.inside.len) 0 =
    search rules in
    let h = c.write_halves.ensures.halves in (
      c.clear_from.new.self.pages,
      c.write_halves.new.self.pages,
      alone_in c.clear_from.new.self before c.clear_from.ensures.block c.clear_from.ensures.order cleared,
      pages_of (still_held c.write_halves.new.self before c.still_whole.ensures (c.write_halves.ensures.order ∙ c.clear_from.ensures.order)),
      record {
        front = h.front;
        back = h.back;
        new_is = h.new_is;
        count = h.count;
        front_by = at_same _ _ _ _ _ refl (λ p q next s. record { met = s.met }) h.front_by;
        back_by = at_same _ _ _ _ _ refl (λ p q next s. record { met = s.met }) h.back_by;
      },
    )

pub returns-clause-len : goal.returns-clause-len
returns-clause-len g c =
    let before = held_by c.self.inside.len c.self.view_is c.in-Some.is c.self.invariant in
    (still_held c.write_halves.new.self before c.still_whole.ensures (c.write_halves.ensures.order ∙ c.clear_from.ensures.order)).long ∙ sym before.long
