use Rattle.std.proofs.Common.{ap, refl, rules}
use Rattle.mq_table.specs.Cut.{CutState}
use Rattle.mq_table.proofs.Cuts.{cut_is, cut_kept}
use Rattle.mq_table.proofs.Kepts.{entries_is}
use Rattle.mq_system.proofs.slots.slot.SharedSlot.cut.Goals as goal

pub invariant_of-self : goal.invariant_of-self
invariant_of-self g c =
    let had = c.self.invariant in
    rw c.in-Ok.ensures.after
    (record {
      published = record {
        numbered = had.published.numbered;
        kept = cut_kept _ _ had.published.kept _ had.lawful;
        none = had.published.none;
      };
      within = had.within;
      lawful = had.lawful;
      pledged = had.pledged;
      part = had.part;
      noted = had.noted;
    })

pub returns-in-Ok-clause-answer : goal.returns-in-Ok-clause-answer
returns-in-Ok-clause-answer g c =
    let cut = cut_is _ _ c.self.invariant.published.kept in
    rw (← c.self.view_is, c.in-Ok.ensures.handed) (search (rules, cut))

pub returns-in-Ok-clause-first : goal.returns-in-Ok-clause-first
returns-in-Ok-clause-first g c =
    rw (← c.self.view_is) (ap (λ (cut : CutState). cut.first) c.in-Ok.ensures.handed)

pub returns-in-Ok-clause-after : goal.returns-in-Ok-clause-after
returns-in-Ok-clause-after g c =
    let entries = entries_is _ _ c.self.invariant.published.kept in
    rw (← c.self.view_is, c.in-Ok.ensures.after, ← entries) refl
