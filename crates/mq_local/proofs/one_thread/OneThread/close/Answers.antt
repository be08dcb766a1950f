use Rattle.std.proofs.Common.{◌∷◌, [], arith, length, map, sym, ap, subst, ◌∙◌, length-append, All}
use Rattle.std.proofs.lemmas.List.{nil_from_length}
use Rattle.mq_tree.specs.LentSet.{Lending}
use Rattle.mq_calls.specs.Closed.{all_home, ends}
use Rattle.mq_table.specs.KeptPart.{IsLawfulSlot, WaitsNow}
use Rattle.mq_calls.specs.State.{QueuesState}
use Rattle.mq_calls.specs.Texts.{bytes_of}
use Rattle.mq_calls.proofs.CloseLemmas.{all_closed}
use Rattle.mq_calls.proofs.HomeLemmas.{last_home, endings_kept, none_home, reversed}
use Rattle.mq_local.proofs.one_thread.OneThread.close.Goals as goal

pub loop-slot-preserved : goal.loop-slot-preserved
loop-slot-preserved g c =
    let parted = c.in-Some.ensures.items in
    let left = c.pop.new.self.items in
    let inv = c.loop-slot.invariant in
    let grown = c.push_reserved.ensures.items in (
      rw grown
          (endings_kept left c.in-Some.slot c.loop-slot.closed.items c.end_texts.result (map ends c.self.inside.slots.items)
          c.end_texts.ensures.slot (rw parted at inv.0)),
      ap (λ (a : Lending). all_home left a) c.end_texts.ensures.arena
          ∙ sym (last_home left c.in-Some.slot c.loop-slot.arena)
          ∙ ap (λ ss. all_home ss c.loop-slot.arena) (sym parted)
          ∙ inv.1,
      omega (arith, ap length parted, length-append left (c.in-Some.slot ∷ []), ap length grown, length-append c.loop-slot.closed.items (c.end_texts.result ∷ []), inv.2, c.push_reserved.ensures.capacity),
    )

pub returns-clause-slots : goal.returns-clause-slots
returns-clause-slots g c =
    let none = nil_from_length c.loop-slot.slots.items (omega (arith, c.in_default.ensures.cases, c.loop-slot.slots.ok)) in
    rw c.reverse.ensures.items (reversed c.loop-slot.closed.items ∙ rw none at c.loop-slot.invariant.0
    ∙ ap (λ (s : QueuesState). map ends s.slots) c.self.view_is)

pub returns-clause-arena : goal.returns-clause-arena
returns-clause-arena g c =
    let none = nil_from_length c.loop-slot.slots.items (omega (arith, c.in_default.ensures.cases, c.loop-slot.slots.ok)) in
    sym (none_home c.loop-slot.arena) ∙ rw none at c.loop-slot.invariant.1
    ∙ ap (λ (s : QueuesState). all_home s.slots s.arena) c.self.view_is

pub returns-clause-closed : goal.returns-clause-closed
returns-clause-closed g c =
    all_closed c.args.self.last_seq c.args.self.slots c.reverse.new.self.items
    (returns-clause-slots g c)
    (subst (λ (s : QueuesState). All (IsLawfulSlot s.last_seq) s.slots)
    c.self.view_is c.self.invariant.lawful)
    (subst (λ (s : QueuesState). All (WaitsNow bytes_of) s.slots) c.self.view_is
    c.self.invariant.waits)
