use Rattle.std.proofs.Common.{ap, sym, ◌∙◌, rules}
use Rattle.mq_tree.specs.LentSet.{Lending}
use Rattle.mq_table.proofs.Kepts.{waiting_is}
use Rattle.mq_calls.specs.Closed.{Ending, IsEndOf}
use Rattle.mq_calls.proofs.CloseLemmas.{ends_with_list}
use Rattle.mq_system.proofs.close.end_shared_slot.Goals as goal

pub returns-clause-ends : goal.returns-clause-ends
returns-clause-ends g c =
    let events = c.args.writer.events in
    let slot = c.args.slot in
    let kept = c.requires.kept in
    let ends : IsEndOf g.N.Names.last_seq events c.end_texts.result =
    ends_with_list g.N.Names.last_seq events slot c.end_texts.result c.end_texts.ensures.slot kept
    c.requires.lawful (c.requires.waits ∙ sym (waiting_is events slot kept)) in
    search (rules, ends)

pub returns-clause-first : goal.returns-clause-first
returns-clause-first g c = ap (λ (e : Ending). e.cut.first) c.end_texts.ensures.slot

pub returns-clause-height : goal.returns-clause-height
returns-clause-height g c = ap (λ (a : Lending). a.height) c.end_texts.ensures.arena
