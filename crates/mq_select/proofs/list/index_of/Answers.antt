use Rattle.std.proofs.Common.{rules, ◌∙◌, ◌≡◌, length}
use Rattle.std.specs.VecDeque.{deque_len}
use Rattle.std.proofs.lemmas.List.Sorted.{answers_always}
use Rattle.mq_message.proofs.Places.{searched_is}
use Rattle.mq_select.proofs.list.index_of.Goals as goal

pub returns : goal.returns
returns g c =
    let facts = c.binary_search_by_key.ensures in
    let by_key = facts.position (λ m. m.0) (answers_always _ _ _ (λ f a r h called. search rules)) in
    let long : deque_len c.args.messages.now ≡ length c.args.messages.now.items = search rules in
    c.ok.ensures.value ∙ searched_is c.args.place c.args.messages.now.items c.binary_search_by_key.result c.requires (rw long at facts.bound) by_key
