use Rattle.std.proofs.Common.{rules, ◌≡◌, ◌∙◌, ◌++◌, ap, subst, List}
use Rattle.std.specs.List.Sorted.{IsPermutation}
use Rattle.std.proofs.lemmas.List.Sorted.{IsNonDecreasingBy-from_sort_by_key}
use Rattle.mq_message.specs.declared.header.Header.{Header}
use Rattle.mq_message.specs.Waiting.{headers_of}
use Rattle.mq_select.specs.ByType.{gathered}
use Rattle.mq_select.proofs.Gathered.{sorted_is}
use Rattle.mq_select.proofs.by_type.ByTypeWaiting.headers.Goals as goal

pub returns : goal.returns
returns g c =
    let parts : List Header = headers_of g.B.Body.bytes (gathered c.self.inside.queues.entries) in
    let told : c.gather.new.headers.items ≡ parts = c.in_ok-gather.ensures ∙ ap (λ (hs : List Header). hs ++ parts) c.in_ok-headers.ensures.items in
    let moved : IsPermutation parts c.sort_unstable_by_key.new.self.items = subst (λ (hs : List Header). IsPermutation hs c.sort_unstable_by_key.new.self.items) told c.sort_unstable_by_key.ensures.permutation in
    rw (← c.self.view_is) (sorted_is g.B.Body.bytes c.self.inside.queues.entries c.sort_unstable_by_key.new.self.items c.self.invariant.0.rising moved (IsNonDecreasingBy-from_sort_by_key (λ h. h.place) _ c.sort_unstable_by_key.ensures.sorted (λ a r q k. search rules)))
