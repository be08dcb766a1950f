use Rattle.std.proofs.Common.{◌∙◌, sym, arith}
use Rattle.std.proofs.lemmas.Option.{MatchOption-at_some}
use Rattle.mq_message.proofs.Places.{has_index, at_index, rising_remove, without_is}
use Rattle.mq_select.proofs.list.take_behind.Goals as goal

pub unwrap-index-requires : goal.unwrap-index-requires
unwrap-index-requires g c =
    rw c.index_of.ensures (has_index c.args.place c.args.messages.now.items c.requires.waits)

pub returns-clause-taken : goal.returns-clause-taken
returns-clause-taken g c =
    let value = MatchOption-at_some _ _ _ c.unwrap-message.ensures c.remove.ensures.value in
    let index = sym c.index_of.ensures ∙ c.unwrap-index.ensures in
    let at = at_index c.args.place c.args.messages.now.items c.unwrap-index.result c.unwrap-message.result index in
    grind (arith, at, value)

pub returns-clause-rest : goal.returns-clause-rest
returns-clause-rest g c =
    let items = MatchOption-at_some _ _ _ c.unwrap-message.ensures c.remove.ensures.items in
    let index = sym c.index_of.ensures ∙ c.unwrap-index.ensures in
    let left = without_is c.args.place c.args.messages.now.items c.unwrap-index.result c.requires.rising index in
    grind (arith, left, items)

pub returns-clause-rising : goal.returns-clause-rising
returns-clause-rising g c =
    let items = MatchOption-at_some _ _ _ c.unwrap-message.ensures c.remove.ensures.items in
    let index = sym c.index_of.ensures ∙ c.unwrap-index.ensures in
    rw items (rising_remove c.args.place c.args.messages.now.items c.unwrap-index.result index c.requires.rising)
