use Rattle.std.proofs.Common.{◌≡◌, List, length, sym, ◌∙◌, ap, subst, arith}
use Rattle.std.proofs.lemmas.Bool.Decides.{nat_tests}
use mathlib.Core.List.{IsPrefix}
use Rattle.mq_queue.specs.declared.event.Event.{Event}
use Rattle.mq_board.specs.Histories.{History, events_of}
use Rattle.mq_board.proofs.Counting.{events_prefix}
use Rattle.mq_board.proofs.Fronts.{prefix_trans, prefix_whole}
use Rattle.mq_board.proofs.history.HistoryWriter.contains.Goals as goal

-- what begins all begins a list that has all
begins_whole : (told mine both all : List Event) → IsPrefix mine both → IsPrefix told both
    → IsPrefix both all → length all ≡ length mine → IsPrefix told mine
begins_whole told mine both all p q r long =
    let whole : mine ≡ all =
    prefix_whole mine all (prefix_trans mine both all p r) (omega (arith, long)) in
    subst (λ (es : List Event). IsPrefix told es) (sym whole) (prefix_trans told both all q r)

pub returns : goal.returns
returns g c = λ is.
    let mine = c.self.inside.seen.log in
    let theirs = c.front-inside.inside.0.0.seen.log in
    let both = c.learn.new.self.log in
    let begins : IsPrefix mine both =
    subst (λ (l : List (List Event)). IsPrefix l both) (ap (λ s. s.log) c.again-both.ensures) c.learn.ensures.2 in
    let same : c.load.result ≡ c.self.inside.count = grind (arith, nat_tests, is) in
    let long : length (events_of c.load.new.seen.log) ≡ length (events_of mine) =
    omega (arith, same, c.load.ensures.all, c.self.invariant.0) in
    let told : events_of theirs ≡ c.args.front.now.events =
    ap (λ t. t.snapshot.events) c.front-inside.view_is
    ∙ ap (λ (h : History). h.events) c.front.view_is in
    rw (← told, ← c.self.view_is)
    (begins_whole (events_of theirs) (events_of mine) (events_of both) (events_of c.load.new.seen.log)
    (events_prefix mine both begins) (events_prefix theirs both c.learn.ensures.3) c.load.ensures.more long)
