use Rattle.std.proofs.Common.{rules, arith, ◌++◌, ◌∷◌, [], List, length, sym, ap, ◌∙◌, append_assoc, length-append, vec_capacity}
use Rattle.std.proofs.lemmas.List.Elements.{All-rest}
use Rattle.mq_arena.specs.Text.{PlainText}
use Rattle.mq_calls.specs.declared.results.Delivered.{Delivered}
use Rattle.mq.specs.ValueBatches.{IsReadable, IsValueOf}
use Rattle.mq_system.proofs.BlockLemmas.{more_zipped}
use Rattle.mq.proofs.BatchLemmas.{with_more_room}
use Rattle.mq.proofs.caller.Caller.read_values.Goals as goal

pub loop-done-preserved : goal.loop-done-preserved
loop-done-preserved g c =
    let had = c.loop-done.invariant in
    let d = c.in-Some.delivered in
    let v = c.in-Ok.value in
    let values = c.loop-done.values.items in
    let rest = c.pop_front.new.self.items in
    let room = vec_capacity c.loop-done.self.room in
    let grown = c.push_reserved.ensures in
    let told : IsValueOf g.P.Value.Wire.bytes_of g.P.ValuePledge.vowed d v =
    search (rules, c.in-Ok.ensures.value) in (
      had.0 ++ d ∷ [],
      had.1 ∙ ap (λ (x : List (Delivered PlainText)). had.0 ++ x) c.in-Some.ensures.items
          ∙ sym (append_assoc had.0 (d ∷ []) rest),
      rw grown.items (more_zipped (IsValueOf g.P.Value.Wire.bytes_of g.P.ValuePledge.vowed) had.0 values d v
          had.2 told),
      omega (arith, had.3, length-append had.0 (d ∷ [])),
      omega (arith, had.4, ap length grown.items, length-append values (v ∷ [])),
      grown.capacity ∙ had.5,
      with_more_room g.P.Pledge.kept room (vec_capacity c.read_value.new.self.room) rest
          c.in-Ok.ensures.room
          (All-rest (IsReadable g.P.Pledge.kept room) d rest c.loop-done.texts.items c.in-Some.ensures.items
          had.6),
      c.in-Ok.ensures.seat ∙ had.7,
      c.in-Ok.ensures.moments ∙ had.8,
    )
