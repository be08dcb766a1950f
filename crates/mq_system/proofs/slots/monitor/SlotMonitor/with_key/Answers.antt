use Rattle.std.proofs.Common.{rules}
use mir.Val.{SFits}
use mir.Syntax.{w32}
use Rattle.std.specs.Sync.Mutex.{mutex_guard_value}
use Rattle.std.proofs.lemmas.Int.{to_z-of_z}
use Rattle.mq_system.specs.Seat.{front_of}
use Rattle.mq_system.proofs.EndLemmas.{with_key_at}
use Rattle.mq_system.proofs.slots.monitor.SlotMonitor.with_key.Goals as goal

pub returns-clause-answer : goal.returns-clause-answer
returns-clause-answer g c =
    let entered = c.enter-held.ensures in
    let fits : SFits w32 c.args.key = search rules in
    let is = simp to_z-of_z at c.with_key-found.ensures.value in
    with_key_at (mutex_guard_value c.enter-held.result).whole c.args.key g.N.Names.last_seq c.args.number
    (front_of c.enter-held.new.seat c.args.number) (rw c.deref.ensures at c.holds.ensures.lawful)
    (rw c.deref.ensures at c.holds.ensures.numbered) entered.number entered.known c.requires.some
    _ (rw c.deref-2.ensures at is)
