use Rattle.std.proofs.Common.{◌≡◌, ℕ, List, ◌++◌, ap, drop, length, map, rules, sym, take, ◌∙◌}
use Rattle.std.proofs.Math.Seq.{take-append_seam}
use Rattle.mq_system.specs.Seat.{SeatState}
use Rattle.mq.proofs.system_program.run_system.Goals as goal

pub returns-clause-after : goal.returns-clause-after
returns-clause-after g c =
    let called = c.seat_all.new.callers in
    let after = c.run-answer.new.callers in
    let rest = drop (length after) called.items in
    let left = take called.len (after ++ rest) in
    let long : length after ≡ length called.items =
    search (rules, c.run-answer.auto.callers, c.deref_mut.ensures.value, c.deref_mut.ensures.len) in
    let count : called.len ≡ length called.items = search (rules, called.ok) in
    let same : left ≡ after =
    ap (λ (n : ℕ). take n (after ++ rest)) (count ∙ sym long) ∙ take-append_seam after rest in
    let seats : List SeatState = map (λ caller. caller.seat) after in
    let given : c.leave_all.new.seats.items ≡ seats =
    search (rules, same, c.leave_all.ensures.seats, c.seat_all.ensures.none) in
    record {
      seats = seats;
      run = rw c.of.ensures.answer c.run-answer.ensures.after;
      changes = record {
        numbers = rw (← given) c.close-closed.ensures.numbers;
        end =
            rw (c.of.ensures.slots, c.requires.names.last_seq, ← given)
            (search (rules, c.close-closed.ensures.ends));
        total = rw (c.of.ensures.slots, ← given) (search (rules, c.close-closed.ensures.total));
      };
    }
