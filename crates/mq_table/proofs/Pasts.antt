-- The events of queues that were removed, and the slot list.
use Rattle.std.proofs.Common.{◌≡◌, ℕ, ◌+◌, ◌-◌, ◌≤◌, true, List, [], ◌∷◌, ◌++◌, length, append_assoc, refl, ap, sym, ◌∙◌, true≢false, arith}
use Rattle.std.specs.Prelude.{All}
use Rattle.std.proofs.lemmas.List.{append-nil, length_push}
use Rattle.std.proofs.lemmas.List.Elements.{All-head, All-push, All-take, All-tail}
use Rattle.std.proofs.Math.Seq.{take-append_seam}
use Rattle.mq_queue.specs.declared.event.Event.{Event}
use Rattle.mq_queue.specs.Lawful.{Lawful}
use Rattle.mq_queue.specs.Log.{ends_with_removed}
use Rattle.mq_queue.specs.Row.{made_count, is_live}
use Rattle.mq_table.specs.Slot.{IsEndedLog, ArePast}
use Rattle.mq_table.specs.SlotList.{joined, IsSlotList}
use Rattle.mq_table.proofs.Logs.{counted, made_once}

-- one more log goes last
pub joined_push : (logs : List (List Event)) (log : List Event)
    → joined (logs ++ log ∷ []) ≡ joined logs ++ log
joined_push [] log = append-nil log
joined_push (l ∷ ls) log =
    rw (joined_push ls log) (sym (append_assoc l (joined ls) log))

-- one more queue was removed
pub past_grows : (past log : List Event) → ArePast past → IsEndedLog log → ArePast (past ++ log)
past_grows past log h ended = record {
  logs = h.logs ++ log ∷ [];
  whole = ap (λ p. p ++ log) h.whole ∙ sym (joined_push h.logs log);
  ended = All-push IsEndedLog h.logs log h.ended ended;
}

-- each log has one creation
pub logs_counted : (logs : List (List Event)) → All Lawful logs
    → made_count (joined logs) ≡ length logs
logs_counted [] all = refl
logs_counted (log ∷ logs) all =
    let once = made_once log (All-head Lawful log logs all) in
    let rest = logs_counted logs (All-tail Lawful log logs all) in
    omega (arith, counted log (joined logs), once, rest)

-- a slot list has as many creations as logs
pub list_counted : (last_seq : ℕ) (events : List Event) → (h : IsSlotList last_seq events)
    → made_count events ≡ length h.logs
list_counted last_seq events h = ap made_count h.whole ∙ logs_counted h.logs h.lawful

-- a queue that is there was created
pub made_some : (last_seq : ℕ) (events : List Event) → IsSlotList last_seq events
    → is_live events ≡ true → 1 ≤ made_count events
made_some last_seq events h live = by h.logs h.whole (list_counted last_seq events h)
  where
    by : (logs : List (List Event)) → events ≡ joined logs → made_count events ≡ length logs
        → 1 ≤ made_count events
    by [] none count = absurd (true≢false (sym live ∙ ap is_live none))
    by (log ∷ logs) whole count = omega (arith, count)

-- the logs of removed queues are lawful
all_lawful : (logs : List (List Event)) → All IsEndedLog logs → All Lawful logs
all_lawful logs ended k d within = (ended k d within).lawful

-- the events of removed queues are a slot list
pub list_of_past : (last_seq : ℕ) (past : List Event) → ArePast past
    → made_count past ≤ last_seq + 1 → IsSlotList last_seq past
list_of_past last_seq past h few = record {
  logs = h.logs;
  whole = h.whole;
  few =
      let count = logs_counted h.logs (all_lawful h.logs h.ended) in
      omega (arith, count, ap made_count h.whole);
  lawful = all_lawful h.logs h.ended;
  ended =
      All-take (λ log. ends_with_removed log ≡ true) (length h.logs - 1) h.logs
      (λ k d within. (h.ended k d within).removed);
}

-- and so are they with one more log at their end
pub list_of_live : (last_seq : ℕ) (past log : List Event) → ArePast past → Lawful log
    → made_count (past ++ log) ≤ last_seq + 1 → IsSlotList last_seq (past ++ log)
list_of_live last_seq past log h lawful few =
    let logs = h.logs ++ log ∷ [] in
    let whole = ap (λ p. p ++ log) h.whole ∙ sym (joined_push h.logs log) in
    let all = All-push Lawful h.logs log (all_lawful h.logs h.ended) lawful in record {
      logs = logs;
      whole = whole;
      few = omega (arith, logs_counted logs all, ap made_count whole);
      lawful = all;
      ended =
          let count : length (h.logs ++ log ∷ []) - 1 ≡ length h.logs =
          omega (arith, length_push h.logs log) in
          rw (count, take-append_seam h.logs (log ∷ [])) (λ k d within. (h.ended k d within).removed);
    }
