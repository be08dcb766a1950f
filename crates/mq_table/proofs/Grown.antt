-- A slot list is split into the last queue's log and those of removed queues, and it grows by one
-- event more.
use Rattle.std.proofs.Common.{◌≡◌, ℕ, ◌+◌, ◌-◌, ◌≤◌, ℤ, List, [], ◌∷◌, ◌++◌, append_assoc, get_or, length, length-append, take, true, false, not, refl, ap, sym, ◌∙◌, arith}
use Rattle.std.proofs.lemmas.Bool.{not-false, not-true}
use Rattle.std.proofs.lemmas.List.{take_all, take_more}
use Rattle.std.proofs.lemmas.List.Elements.{All-nil, All-take}
use Rattle.mq_queue.specs.declared.event.Event.{Event}
use Rattle.mq_queue.specs.declared.event.Event.TheVariants.{Made}
use Rattle.mq_queue.specs.Lawful.{CanHappen, Lawful}
use Rattle.mq_queue.specs.Log.{is_made, ends_with_removed}
use Rattle.mq_queue.specs.Room.{quota}
use Rattle.mq_queue.specs.Row.{is_live, last_log, made_count}
use Rattle.mq_queue.specs.Waiting.{waiting}
use Rattle.mq_queue.proofs.Sound.{lawful_more}
use Rattle.mq_table.specs.Slot.{ArePast, IsEndedLog}
use Rattle.mq_table.specs.SlotList.{IsSlotList, joined}
use Rattle.mq_table.proofs.Logs.{counted, ends_as, last_log_is, not_empty}
use Rattle.mq_table.proofs.Pasts.{joined_push, list_counted, list_of_live, made_some, past_grows}

module _ (last_seq : ℕ) (list : List Event) (h : IsSlotList last_seq list) where
  -- the place of the last log, that log, and the events of the queues before it
  abbrev place : ℕ
  place = length h.logs - 1

  abbrev pub log : List Event
  log = get_or h.logs place []

  abbrev pub past : List Event
  past = joined (take place h.logs)

  ended : ArePast past
  ended = record {
    logs = take place h.logs;
    whole = refl;
    ended = λ k d within. record {
      lawful = All-take Lawful place h.logs h.lawful k d within;
      removed = h.ended k d within;
    };
  }

  module _ (some : 1 ≤ length h.logs) where
    pub lawful : Lawful log
    lawful = h.lawful place [] (omega arith)

    pub whole : list ≡ past ++ log
    whole =
        let all = take_all (place + 1) h.logs (omega arith) in
        h.whole ∙ ap joined (sym all ∙ take_more h.logs place [] (omega arith))
        ∙ joined_push (take place h.logs) log

    -- that log determines whether a queue is there
    told : is_live list ≡ not (ends_with_removed log)
    told = rw (whole, not_empty past log lawful.begun, ends_as past log lawful.begun) refl

  -- where no queue is there, all were removed
  pub all_past : is_live list ≡ false → ArePast list
  all_past off = by h.logs refl
    where
      by : (logs : List (List Event)) → h.logs ≡ logs → ArePast list
      by [] none = record { logs = []; whole = rw none at h.whole; ended = All-nil IsEndedLog }
      by (l ∷ ls) is =
          let some : 1 ≤ length h.logs = rw is (omega arith) in
          let removed = not-false (ends_with_removed log) (sym (told some) ∙ off) in
          rw (whole some)
          (past_grows past log ended (record { lawful = lawful some; removed = removed }))

  module _ (live : is_live list ≡ true) where
    pub some : 1 ≤ length h.logs
    some = omega (arith, made_some last_seq list h live, list_counted last_seq list h)

    pub unended : ends_with_removed log ≡ false
    unended = not-true (ends_with_removed log) (sym (told some) ∙ live)

    its_last : last_log list ≡ log
    its_last = ap last_log (whole some) ∙ last_log_is past log (lawful some)

    -- the log of the queue that is there
    pub log_there : Lawful (last_log list) × (ends_with_removed (last_log list) ≡ false)
    log_there = rw its_last (lawful some, unended)

    -- it is within the list
    pub log_within : length (last_log list) ≤ length list
    log_within = omega (arith, ap length its_last, ap length (whole some), length-append past log)

  -- with an event more that can happen in the queue that is there it is a slot list
  pub list_more : (e : Event) → is_live list ≡ true → is_made e ≡ false
      → CanHappen (waiting (last_log list)) (quota (last_log list)) e
      → IsSlotList last_seq (list ++ e ∷ [])
  list_more e live unmade allowed =
      let grown : list ++ e ∷ [] ≡ past ++ (log ++ e ∷ []) =
      ap (λ l. l ++ e ∷ []) (whole (some live)) ∙ append_assoc past log (e ∷ []) in
      let none : made_count (e ∷ []) ≡ 0 = rw unmade refl in
      let count = list_counted last_seq list h in
      let more = counted list (e ∷ []) in
      rw grown
      (list_of_live last_seq past (log ++ e ∷ []) ended
      (lawful_more log (log ++ e ∷ []) e refl (lawful (some live)) (unended live) unmade
      (rw (its_last live) at allowed))
      (omega (arith, h.few, ap made_count grown)))

  -- so it is where a queue is created in an empty slot
  pub list_made : (seat moment : ℕ) (key : ℤ) → is_live list ≡ false
      → made_count list ≤ last_seq → IsSlotList last_seq (list ++ Made seat moment key ∷ [])
  list_made seat moment key off few =
      let e : Event = Made seat moment key in
      let lawful : Lawful (e ∷ []) = record {
        begun = refl;
        each = (record { made_first = refl; removed_last = refl; allowed = tt }, tt);
      } in
      let one : made_count (e ∷ []) ≡ 1 = refl in
      list_of_live last_seq list (e ∷ []) (all_past off) lawful
      (omega (arith, counted list (e ∷ []), one, few))
