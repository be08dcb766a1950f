-- Two slots that keep parts of one list, and what calls return in them.
use Rattle.std.proofs.Common.{◌≡◌, ℕ, ℤ, ◌≤◌, List, [], ◌∷◌, ◌++◌, length, Option, None, Some}
use Rattle.std.proofs.Common.{Result, Ok, Err, Bool, true, false, refl, ap, rules, sym, ◌∙◌}
use Rattle.mq_arena.specs.Text.{PlainText}
use Rattle.mq_message.specs.declared.message.Message.{Message}
use Rattle.mq_message.specs.declared.header.Header.{Header}
use Rattle.mq_message.specs.declared.selection.Selection.{Selection}
use Rattle.mq_message.specs.Waiting.{without}
use Rattle.mq_queue.specs.declared.error.QueueError.{QueueError}
use Rattle.mq_queue.specs.declared.event.Event.{Event}
use Rattle.mq_queue.specs.declared.event.Event.TheVariants as event
use Rattle.mq_queue.specs.Answer.{send_refusal, receive_answer, set_refusal}
use Rattle.mq_queue.specs.Room.{quota}
use Rattle.mq_queue.specs.Row.{is_live, last_log, made_count}
use Rattle.mq_queue.specs.Waiting.{waiting}
use Rattle.mq_table.specs.Cut.{kept_cuts}
use Rattle.mq_table.specs.Kept.{KeptSlot, entries_of, kept_figures, places_now}
use Rattle.mq_table.specs.KeptCalls.{KeptTurn, kept_makes, kept_received, kept_receives}
use Rattle.mq_table.specs.KeptCalls.{kept_removes, kept_sends, kept_sets, kept_unless}
use Rattle.mq_table.specs.KeptPart.{IsKeptPart}
use Rattle.mq_table.specs.KeptShown.{is_free_now, last_id_now, next_id_now, row_now, standing_now}
use Rattle.mq_table.specs.SlotList.{IsSlotList}
use Rattle.mq_table.proofs.Can.{received_can, sent_can, set_can}
use Rattle.mq_table.proofs.Cuts.{cut_kept}
use Rattle.mq_table.proofs.Grown.{list_made, list_more}
use Rattle.mq_table.proofs.Kepts.{entries_is, figures_is, is_free_is, last_id_is, next_id_is}
use Rattle.mq_table.proofs.Kepts.{places_is, row_is, standing_is}
use Rattle.mq_table.proofs.KeptTurns.{kept_more, makes_kept, removes_kept, quota_last, waits_last}

-- both keep a part of one slot list, and have the same number and the same messages
pub record AreAlike (last_seq : ℕ) (a b : KeptSlot PlainText) : Type 0 where
  pub list : List Event
  pub lawful : IsSlotList last_seq list
  pub one : IsKeptPart list a
  pub other : IsKeptPart list b
  pub number : a.number ≡ b.number
  pub messages : a.messages ≡ b.messages

-- two calls with the same result, which leave slots that are alike
abbrev pub TurnAlike : {T : Type 0} → ℕ → KeptTurn PlainText T → KeptTurn PlainText T → Type 0
TurnAlike last_seq (Ok t) (Ok u) = (t.0 ≡ u.0) × AreAlike last_seq t.1 u.1
TurnAlike last_seq (Ok t) (Err e) = ⊥
TurnAlike last_seq (Err e) (Ok u) = ⊥
TurnAlike last_seq (Err d) (Err e) = d ≡ e

unless_alike : (last_seq : ℕ) (o : Option QueueError) (a b c d : KeptSlot PlainText)
    → entries_of a ≡ entries_of b → (o ≡ None → AreAlike last_seq c d)
    → TurnAlike last_seq (kept_unless o a c) (kept_unless o b d)
unless_alike last_seq None a b c d same left = (same, left refl)
unless_alike last_seq (Some e) a b c d same left = refl

module _ (last_seq : ℕ) (a b : KeptSlot PlainText) (k : AreAlike last_seq a b) where
  -- what is shown of the one is shown of the other
  pub entries_alike : entries_of a ≡ entries_of b
  entries_alike = entries_is k.list a k.one ∙ sym (entries_is k.list b k.other)

  pub standing_alike : (seq : ℕ) → standing_now a seq ≡ standing_now b seq
  standing_alike seq = standing_is k.list a k.one seq ∙ sym (standing_is k.list b k.other seq)

  pub free_alike : is_free_now last_seq a ≡ is_free_now last_seq b
  free_alike = is_free_is k.list a k.one last_seq ∙ sym (is_free_is k.list b k.other last_seq)

  pub row_alike : row_now a ≡ row_now b
  row_alike = row_is k.list a k.one ∙ sym (row_is k.list b k.other)

  pub figures_alike : kept_figures a ≡ kept_figures b
  figures_alike = figures_is k.list a k.one ∙ sym (figures_is k.list b k.other)

  pub places_alike : places_now a ≡ places_now b
  places_alike = places_is k.list a k.one ∙ sym (places_is k.list b k.other)

  pub next_id_alike : next_id_now a ≡ next_id_now b
  next_id_alike = cc (next_id_is k.list a k.one, next_id_is k.list b k.other, k.number)

  pub last_id_alike : last_id_now a ≡ last_id_now b
  last_id_alike = cc (last_id_is k.list a k.one, last_id_is k.list b k.other, k.number)

  -- a drain of the one
  pub cut_alike : AreAlike last_seq (kept_cuts a) b
  cut_alike =
      let one = cut_kept k.list a k.one last_seq k.lawful in
      search (rules, k.lawful, one, k.other, k.number, k.messages)

  -- msgget
  pub made_alike : (key : ℤ) (seat moment : ℕ) → is_live k.list ≡ false
      → made_count k.list ≤ last_seq
      → AreAlike last_seq (kept_makes a key seat moment) (kept_makes b key seat moment)
  made_alike key seat moment off few =
      let lawful = list_made last_seq k.list k.lawful seat moment key off few in
      let one = makes_kept k.list a k.one key seat moment off in
      let other = makes_kept k.list b k.other key seat moment off in
      search (rules, lawful, one, other, k.number)

  module _ (live : is_live k.list ≡ true) where
    -- msgsnd
    pub sends_alike : (bytes : PlainText → List ℕ) (m : Message PlainText) (moment : ℕ)
        → TurnAlike last_seq (kept_sends bytes a m moment) (kept_sends bytes b m moment)
    sends_alike bytes m moment =
        let n = length (bytes m.body) in
        let log = last_log k.list in
        let sent : Event = event.Sent m.sender moment m.tag m.mtype n in
        let e = send_refusal (waiting log) (quota log) m.mtype n in
        rw (
          waits_last k.list a k.one live,
          quota_last k.list a k.one live,
          waits_last k.list b k.other live,
          quota_last k.list b k.other live,
        )
        (unless_alike last_seq e a b _ _ entries_alike (λ free. record {
          list = k.list ++ sent ∷ [];
          lawful = list_more last_seq k.list k.lawful sent live refl
              (sent_can (waiting log) (quota log) m.sender moment m.tag m.mtype n free);
          one = kept_more k.list a k.one live sent _ refl refl refl;
          other = kept_more k.list b k.other live sent _ refl refl refl;
          number = k.number;
          messages = rw (places_alike, k.messages) refl;
        }))

    -- msgrcv
    pub receives_alike : (size : ℕ) (selection : Selection) (noerror : Bool) (seat moment : ℕ)
        → TurnAlike last_seq (kept_receives a size selection noerror seat moment)
        (kept_receives b size selection noerror seat moment)
    receives_alike size selection noerror seat moment =
        rw (waits_last k.list a k.one live, waits_last k.list b k.other live)
        (by (receive_answer (waiting (last_log k.list)) size selection noerror) refl)
      where
        by : (answer : Result Header QueueError) → receive_answer (waiting (last_log k.list)) size
            selection noerror ≡ answer
            → TurnAlike last_seq
            (kept_received a (λ m. event.Received seat noerror moment m.place selection size)
            answer)
            (kept_received b (λ m. event.Received seat noerror moment m.place selection size)
            answer)
        by (Ok m) its =
            let e : Event = event.Received seat noerror moment m.place selection size in
            let log = last_log k.list in (
              refl,
              record {
                list = k.list ++ e ∷ [];
                lawful = list_more last_seq k.list k.lawful e live refl
                    (received_can (waiting log)
                    (quota log) seat moment size selection noerror m its);
                one = kept_more k.list a k.one live e _ refl refl refl;
                other = kept_more k.list b k.other live e _ refl refl refl;
                number = k.number;
                messages = ap (without m.place) k.messages;
              },
            )
        by (Err refusal) its = refl

    -- IPC_SET
    pub sets_alike : (qbytes seat moment : ℕ)
        → TurnAlike last_seq (kept_sets a qbytes seat moment) (kept_sets b qbytes seat moment)
    sets_alike qbytes seat moment =
        let log = last_log k.list in
        let e : Event = event.Changed seat moment qbytes in
        unless_alike last_seq (set_refusal qbytes) a b _ _ entries_alike (λ free. record {
          list = k.list ++ e ∷ [];
          lawful = list_more last_seq k.list k.lawful e live refl
              (set_can (waiting log) (quota log) seat moment qbytes free);
          one = kept_more k.list a k.one live e _ refl refl refl;
          other = kept_more k.list b k.other live e _ refl refl refl;
          number = k.number;
          messages = k.messages;
        })

    -- IPC_RMID
    pub removes_alike : (seat moment : ℕ) → AreAlike last_seq (kept_removes a seat moment)
        (kept_removes b seat moment)
    removes_alike seat moment =
        let e : Event = event.Removed seat moment in
        let lawful = list_more last_seq k.list k.lawful e live refl tt in
        let one = removes_kept k.list a k.one live seat moment in
        let other = removes_kept k.list b k.other live seat moment in
        search (rules, lawful, one, other, k.number)
