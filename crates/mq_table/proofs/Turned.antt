-- A slot has one more event: its whole list is a slot list again, of which it keeps its part.
use Rattle.std.proofs.Common.{◌≡◌, ℕ, ℤ, ◌≤◌, List, [], ◌∷◌, ◌++◌, length, None, Ok, Bool, true, false, not, refl, ap, sym, ◌∙◌}
use Rattle.mq_message.specs.declared.message.Message.{Message}
use Rattle.mq_message.specs.declared.header.Header.{Header}
use Rattle.mq_message.specs.declared.selection.Selection.{Selection}
use Rattle.mq_queue.specs.declared.event.Event.{Event}
use Rattle.mq_queue.specs.declared.event.Event.TheVariants as event
use Rattle.mq_queue.specs.Lawful.{CanHappen}
use Rattle.mq_queue.specs.Log.{is_made, is_removed, key_told}
use Rattle.mq_queue.specs.Row.{is_live, last_log, made_count}
use Rattle.mq_queue.proofs.Steps.{none_ahead, waits_after}
use Rattle.mq_table.specs.Cut.{kept_cuts}
use Rattle.mq_table.specs.Kept.{KeptSlot, is_live_kept, made_of, quota_now, waiting_now}
use Rattle.mq_table.specs.KeptCalls.{kept_goes_on, kept_makes, kept_receives, kept_removes, kept_sends, kept_sets}
use Rattle.mq_table.specs.KeptPart.{IsKeptPart, IsLawfulSlot, WaitsNow}
use Rattle.mq_table.specs.SlotList.{IsSlotList}
use Rattle.mq_table.proofs.Cuts.{cut_kept}
use Rattle.mq_table.proofs.Grown.{list_made, list_more, log_there}
use Rattle.mq_table.proofs.Kepts.{live_is, live_more, made_is, waiting_is}
use Rattle.mq_table.proofs.KeptTurns.{base_behind, kept_more, makes_kept, no_base, places_last, quota_last, removes_kept, waits_last}
use Rattle.mq_table.proofs.OneMore.{IsOneMore, received_more, sent_more, set_more}
use Rattle.mq_table.proofs.Stays.{grows}

pub record IsTurned {B : Type 0} (last_seq : ℕ) (list : List Event) (e : Event) (s t : KeptSlot B)
    : Type 0 where
  pub keeps : IsKeptPart (list ++ e ∷ []) t
  pub lawful : IsSlotList last_seq (list ++ e ∷ [])
  pub number : t.number ≡ s.number
  pub first : t.first ≡ s.first

module _ {B : Type 0} (last_seq : ℕ) (list : List Event) (s : KeptSlot B) (k : IsKeptPart list s)
    (lawful : IsSlotList last_seq list) where
  -- msgget: a queue is created where none is
  pub made_turned : (key : ℤ) (seat moment : ℕ) → is_live list ≡ false
      → made_count list ≤ last_seq
      → IsTurned last_seq list (event.Made seat moment key) s (kept_makes s key seat moment)
  made_turned key seat moment off few = record {
    keeps = makes_kept list s k key seat moment off;
    lawful = list_made last_seq list lawful seat moment key off few;
    number = refl;
    first = refl;
  }

  module _ (live : is_live list ≡ true) where
    -- one event more of the queue that is there, neither a creation nor a removal
    pub event_turned : (e : Event) (messages : List (ℕ × Message B)) → is_made e ≡ false
        → is_removed e ≡ false → key_told e ≡ None → CanHappen (waiting_now s) (quota_now s) e
        → IsTurned last_seq list e s (kept_goes_on s e messages)
    event_turned e messages unmade stays untold allowed = record {
      keeps = kept_more list s k live e messages unmade stays untold;
      lawful =
          list_more last_seq list lawful e live unmade
          (rw (waits_last list s k live, quota_last list s k live) at allowed);
      number = refl;
      first = refl;
    }

    -- the queue that is there has one event more
    module _ (bytes : B → List ℕ) (t : KeptSlot B) (e : Event) (more : IsOneMore bytes s t e) where
      pub more_turned : IsTurned last_seq list e s t
      more_turned =
          rw more.left
          (event_turned e more.messages more.unmade more.stays more.untold more.allowed)

      pub more_waits : WaitsNow bytes s → WaitsNow bytes t
      more_waits waits =
          let follows = (log_there last_seq list lawful live).0 in
          let there : is_live (list ++ e ∷ []) ≡ true = live_more list e ∙ ap not more.stays in
          let after =
          rw (waits_last list s k live, quota_last list s k live, places_last list s k live)
          at (more.waits waits) in
          rw (
            waits_last (list ++ e ∷ []) t more_turned.keeps there,
            grows list e more.unmade,
            waits_after (last_log list) e (none_ahead (last_log list) follows.each),
            more.left,
          ) after

    -- msgsnd
    pub sent_turned : (bytes : B → List ℕ) (m : Message B) (moment entry : ℕ) (t : KeptSlot B)
        → kept_sends bytes s m moment ≡ Ok (entry, t)
        → IsTurned last_seq list
        (event.Sent m.sender moment m.tag m.mtype (length (bytes m.body))) s t
    sent_turned bytes m moment entry t is =
        more_turned bytes t _ (sent_more bytes s t m moment entry is)

    -- msgrcv
    pub received_turned : (size : ℕ) (selection : Selection) (noerror : Bool) (seat moment : ℕ)
        (m : Header) (t : KeptSlot B)
        → kept_receives s size selection noerror seat moment ≡ Ok (m, t)
        → IsTurned last_seq list (event.Received seat noerror moment m.place selection size) s t
    received_turned size selection noerror seat moment m t is =
        more_turned (λ _. []) t _
        (received_more (λ _. []) s t size selection noerror seat moment m is)

    -- IPC_SET
    pub set_turned : (qbytes seat moment entry : ℕ) (t : KeptSlot B)
        → kept_sets s qbytes seat moment ≡ Ok (entry, t)
        → IsTurned last_seq list (event.Changed seat moment qbytes) s t
    set_turned qbytes seat moment entry t is =
        more_turned (λ _. []) t _ (set_more (λ _. []) s t qbytes seat moment entry is)

    -- IPC_RMID
    pub removed_turned : (seat moment : ℕ)
        → IsTurned last_seq list (event.Removed seat moment) s (kept_removes s seat moment)
    removed_turned seat moment = record {
      keeps = removes_kept list s k live seat moment;
      lawful = list_more last_seq list lawful (event.Removed seat moment) live refl tt;
      number = refl;
      first = refl;
    }

-- what holds of a slot at any time, where its ids end with this seq
pub record IsHeld {B : Type 0} (last_seq : ℕ) (bytes : B → List ℕ) (s : KeptSlot B) : Type 0 where
  pub lawful : IsLawfulSlot last_seq s
  pub waits : WaitsNow bytes s

module _ {B : Type 0} (last_seq : ℕ) (bytes : B → List ℕ) (s : KeptSlot B)
    (h : IsHeld last_seq bytes s) where
  abbrev list : List Event
  list = h.lawful.list

  abbrev part : IsKeptPart list s
  part = h.lawful.part

  lawful_by : (e : Event) (t : KeptSlot B) → IsTurned last_seq list e s t → IsLawfulSlot last_seq t
  lawful_by e t turn = record { list = list ++ e ∷ []; part = turn.keeps; lawful = turn.lawful }

  pub more_held : (t : KeptSlot B) (e : Event) → is_live_kept s ≡ true → IsOneMore bytes s t e
      → IsHeld last_seq bytes t
  more_held t e there more =
      let live = rw (live_is list s part) at there in record {
        lawful =
            lawful_by e t
            (more_turned last_seq list s part h.lawful.lawful live bytes t e more);
        waits = more_waits last_seq list s part h.lawful.lawful live bytes t e more h.waits;
      }

  pub makes_held : (key : ℤ) (seat moment : ℕ) → is_live_kept s ≡ false → made_of s ≤ last_seq
      → IsHeld last_seq bytes (kept_makes s key seat moment)
  makes_held key seat moment none few =
      let off = rw (live_is list s part) at none in record {
        lawful =
            lawful_by (event.Made seat moment key) (kept_makes s key seat moment)
            (made_turned last_seq list s part h.lawful.lawful key seat moment off
            (rw (made_is list s part) at few));
        waits = rw (no_base list s part off) refl;
      }

  pub removes_held : (seat moment : ℕ) → is_live_kept s ≡ true
      → IsHeld last_seq bytes (kept_removes s seat moment)
  removes_held seat moment there =
      let live = rw (live_is list s part) at there in record {
        lawful =
            lawful_by (event.Removed seat moment) (kept_removes s seat moment)
            (removed_turned last_seq list s part h.lawful.lawful live seat moment);
        waits = rw (base_behind s.base (s.past ++ s.last) (event.Removed seat moment)) refl;
      }

  pub cuts_held : IsHeld last_seq bytes (kept_cuts s)
  cuts_held =
      let k' = cut_kept list s part last_seq h.lawful.lawful in record {
        lawful = record { list = list; part = k'; lawful = h.lawful.lawful };
        waits = h.waits ∙ waiting_is list s part ∙ sym (waiting_is list (kept_cuts s) k');
      }
