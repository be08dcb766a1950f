-- What a change of a slot leaves, what is to be published of it, and what is so once it is.
use Rattle.std.proofs.Common.{◌≡◌, ℕ, ℤ, ◌+◌, ◌-◌, ◌<◌, ◌≤◌, ◌^◌, Bool, true, false, not, ◌==◌, List, [], ◌∷◌, ◌++◌, length, map, Result, Ok, Err, refl, ap, sym, ◌∙◌, arith, subst, All}
use Rattle.std.proofs.lemmas.List.{length_push}
use Rattle.std.proofs.lemmas.List.Elements.{All-filter, All-push}
use Rattle.mq_arena.specs.Text.{PlainText}
use Rattle.mq_message.specs.declared.message.Message.{Message}
use Rattle.mq_message.specs.declared.selection.Selection.{Selection}
use Rattle.mq_message.specs.declared.header.Header.{Header}
use Rattle.mq_queue.specs.declared.error.QueueError.{QueueError}
use Rattle.mq_queue.specs.declared.event.Event.{Event}
use Rattle.mq_queue.specs.declared.event.Event.TheVariants as event
use Rattle.mq_queue.specs.Answer.{receive_answer, send_refusal, set_refusal}
use Rattle.mq_queue.specs.Room.{quota}
use Rattle.mq_queue.specs.Row.{made_count, is_live, last_log}
use Rattle.mq_queue.specs.Waiting.{waiting}
use Rattle.mq_table.specs.Calls.{with_event, makes, received, receives, removes, sends}
use Rattle.mq_table.specs.Calls.{sets}
use Rattle.mq_table.specs.Kept.{KeptSlot, kept_figures}
use Rattle.mq_table.specs.KeptCalls.{kept_makes, kept_receives, kept_removes, kept_sends, kept_sets}
use Rattle.mq_table.specs.KeptPart.{whole}
use Rattle.mq_table.specs.Slot.{SlotState}
use Rattle.mq_table.specs.declared.limits.TheConstants.{MAX_SEQ}
use Rattle.mq_table.proofs.Kepts.{figures_is, live_more}
use Rattle.mq_table.proofs.Stays.{left_is}
use Rattle.mq_table.proofs.Turned.{IsTurned, made_turned, received_turned, removed_turned, sent_turned, set_turned}
use Rattle.mq_table.proofs.Whole.{receives_whole, sends_whole, sets_whole}
use Rattle.mq_calls.specs.Texts.{bytes_of}
use Rattle.mq_board.specs.Writers.{WriterState, posting}
use Rattle.mq_board.specs.declared.posting.Posting.{Posting}
use Rattle.mq_system.specs.Answer.{SlotAnswer}
use Rattle.mq_system.specs.Held.{HasAppended, HasChanged, HasNoted}
use Rattle.mq_system.specs.Pledge.{IsPledged, Pledged}
use Rattle.mq_system.specs.Seat.{AreNext, IsNext, SeatState, seat_of}
use Rattle.mq_system.specs.Shared.{IsBehind, IsDue, IsShared, all_events, locked, locked_all}
use Rattle.mq_system.specs.Shared.{unpublished, with_pending}
use Rattle.mq_system.proofs.RestLemmas.{all_next, behind_next, is_next, none_own}

-- the pledge holds of all pending messages
abbrev pub AllPledged : Pledged → List (ℕ × Message PlainText) → Type 0
AllPledged kept messages = All (λ m. IsPledged kept m.1) messages

-- the slot that a receipt leaves, or this one
abbrev left : Result (Header × SlotState PlainText) QueueError → SlotState PlainText
    → SlotState PlainText
left (Ok turn) s = turn.1
left (Err refusal) s = s

-- the messages that a call leaves pending keep the pledge
module _ (kept : Pledged) (s t : SlotState PlainText) (h : AllPledged kept s.messages) where
  send_pledged : (m : Message PlainText) (moment entry : ℕ) → IsPledged kept m
      → sends bytes_of s m moment ≡ Ok (entry, t) → AllPledged kept t.messages
  send_pledged m moment entry pledged e =
      let log = last_log s.events in
      let n = length (bytes_of m.body) in
      let after : SlotState PlainText =
      with_event s (event.Sent m.sender moment m.tag m.mtype n)
      (s.messages ++ (length log, m) ∷ []) in
      let is : after ≡ t =
      left_is (send_refusal (waiting log) (quota log) m.mtype n) s after t entry e in
      rw (← ap (λ (x : SlotState PlainText). x.messages) is)
      (All-push (λ p. IsPledged kept p.1) s.messages (length log, m) h pledged)

  set_pledged : (qbytes seat moment entry : ℕ) → sets s qbytes seat moment ≡ Ok (entry, t)
      → AllPledged kept t.messages
  set_pledged qbytes seat moment entry e =
      let after : SlotState PlainText =
      with_event s (event.Changed seat moment qbytes) s.messages in
      let is : after ≡ t = left_is (set_refusal qbytes) s after t entry e in
      rw (← ap (λ (x : SlotState PlainText). x.messages) is) h

  receive_pledged : (size : ℕ) (selection : Selection) (noerror : Bool) (seat moment : ℕ)
      (r : Header) → receives s size selection noerror seat moment ≡ Ok (r, t)
      → AllPledged kept t.messages
  receive_pledged size selection noerror seat moment r e =
      by (receive_answer (waiting (last_log s.events)) size selection noerror) e
    where
      by : (answer : Result Header QueueError)
          → received s (λ m. event.Received seat noerror moment m.place selection size) answer
          ≡ Ok (r, t)
          → AllPledged kept t.messages
      by (Ok m) is =
          rw (← ap (λ turn. (left turn s).messages) is)
          (All-filter (λ p. not (p.0 == m.place)) (λ p. IsPledged kept p.1) s.messages h)
      by (Err refusal) is = cc

none_pledged : (kept : Pledged) → AllPledged kept []
none_pledged kept k d low = absurd (omega (arith, low))

-- a call changed the slot by an event of this seat, which is to be published: so it is left as the
-- call leaves the whole slot
pub record IsChange (kept : Pledged) (slots last_seq seat : ℕ) (old now : WriterState)
    (s t : KeptSlot PlainText) (parts amount : ℕ) (leaves : SlotState PlainText → Type 0)
    : Type 0 where
  pub due : IsDue kept slots last_seq seat now.board now.events now.pending t parts amount
  pub number : t.number ≡ s.number
  pub first : t.first ≡ s.first
  pub known : now.events ≡ old.events
  pub left : leaves (whole (with_pending now.events now.pending) t)

module _ (kept : Pledged) (slots last_seq parts amount : ℕ) (desk due : WriterState)
    (s t : KeptSlot PlainText)
    (h : IsShared kept slots last_seq desk.board desk.events desk.pending s parts amount)
    (short : length desk.events < 2 ^ 64 - 1) (few : made_count desk.events ≤ MAX_SEQ + 1)
  where
    -- the board's writer took the event in
    abbrev Took : Event → Type 0
    Took e =
        due ≡ record desk { pending = desk.pending ++ posting e (kept_figures t) ∷ [] }

    abbrev Change : ℕ → (SlotState PlainText → Type 0) → Type 0
    Change seat leaves = IsChange kept slots last_seq seat desk due s t parts amount leaves

    module _ (e : Event) (turn : IsTurned last_seq desk.events e s t) (took : Took e) where
      list_is : with_pending desk.events (desk.pending ++ posting e (kept_figures t) ∷ [])
          ≡ desk.events ++ e ∷ []
      list_is =
          ap (λ p. with_pending desk.events (p ++ posting e (kept_figures t) ∷ [])) h.published.none

      next_is : with_pending due.events due.pending ≡ desk.events ++ e ∷ []
      next_is = ap (λ (w : WriterState). with_pending w.events w.pending) took ∙ list_is

      changes : (seat : ℕ) → seat_of e ≡ seat → AllPledged kept t.messages
          → (leaves : SlotState PlainText → Type 0) → leaves (whole (desk.events ++ e ∷ []) t)
          → Change seat leaves
      changes seat own pledged leaves left = record {
        due =
            rw took (record {
              ready = record {
                next = posting e (kept_figures t);
                one = ap (λ p. p ++ posting e (kept_figures t) ∷ []) h.published.none;
                figures = figures_is (desk.events ++ e ∷ []) t turn.keeps;
                length_fits = short;
                made_fits = omega (arith, few);
              };
              own = own;
              shared = record {
                published = record {
                  numbered = h.published.numbered ∙ sym turn.number;
                  kept = rw list_is turn.keeps;
                  none = refl;
                };
                within = rw turn.number h.within;
                lawful = rw list_is turn.lawful;
                pledged = pledged;
                part = h.part;
                noted =
                    omega (arith, h.noted, ap length list_is, length_push desk.events e);
              };
            });
        number = turn.number;
        first = turn.first;
        known = ap (λ (w : WriterState). w.events) took;
        left = rw next_is left;
      }

    -- msgget: a queue is made where none is
    pub make_changes : (key : ℤ) (seat moment : ℕ) → is_live desk.events ≡ false
        → made_count desk.events ≤ last_seq → t ≡ kept_makes s key seat moment
        → Took (event.Made seat moment key)
        → Change seat (λ x. x ≡ makes (whole desk.events s) key seat moment)
    make_changes key seat moment off unused is took =
        let e = event.Made seat moment key in
        let turn : IsTurned last_seq desk.events e s t =
        rw is (made_turned last_seq desk.events s h.published.kept h.lawful key seat moment off unused) in
        changes e turn took seat refl
        (rw (ap (λ (x : KeptSlot PlainText). x.messages) is) (none_pledged kept))
        (λ x. x ≡ makes (whole desk.events s) key seat moment) (rw is refl)

    module _ (live : is_live desk.events ≡ true) where
      -- msgsnd
      pub send_changes : (m : Message PlainText) (moment entry : ℕ) → IsPledged kept m
          → kept_sends bytes_of s m moment ≡ Ok (entry, t)
          → Took (event.Sent m.sender moment m.tag m.mtype (length (bytes_of m.body)))
          → Change m.sender (λ x. sends bytes_of (whole desk.events s) m moment ≡ Ok (entry, x))
      send_changes m moment entry pledged answer took =
          let e = event.Sent m.sender moment m.tag m.mtype (length (bytes_of m.body)) in
          let told = (sends_whole desk.events s h.published.kept live bytes_of m moment entry t answer).answers in
          changes e
          (sent_turned last_seq desk.events s h.published.kept h.lawful live bytes_of m moment entry t answer)
          took m.sender refl
          (send_pledged kept (whole desk.events s) (whole (desk.events ++ e ∷ []) t) h.pledged m moment entry pledged told)
          (λ x. sends bytes_of (whole desk.events s) m moment ≡ Ok (entry, x)) told

      -- msgrcv
      pub receive_changes : (size : ℕ) (selection : Selection) (noerror : Bool) (seat moment : ℕ)
          (r : Header) → kept_receives s size selection noerror seat moment ≡ Ok (r, t)
          → Took (event.Received seat noerror moment r.place selection size)
          → Change seat (λ x. receives (whole desk.events s) size selection noerror seat moment ≡ Ok (r, x))
      receive_changes size selection noerror seat moment r answer took =
          let e = event.Received seat noerror moment r.place selection size in
          let told = (receives_whole desk.events s h.published.kept live size selection noerror seat moment r t answer).answers in
          changes e
          (received_turned last_seq desk.events s h.published.kept h.lawful live size selection noerror seat moment r t answer)
          took seat refl
          (receive_pledged kept (whole desk.events s) (whole (desk.events ++ e ∷ []) t) h.pledged size selection noerror seat moment r told)
          (λ x. receives (whole desk.events s) size selection noerror seat moment ≡ Ok (r, x)) told

      -- IPC_SET
      pub set_changes : (qbytes seat moment entry : ℕ) → kept_sets s qbytes seat moment ≡ Ok (entry, t)
          → Took (event.Changed seat moment qbytes)
          → Change seat (λ x. sets (whole desk.events s) qbytes seat moment ≡ Ok (entry, x))
      set_changes qbytes seat moment entry answer took =
          let e = event.Changed seat moment qbytes in
          let told = (sets_whole desk.events s h.published.kept live qbytes seat moment entry t answer).answers in
          changes e
          (set_turned last_seq desk.events s h.published.kept h.lawful live qbytes seat moment entry t answer)
          took seat refl
          (set_pledged kept (whole desk.events s) (whole (desk.events ++ e ∷ []) t) h.pledged qbytes seat moment entry told)
          (λ x. sets (whole desk.events s) qbytes seat moment ≡ Ok (entry, x)) told

      -- IPC_RMID
      pub remove_changes : (seat moment : ℕ) → t ≡ kept_removes s seat moment
          → Took (event.Removed seat moment)
          → Change seat (λ x. x ≡ removes (whole desk.events s) seat moment)
      remove_changes seat moment is took =
          let e = event.Removed seat moment in
          let turn : IsTurned last_seq desk.events e s t =
          rw is (removed_turned last_seq desk.events s h.published.kept h.lawful live seat moment) in
          changes e turn took seat refl
          (rw (ap (λ (x : KeptSlot PlainText). x.messages) is) (none_pledged kept))
          (λ x. x ≡ removes (whole desk.events s) seat moment) (rw is refl)

-- a call changed the slot by an event of this seat, which is not published yet
pub record IsAppended (kept : Pledged) (slots last_seq seat : ℕ) (writer : WriterState)
    (s t : KeptSlot PlainText) (parts amount : ℕ) (leaves : SlotState PlainText → Type 0)
    : Type 0 where
  pub behind : IsBehind kept slots last_seq seat writer t parts amount
  pub number : t.number ≡ s.number
  pub first : t.first ≡ s.first
  pub next : IsNext seat (all_events writer.events s) (all_events writer.events t)
  pub left : leaves (whole (all_events writer.events t) t)

module _ (kept : Pledged) (slots last_seq seat : ℕ) (writer : WriterState)
    (s t : KeptSlot PlainText) (parts amount : ℕ)
    (h : IsBehind kept slots last_seq seat writer s parts amount)
    (short : length (all_events writer.events s) < 2 ^ 64 - 1)
    (few : made_count (all_events writer.events s) ≤ MAX_SEQ + 1)
    (live : is_live (all_events writer.events s) ≡ true)
  where
    abbrev all : List Event
    all = all_events writer.events s

    -- a writer that has published all of it, and one that has taken in one event more
    abbrev desk : WriterState
    desk = record writer { events = all; pending = [] }

    abbrev due : Event → WriterState
    due e = record desk { pending = posting e (kept_figures t) ∷ [] }

    abbrev whole_amount : ℕ
    whole_amount = amount + length (unpublished (length writer.events) s)

    started : IsShared kept slots last_seq writer.board all [] s parts whole_amount
    started =
        subst (λ (p : List Posting).
        IsShared kept slots last_seq writer.board all p s parts whole_amount)
        h.shared.published.none h.shared

    abbrev Appended : (SlotState PlainText → Type 0) → Type 0
    Appended leaves = IsAppended kept slots last_seq seat writer s t parts amount leaves

    appended : (e : Event) → seat_of e ≡ seat → is_live (all ++ e ∷ []) ≡ true
        → (leaves : SlotState PlainText → Type 0)
        → IsChange kept slots last_seq seat desk (due e) s t parts whole_amount leaves
        → Appended leaves
    appended e own there leaves its = record {
      behind =
          behind_next kept slots last_seq seat writer s t parts amount h e its.due.shared its.first own there;
      number = its.number;
      first = its.first;
      next =
          is_next kept slots last_seq seat writer s t parts amount h e its.due.shared its.first own there;
      left =
          rw (all_next kept slots last_seq seat writer s t parts amount h e its.due.shared its.first own there)
          its.left;
    }

    -- msgsnd
    pub send_appends : (m : Message PlainText) (moment entry : ℕ) → m.sender ≡ seat
        → IsPledged kept m → kept_sends bytes_of s m moment ≡ Ok (entry, t)
        → Appended (λ x. sends bytes_of (whole all s) m moment ≡ Ok (entry, x))
    send_appends m moment entry own pledged answer =
        let e = event.Sent m.sender moment m.tag m.mtype (length (bytes_of m.body)) in
        let leaves : SlotState PlainText → Type 0 =
        λ x. sends bytes_of (whole all s) m moment ≡ Ok (entry, x) in
        appended e own (live_more all e) leaves
        (subst (λ (n : ℕ). IsChange kept slots last_seq n desk (due e) s t parts whole_amount leaves)
        own
        (send_changes kept slots last_seq parts whole_amount desk (due e) s t started short few live m moment entry pledged answer refl))

    -- msgrcv
    pub receive_appends : (size : ℕ) (selection : Selection) (noerror : Bool) (moment : ℕ)
        (r : Header) → kept_receives s size selection noerror seat moment ≡ Ok (r, t)
        → Appended (λ x. receives (whole all s) size selection noerror seat moment ≡ Ok (r, x))
    receive_appends size selection noerror moment r answer =
        let e = event.Received seat noerror moment r.place selection size in
        appended e refl (live_more all e)
        (λ x. receives (whole all s) size selection noerror seat moment ≡ Ok (r, x))
        (receive_changes kept slots last_seq parts whole_amount desk (due e) s t started short few live size selection noerror seat moment r answer refl)

-- such a call answers and leaves the slot as it says
pub has_appended : {T : Type 0} (kept : Pledged) (slots last_seq seat : ℕ) (writer : WriterState)
    (s t : KeptSlot PlainText) (parts amount : ℕ) (leaves : SlotState PlainText → Type 0)
    → IsAppended kept slots last_seq seat writer s t parts amount leaves
    → (decided : SlotAnswer T) (value : T)
    → decided ≡ Ok (value, whole (all_events writer.events t) t)
    → HasAppended decided (locked_all writer.events s) (locked_all writer.events t) seat value
has_appended kept slots last_seq seat writer s t parts amount leaves its decided value is = record {
  ok = is;
  number = its.number;
  kept = its.first;
  next = its.next;
}

-- what is so once a change is published
module _ (kept : Pledged) (slots last_seq seat parts amount : ℕ) (old new : WriterState)
    (slot : KeptSlot PlainText)
    (due : IsDue kept slots last_seq seat old.board old.events old.pending slot parts amount)
    (published : new ≡ record old {
      events = old.events ++ map (λ p. p.event) old.pending;
      pending = [];
    })
  where
    pub events_are : new.events ≡ with_pending old.events old.pending
    events_are = ap (λ (w : WriterState). w.events) published

    pub board_is : new.board ≡ slot.number
    board_is = ap (λ (w : WriterState). w.board) published ∙ due.shared.published.numbered

    pub shared_is : (now_parts now_amount : ℕ) → now_parts ≡ parts → now_amount ≡ amount + 1
        → IsShared kept slots last_seq new.board new.events new.pending slot now_parts now_amount
    shared_is now_parts now_amount part noted =
        subst (λ (w : WriterState).
        IsShared kept slots last_seq w.board w.events w.pending slot now_parts now_amount)
        (sym published) (rw (part, noted) due.shared)

    -- one event more is published, which the seat made
    pub next_by : (front : List Event) → front ≡ old.events → AreNext seat front new.events 1
    next_by front known = record {
      events = due.ready.next.event ∷ [];
      own = All-push (λ e. seat_of e ≡ seat) [] due.ready.next.event (none_own seat) due.own;
      next =
          events_are ∙ ap (with_pending old.events) due.ready.one
          ∙ ap (λ (es : List Event). es ++ due.ready.next.event ∷ []) (sym known);
      many = refl;
    }

-- a change that is published and noted: the call has changed the slot as it answers
module _ (kept : Pledged) (slots last_seq seat parts amount : ℕ) (old now : WriterState)
    (s t : KeptSlot PlainText) (leaves : SlotState PlainText → Type 0)
    (its : IsChange kept slots last_seq seat old now s t parts amount leaves)
    (events : List Event) (published : events ≡ with_pending now.events now.pending)
    (before after : SeatState) (noted : HasNoted before after t.number events)
  where
    pub has_changed : {T : Type 0} (decided : SlotAnswer T) (value : T)
        → decided ≡ Ok (value, whole (with_pending now.events now.pending) t)
        → HasChanged decided (locked old.events s) (locked events t) before after value
    has_changed decided value is = record {
      ok = rw published is;
      number = its.number;
      kept = its.first;
      noted = subst (λ n. HasNoted before after n events) its.number noted;
    }
