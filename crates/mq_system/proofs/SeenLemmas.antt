-- What a seat knows of a change or a refusal once it knows all of the slot.
use Rattle.std.proofs.Common.{◌≡◌, ℕ, ℤ, pos, ◌+◌, ◌<◌, ◌≤◌, int_lt, Bool, true, false, List, [], ◌∷◌, ◌++◌, length, take, slice_get, slice_set, Option, None, Some, unwrap_or, Result, Ok, Err, refl, ap, sym, ◌∙◌, subst, arith}
use Rattle.std.proofs.Math.Seq.{take-append_seam, take-length}
use Rattle.std.proofs.lemmas.List.{length-append, length_push}
use Rattle.std.specs.Result.{result_err}
use Rattle.mq_arena.specs.Text.{PlainText}
use Rattle.mq_message.specs.declared.message.Message.{Message}
use Rattle.mq_message.specs.declared.header.Header.{Header}
use Rattle.mq_message.specs.Waiting.{without}
use Rattle.mq_message.specs.declared.selection.Selection.{Selection}
use Rattle.mq_queue.specs.Answer.{receive_answer, send_refusal, set_refusal}
use Rattle.mq_queue.specs.Room.{quota}
use Rattle.mq_queue.specs.Queue.{rest_of}
use Rattle.mq_queue.specs.Row.{last_log, made_count}
use Rattle.mq_queue.specs.Waiting.{waiting}
use Rattle.mq_queue.specs.declared.error.QueueError.{QueueError}
use Rattle.mq_queue.specs.declared.event.Event.{Event}
use Rattle.mq_queue.specs.declared.event.Event.TheVariants as event
use Rattle.mq_table.specs.Calls.{SlotTurn, with_event, makes, received, removes, sends, sets, changed_unless}
use Rattle.mq_table.specs.Ids.{seq_of}
use Rattle.mq_table.specs.Slot.{SlotState, next_id}
use Rattle.mq_table.specs.SlotList.{Standing, Never, Live, Removed, by_standing, is_free, standing}
use Rattle.mq_table.specs.declared.limits.TheConstants.{MAX_SLOTS}
use Rattle.mq_calls.specs.Calls.{delivered, delivers}
use Rattle.mq_calls.specs.Look.{once, refused_early}
use Rattle.mq_calls.specs.Texts.{bytes_of}
use Rattle.mq_calls.specs.declared.errno.Errno.TheVariants.{EINVAL, ENOMEM}
use Rattle.mq_calls.specs.declared.results.Delivered.{Delivered}
use Rattle.mq_calls.specs.declared.results.Got.{Got}
use Rattle.mq_calls.specs.declared.results.Refused.{Refused}
use Rattle.mq_calls.specs.declared.results.Removal.{Removal}
use Rattle.mq_system.specs.Answer as answer
use Rattle.mq_system.specs.Held.{HasNoted}
use Rattle.mq_system.specs.Making.{IsMade, make_verdict}
use Rattle.mq_system.specs.Outcome.{IsLook, IsStep, IsUnderLock}
use Rattle.mq_system.specs.Seat.{IsCounted, SeatState, front_of}
use Rattle.mq_system.specs.Seen.{IsDecided, IsDone, IsReceipt, Verdict, unless_refused, receive_verdict, remove_verdict, send_verdict, set_verdict}
use Rattle.mq_system.specs.Shared.{LockedSlot}
use Rattle.mq_system.proofs.KeysLemmas.{seq_of_id, slot_of_next}
use Rattle.mq_system.proofs.LaterLemmas.{front_set, later_set, look_trans, step_after}
use Rattle.mq_system.proofs.RefusalLemmas.{if_false}

-- the slot under the lock is what the guard holds, and the seat may have learned before
pub enters : (old had now : SeatState) (slot at : ℕ) (s held : LockedSlot) → at ≡ slot
    → s ≡ held → IsLook old had → IsUnderLock had now at held.whole
    → IsUnderLock old now slot s.whole
enters old had now slot at s held there is look entered = record {
  look = look_trans old had now look entered.look;
  low = rw (← there) entered.low;
  number = rw is entered.number ∙ there;
  known = rw (is, ← there) entered.known;
}

-- why the slot's queue refuses, if it does
abbrev why : {T : Type 0} → SlotTurn PlainText T → Option QueueError
why (Ok turn) = None
why (Err refusal) = Some refusal

-- what a call answers where the slot's queue returns this, by where the id's queue stands
abbrev answers : {T : Type 0} → SlotState PlainText → Standing → SlotTurn PlainText T → answer.SlotAnswer T
answers s stands turn =
    once (answer.by_id_in_slot s (by_standing stands)) (answer.answered_in_slot s turn)

-- a call that is not refused
record IsTurn {T : Type 0} (stands : Standing) (turn : SlotTurn PlainText T)
    (told : T × SlotState PlainText) : Type 0 where
  turns : turn ≡ Ok told
  allowed : unless_refused stands (why turn) ≡ None

abbrev as_turn : {T : Type 0} → SlotTurn PlainText T → answer.SlotAnswer T → SlotTurn PlainText T
as_turn other (Ok turn) = Ok turn
as_turn other (Err refused) = other

turn_ok : {T : Type 0} (s : SlotState PlainText) (stands : Standing) (turn : SlotTurn PlainText T)
    (told : T × SlotState PlainText) → answers s stands turn ≡ Ok told → IsTurn stands turn told
turn_ok s Never turn told is = cc
turn_ok s Removed turn told is = cc
turn_ok s Live (Ok turn) told is = record { turns = ap (as_turn (Ok turn)) is; allowed = refl }
turn_ok s Live (Err refusal) told is = cc

-- a call that is refused
turn_refused : {T : Type 0} (s : SlotState PlainText) (stands : Standing)
    (turn : SlotTurn PlainText T)
    → answer.refused_or_memory_in_slot s (answers s stands turn)
    ≡ answer.refused_here s (unwrap_or (unless_refused stands (why turn)) ENOMEM)
turn_refused s Never turn = refl
turn_refused s Removed turn = refl
turn_refused s Live (Ok turn) = refl
turn_refused s Live (Err refusal) = refl

why_unless : (refusal : Option QueueError) (s after : SlotState PlainText)
    → why (changed_unless refusal s after) ≡ refusal
why_unless None s after = refl
why_unless (Some refusal) s after = refl

-- what a change returns: its entry, and the slot that it leaves
unless_ok : (refusal : Option QueueError) (s after t : SlotState PlainText) (entry : ℕ)
    → changed_unless refusal s after ≡ Ok (entry, t) → (entry ≡ length s.events) × (t ≡ after)
unless_ok None s after t entry is =
    (ap (λ turn. (told turn).0) (sym is), ap (λ turn. (told turn).1) (sym is))
  where
    told : SlotTurn PlainText ℕ → ℕ × SlotState PlainText
    told (Ok turn) = turn
    told (Err refusal) = (entry, t)
unless_ok (Some refusal) s after t entry is = cc

module _ (old now new : SeatState) (slot : ℕ) (s : SlotState PlainText) (h : IsUnderLock old now slot s)
  where
    -- the front before is no longer than the list
    late : length (front_of old slot) ≤ length s.events
    late =
        let p = h.look.later.later slot in
        omega (arith, ap length p.1, length-append (front_of old slot) p.0, ap length h.known)

    -- one event more, which is published and learned
    done_at : (verdict : Verdict) (e : Event) → front_of new slot ≡ s.events ++ e ∷ []
        → verdict s.events ≡ None → IsDone old new slot verdict (length s.events) e
    done_at verdict e is allowed = record {
      late = late;
      there = rw is (last_is s.events e);
      allowed = rw (is, take-append_seam s.events (e ∷ [])) allowed;
    }
      where
        last_is : (es : List Event) (e : Event) → slice_get (es ++ e ∷ []) (length es) ≡ Some e
        last_is [] e = refl
        last_is (x ∷ es) e = last_is es e

    -- what all events of the slot decide
    decided_at : (verdict : Verdict) → front_of new slot ≡ s.events → (r : Refused)
        → r ≡ answer.refused_here s (unwrap_or (verdict s.events) ENOMEM)
        → IsDecided old new slot verdict r
    decided_at verdict is r its =
        subst (IsDecided old new slot verdict) (sym its)
        (record {
          late = late;
          known = sym (ap length is);
          why = rw (is, take-length s.events) refl;
        })

    -- the caller's seat has its number still
    own : (P : ℕ → Type 0) → P now.number → P old.number
    own P p = subst P h.look.same.number p

    -- the slot's list grew, and the seat counted and learned of it
    grown : (e : Event) (messages : List (ℕ × Message PlainText)) (t : SlotState PlainText)
        → with_event s e messages ≡ t → HasNoted now new s.number t.events
        → IsStep old new slot × (front_of new slot ≡ t.events)
    grown e messages t goes noted =
        let at : new.fronts ≡ slice_set now.fronts slot t.events =
        noted.learned ∙ ap (λ n. slice_set now.fronts n t.events) h.number in (
          step_after old now new slot h.look (subst (λ n. IsCounted now new n) h.number noted.counted)
              (later_set now new slot t.events h.low at
              (e ∷ [], ap (λ (es : List Event). es ++ e ∷ []) h.known ∙ ap (λ (x : SlotState PlainText). x.events) goes)),
          front_set now new slot t.events h.low at,
        )

    pub done_send : (id entry : ℕ) (mtype : ℤ) (tag moment : ℕ) (text : PlainText)
        (t : SlotState PlainText) → int_lt mtype (pos 1) ≡ false → HasNoted now new s.number t.events
        → answer.send_in_slot s id (record { mtype = mtype; sender = now.number; tag = tag; body = text }) moment
        ≡ Ok (entry, t)
        → IsStep old new slot × IsDone old new slot (send_verdict (seq_of id) mtype (length text.bytes)) entry
        (event.Sent old.number moment tag mtype (length text.bytes))
    done_send id entry mtype tag moment text t sent noted is =
        let m : Message PlainText =
        record { mtype = mtype; sender = now.number; tag = tag; body = text } in
        let log = last_log s.events in
        let n = length text.bytes in
        let e = event.Sent now.number moment tag mtype n in
        let refusal = send_refusal (waiting log) (quota log) mtype n in
        let after : SlotState PlainText = with_event s e (s.messages ++ (length log, m) ∷ []) in
        let turn = turn_ok s (standing s.events (seq_of id)) (sends bytes_of s m moment) (entry, t) (sym (if_false (int_lt mtype (pos 1)) (Err (refused_early EINVAL)) (answers s (standing s.events (seq_of id)) (sends bytes_of s m moment)) sent) ∙ is) in
        let told = unless_ok refusal s after t entry turn.turns in
        let grew =
        grown e (s.messages ++ (length log, m) ∷ []) t (sym told.1) noted in (
          grew.0,
          own (λ seat. IsDone old new slot (send_verdict (seq_of id) mtype n) entry (event.Sent seat moment tag mtype n))
              (rw told.0
              (done_at (send_verdict (seq_of id) mtype n) e
              (grew.1 ∙ ap (λ (x : SlotState PlainText). x.events) told.1)
              (ap (unless_refused (standing s.events (seq_of id)))
              (sym (why_unless refusal s after))
              ∙ turn.allowed))),
        )

    pub decided_send : (id : ℕ) (m : Message PlainText) (moment : ℕ) (r : Refused)
        → front_of new slot ≡ s.events
        → r ≡ answer.refused_or_memory_in_slot s (answer.send_in_slot s id m moment)
        → IsDecided old new slot (send_verdict (seq_of id) m.mtype (length m.body.bytes)) r
    decided_send id m moment r learned is =
        let log = last_log s.events in
        let n = length (bytes_of m.body) in
        let refusal = send_refusal (waiting log) (quota log) m.mtype n in
        let after : SlotState PlainText =
        with_event s (event.Sent m.sender moment m.tag m.mtype n) (s.messages ++ (length log, m) ∷ []) in
        by (int_lt m.mtype (pos 1)) refl (why_unless refusal s after)
      where
        n : ℕ
        n = length (bytes_of m.body)

        by : (b : Bool) → int_lt m.mtype (pos 1) ≡ b
            → why (sends bytes_of s m moment)
            ≡ send_refusal (waiting (last_log s.events)) (quota (last_log s.events)) m.mtype n
            → IsDecided old new slot (send_verdict (seq_of id) m.mtype n) r
        by true low reason =
            let its : r ≡ refused_early EINVAL = rw low at is in
            subst (IsDecided old new slot (send_verdict (seq_of id) m.mtype n)) (sym its) tt
        by false sent reason =
            let asked : answer.SlotAnswer ℕ =
            answers s (standing s.events (seq_of id)) (sends bytes_of s m moment) in
            decided_at (send_verdict (seq_of id) m.mtype n) learned r
            (is
            ∙ ap (λ a. answer.refused_or_memory_in_slot s a)
            (if_false (int_lt m.mtype (pos 1)) (Err (refused_early EINVAL)) asked sent)
            ∙ turn_refused s (standing s.events (seq_of id)) (sends bytes_of s m moment)
            ∙ ap (λ o. answer.refused_here s (unwrap_or (unless_refused (standing s.events (seq_of id)) o) ENOMEM))
            reason)

    pub done_set : (id entry qbytes moment : ℕ) (t : SlotState PlainText)
        → HasNoted now new s.number t.events
        → answer.set_in_slot s id qbytes now.number moment ≡ Ok (entry, t)
        → IsStep old new slot × IsDone old new slot (set_verdict (seq_of id) qbytes) entry
        (event.Changed old.number moment qbytes)
    done_set id entry qbytes moment t noted is =
        let e = event.Changed now.number moment qbytes in
        let after : SlotState PlainText = with_event s e s.messages in
        let turn = turn_ok s (standing s.events (seq_of id)) (sets s qbytes now.number moment) (entry, t) is in
        let told = unless_ok (set_refusal qbytes) s after t entry turn.turns in
        let grew = grown e s.messages t (sym told.1) noted in (
          grew.0,
          own (λ seat. IsDone old new slot (set_verdict (seq_of id) qbytes) entry (event.Changed seat moment qbytes))
              (rw told.0
              (done_at (set_verdict (seq_of id) qbytes) e
              (grew.1 ∙ ap (λ (x : SlotState PlainText). x.events) told.1)
              (ap (unless_refused (standing s.events (seq_of id))) (sym (why_unless (set_refusal qbytes) s after))
              ∙ turn.allowed))),
        )

    pub decided_set : (id qbytes seat moment : ℕ) (r : Refused) → front_of new slot ≡ s.events
        → r ≡ answer.refused_or_memory_in_slot s (answer.set_in_slot s id qbytes seat moment)
        → IsDecided old new slot (set_verdict (seq_of id) qbytes) r
    decided_set id qbytes seat moment r learned is =
        let after : SlotState PlainText =
        with_event s (event.Changed seat moment qbytes) s.messages in
        decided_at (set_verdict (seq_of id) qbytes) learned r
        (is ∙ turn_refused s (standing s.events (seq_of id)) (sets s qbytes seat moment)
        ∙ ap (λ o. answer.refused_here s (unwrap_or (unless_refused (standing s.events (seq_of id)) o) ENOMEM))
        (why_unless (set_refusal qbytes) s after))

    pub done_remove : (id moment : ℕ) (r : Removal) (t : SlotState PlainText)
        → HasNoted now new s.number t.events
        → answer.remove_in_slot s id now.number moment r.log.base.places ≡ Ok (r, t)
        → IsStep old new slot
        × IsDone old new slot (remove_verdict (seq_of id)) r.entry (event.Removed old.number moment)
        × (r.log ≡ rest_of r.log.base.places (last_log (take (r.entry + 1) (front_of new slot))))
        × (take (r.entry + 1) (front_of new slot) ≡ t.events)
    done_remove id moment r t noted is =
        let e = event.Removed now.number moment in
        let after : SlotState PlainText = removes s now.number moment in
        let turn = turn_ok s (standing s.events (seq_of id)) (Ok (answer.removal s after r.log.base.places, after)) (r, t) is in
        let its : answer.removal s after r.log.base.places ≡ r = ap (λ turn. (told turn).0) turn.turns in
        let left : after ≡ t = ap (λ turn. (told turn).1) turn.turns in
        let grew = grown e [] t left noted in
        let front : front_of new slot ≡ s.events ++ e ∷ [] =
        grew.1 ∙ ap (λ (x : SlotState PlainText). x.events) (sym left) in
        let entry : length s.events ≡ r.entry = ap (λ (x : Removal). x.entry) its in (
          grew.0,
          own (λ seat. IsDone old new slot (remove_verdict (seq_of id)) r.entry (event.Removed seat moment))
              (rw (← entry) (done_at (remove_verdict (seq_of id)) e front turn.allowed)),
          rw (← entry, front, take-whole s.events e) (sym (ap (λ (x : Removal). x.log) its)),
          rw (← entry, front, take-whole s.events e) (ap (λ (x : SlotState PlainText). x.events) left),
        )
      where
        told : SlotTurn PlainText Removal → Removal × SlotState PlainText
        told (Ok turn) = turn
        told (Err refusal) = (r, t)

        take-whole : (es : List Event) (e : Event)
            → take (length es + 1) (es ++ e ∷ []) ≡ es ++ e ∷ []
        take-whole es e =
            ap (λ n. take n (es ++ e ∷ [])) (sym (length_push es e)) ∙ take-length (es ++ e ∷ [])

    pub decided_remove : (id seat moment : ℕ) (r : Refused) → front_of new slot ≡ s.events
        → r ≡ answer.refused_or_memory_in_slot s (answer.remove_in_slot s id seat moment 0)
        → IsDecided old new slot (remove_verdict (seq_of id)) r
    decided_remove id seat moment r learned is =
        let after : SlotState PlainText = removes s seat moment in
        decided_at (remove_verdict (seq_of id)) learned r
        (is ∙ turn_refused s (standing s.events (seq_of id)) (Ok (answer.removal s after 0, after)))

    pub done_receive : (id size : ℕ) (selection : Selection) (noerror : Bool) (moment : ℕ)
        (d : Delivered PlainText) (t : SlotState PlainText)
        → HasNoted now new s.number t.events
        → answer.receive_in_slot s id size selection noerror now.number moment ≡ Ok (d, t)
        → IsStep old new slot × IsReceipt old new slot (seq_of id) size selection noerror moment d
    done_receive id size selection noerror moment d t noted is =
        by (receive_answer (waiting (last_log s.events)) size selection noerror) refl is
      where
        e : Header → Event
        e m = event.Received now.number noerror moment m.place selection size

        told : SlotTurn PlainText (Delivered PlainText) → Delivered PlainText × SlotState PlainText
        told (Ok turn) = turn
        told (Err refusal) = (d, t)

        by : (named : Result Header QueueError)
            → receive_answer (waiting (last_log s.events)) size selection noerror ≡ named
            → answers s (standing s.events (seq_of id)) (delivers s.messages size (length s.events) (received s e named)) ≡ Ok (d, t)
            → IsStep old new slot × IsReceipt old new slot (seq_of id) size selection noerror moment d
        by (Ok m) picked its =
            let after : SlotState PlainText = with_event s (e m) (without m.place s.messages) in
            let turn = turn_ok s (standing s.events (seq_of id)) (Ok (delivered s.messages size (length s.events) m, after)) (d, t) its in
            let same : delivered s.messages size (length s.events) m ≡ d = ap (λ turn. (told turn).0) turn.turns in
            let left : after ≡ t = ap (λ turn. (told turn).1) turn.turns in
            let grew = grown (e m) (without m.place s.messages) t left noted in
            let front : front_of new slot ≡ s.events ++ e m ∷ [] =
            grew.1 ∙ ap (λ (x : SlotState PlainText). x.events) (sym left) in
            let first : take (length s.events) (front_of new slot) ≡ s.events =
            ap (take (length s.events)) front ∙ take-append_seam s.events (e m ∷ []) in
            let entry : length s.events ≡ d.entry = ap (λ (x : Delivered PlainText). x.entry) same in (
              grew.0,
              record {
                message = m;
                done =
                    own (λ seat. IsDone old new slot (receive_verdict (seq_of id) size selection noerror) d.entry (event.Received seat noerror moment m.place selection size))
                    (rw (← entry)
                    (done_at (receive_verdict (seq_of id) size selection noerror) (e m) front
                    (rw picked turn.allowed)));
                named = rw (← entry, first) picked;
                mtype = ap (λ (x : Delivered PlainText). x.mtype) (sym same);
                sender = ap (λ (x : Delivered PlainText). x.sender) (sym same);
                tag = ap (λ (x : Delivered PlainText). x.tag) (sym same);
                long = ap (λ (x : Delivered PlainText). x.length) (sym same);
              },
            )
        by (Err refusal) picked its =
            no (turn_ok s (standing s.events (seq_of id)) (delivers s.messages size (length s.events) (received s e (Err refusal))) (d, t) its).turns
          where
            no : delivers s.messages size (length s.events) (received s e (Err refusal)) ≡ Ok (d, t)
                → IsStep old new slot × IsReceipt old new slot (seq_of id) size selection noerror moment d
            no is = cc

    pub decided_receive : (id size : ℕ) (selection : Selection) (noerror : Bool) (seat moment : ℕ)
        (r : Refused) → front_of new slot ≡ s.events
        → r ≡ answer.refused_or_memory_in_slot s
        (answer.receive_in_slot s id size selection noerror seat moment)
        → IsDecided old new slot (receive_verdict (seq_of id) size selection noerror) r
    decided_receive id size selection noerror seat moment r learned is =
        let named = receive_answer (waiting (last_log s.events)) size selection noerror in
        decided_at (receive_verdict (seq_of id) size selection noerror) learned r
        (is ∙ turn_refused s (standing s.events (seq_of id)) (delivers s.messages size (length s.events) (received s e named))
        ∙ ap (λ o. answer.refused_here s (unwrap_or (unless_refused (standing s.events (seq_of id)) o) ENOMEM))
        (why_received named))
      where
        e : Header → Event
        e m = event.Received seat noerror moment m.place selection size

        why_received : (named : Result Header QueueError)
            → why (delivers s.messages size (length s.events) (received s e named))
            ≡ result_err named
        why_received (Ok m) = refl
        why_received (Err refusal) = refl

    pub done_make : (last_seq : ℕ) (key : ℤ) (moment : ℕ) (got : Got) (t : SlotState PlainText)
        → s.number < MAX_SLOTS → is_free last_seq s.events ≡ true
        → got ≡ record { id = next_id s; made = Some (length s.events) }
        → t ≡ makes s key now.number moment → HasNoted now new s.number t.events
        → IsMade old new slot last_seq key moment got
    done_make last_seq key moment got t few free is made noted =
        let e = event.Made now.number moment key in
        let grew = grown e [] t (sym made) noted in
        let front : front_of new slot ≡ s.events ++ e ∷ [] =
        grew.1 ∙ ap (λ (x : SlotState PlainText). x.events) made in
        rw is
        (record {
          entry = length s.events;
          made = refl;
          done =
              own (λ seat. IsDone old new slot (make_verdict last_seq) (length s.events) (event.Made seat moment key))
              (done_at (make_verdict last_seq) e front (rw free refl));
          slot_is = slot_of_next s few ∙ h.number;
          seq_is =
              rw (front, take-append_seam s.events (e ∷ []))
              (seq_of_id s.number (made_count s.events) few);
          step = grew.0;
        })
