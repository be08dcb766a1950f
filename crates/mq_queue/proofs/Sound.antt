-- A queue whose log has one event more.
use Rattle.std.proofs.Common.{◌≡◌, ℕ, ◌<◌, List, [], ◌∷◌, ◌++◌, length, unwrap_or, All, false, refl, sym, subst, ◌∙◌}
use Rattle.mq_message.specs.declared.message.Message.{Message}
use Rattle.mq_message.specs.declared.header.Header.{Header}
use Rattle.mq_message.specs.Waiting.{header_of, headers_of}
use Rattle.mq_queue.specs.declared.event.Event.{Event}
use Rattle.mq_queue.specs.declared.figures.Figures.{Figures}
use Rattle.mq_queue.specs.Figures.{live_figures, sender_told, sending_told, receiver_told, receipt_told, change_told}
use Rattle.mq_queue.specs.Lawful.{CanHappen, Lawful}
use Rattle.mq_queue.specs.Log.{is_empty, is_made, is_removed, ends_with_removed, last_told}
use Rattle.mq_queue.specs.Queue.{IsSound}
use Rattle.mq_queue.specs.Replay.{after_event}
use Rattle.mq_queue.specs.Room.{bytes_waiting, quota}
use Rattle.mq_queue.specs.Waiting.{waiting}
use Rattle.mq_queue.proofs.Bases.{removed-append}
use Rattle.mq_queue.proofs.Logs.{one_more_follows}
use Rattle.mq_queue.proofs.Places.{Rises, all_unmapped, pairs_unmapped}
use Rattle.mq_queue.proofs.Steps.{none_ahead, quota_after, state_of, told-append, waits_after, waits_rising, waits_within}

never_empty : (log : List Event) (event : Event) → is_empty (log ++ event ∷ []) ≡ false
never_empty [] event = refl
never_empty (first ∷ log) event = refl

-- a lawful log is lawful with an event that can happen
pub lawful_more : (log log' : List Event) (event : Event) → log' ≡ log ++ event ∷ [] → Lawful log → ends_with_removed log ≡ false → is_made event ≡ false → CanHappen (waiting log) (quota log) event → Lawful log'
lawful_more log log' event grown lawful live later allowed = rw grown (record {
  begun = never_empty log event;
  each = one_more_follows [] log event lawful.each (record {
    made_first = later ∙ sym lawful.begun;
    removed_last = live;
    allowed = allowed;
  });
})

-- a sound queue is sound with an event that can happen, where just that was done to the messages
pub sound_more : {B : Type 0} (bytes : B → List ℕ) (log log' : List Event) (event : Event) (messages messages' : List (ℕ × Message B)) → log' ≡ log ++ event ∷ [] → IsSound bytes log messages → is_made event ≡ false → is_removed event ≡ false → CanHappen (waiting log) (quota log) event → headers_of bytes messages' ≡ (after_event (length log) (state_of log) event).headers → IsSound bytes log' messages'
sound_more bytes log log' event messages messages' grown sound later lives allowed waits = record {
  lawful = lawful_more log log' event grown sound.lawful sound.live later allowed;
  live = rw (grown, removed-append log (event ∷ []) sound.live) lives;
  waits = rw grown (waits ∙ sym (waits_after log event (none_ahead log sound.lawful.each)));
}

-- the figures once the event happened
abbrev pub figures_after : List Event → Event → Figures
figures_after log event =
    let s = after_event (length log) (state_of log) event in
    record {
      qnum = length s.headers;
      cbytes = bytes_waiting s.headers;
      qbytes = s.quota;
      stime = unwrap_or (sending_told event) (last_told sending_told 0 log);
      rtime = unwrap_or (receipt_told event) (last_told receipt_told 0 log);
      ctime = unwrap_or (change_told event) (last_told change_told 0 log);
      lspid = unwrap_or (sender_told event) (last_told sender_told 0 log);
      lrpid = unwrap_or (receiver_told event) (last_told receiver_told 0 log);
    }

pub figures_more : (log log' : List Event) (event : Event) → log' ≡ log ++ event ∷ [] → Lawful log → live_figures log' ≡ figures_after log event
figures_more log log' event grown lawful =
    rw (grown, waits_after log event (none_ahead log lawful.each), quota_after log event, told-append sending_told 0 log (event ∷ []), told-append receipt_told 0 log (event ∷ []), told-append change_told 0 log (event ∷ []), told-append sender_told 0 log (event ∷ []), told-append receiver_told 0 log (event ∷ [])) refl

-- the places of the messages rise
pub messages_rise : {B : Type 0} (bytes : B → List ℕ) (log : List Event) (messages : List (ℕ × Message B)) → IsSound bytes log messages → Rises (λ (m : ℕ × Message B). m.0) messages
messages_rise bytes log messages sound =
    pairs_unmapped (λ (a b : Header). a.place < b.place) (header_of bytes) messages (subst (Rises (λ (m : Header). m.place)) (sym sound.waits) (waits_rising log))

-- and are within the log
pub messages_within : {B : Type 0} (bytes : B → List ℕ) (log : List Event) (messages : List (ℕ × Message B)) → IsSound bytes log messages → All (λ m. m.0 < length log) messages
messages_within bytes log messages sound =
    all_unmapped (λ (m : Header). m.place < length log) (header_of bytes) messages (subst (All (λ (m : Header). m.place < length log)) (sym sound.waits) (waits_within log))
