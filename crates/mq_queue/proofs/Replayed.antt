-- A log that is replayed from its start.
use Rattle.std.proofs.Common.{◌≡◌, List, [], ◌∷◌, ◌++◌, length, length-append, map, refl, append_assoc, append-nil, arith, slice_get, Some}
use Rattle.std.proofs.lemmas.Grind.{common_steps}
use Rattle.mq_queue.specs.declared.event.Event.{Event}
use Rattle.mq_queue.specs.declared.event.Event.TheVariants.{Made, Sent, Received, Changed, Removed}
use Rattle.mq_queue.specs.Lawful.{AllFollow, CanFollow}
use Rattle.mq_queue.specs.Replay.{played, state_after}
use Rattle.mq_queue.specs.Replies.{given, replayed, replies_from, reply_to}
use Rattle.mq_queue.specs.Room.{quota}
use Rattle.mq_queue.specs.Waiting.{waiting, sent_at}
use Rattle.mq_queue.proofs.Lists.{slice_get_front}
use Rattle.mq_queue.proofs.Order.{picked_was_sent}
use Rattle.mq_queue.proofs.Sendings.{some_and}
use Rattle.mq_queue.proofs.Steps.{NoneAhead, none_ahead_more, picked_there, state_of, state_of_more}

-- of an event that can follow, a replay finds the result that was returned
reply_given : (before : List Event) (event : Event) (rest : List Event) → CanFollow before event → reply_to (state_of before) event ≡ given (before ++ rest) event
reply_given before (Made seat moment key) rest next = refl
reply_given before (Sent seat moment tag mtype n) rest next = grind (arith, common_steps, next.allowed)
reply_given before (Received seat noerror moment place selection size) rest next =
    let there = picked_there before seat moment place selection size noerror next in
    let sent = picked_was_sent before place selection size noerror there.0 there.1 in
    let at = some_and (slice_get before place) (λ event. sent_at place event ≡ Some there.0) sent in
    rw (there.1.picked, there.1.fits, slice_get_front before rest place there.1.within, at.1, at.2) refl
reply_given before (Changed seat moment qbytes) rest next = grind (arith, common_steps, next.allowed)
reply_given before (Removed seat moment) rest next = refl

-- the state and the results of a replay from this place of the log on
record IsPlayed (before events : List Event) : Type 0 where
  state : played (length before) (state_of before) events ≡ state_of (before ++ events)
  replies : replies_from (length before) (state_of before) events ≡ map (given (before ++ events)) events

play : (before events : List Event) → NoneAhead before → AllFollow before events → IsPlayed before events
play before [] none all = record { state = rw (append-nil before) refl; replies = refl }
play before (event ∷ events) none all =
    let later = play (before ++ event ∷ []) events (none_ahead_more before event none all.0) all.1 in
    record {
      state = rw (length-append before (event ∷ []), state_of_more before event none, append_assoc before (event ∷ []) events) at later.state;
      replies = cc (reply_given before event (event ∷ events) all.0, rw (length-append before (event ∷ []), state_of_more before event none, append_assoc before (event ∷ []) events) at later.replies);
    }

pub replay_is : (log : List Event) → AllFollow [] log → (state_after log ≡ record { headers = waiting log; quota = quota log }) × (replayed log ≡ map (given log) log)
replay_is log all = let whole = play [] log (λ place past. refl) all in (whole.state, whole.replies)
