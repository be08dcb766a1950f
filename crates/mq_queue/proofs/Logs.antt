-- Logs that grow by one event after another.
use Rattle.std.proofs.Common.{List, [], ◌∷◌, ◌++◌, append_assoc, append-nil}
use Rattle.mq_queue.specs.declared.event.Event.{Event}
use Rattle.mq_queue.specs.Lawful.{AllFollow, CanFollow}

-- what holds of no event, and is kept by each event that can follow, holds of each log
pub along : (P : List Event → Type 0) → P [] → ((before : List Event) (event : Event) → P before → CanFollow before event → P (before ++ event ∷ [])) → (log : List Event) → AllFollow [] log → P log
along P none step log all = from [] log none all
  where
    from : (before events : List Event) → P before → AllFollow before events → P (before ++ events)
    from before [] held all = rw append-nil held
    from before (event ∷ events) held all =
        rw append_assoc at (from (before ++ event ∷ []) events (step before event held all.0) all.1)

-- the first of the events that follow
pub front_follows : (before xs ys : List Event) → AllFollow before (xs ++ ys) → AllFollow before xs
front_follows before [] ys all = tt
front_follows before (x ∷ xs) ys all = (all.0, front_follows (before ++ x ∷ []) xs ys all.1)

-- an event among those that follow
pub follows_there : (before xs : List Event) (event : Event) (ys : List Event) → AllFollow before (xs ++ event ∷ ys) → CanFollow (before ++ xs) event
follows_there before [] event ys all = rw append-nil all.0
follows_there before (x ∷ xs) event ys all =
    rw append_assoc at (follows_there (before ++ x ∷ []) xs event ys all.1)

-- one event more
pub one_more_follows : (before xs : List Event) (event : Event) → AllFollow before xs → CanFollow (before ++ xs) event → AllFollow before (xs ++ event ∷ [])
one_more_follows before [] event all next = (rw append-nil at next, tt)
one_more_follows before (x ∷ xs) event all next =
    (all.0, one_more_follows (before ++ x ∷ []) xs event all.1 (rw append_assoc next))
