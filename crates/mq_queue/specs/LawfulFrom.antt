-- Which events can follow those of a log that are drained.
use Rattle.std.specs.Prelude.{◌≡◌, ◌⊎◌, ◌==◌, Bool, ◌&&◌, false, List, [], ◌∷◌, ◌++◌}
use Rattle.mq_queue.specs.declared.base.Base.{Base}
use Rattle.mq_queue.specs.declared.event.Event.{Event}
use Rattle.mq_queue.specs.Base.{base_after, base_of, figures_from, quota_from, waiting_from}
use Rattle.mq_queue.specs.Figures.{figures}
use Rattle.mq_queue.specs.Lawful.{CanHappen, Lawful}
use Rattle.mq_queue.specs.Log.{is_empty, is_made, ends_with_removed}
use Rattle.mq_queue.specs.Waiting.{waiting}

-- whether nothing has happened yet
abbrev pub is_unbegun : Base → List Event → Bool
is_unbegun base tail = (base.places == 0) && is_empty tail

-- the event can follow these: a queue is created first and only then, nothing follows its removal,
-- and the pending messages and the quota allow the event
pub record CanFollowFrom (base : Base) (before : List Event) (event : Event) : Type 0 where
  pub made_first : is_made event ≡ is_unbegun base before
  pub removed_last : ends_with_removed before ≡ false
  pub allowed : CanHappen (waiting_from base before) (quota_from base before) event

-- each of the events can follow those before it
abbrev pub AllFollowFrom : Base → List Event → List Event → Type 0
AllFollowFrom base before [] = Unit {0}
AllFollowFrom base before (event ∷ events) =
    CanFollowFrom base before event × AllFollowFrom base (before ++ event ∷ []) events

-- the events since the base: with the base there is some event, and each can follow those before it
pub record LawfulFrom (base : Base) (tail : List Event) : Type 0 where
  pub begun : is_unbegun base tail ≡ false
  pub each : AllFollowFrom base [] tail

-- a log that may be drained: it is empty, or that of a queue which is not removed
pub record IsOpenLog (log : List Event) : Type 0 where
  pub lawful : (log ≡ []) ⊎ Lawful log
  pub live : ends_with_removed log ≡ false

-- a log is lawful if and only if the events since its base are, by the base; and the pending
-- messages, the figures and the next base follow from it
pub record GoesOn (cut tail : List Event) : Type 0 where
  pub lawful : Lawful (cut ++ tail) → LawfulFrom (base_of cut) tail
  pub whole : LawfulFrom (base_of cut) tail → Lawful (cut ++ tail)
  pub waits : waiting (cut ++ tail) ≡ waiting_from (base_of cut) tail
  pub shows : figures (cut ++ tail) ≡ figures_from (base_of cut) tail
  pub based : base_of (cut ++ tail) ≡ base_after (base_of cut) tail

-- that holds of each log that may be drained
abbrev pub GoesOnFromBase : Type 0
GoesOnFromBase = (cut tail : List Event) → IsOpenLog cut → GoesOn cut tail
