-- How far a queue's log is published.
use Rattle.std.specs.Prelude.{◌≡◌, List, [], ◌++◌, map}
use Rattle.mq_queue.specs.declared.base.Base.{Base}
use Rattle.mq_queue.specs.declared.event.Event.{Event}
use Rattle.mq_queue.specs.Base.{base_of}
use Rattle.mq_board.specs.Writers.{WriterState, HasOnePending}

-- nothing of the log was drained, all its events are published, and none is pending
abbrev pub IsShown : Base → List Event → WriterState → Type 0
IsShown base log desk = (base ≡ base_of []) × (desk.events ≡ log) × (desk.pending ≡ [])

-- nothing of the log was drained, its last event is pending, and those before it are published
abbrev pub IsPending : Base → List Event → WriterState → Type 0
IsPending base log desk = (base ≡ base_of []) × HasOnePending desk.events desk.pending
    × (desk.events ++ map (λ p. p.event) desk.pending ≡ log)
