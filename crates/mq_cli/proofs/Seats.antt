use Rattle.std.proofs.Common.{◌≡◌, ℕ, List, Option, Result, Ok, Err, IfOk, ap, ◌∙◌}
use Rattle.std.specs.declared.alloc.AllocError.{AllocError}
use Rattle.mq_calls.specs.State.{QueuesState}
use Rattle.mq_calls.specs.declared.errno.Errno.{Errno}
use Rattle.mq_cli.specs.Serial.{Answered}
use Rattle.mq_cli.specs.Session.{SessionState}
use Rattle.mq_cli.specs.Transcript.{Reply, by_seat}

-- what is answered of the queues is answered of the run, whose seat stays
pub seated : (done : Result (Option Errno) AllocError) (s : SessionState) (turn : Reply × QueuesState) (old new : List ℕ) (q : QueuesState) (after : SessionState)
    → IfOk done (Answered turn old new q) → after ≡ record { queues = q; seat = s.seat } → IfOk done (Answered (by_seat s turn) old new after)
seated (Ok told) s turn old new q after is same = record {
  line = is.line;
  state = same ∙ ap (λ (p : QueuesState). record { queues = p; seat = s.seat }) is.state;
  refusal = is.refusal;
}
seated (Err _) s turn old new q after is same = tt
