-- A call that is refused, unless memory ran out, replies its refusal and leaves all.
use Rattle.std.proofs.Common.{◌≡◌, ◌≢◌, ℕ, List, ◌++◌, Some, Result, Ok, Err, ap, ◌∙◌}
use Rattle.mq_queue.specs.Memory.{or_memory}
use Rattle.mq_calls.specs.Look.{Answer, refused_or_memory}
use Rattle.mq_calls.specs.State.{QueuesState}
use Rattle.mq_calls.specs.declared.errno.Errno.{Errno}
use Rattle.mq_calls.specs.declared.errno.Errno.TheVariants.{ENOMEM}
use Rattle.mq_calls.specs.declared.results.Refused.{Refused}
use Rattle.mq_cli.specs.Serial.{Answered}
use Rattle.mq_cli.specs.Session.{by_errno}
use Rattle.mq_cli.specs.Transcript.{Reply, output, refused, replied}

-- by its errno
pub errno_replied : {T : Type 0} (q : QueuesState) (reply : T × QueuesState → Reply × QueuesState) (a : Result (T × QueuesState) Errno) (e : Errno) (after : QueuesState) (old new : List ℕ)
    → e ≡ or_memory ENOMEM a → after ≡ q → new ≡ old ++ output (refused e) → e ≢ ENOMEM → Answered (replied q reply a) old new after (Some e)
errno_replied q reply (Ok turn) e after old new is same line memory = absurd (memory is)
errno_replied q reply (Err r) e after old new is same line memory = record {
  line = line ∙ ap (λ (x : Errno). old ++ output (refused x)) is;
  state = same;
  refusal = ap (λ (x : Errno). Some x) is;
}

-- by the whole refusal
pub refusal_replied : {T : Type 0} (q : QueuesState) (id : ℕ) (reply : T × QueuesState → Reply × QueuesState) (a : Answer T) (r : Refused) (after : QueuesState) (old new : List ℕ)
    → r ≡ refused_or_memory q id a → after ≡ q → new ≡ old ++ output (refused r.errno) → r.errno ≢ ENOMEM → Answered (replied q reply (by_errno a)) old new after (Some r.errno)
refusal_replied q id reply (Ok turn) r after old new is same line memory = absurd (memory (ap (λ (x : Refused). x.errno) is))
refusal_replied q id reply (Err other) r after old new is same line memory = record {
  line = line ∙ ap (λ (x : Refused). old ++ output (refused x.errno)) is;
  state = same;
  refusal = ap (λ (x : Refused). Some x.errno) is;
}
