-- Small facts of lists and options.
use Rattle.std.proofs.Common.{◌≡◌, ℕ, ℤ, Option, IsSome, List, Bor, MutBor, arith}
use Rattle.std.specs.Option.{option_copied, option_copied_mut}
use Rattle.mq_message.specs.Waiting.{message_at}
use Rattle.mq_select.specs.ByType.{queue_at, queue_of}

-- where a message is pending in the queue of a type, there is such a queue
pub has_queue : {X : Type 0} (queues : List (ℤ × List (ℕ × X))) (t : ℤ) (place : ℕ) → IsSome (message_at place (queue_of queues t)) → IsSome (queue_at queues t)
has_queue queues t place h = grind arith

-- what is read through a reference is there where the reference is
pub copied : {X : Type 0} (o : Option (Bor X)) (b : Option X) → option_copied o ≡ b → IsSome b → IsSome o
copied o b e h = grind arith

pub copied_mut : {X : Type 0} (o : Option (MutBor X)) (b : Option X) → option_copied_mut o ≡ b → IsSome b → IsSome o
copied_mut o b e h = grind arith
