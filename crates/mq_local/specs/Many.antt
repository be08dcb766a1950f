-- What calls answer and leave that are made one after another until one is refused (msgop(2)).
use Rattle.std.specs.Prelude.{◌≡◌, ℕ, ℤ, ◌<◌, Bool, List, [], ◌∷◌, ◌++◌, length, Result, Ok, MatchResult}
use Rattle.std.specs.List.{FoldsTo}
use Rattle.mq_arena.specs.Text.{PlainText}
use Rattle.mq_message.specs.declared.message.Message.{Message}
use Rattle.mq_calls.specs.Calls.{msgrcv, msgsnd}
use Rattle.mq_calls.specs.Look.{Answer, refused_or_memory}
use Rattle.mq_calls.specs.State.{QueuesState}
use Rattle.mq_calls.specs.declared.results.Delivered.{Delivered}
use Rattle.mq_calls.specs.declared.results.Refused.{Refused}

-- msgrcv, of the state when it is called
abbrev pub receive_of : ℕ → ℕ → ℕ → ℤ → Bool → Bool → ℕ → QueuesState
    → Answer (Delivered PlainText)
receive_of seat id size mtype except noerror moment s =
    msgrcv s seat id size mtype except noerror moment

-- one receipt of several
abbrev pub Receives : (QueuesState → Answer (Delivered PlainText)) → QueuesState
    → Delivered PlainText → QueuesState → Type 0
Receives call before d after = call before ≡ Ok (d, after)

-- up to n messages of an id's queue are received by this call, made again and again; the first
-- refusal ends it, and so does running out of memory
pub record AnswersMany (call : QueuesState → Answer (Delivered PlainText)) (id n : ℕ)
    (before after : QueuesState) (ds : List (Delivered PlainText))
    (ended : Result (Unit {0}) Refused) : Type 0 where
  pub turns : FoldsTo (Receives call) before ds after
  pub all : MatchResult ended (λ _. length ds ≡ n) (λ _. length ds < n)
  pub refused : MatchResult ended (λ _. Unit {0})
      (λ r. r ≡ refused_or_memory after id (call after))

-- msgsnd of a message as its sender's seat, of the state when it is called
abbrev pub send_of : ℕ → ℕ → Message PlainText → QueuesState → Answer ℕ
send_of id moment m s = msgsnd s m.sender id m.mtype m.tag m.body moment

-- one message of several is sent, by its entry
pub record Sends (id moment : ℕ) (before : QueuesState) (m : Message PlainText)
    (after : QueuesState) : Type 0 where
  pub entry : ℕ
  pub sent : send_of id moment m before ≡ Ok (entry, after)

-- the first of those that are left is refused, or memory runs out for it
pub record IsFirstRefused (id moment : ℕ) (s : QueuesState) (left : List (Message PlainText))
    (r : Refused) : Type 0 where
  pub first : Message PlainText
  pub others : List (Message PlainText)
  pub is : left ≡ first ∷ others
  pub refused : r ≡ refused_or_memory s id (send_of id moment first s)

-- messages are sent, one after another; the first refusal ends it, and the rest is left
pub record AnswersSendMany (id moment : ℕ) (before after : QueuesState)
    (messages left : List (Message PlainText)) (ended : Result (Unit {0}) Refused) : Type 0 where
  pub sent : List (Message PlainText)
  pub split : messages ≡ sent ++ left
  pub turns : FoldsTo (Sends id moment) before sent after
  pub all : MatchResult ended (λ _. left ≡ []) (λ _. Unit {0})
  pub refused : MatchResult ended (λ _. Unit {0}) (IsFirstRefused id moment after left)
