-- What one thread's calls of several texts return, and the state after them.
use Rattle.std.specs.Prelude.{◌≡◌, ◌⊎◌, ℕ, ◌<◌, false, min, List, [], ◌∷◌, ◌++◌, length, Option, None, Some}
use Rattle.std.specs.Prelude.{Result, Ok, Err, MatchResult}
use Rattle.std.specs.List.{FoldsTo}
use Rattle.mq_arena.specs.Text.{PlainText}
use Rattle.mq_message.specs.declared.selection.Selection.{Selection}
use Rattle.mq_queue.specs.declared.limits.TheConstants.{MSGMAX}
use Rattle.mq_calls.specs.Calls.{msgsnd}
use Rattle.mq_calls.specs.Look.{Answer, refused_early, refused_or_memory}
use Rattle.mq_calls.specs.State.{QueuesState}
use Rattle.mq_calls.specs.Texts.{text_spent}
use Rattle.mq_calls.specs.declared.errno.Errno.{Errno}
use Rattle.mq_calls.specs.declared.errno.Errno.TheVariants.{ENOMEM}
use Rattle.mq_calls.specs.declared.results.Delivered.{Delivered}
use Rattle.mq_calls.specs.declared.results.Refused.{Refused}
use Rattle.mq_local.specs.Many.{AnswersMany}
use Rattle.mq_system.specs.declared.many.Letter.{Letter}
use Rattle.mq.specs.Caller.{IsUnselectable}
use Rattle.mq.specs.Local.{receives}

-- msgsnd of a letter at a seat, in the state before it
abbrev pub sends_letter : ℕ → ℕ → ℕ → Letter PlainText → QueuesState → Answer ℕ
sends_letter seat id moment l s = msgsnd s seat id l.mtype l.tag l.text moment

-- one letter of several is sent, by its entry
pub record SendsLetter (seat id moment : ℕ) (before : QueuesState) (l : Letter PlainText)
    (after : QueuesState) : Type 0 where
  pub entry : ℕ
  pub sent : sends_letter seat id moment l before ≡ Ok (entry, after)

-- the first of several letters is sent at this entry
abbrev pub IsEntryOf : ℕ → ℕ → ℕ → QueuesState → Letter PlainText → ℕ → Type 0
IsEntryOf seat id moment s l entry =
    (after : QueuesState) × (sends_letter seat id moment l s ≡ Ok (entry, after))

-- the entry of the first that was sent, if any was
abbrev pub IsFirstEntryOf : ℕ → ℕ → ℕ → QueuesState → List (Letter PlainText) → Option ℕ → Type 0
IsFirstEntryOf seat id moment s [] first = first ≡ None
IsFirstEntryOf seat id moment s (l ∷ ls) first =
    (entry : ℕ) × (first ≡ Some entry) × IsEntryOf seat id moment s l entry

-- the first of those that are left is refused, or memory ran out for it
pub record IsFirstRefusal (seat id moment : ℕ) (s : QueuesState) (left : List (Letter PlainText))
    (r : Refused) : Type 0 where
  pub first : Letter PlainText
  pub others : List (Letter PlainText)
  pub is : left ≡ first ∷ others
  pub refused : r ≡ refused_or_memory s id (sends_letter seat id moment first s)

-- up to so many letters are sent, one after another; the first refusal ends it, and the rest is
-- left
pub record AnswersLetters (seat id moment most : ℕ) (before after : QueuesState)
    (letters left : List (Letter PlainText)) (first : Option ℕ) (ended : Result (Unit {0}) Refused)
    : Type 0 where
  pub sent : List (Letter PlainText)
  pub split : letters ≡ sent ++ left
  pub entry : IsFirstEntryOf seat id moment before sent first
  pub turns : FoldsTo (SendsLetter seat id moment) before sent after
  pub all : MatchResult ended (λ _. length sent ≡ min (length letters) most)
      (λ _. length sent < most)
  pub refused : MatchResult ended (λ _. Unit {0}) (IsFirstRefusal seat id moment after left)

-- the queues once these texts are spent, one after another
abbrev pub texts_spent : List (Delivered PlainText) → QueuesState → QueuesState
texts_spent [] s = s
texts_spent (d ∷ ds) s = texts_spent ds (text_spent d.text s)

-- a receipt of a text of any length, in the state before it
abbrev pub receives_text : ℕ → ℕ → Selection → ℕ → QueuesState → Answer (Delivered PlainText)
receives_text seat id selection moment s = receives s seat id MSGMAX selection false moment

-- the queues were not asked: for the selection, or since there was no memory to return texts
pub record IsUnaskedHere (selection : Selection) (n : ℕ) (before after : QueuesState)
    (ds : List (Delivered PlainText)) (ended : Result (Unit {0}) Refused) : Type 0 where
  pub errno : Errno
  pub ended_is : ended ≡ Err (refused_early errno)
  pub none : ds ≡ []
  pub unchanged : after ≡ before
  pub why : IsUnselectable selection errno ⊎ ((errno ≡ ENOMEM) × (0 < n))

-- up to n texts are received, as so many calls return them, or the queues were not asked
abbrev pub AnswersTexts : ℕ → ℕ → Selection → ℕ → ℕ → QueuesState → QueuesState
    → List (Delivered PlainText) → Result (Unit {0}) Refused → Type 0
AnswersTexts seat id selection moment n before after ds ended =
    AnswersMany (receives_text seat id selection moment) id n before after ds ended
    ⊎ IsUnaskedHere selection n before after ds ended
