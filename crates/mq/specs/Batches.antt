-- What a caller's drafts and receipts of several texts did.
use Rattle.std.specs.Prelude.{◌≡◌, ◌⊎◌, ℕ, ◌+◌, ◌<◌, Bool, List, [], length, Result, Ok, Err, MatchResult}
use Rattle.mq_arena.specs.Text.{PlainText}
use Rattle.mq_message.specs.declared.selection.Selection.{Selection}
use Rattle.mq_calls.specs.Answer.{refused_early}
use Rattle.mq_calls.specs.Texts.{draft_errno}
use Rattle.mq_calls.specs.declared.draft_error.DraftError.{DraftError}
use Rattle.mq_calls.specs.declared.errno.Errno.{Errno}
use Rattle.mq_calls.specs.declared.errno.Errno.TheVariants.{ENOMEM}
use Rattle.mq_calls.specs.declared.results.Delivered.{Delivered}
use Rattle.mq_calls.specs.declared.results.Refused.{Refused}
use Rattle.mq_system.specs.Drafts.{AreDrafted}
use Rattle.mq_system.specs.Pledge.{Pledged}
use Rattle.mq_system.specs.Seat.{SeatState}
use Rattle.mq_system.specs.SeenMany.{AreReceived}
use Rattle.mq_system.specs.declared.many.Letter.{Letter}
use Rattle.mq.specs.Caller.{IsUnasked, IsUnselectable}

-- texts of letters were drafted and added to a list, up to the first refusal
pub record AreAdded {V : Type 0} (bytes_of : V → List ℕ) (height : ℕ) (ends : Bool)
    (letters : List (Letter V)) (old new : List (Letter PlainText))
    (ended : Result (Unit {0}) Errno) : Type 0 where
  pub drafted : Result (Unit {0}) DraftError
  pub texts : AreDrafted bytes_of height ends letters old new drafted
  pub told : MatchResult drafted (λ _. ended ≡ Ok tt) (λ e. ended ≡ Err (draft_errno e))

-- the list of texts had no room for so many more, and there was no memory for it
pub record IsNoRoomFor {V : Type 0} (room : ℕ) (letters : List (Letter V))
    (old new : List (Letter PlainText)) (ended : Result (Unit {0}) Errno) : Type 0 where
  pub full : room < length old + length letters
  pub told : ended ≡ Err ENOMEM
  pub unchanged : new ≡ old

-- texts of letters were drafted and added to a list with so much room, or there was no memory to
-- list them
abbrev pub AreTextsDrafted : {V : Type 0} → (V → List ℕ) → ℕ → Bool → ℕ → List (Letter V)
    → List (Letter PlainText) → List (Letter PlainText) → Result (Unit {0}) Errno → Type 0
AreTextsDrafted bytes_of height ends room letters old new ended =
    AreAdded bytes_of height ends letters old new ended ⊎ IsNoRoomFor room letters old new ended

-- the queues were not asked: for the selection, or since there was no memory to return texts
pub record IsUnaskedForTexts (selection : Selection) (n : ℕ) (old new : SeatState)
    (ds : List (Delivered PlainText)) (ended : Result (Unit {0}) Refused) : Type 0 where
  pub errno : Errno
  pub ended_is : ended ≡ Err (refused_early errno)
  pub none : ds ≡ []
  pub same : IsUnasked old new
  pub why : IsUnselectable selection errno ⊎ ((errno ≡ ENOMEM) × (0 < n))

-- up to n texts were received, as so many calls return them, or the queues were not asked
abbrev pub AreReceivedTexts : Pledged → ℕ → ℕ → ℕ → Selection → Bool → Bool → ℕ → ℕ → SeatState
    → SeatState → List (Delivered PlainText) → Result (Unit {0}) Refused → Type 0
AreReceivedTexts kept slots id size selection noerror nowait moment n old new ds ended =
    AreReceived kept slots id size selection noerror nowait moment n old new ds ended
    ⊎ IsUnaskedForTexts selection n old new ds ended
