-- What msgget may answer, and what a seat's fronts show of it (msgget(2)).
use Rattle.std.specs.Prelude.{◌≡◌, ◌≢◌, ℕ, ℤ, pos, ◌<◌, ◌&&◌, ◌||◌, Bool, true, false, List, None, Some, Option, MatchOption}
use Rattle.std.specs.Ordering.{int_eq}
use mathlib.Core.List.{IsPrefix}
use Rattle.mq_queue.specs.declared.event.Event.{Event}
use Rattle.mq_table.specs.Ids.{seq_of, slot_of}
use Rattle.mq_table.specs.SlotList.{is_free}
use Rattle.mq_calls.specs.declared.errno.Errno.{Errno}
use Rattle.mq_calls.specs.declared.errno.Errno.TheVariants.{ENOMEM, EEXIST, ENOENT, ENOSPC}
use Rattle.mq_calls.specs.declared.results.GetFlags.{GetFlags}
use Rattle.mq_calls.specs.declared.results.Got.{Got}
use Rattle.mq_system.specs.Making.{HoldsMade, IsKeyed, IsMade, Lacks}
use Rattle.mq_system.specs.Outcome.{IsLook}
use Rattle.mq_system.specs.Seat.{SeatState, IsCounted, IsLater, IsSame, front_of}

-- key 0 is IPC_PRIVATE (msgget(2))
abbrev pub is_private : ℤ → Bool
is_private key = int_eq key (pos 0)

-- whether a call may make a queue
abbrev pub may_make : ℤ → GetFlags → Bool
may_make key flags = is_private key || flags.create

-- whether a call requires a queue that is not there yet
abbrev pub wants_new : GetFlags → Bool
wants_new flags = flags.create && flags.exclusive

-- a queue was made only where it may be; one that was there is returned only by its key, and not
-- where a new one is required
abbrev pub MayGet : ℤ → GetFlags → Option ℕ → Type 0
MayGet key flags (Some entry) = may_make key flags ≡ true
MayGet key flags None = (is_private key ≡ false) × (wants_new flags ≡ false)

-- a queue that was made counts for its maker, in its slot; one that was there does not
abbrev pub CountsGet : SeatState → SeatState → Got → Type 0
CountsGet old new got =
    MatchOption got.made (IsSame old new) (λ _. IsCounted old new (slot_of got.id))

-- the refusals of msgget, each with the keys and flags that it requires
abbrev pub MayRefuse : ℤ → GetFlags → Errno → Type 0
MayRefuse key flags EEXIST = (is_private key ≡ false) × (wants_new flags ≡ true)
MayRefuse key flags ENOENT = (is_private key ≡ false) × (flags.create ≡ false)
MayRefuse key flags ENOSPC = may_make key flags ≡ true
MayRefuse key flags ENOMEM = may_make key flags ≡ true
MayRefuse key flags _ = ⊥

-- at some moment of the call this was so: the slot's events then began with the front before, and
-- the front afterwards begins with them
pub record Was (fact : List Event → Type 0) (old new : List Event) : Type 0 where
  pub then : List Event
  pub since : IsPrefix old then
  pub until : IsPrefix then new
  pub so : fact then

-- the same of a slot, and of each slot with a number below this
abbrev pub WasAt : (List Event → Type 0) → SeatState → SeatState → ℕ → Type 0
WasAt fact old new slot = Was fact (front_of old slot) (front_of new slot)

abbrev pub WasBelow : (List Event → Type 0) → SeatState → SeatState → ℕ → Type 0
WasBelow fact old new count = (slot : ℕ) → slot < count → WasAt fact old new slot

-- a queue could be made in the slot, or none could
abbrev pub IsFree : ℕ → List Event → Type 0
IsFree last_seq events = is_free last_seq events ≡ true

abbrev pub IsNotFree : ℕ → List Event → Type 0
IsNotFree last_seq events = is_free last_seq events ≡ false

-- a queue was found: it was there with its key, and the front holds its creation
pub record IsFound (key : ℤ) (old new : SeatState) (id : ℕ) : Type 0 where
  pub was : WasAt (IsKeyed (seq_of id) key) old new (slot_of id)
  pub made : HoldsMade (seq_of id) key (front_of new (slot_of id))

-- a queue was made, in the first slot that was free
pub record IsNew (slots last_seq : ℕ) (key : ℤ) (moment : ℕ) (old new : SeatState) (got : Got)
    : Type 0 where
  pub within : slot_of got.id < slots
  pub made : IsMade old new (slot_of got.id) last_seq key moment got
  pub lower : WasBelow (IsNotFree last_seq) old new (slot_of got.id)

-- a slot was free, and none below it
pub record HadFree (slots last_seq : ℕ) (old new : SeatState) : Type 0 where
  pub slot : ℕ
  pub within : slot < slots
  pub free : WasAt (IsFree last_seq) old new slot
  pub lower : WasBelow (IsNotFree last_seq) old new slot

-- why no queue was made: no slot was free, or one was and memory ran out
abbrev pub IsNotNew : ℕ → ℕ → SeatState → SeatState → Errno → Type 0
IsNotNew slots last_seq old new ENOSPC = WasBelow (IsNotFree last_seq) old new slots
IsNotNew slots last_seq old new ENOMEM = HadFree slots last_seq old new
IsNotNew slots last_seq old new _ = ⊥

-- no slot had a queue with this key, where it is not 0
abbrev pub WasLacked : ℕ → ℤ → SeatState → SeatState → Type 0
WasLacked slots key old new = key ≢ pos 0 → WasBelow (Lacks key) old new slots

-- a queue was found, or one was made where none was found
abbrev pub IsFoundOrNew : ℕ → ℕ → ℤ → ℕ → SeatState → SeatState → Got → Type 0
IsFoundOrNew slots last_seq key moment old new got =
    MatchOption got.made ((slot_of got.id < slots) × IsFound key old new got.id)
    (λ _. IsNew slots last_seq key moment old new got × WasLacked slots key old new)

-- msgget returned a queue
pub record IsGot (slots last_seq : ℕ) (key : ℤ) (flags : GetFlags) (moment : ℕ)
    (old new : SeatState) (got : Got) : Type 0 where
  pub allowed : MayGet key flags got.made
  pub within : slot_of got.id < slots
  pub counts : CountsGet old new got
  pub later : IsLater old new
  pub how : IsFoundOrNew slots last_seq key moment old new got

-- a queue with this key was found
pub record IsAnyFound (slots : ℕ) (key : ℤ) (old new : SeatState) : Type 0 where
  pub id : ℕ
  pub within : slot_of id < slots
  pub found : IsFound key old new id

-- why none is returned: a queue was found; or none was and, if one was to be made, why it was not
abbrev pub WhyNotGot : ℕ → ℕ → ℤ → SeatState → SeatState → Errno → Type 0
WhyNotGot slots last_seq key old new EEXIST = IsAnyFound slots key old new
WhyNotGot slots last_seq key old new ENOENT = WasLacked slots key old new
WhyNotGot slots last_seq key old new ENOSPC =
    IsNotNew slots last_seq old new ENOSPC × WasLacked slots key old new
WhyNotGot slots last_seq key old new ENOMEM =
    IsNotNew slots last_seq old new ENOMEM × WasLacked slots key old new
WhyNotGot slots last_seq key old new _ = ⊥

-- msgget returned none
pub record IsNotGot (slots last_seq : ℕ) (key : ℤ) (flags : GetFlags) (old new : SeatState)
    (errno : Errno) : Type 0 where
  pub allowed : MayRefuse key flags errno
  pub look : IsLook old new
  pub why : WhyNotGot slots last_seq key old new errno
