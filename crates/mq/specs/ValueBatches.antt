-- What a caller's calls of several values did.
use Rattle.std.specs.Prelude.{◌≡◌, ◌⊎◌, ℕ, ◌<◌, ◌≤◌, ◌||◌, ℤ, nat_lt, false, true, min, Bool, List, [], ◌∷◌, ◌++◌}
use Rattle.std.specs.Prelude.{length, map, None, Result, MatchResult}
use Rattle.std.specs.List.{AllZip, FoldsTo}
use Rattle.mq_arena.specs.Text.{PlainText}
use Rattle.mq_table.specs.Ids.{slot_of}
use Rattle.mq_calls.specs.declared.errno.Errno.{Errno}
use Rattle.mq_calls.specs.declared.errno.Errno.TheVariants.{EINVAL, ENOMEM}
use Rattle.mq_calls.specs.declared.results.Delivered.{Delivered}
use Rattle.mq_calls.specs.declared.results.Refused.{Refused}
use Rattle.mq_system.specs.Outcome.{IsLook}
use Rattle.mq_system.specs.Pledge.{MeetsWhole, Pledged}
use Rattle.mq_system.specs.Refusals.{MayNotDraft, never_sent}
use Rattle.mq_system.specs.Seat.{SeatState, front_of}
use Rattle.mq_system.specs.SeenMany.{IsFirstEntry, IsNextSent}
use Rattle.mq_system.specs.declared.many.Letter.{Letter}
use Rattle.mq_system.specs.declared.many.TheConstants.{MAX_BATCH}
use Rattle.mq.specs.Caller.{IsNotSentFrom, MayWaitInVain, with_bytes}
use Rattle.mq.specs.Values.{IsNotMade}
use Rattle.mq.specs.declared.value_batches.ValuesSent.{ValuesSent}

-- a value that is to be sent, as a letter of its bytes
abbrev pub letter_of_value : {V : Type 0} → (V → List ℕ) → Letter V → Letter PlainText
letter_of_value bytes_of v = record {
  mtype = v.mtype;
  tag = v.tag;
  text = record { bytes = bytes_of v.text; block = None };
}

-- a value that was received, as a text of its bytes
abbrev pub text_of_value : {V : Type 0} → (V → List ℕ) → Delivered V → Delivered PlainText
text_of_value bytes_of d = with_bytes d (bytes_of d.text)

-- values that were received, and the texts behind them, as texts
abbrev pub texts_of : {V : Type 0} → (V → List ℕ) → List (Delivered V) → List (Delivered PlainText)
    → List (Delivered PlainText)
texts_of bytes_of values unread = map (text_of_value bytes_of) values ++ unread

-- the first of the values that are left was refused, as a call of its own would have been
pub record IsFirstValueNotSent {V : Type 0} (bytes_of : V → List ℕ) (slots height id : ℕ)
    (nowait : Bool) (seat : SeatState) (left : List (Letter V)) (r : Refused) : Type 0 where
  pub first : Letter V
  pub others : List (Letter V)
  pub is : left ≡ first ∷ others
  pub refused : IsNotSentFrom (IsNotMade nowait height (length (bytes_of first.text)) seat seat)
      slots id first.mtype (length (bytes_of first.text)) nowait seat seat r.errno

-- up to so many values were sent: the seat read, and then so many calls of msgsnd sent their
-- texts one after another at consecutive entries; the first refusal ended it
pub record AreValuesSent {V : Type 0} (bytes_of : V → List ℕ) (slots height id : ℕ) (nowait : Bool)
    (moment : ℕ) (old new : SeatState) (values : List (Letter V)) (told : ValuesSent)
    : Type 0 where
  pub now : SeatState
  pub look : IsLook old now
  pub sent : List (Letter V)
  pub left : List (Letter V)
  pub split : values ≡ sent ++ left
  pub count : told.count ≡ length sent
  pub entry : IsFirstEntry (length (front_of now (slot_of id)))
      (map (letter_of_value bytes_of) sent) told.first
  pub turns : FoldsTo (IsNextSent slots id moment) now (map (letter_of_value bytes_of) sent) new
  pub all : MatchResult told.ended (λ _. length sent ≡ min (length values) MAX_BATCH)
      (λ _. length sent < MAX_BATCH)
  pub refused : MatchResult told.ended (λ _. Unit {0})
      (IsFirstValueNotSent bytes_of slots height id (nowait || nat_lt 0 (length sent)) new left)

-- so many bytes did not become a text: for memory, or as a draft is refused
abbrev pub MayNotMake : Bool → ℕ → ℕ → Errno → Type 0
MayNotMake ends height n errno =
    (errno ≡ ENOMEM) ⊎ (MayNotDraft n errno × (errno ≡ ENOMEM → MayWaitInVain ends height n))

-- a value has no text: for its type or the id's slot, or its bytes did not become one
abbrev pub HasNoText : {V : Type 0} → (V → List ℕ) → ℕ → ℕ → ℕ → Bool → Letter V → Errno → Type 0
HasNoText bytes_of slots height id ends v errno =
    ((errno ≡ EINVAL) × (never_sent slots id v.mtype ≡ true))
    ⊎ MayNotMake ends height (length (bytes_of v.text)) errno

-- a letter has the type, the tag and the bytes of a value
pub record IsDraftOf {V : Type 0} (bytes_of : V → List ℕ) (l : Letter PlainText) (v : Letter V)
    : Type 0 where
  pub mtype : l.mtype ≡ v.mtype
  pub tag : l.tag ≡ v.tag
  pub bytes : l.text.bytes ≡ bytes_of v.text

-- the first of the values that are left has no text, and why
pub record IsFirstWithNoText {V : Type 0} (bytes_of : V → List ℕ) (slots height id : ℕ)
    (ends : Bool) (left : List (Letter V)) (r : Refused) : Type 0 where
  pub first : Letter V
  pub others : List (Letter V)
  pub is : left ≡ first ∷ others
  pub why : HasNoText bytes_of slots height id ends first r.errno

-- the first of these values have texts, up to so many
pub record AreDrafted {V : Type 0} (bytes_of : V → List ℕ) (slots height id : ℕ) (ends : Bool)
    (values : List (Letter V)) (drafts : List (Letter PlainText))
    (ended : Result (Unit {0}) Refused) : Type 0 where
  pub made : List (Letter V)
  pub left : List (Letter V)
  pub split : values ≡ made ++ left
  pub each : AllZip (IsDraftOf bytes_of) drafts made
  pub within : length drafts ≤ MAX_BATCH
  pub all : MatchResult ended (λ _. length drafts ≡ min (length values) MAX_BATCH)
      (λ _. length drafts < MAX_BATCH)
  pub refused : MatchResult ended (λ _. Unit {0})
      (IsFirstWithNoText bytes_of slots height id (ends || nat_lt 0 (length drafts)) left)

-- a text was received whole, of which the pledge holds, and there is room for its bytes
pub record IsReadable (kept : Pledged) (room : ℕ) (d : Delivered PlainText) : Type 0 where
  pub fits : length d.text.bytes ≤ room
  pub whole : MeetsWhole kept d

-- a value that was vowed stands for the text that was received
pub record IsValueOf {V : Type 0} (bytes_of : V → List ℕ) (vowed : ℕ → ℕ → ℤ → V → Type 0)
    (d : Delivered PlainText) (v : Delivered V) : Type 0 where
  pub entry : v.entry ≡ d.entry
  pub mtype : v.mtype ≡ d.mtype
  pub sender : v.sender ≡ d.sender
  pub tag : v.tag ≡ d.tag
  pub long : v.length ≡ d.length
  pub bytes : bytes_of v.text ≡ d.text.bytes
  pub vow : vowed v.sender v.tag v.mtype v.text

-- values were read of the first of these texts, and of all of them unless a read may allocate
pub record AreValuesRead {V : Type 0} (bytes_of : V → List ℕ) (vowed : ℕ → ℕ → ℤ → V → Type 0)
    (allocates : Bool) (texts : List (Delivered PlainText)) (values : List (Delivered V))
    (unread : List (Delivered PlainText)) : Type 0 where
  pub read : List (Delivered PlainText)
  pub split : texts ≡ read ++ unread
  pub each : AllZip (IsValueOf bytes_of vowed) read values
  pub all : allocates ≡ false → unread ≡ []
