-- The texts that a system drafts.
use Rattle.std.specs.Prelude.{◌≡◌, ◌⊎◌, ℕ, ◌==◌, ◌<◌, ◌≤◌, ◌||◌, nat_lt, if◌then◌else◌, Bool, true}
use Rattle.std.specs.Prelude.{List, [], ◌∷◌, ◌++◌, length, Option, None, Some, Result, MatchResult}
use Rattle.std.specs.List.{AllZip}
use Rattle.std.specs.Option.{option_map}
use Rattle.mq_arena.specs.OwnedBlock.{OwnedBlock}
use Rattle.mq_arena.specs.Text.{PlainText, order_for}
use Rattle.mq_arena.specs.declared.order.TheConstants.{INLINE_LEN}
use Rattle.mq_queue.specs.declared.limits.TheConstants.{MSGMAX}
use Rattle.mq_calls.specs.declared.draft_error.DraftError.{DraftError}
use Rattle.mq_calls.specs.declared.draft_error.DraftError.TheVariants.{TooLong, NoRun, Memory}
use Rattle.mq_system.specs.declared.many.Letter.{Letter}

-- the order of the least block with room for n bytes; no bytes have none
abbrev pub least_order : ℕ → Option ℕ
least_order n = if n == 0 then None else Some (order_for n)

-- a text of n bytes lies in the least block with room for them, the empty one in none
abbrev pub IsInLeast : ℕ → PlainText → Type 0
IsInLeast n text = option_map (λ b. b.order) text.block ≡ least_order n

-- a text of these bytes, in the least block with room for them
pub record IsDraft (bytes : List ℕ) (text : PlainText) : Type 0 where
  pub bytes_are : text.bytes ≡ bytes
  pub least : IsInLeast (length bytes) text

-- why no text of n bytes was drafted, though the draft waited for pages until the end of its wait
abbrev pub IsDraftRefused : Bool → ℕ → ℕ → DraftError → Type 0
IsDraftRefused ends height n TooLong = nat_lt MSGMAX n ≡ true
IsDraftRefused ends height n NoRun = (0 < n) × ((ends ≡ true) ⊎ (height < order_for n))
IsDraftRefused ends height n Memory = INLINE_LEN < n

-- a block for a text of n bytes
pub record IsBlockFor (n : ℕ) (b : OwnedBlock) : Type 0 where
  pub some : 0 < n
  pub most : n ≤ MSGMAX
  pub order : b.order ≡ order_for n

-- the first of these blocks, if there is one, is for a text of n bytes
abbrev pub IsFirstBlockFor : ℕ → List OwnedBlock → Type 0
IsFirstBlockFor n [] = Unit {0}
IsFirstBlockFor n (b ∷ bs) = IsBlockFor n b

-- blocks for the first of these letters, whose texts will have these bytes
abbrev pub AreBlocksFor : {V : Type 0} → (V → List ℕ) → List OwnedBlock → List (Letter V) → Type 0
AreBlocksFor bytes_of [] letters = Unit {0}
AreBlocksFor bytes_of (b ∷ bs) [] = ⊥
AreBlocksFor bytes_of (b ∷ bs) (l ∷ letters) =
    IsBlockFor (length (bytes_of l.text)) b × AreBlocksFor bytes_of bs letters

-- a letter whose text has the bytes of another one
pub record IsLetterOf {V : Type 0} (bytes_of : V → List ℕ) (l : Letter PlainText) (v : Letter V)
    : Type 0 where
  pub mtype : l.mtype ≡ v.mtype
  pub tag : l.tag ≡ v.tag
  pub draft : IsDraft (bytes_of v.text) l.text

-- the first of the letters that are left has no text, and why
pub record IsFirstRefused {V : Type 0} (bytes_of : V → List ℕ) (height : ℕ) (ends : Bool)
    (left : List (Letter V)) (e : DraftError) : Type 0 where
  pub first : Letter V
  pub others : List (Letter V)
  pub is : left ≡ first ∷ others
  pub why : IsDraftRefused ends height (length (bytes_of first.text)) e

-- texts of letters were drafted, one after another, and added to a list; the first refusal ended it
pub record AreDrafted {V : Type 0} (bytes_of : V → List ℕ) (height : ℕ) (ends : Bool)
    (letters : List (Letter V)) (old new : List (Letter PlainText))
    (ended : Result (Unit {0}) DraftError) : Type 0 where
  pub drafts : List (Letter PlainText)
  pub made : List (Letter V)
  pub left : List (Letter V)
  pub added : new ≡ old ++ drafts
  pub split : letters ≡ made ++ left
  pub each : AllZip (IsLetterOf bytes_of) drafts made
  pub all : MatchResult ended (λ _. left ≡ []) (λ _. Unit {0})
  pub refused : MatchResult ended (λ _. Unit {0})
      (IsFirstRefused bytes_of height (ends || nat_lt 0 (length drafts)) left)
