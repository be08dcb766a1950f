-- Texts that are drafted in blocks of the arena, truncated for a receiver, and spent.
use Rattle.std.specs.Prelude.{ℕ, ◌==◌, nat_lt, if◌then◌else◌, Bool, true, false, not}
use Rattle.std.specs.Prelude.{List, length, take, filter, replicate, Option, Some, Result, Ok, Err}
use Rattle.std.specs.List.{list_any}
use Rattle.std.specs.Option.{option_map_or}
use Rattle.mq_tree.specs.Blocks.{PlainBlock, is_block}
use Rattle.mq_tree.specs.LentSet.{Lending, is_lent}
use Rattle.mq_arena.specs.declared.homecoming.Homecoming.{Homecoming}
use Rattle.mq_arena.specs.declared.homecoming.Homecoming.TheVariants.{Home, Stray}
use Rattle.mq_arena.specs.declared.take_error.TakeError.{TakeError}
use Rattle.mq_arena.specs.declared.take_error.TakeError.TheVariants as take
use Rattle.mq_arena.specs.Lent.{lend, gives_back, with_lent}
use Rattle.mq_arena.specs.Text.{PlainText, no_text, order_for}
use Rattle.mq_message.specs.declared.message.Message.{Message}
use Rattle.mq_queue.specs.declared.limits.TheConstants.{MSGMAX}
use Rattle.mq_message.specs.Waiting.{message_at}
use Rattle.mq_calls.specs.State.{QueuesState, with_arena}
use Rattle.mq_calls.specs.declared.draft_error.DraftError.{DraftError}
use Rattle.mq_calls.specs.declared.draft_error.DraftError.TheVariants.{TooLong, NoRun, Memory}
use Rattle.mq_calls.specs.declared.errno.Errno.{Errno}
use Rattle.mq_calls.specs.declared.errno.Errno.TheVariants.{EINVAL, ENOMEM}

-- the bytes of a text
abbrev pub bytes_of : PlainText → List ℕ
bytes_of text = text.bytes

-- a text of n zeros in a block that the arena allocates
abbrev pub zeros_lent : QueuesState → ℕ → PlainBlock × Lending → PlainText × QueuesState
zeros_lent s n lent =
    (record { bytes = replicate n 0; block = Some lent.0 }, with_arena s lent.1)

-- the same, where a block fits
abbrev pub in_block : QueuesState → ℕ → Option (PlainBlock × Lending)
    → Result (PlainText × QueuesState) DraftError
in_block s n found = option_map_or (λ lent. Ok (zeros_lent s n lent)) found (Err NoRun)

-- a text of n zeros, no longer than a message's: the empty one has no block
abbrev pub drafts : QueuesState → ℕ → Result (PlainText × QueuesState) DraftError
drafts s n =
    if nat_lt MSGMAX n then Err TooLong
    else (if n == 0 then Ok (no_text, s) else in_block s n (lend s.arena (order_for n)))

-- a draft once these bytes are in its text
abbrev pub filled_with : List ℕ → Result (PlainText × QueuesState) DraftError
    → Result (PlainText × QueuesState) DraftError
filled_with bytes (Ok d) = Ok (record { bytes = bytes; block = d.0.block }, d.1)
filled_with bytes (Err e) = Err e

-- a text of these bytes, in the block that one of as many zeros has
abbrev pub drafts_of : QueuesState → List ℕ → Result (PlainText × QueuesState) DraftError
drafts_of s bytes = filled_with bytes (drafts s (length bytes))

-- the text of the message that is pending at a place
abbrev pub text_at : ℕ → List (ℕ × Message PlainText) → PlainText
text_at place messages = option_map_or (λ m. m.body) (message_at place messages) no_text

-- the first bytes of a text, or all where there are no more (msgop(2), MSG_NOERROR)
abbrev pub cut_to : ℕ → PlainText → PlainText
cut_to size text = record { bytes = take size text.bytes; block = text.block }

-- the arena once the text's block, if it has one, is freed
abbrev pub spends : PlainText → Lending → Lending
spends text arena = option_map_or (λ b. gives_back b arena) text.block arena

-- the queues once a text is spent
abbrev pub text_spent : PlainText → QueuesState → QueuesState
text_spent text s = with_arena s (spends text s.arena)

-- a text is freed unless it has a block that is not allocated by the arena
abbrev pub at_home : Bool → Homecoming
at_home true = Home
at_home false = Stray

-- what becomes of a text that is spent
abbrev pub comes_home : PlainText → Lending → Homecoming
comes_home text arena = at_home (option_map_or (λ b. is_lent b arena.lent) text.block true)

-- whether a text lies in this block
abbrev pub lies_in : PlainBlock → PlainText → Bool
lies_in b text = option_map_or (λ c. is_block c b) text.block false

-- the arena once the blocks of all these messages are freed
abbrev pub spends_all : List (ℕ × Message PlainText) → Lending → Lending
spends_all messages arena =
    with_lent arena (filter (λ b. not (list_any (λ m. lies_in b m.1.body) messages)) arena.lent)

-- the manual's name of a draft's refusal
abbrev pub draft_errno : DraftError → Errno
draft_errno TooLong = EINVAL
draft_errno NoRun = ENOMEM
draft_errno Memory = ENOMEM

-- why a draft is refused for which the arena allocates no block
abbrev pub by_take : TakeError → DraftError
by_take take.NoRun = NoRun
by_take take.Memory = Memory
