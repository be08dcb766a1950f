-- A text that is drafted with its bytes, and spent.
use Rattle.std.proofs.Common.{inl, inr, ◌≡◌, ◌∙◌, ℕ, ◌<◌, ◌≤◌, ◌==◌, nat_lt, Bool, true, false, List, length, Option, Some, None, Result, Ok, Err, if◌then◌else◌, refl, sym, ap, arith}
use Rattle.std.proofs.lemmas.Bool.{cases_lt}
use Rattle.std.proofs.lemmas.Bool.Decides.{nat_tests}
use Rattle.std.specs.Option.{option_map, option_map_or}
use Rattle.mq_tree.specs.Blocks.{PlainBlock, block}
use Rattle.mq_tree.specs.Fit.{fit}
use Rattle.mq_tree.specs.LentSet.{Lending, inserted}
use Rattle.mq_tree.proofs.Kept.{left_fit}
use Rattle.mq_arena.specs.Lent.{lend, with_lent}
use Rattle.mq_arena.specs.declared.limits.TheConstants.{INLINE_ORDER}
use Rattle.mq_arena.specs.declared.take_error.TakeError.{TakeError}
use Rattle.mq_arena.specs.declared.take_error.TakeError.TheVariants as take
use Rattle.mq_arena.specs.declared.order.TheConstants.{INLINE_LEN}
use Rattle.mq_arena.specs.Text.{PlainText, no_text, order_for, text_in}
use Rattle.mq_queue.specs.declared.limits.TheConstants.{MSGMAX}
use Rattle.mq_queue.specs.Memory.{or_memory}
use Rattle.mq_calls.specs.State.{QueuesState, with_arena}
use Rattle.mq_calls.specs.Texts.{by_take, in_block, drafts, drafts_of, filled_with, text_spent}
use Rattle.mq_calls.specs.Texts.{zeros_lent}
use Rattle.mq_calls.specs.declared.draft_error.DraftError.{DraftError}
use Rattle.mq_calls.specs.declared.draft_error.DraftError.TheVariants.{TooLong, NoRun, Memory}

-- what a draft returns where the arena returns this
abbrev pub answer_of : QueuesState → Option (PlainText × Lending)
    → Result (PlainText × QueuesState) DraftError
answer_of s found = option_map_or (λ t. Ok (t.0, with_arena s t.1)) found (Err NoRun)

placed : (s : QueuesState) (bytes : List ℕ) (found : Option (PlainBlock × Lending))
    → filled_with bytes (in_block s (length bytes) found)
    ≡ answer_of s (option_map (λ l. (record { bytes = bytes; block = Some l.0 }, l.1)) found)
placed s bytes None = refl
placed s bytes (Some lent) = refl

-- zeros: more than a message may have, or some and no more than that
pub zeros_too_long : (s : QueuesState) (n : ℕ) → MSGMAX < n → drafts s n ≡ Err TooLong
zeros_too_long s n long =
    let over : nat_lt MSGMAX n ≡ true = grind (arith, nat_tests) in
    rw over refl

zeros_in : (s : QueuesState) (n : ℕ) → 0 < n → n ≤ MSGMAX
    → drafts s n ≡ in_block s n (lend s.arena (order_for n))
zeros_in s n some short =
    let over : nat_lt MSGMAX n ≡ false = grind (arith, nat_tests) in
    let none : (n == 0) ≡ false = grind (arith, nat_tests) in
    rw (over, none) refl

-- the same of bytes
pub too_long : (s : QueuesState) (bytes : List ℕ) → MSGMAX < length bytes → drafts_of s bytes ≡ Err TooLong
too_long s bytes long = ap (filled_with bytes) (zeros_too_long s (length bytes) long)

pub drafted : (s : QueuesState) (bytes : List ℕ) → 0 < length bytes → length bytes ≤ MSGMAX
    → drafts_of s bytes ≡ answer_of s (text_in s.arena bytes)
drafted s bytes some short =
    ap (filled_with bytes) (zeros_in s (length bytes) some short)
    ∙ placed s bytes (lend s.arena (order_for (length bytes)))

-- why nothing is drafted where the arena allocates nothing
by_lent : {A : Type 0} (found : Option A) (answer : A → PlainText × QueuesState)
    (refusal : TakeError)
    → (refusal ≡ take.NoRun → found ≡ None) → (found ≡ None → refusal ≡ take.NoRun)
    → by_take refusal ≡ or_memory Memory (option_map_or (λ a. Ok (answer a)) found (Err NoRun))
by_lent None answer take.NoRun none run = refl
by_lent None answer take.Memory none run = cc (run refl)
by_lent (Some a) answer take.NoRun none run = cc (none refl)
by_lent (Some a) answer take.Memory none run = refl

-- zeros for which the arena allocates no block
pub refused_take : (s : QueuesState) (n : ℕ) (refusal : TakeError) → 0 < n → n ≤ MSGMAX
    → (refusal ≡ take.NoRun → lend s.arena (order_for n) ≡ None)
    → (lend s.arena (order_for n) ≡ None → refusal ≡ take.NoRun)
    → by_take refusal ≡ or_memory Memory (drafts s n)
refused_take s n refusal some short none run =
    by_lent (lend s.arena (order_for n)) (λ l. zeros_lent s n l) refusal none run
    ∙ ap (or_memory Memory) (sym (zeros_in s n some short))

-- bytes for which it allocates none
pub refused_in : (s : QueuesState) (bytes : List ℕ) (refusal : TakeError) → 0 < length bytes
    → length bytes ≤ MSGMAX → (refusal ≡ take.NoRun → text_in s.arena bytes ≡ None)
    → (text_in s.arena bytes ≡ None → refusal ≡ take.NoRun)
    → by_take refusal ≡ or_memory Memory (drafts_of s bytes)
refused_in s bytes refusal some short none run =
    by_lent (text_in s.arena bytes) (λ t. (t.0, with_arena s t.1)) refusal none run
    ∙ ap (or_memory Memory) (sym (drafted s bytes some short))

-- memory is needed only for a text that is longer than the inline places hold
pub memory_over : (n order : ℕ) → (n ≤ INLINE_LEN → order ≤ INLINE_ORDER) → INLINE_ORDER < order → INLINE_LEN < n
memory_over n order low high = elim (cases_lt INLINE_LEN n) [
  | inl over ↦ over
  | inr under ↦ absurd (omega (arith, low under))
]

-- what a draft of zeros and one of bytes return
pub ruleset zero_drafts = (zeros_too_long, refused_take, memory_over)

pub ruleset byte_drafts = (too_long, drafted, refused_in)

-- the queues once what was drafted is spent
home : QueuesState → Result (PlainText × QueuesState) DraftError → QueuesState
home s (Ok d) = text_spent d.0 d.1
home s (Err e) = s

-- a block that was allocated and is freed leaves the arena as it was
all_home : (s : QueuesState) (bytes : List ℕ) → home s (drafts_of s bytes) ≡ s
unfolding home
all_home s bytes = by (nat_lt MSGMAX n) (n == 0) (fit s.arena.height s.arena.lent order) refl
  where
    n : ℕ
    n = length bytes

    order : ℕ
    order = order_for n

    lent : ℕ → PlainBlock × Lending
    lent start =
        (block start order, with_lent s.arena (inserted (block start order) s.arena.lent))

    by : (long none : Bool) (found : Option ℕ) → fit s.arena.height s.arena.lent order ≡ found
        → home s (filled_with bytes (if long then Err TooLong
        else (if none then Ok (no_text, s) else in_block s n (option_map lent found)))) ≡ s
    by true none found e = refl
    by false true found e = refl
    by false false None e = refl
    by false false (Some start) e =
        ap (λ (left : List PlainBlock). with_arena s (with_lent s.arena left))
        (left_fit s.arena.height s.arena.lent order start e)

-- a text that is spent after it was drafted leaves the queues as they were
pub spent_after : (s after : QueuesState) (bytes : List ℕ) (text : PlainText)
    → drafts_of s bytes ≡ Ok (text, after) → text_spent text after ≡ s
unfolding home
spent_after s after bytes text e = ap (home s) (sym e) ∙ all_home s bytes
