use Rattle.std.proofs.Common.{◌≡◌, ℕ, ℤ, List, length, slice_index_or, Some, Result, Ok, Err, IsOk, ◌<◌, ◌⊎◌, inl, inr, refl, sym, ap, ◌∙◌}
use Rattle.mq_arena.specs.Text.{PlainText}
use Rattle.mq_arena.specs.declared.order.TheConstants.{INLINE_LEN}
use Rattle.mq_queue.specs.Memory.{or_memory}
use Rattle.mq_table.specs.Ids.{slot_of}
use Rattle.mq_table.specs.Kept.{KeptSlot, entries_of}
use Rattle.mq_table.specs.SlotParts.{empty_kept}
use Rattle.mq_local.proofs.DraftLemmas.{spent_after}
use Rattle.mq_calls.specs.Calls.{msgsnd}
use Rattle.mq_calls.specs.Look.{Answer, refused_early, refused_or_memory}
use Rattle.mq_calls.specs.State.{QueuesState}
use Rattle.mq_calls.specs.Texts.{draft_errno, drafts, drafts_of, filled_with}
use Rattle.mq_calls.specs.declared.draft_error.DraftError.{DraftError}
use Rattle.mq_calls.specs.declared.draft_error.DraftError.TheVariants.{Memory}
use Rattle.mq_calls.specs.declared.errno.Errno.TheVariants.{ENOMEM}
use Rattle.mq_calls.specs.declared.results.Refused.{Refused}
use Rattle.mq.specs.Bytes.{MayLackMemory, sends_bytes, sends_draft}

-- a text that was drafted with its bytes is sent as it is
abbrev sends_text : ℕ → ℕ → ℤ → ℕ → ℕ → Result (PlainText × QueuesState) DraftError → Answer ℕ
sends_text seat id mtype tag moment (Ok d) = msgsnd d.1 seat id mtype tag d.0 moment
sends_text seat id mtype tag moment (Err e) = Err (refused_early (draft_errno e))

filled_first : (seat id : ℕ) (mtype : ℤ) (tag : ℕ) (bytes : List ℕ) (moment : ℕ) (d : Result (PlainText × QueuesState) DraftError)
    → sends_draft seat id mtype tag bytes moment d ≡ sends_text seat id mtype tag moment (filled_with bytes d)
filled_first seat id mtype tag bytes moment (Ok d) = refl
filled_first seat id mtype tag bytes moment (Err e) = refl

pub sends_drafted : (q after : QueuesState) (seat id : ℕ) (mtype : ℤ) (tag : ℕ) (bytes : List ℕ) (moment : ℕ) (text : PlainText)
    → drafts_of q bytes ≡ Ok (text, after)
    → sends_bytes q seat id mtype tag bytes moment ≡ msgsnd after seat id mtype tag text moment
sends_drafted q after seat id mtype tag bytes moment text e =
    filled_first seat id mtype tag bytes moment (drafts q (length bytes)) ∙ ap (sends_text seat id mtype tag moment) e

-- a draft that is refused is a send that is refused, unless memory did it
pub refused_draft : (q : QueuesState) (seat id : ℕ) (mtype : ℤ) (tag : ℕ) (bytes : List ℕ) (moment : ℕ) (refused : DraftError)
    → refused ≡ or_memory Memory (drafts_of q bytes) → (refused ≡ Memory → INLINE_LEN < length bytes)
    → (draft_errno refused ≡ (refused_or_memory q id (sends_bytes q seat id mtype tag bytes moment)).errno)
    ⊎ ((draft_errno refused ≡ ENOMEM) × MayLackMemory q bytes)
refused_draft q seat id mtype tag bytes moment refused is over = by_draft (drafts q (length bytes)) is
  where
    by_draft : (d : Result (PlainText × QueuesState) DraftError) → refused ≡ or_memory Memory (filled_with bytes d)
        → (draft_errno refused ≡ (refused_or_memory q id (sends_draft seat id mtype tag bytes moment d)).errno)
        ⊎ ((draft_errno refused ≡ ENOMEM) × ((INLINE_LEN < length bytes) × IsOk d))
    by_draft (Ok d) is = inr (ap draft_errno is, (over is, refl))
    by_draft (Err e) is = inl (ap draft_errno is)

-- a refusal counts the events of its slot, and a draft adds none
refused_before : (q after : QueuesState) (id : ℕ) (a : Answer ℕ) → after.slots ≡ q.slots → refused_or_memory after id a ≡ refused_or_memory q id a
refused_before q after id (Ok turn) e =
    let refused : List (KeptSlot PlainText) → Refused = λ slots. record {
      errno = ENOMEM;
      entry = Some (entries_of (slice_index_or slots (slot_of id) (empty_kept (slot_of id))));
    } in
    ap refused e
refused_before q after id (Err refused) e = refl

-- a send that is refused after its text was drafted is refused as the whole call is
pub refused_whole : (q after : QueuesState) (seat id : ℕ) (mtype : ℤ) (tag : ℕ) (bytes : List ℕ) (moment : ℕ) (text : PlainText) (r : Refused)
    → drafts_of q bytes ≡ Ok (text, after) → r ≡ refused_or_memory after id (msgsnd after seat id mtype tag text moment)
    → r ≡ refused_or_memory q id (sends_bytes q seat id mtype tag bytes moment)
refused_whole q after seat id mtype tag bytes moment text r e is =
    let slots : after.slots ≡ q.slots = ap (λ (s : QueuesState). s.slots) (spent_after q after bytes text e) in
    is ∙ refused_before q after id (msgsnd after seat id mtype tag text moment) slots
    ∙ ap (refused_or_memory q id) (sym (sends_drafted q after seat id mtype tag bytes moment text e))
