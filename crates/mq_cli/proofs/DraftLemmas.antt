use Rattle.std.proofs.Common.{◌≡◌, ◌≢◌, ℕ, ℤ, ◌<◌, ◌≤◌, List, ◌++◌, length, map, take, Some, Result, Ok, Err, IsErrOf, sym, ap, subst, ◌∙◌}
use Rattle.std.specs.List.{range_with_len}
use Rattle.std.proofs.lemmas.List.FromFn.{length-map-range_with_len, take-map-range_with_len}
use Rattle.mq_arena.specs.Text.{PlainText}
use Rattle.mq_arena.specs.declared.order.TheConstants.{INLINE_LEN}
use Rattle.mq_queue.specs.declared.limits.TheConstants.{MSGMAX}
use Rattle.mq_queue.specs.Memory.{or_memory}
use Rattle.mq_local.proofs.DraftLemmas.{spent_after}
use Rattle.mq_calls.specs.Calls.{msgsnd}
use Rattle.mq_calls.specs.Look.{Answer, refused_or_memory}
use Rattle.mq_local.specs.Outcome.{Answers}
use Rattle.mq_calls.specs.State.{QueuesState}
use Rattle.mq_calls.specs.Texts.{draft_errno, drafts_of, text_spent}
use Rattle.mq_calls.specs.declared.draft_error.DraftError.{DraftError}
use Rattle.mq_calls.specs.declared.draft_error.DraftError.TheVariants.{Memory}
use Rattle.mq_calls.specs.declared.errno.Errno.{Errno}
use Rattle.mq_calls.specs.declared.errno.Errno.TheVariants.{ENOMEM}
use Rattle.mq_calls.specs.declared.results.Refused.{Refused}
use Rattle.mq_cli.specs.Commands.{AskedText}
use Rattle.mq_cli.specs.Drafts.{Drafts, by_draft_errno, bytes_of_text, draft, letter}
use Rattle.mq_cli.specs.Serial.{Answered}
use Rattle.mq_cli.specs.Session.{by_errno}
use Rattle.mq_cli.specs.Transcript.{Reply, at, refused, refusal_in, output, replied, send_step}

pub letters_length : (count : ℕ) → length (map letter (range_with_len 0 count)) ≡ count
letters_length count = length-map-range_with_len letter 0 count

pub letters_cut : (all : List ℕ) (count : ℕ) → all ≡ map letter (range_with_len 0 MSGMAX) → length (map letter (range_with_len 0 count)) ≤ MSGMAX
    → take count all ≡ map letter (range_with_len 0 count)
letters_cut all count is fits = rw is (take-map-range_with_len letter 0 MSGMAX count (rw (letters_length count) at fits))

-- a draft that is not refused is named as it is
drafted_as : (d : Result (PlainText × QueuesState) DraftError) (p : PlainText × QueuesState) → by_draft_errno d ≡ Ok p → d ≡ Ok p
drafted_as (Ok made) p e = let same : made ≡ p = cc in ap Ok same
drafted_as (Err error) p e = absurd (cc e)

-- what refuses a draft, unless memory ran out, is determined by the queues
pub refused_as : (q : QueuesState) (text : AskedText) (e : DraftError) → e ≡ or_memory Memory (drafts_of q (bytes_of_text text)) → e ≢ Memory
    → draft q text ≡ Err (draft_errno e)
refused_as q text e is known = by_draft (drafts_of q (bytes_of_text text)) is
  where
    by_draft : (d : Result (PlainText × QueuesState) DraftError) → e ≡ or_memory Memory d → by_draft_errno d ≡ Err (draft_errno e)
    by_draft (Ok made) is = absurd (known is)
    by_draft (Err refusal) is = ap (λ r. Err (draft_errno r)) (sym is)

-- so a send without a text writes that refusal, and leaves all
pub undrafted : (n seat : ℕ) (q : QueuesState) (id : ℕ) (mtype : ℤ) (text : AskedText) (e : DraftError) (errno : Errno) (last : QueuesState) (old new : List ℕ)
    → e ≡ or_memory Memory (drafts_of q (bytes_of_text text)) → e ≢ Memory → errno ≡ draft_errno e → last ≡ q
    → new ≡ old ++ output (refused errno) → Answered (send_step n seat q id mtype text) old new last (Some errno)
undrafted n seat q id mtype text e errno last old new is known named same line =
    let answer = ap (replied q (λ d. replied q (λ t. (at t.0, t.1)) (by_errno (msgsnd d.1 seat id mtype n d.0 n)))) (refused_as q text e is known) in
    let told = answer ∙ ap (λ (x : Errno). (refused x, q)) (sym named) in
    record {
      line = line ∙ ap (λ (t : Reply × QueuesState). old ++ output t.0) (sym told);
      state = same ∙ ap (λ (t : Reply × QueuesState). t.1) (sym told);
      refusal = ap (λ (t : Reply × QueuesState). refusal_in t.0) (sym told);
    }

-- a text that was drafted and spent leaves the queues as they were
drafted_home : (q : QueuesState) (text : AskedText) (made : PlainText) (after : QueuesState) → draft q text ≡ Ok (made, after) → text_spent made after ≡ q
drafted_home q text made after e =
    let bytes : List ℕ = bytes_of_text text in
    spent_after q after bytes made (drafted_as (drafts_of q bytes) (made, after) e)

refused_at : (q p : QueuesState) (id : ℕ) (reply : ℕ × QueuesState → Reply × QueuesState) (a : Answer ℕ) (r : Refused) → r ≡ refused_or_memory p id a → r.errno ≢ ENOMEM
    → replied q reply (by_errno a) ≡ (refused r.errno, q)
refused_at q p id reply (Ok turn) r e memory = absurd (memory (ap (λ (x : Refused). x.errno) e))
refused_at q p id reply (Err other) r e memory = ap (λ (x : Refused). (refused x.errno, q)) (sym e)

-- a send that is refused after its text was drafted leaves all
pub send_refused : (n seat : ℕ) (q : QueuesState) (id : ℕ) (mtype : ℤ) (text : AskedText) (made : PlainText) (after : QueuesState) (r : Refused) → draft q text ≡ Ok (made, after)
    → r ≡ refused_or_memory after id (msgsnd after seat id mtype n made n) → r.errno ≢ ENOMEM → send_step n seat q id mtype text ≡ (refused r.errno, q)
send_refused n seat q id mtype text made after r e is memory =
    ap (replied q
    (λ d. replied q (λ t. (at t.0, t.1)) (by_errno (msgsnd d.1 seat id mtype n d.0 n)))) e
    ∙ refused_at q after id (λ t. (at t.0, t.1)) (msgsnd after seat id mtype n made n) r is memory

-- the same of what a refused send writes and leaves
pub refused_leaves : (n seat : ℕ) (q : QueuesState) (id : ℕ) (mtype : ℤ) (text : AskedText) (made : PlainText) (after : QueuesState) (r : Refused) (body : PlainText) (kept last : QueuesState)
    (old new : List ℕ) → draft q text ≡ Ok (made, after)
    → r ≡ refused_or_memory after id (msgsnd after seat id mtype n made n) → body ≡ made → kept ≡ after → last ≡ text_spent body kept
    → new ≡ old ++ output (refused r.errno) → r.errno ≢ ENOMEM → Answered (send_step n seat q id mtype text) old new last (Some r.errno)
refused_leaves n seat q id mtype text made after r body kept last old new e is same_text same_state gone line memory =
    let told = send_refused n seat q id mtype text made after r e is memory in
    record {
      line = line ∙ ap (λ (t : Reply × QueuesState). old ++ output t.0) (sym told);
      state = gone ∙ ap (λ (t : PlainText). text_spent t kept) same_text ∙ ap (λ (k : QueuesState). text_spent made k) same_state
          ∙ drafted_home q text made after e ∙ ap (λ (t : Reply × QueuesState). t.1) (sym told);
      refusal = ap (λ (t : Reply × QueuesState). refusal_in t.0) (sym told);
    }

-- a text of these bytes is drafted as the queues draft them
pub drafts_are : (q p : QueuesState) (text : AskedText) (bytes : List ℕ) (r : Result PlainText DraftError) → bytes ≡ bytes_of_text text
    → Answers (drafts_of q bytes) Memory q p r → (IsErrOf r Memory → INLINE_LEN < length bytes) → Drafts q p text r
drafts_are q p text bytes (Ok made) same answer memory =
    ap by_draft_errno (subst (λ (b : List ℕ). drafts_of q b ≡ Ok (made, p)) same answer)
drafts_are q p text bytes (Err refusal) same answer memory = record {
  refused = subst (λ (b : List ℕ). refusal ≡ or_memory Memory (drafts_of q b)) same answer.refused;
  memory = λ is. subst (λ (b : List ℕ). INLINE_LEN < length b) same (memory (ap (λ (e : DraftError). Err e) is));
  unchanged = answer.unchanged;
}
