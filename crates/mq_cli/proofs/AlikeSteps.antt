-- Two runs whose slots keep parts of the same lists write the same.
use Rattle.std.proofs.Common.{◌≡◌, ℕ, ℤ, pos, int_lt, ◌+◌, ◌^◌, ◌==◌, nat_lt, if◌then◌else◌}
use Rattle.std.proofs.Common.{List, [], ◌∷◌, ◌++◌, get_or, set as set_at, zero, suc, length}
use Rattle.std.proofs.Common.{length-append, Option, None, Some, Result, Ok, Err, Bool, true, false}
use Rattle.std.proofs.Common.{refl, ap, rules, subst, ◌∙◌, arith}
use Rattle.std.specs.List.{AllZip, flat_map, range_with_len}
use Rattle.mq_tree.specs.Blocks.{PlainBlock}
use Rattle.mq_tree.specs.LentSet.{Lending, free_pages}
use Rattle.mq_arena.specs.Lent.{lend}
use Rattle.mq_arena.specs.Text.{PlainText, order_for}
use Rattle.mq_message.specs.declared.header.Header.{Header}
use Rattle.mq_message.specs.declared.message.Message.{Message}
use Rattle.mq_queue.specs.declared.limits.TheConstants.{MSGMAX}
use Rattle.mq_queue.specs.declared.event.Event.{Event}
use Rattle.mq_queue.specs.declared.figures.BoardRow.{BoardRow}
use Rattle.mq_queue.specs.declared.event.Event.TheVariants as event
use Rattle.mq_message.specs.Selection.{selection_of}
use Rattle.mq_table.specs.Cut.{kept_cuts}
use Rattle.mq_table.specs.Ids.{slot_of}
use Rattle.mq_table.specs.Keys.{forget}
use Rattle.mq_queue.specs.Row.{is_live}
use Rattle.mq_tree.specs.Fit.{largest}
use Rattle.mq_table.specs.Kept.{KeptSlot, base_now, entries_of}
use Rattle.mq_table.specs.KeptCalls.{KeptTurn, kept_receives, kept_sends, kept_sets}
use Rattle.mq_table.specs.KeptShown.{last_id_now, row_now}
use Rattle.mq_table.specs.SlotParts.{empty_kept}
use Rattle.mq_calls.specs.declared.draft_error.DraftError.{DraftError}
use Rattle.mq_calls.specs.declared.errno.Errno.{Errno}
use Rattle.mq_calls.specs.declared.results.Refused.{Refused}
use Rattle.mq_calls.specs.declared.results.GetFlags.{GetFlags}
use Rattle.mq_calls.specs.Calls.{delivers, msgrcv, msgsnd, removed}
use Rattle.mq_calls.specs.Calls.{set as set_answer, figures_shown, stat as stat_answer}
use Rattle.mq_cli.specs.Commands.{AskedCall, sit, show, get, snd, rcv, set, rm, stat, cut, ipcs, info}
use Rattle.mq_cli.specs.Commands.{AskedText}
use Rattle.mq_cli.specs.Drafts.{by_draft_errno, bytes_of_text, draft}
use Rattle.mq_cli.specs.Cuts.{is_cut}
use Rattle.mq_calls.specs.Look.{look, once}
use Rattle.mq_cli.specs.Reports.{line_of_row, listing_text}
use Rattle.mq_cli.specs.Session.{SessionState, by_errno}
use Rattle.mq_cli.specs.declared.listing.Listing.{Listing}
use Rattle.mq_cli.specs.declared.listing.Listing.TheVariants.{Limits, Queues, Table}
use Rattle.mq_trace.specs.Ipcs.{queue_row}
use Rattle.mq_calls.specs.State.{QueuesState, slot_at}
use Rattle.mq_calls.specs.Texts.{bytes_of, drafts, in_block, spends, spends_all, filled_with}
use Rattle.mq_calls.specs.Usages.{no_usage, usage_of}
use Rattle.mq_calls.proofs.UsageLemmas.{usage_same}
use Rattle.mq_cli.specs.Transcript.{Reply, refused, at, gone, cut_step, arena as arena_told}
use Rattle.mq_cli.specs.Transcript.{figures_reply, by_seat, get_step, output, receive_step}
use Rattle.mq_cli.specs.Transcript.{remove_step, send_step, set_step, step, replied, usage}
use Rattle.mq_cli.proofs.AlikeQueues.{AnswerAlike, AreLike, if_like, in_queue_like, look_like}
use Rattle.mq_cli.proofs.AlikeQueues.{look_live, msgget_like, slot_like, slots_like}
use Rattle.mq_cli.proofs.AlikeQueues.{with_arena_like, with_slot_like}
use Rattle.mq_cli.proofs.AlikeSlots.{AreAlike, TurnAlike, cut_alike, entries_alike, figures_alike}
use Rattle.mq_cli.proofs.AlikeSlots.{last_id_alike, places_alike, receives_alike, removes_alike}
use Rattle.mq_cli.proofs.AlikeSlots.{row_alike, sends_alike, sets_alike}

-- two replies that are written alike, and the queues after them
pub record SaysAlike (last_seq : ℕ) (x y : Reply × QueuesState) : Type 0 where
  pub line : output x.0 ≡ output y.0
  pub left : AreLike last_seq x.1 y.1

module _ (last_seq : ℕ) (s t : QueuesState) (k : AreLike last_seq s t) where
  -- the replies of results that are alike
  told_like : {T : Type 0} (one other : T × QueuesState → Reply × QueuesState)
      (x y : Result (T × QueuesState) Errno) → AnswerAlike last_seq x y
      → ((r : T) (u v : QueuesState) → AreLike last_seq u v → SaysAlike last_seq (one (r, u))
      (other (r, v)))
      → SaysAlike last_seq (replied s one x) (replied t other y)
  told_like one other (Ok x) (Ok y) same by =
      subst (λ r. SaysAlike last_seq (one x) (other (r, y.1))) same.0 (by x.0 x.1 y.1 same.1)
  told_like one other (Err d) (Err e) same by =
      record { line = ap (λ e. output (refused e)) same; left = k }
  told_like one other _ _ same by = absurd same

  errno_like : {T : Type 0} (x y : Result (T × QueuesState) Refused) → AnswerAlike last_seq x y
      → AnswerAlike last_seq (by_errno x) (by_errno y)
  errno_like (Ok x) (Ok y) same = same
  errno_like (Err d) (Err e) same = ap (λ r. r.errno) same
  errno_like _ _ same = absurd same

  -- a draft
  drafts_like : (n : ℕ) → AnswerAlike last_seq (drafts s n) (drafts t n)
  drafts_like n =
      if_like last_seq (nat_lt MSGMAX n) _ _ _ _ refl
      (if_like last_seq (n == 0) _ _ _ _ (refl, k)
      (rw (← k.arena) (lent (lend s.arena (order_for n)))))
    where
      lent : (a : Option (PlainBlock × Lending))
          → AnswerAlike last_seq (in_block s n a) (in_block t n a)
      lent None = refl
      lent (Some block) = (refl, with_arena_like last_seq s t k block.1 block.1 refl)

  draft_like : (text : AskedText) → AnswerAlike last_seq (draft s text) (draft t text)
  draft_like text = named (drafts s (length bytes)) (drafts t (length bytes))
      (drafts_like (length bytes))
    where
      bytes : List ℕ
      bytes = bytes_of_text text

      named : (x y : Result (PlainText × QueuesState) DraftError) → AnswerAlike last_seq x y
          → AnswerAlike last_seq (by_draft_errno (filled_with bytes x))
          (by_draft_errno (filled_with bytes y))
      named (Ok x) (Ok y) same =
          (ap (λ (text : PlainText). record { bytes = bytes; block = text.block }) same.0, same.1)
      named (Err d) (Err e) same = cc same
      named _ _ same = absurd same

  -- msgsnd
  msgsnd_like : (seat id : ℕ) (mtype : ℤ) (tag : ℕ) (text : PlainText) (moment : ℕ)
      → AnswerAlike last_seq (msgsnd s seat id mtype tag text moment)
      (msgsnd t seat id mtype tag text moment)
  msgsnd_like seat id mtype tag text moment =
      let m : Message PlainText =
      record { mtype = mtype; sender = seat; tag = tag; body = text } in
      if_like last_seq (int_lt mtype (pos 1)) _ _ _ _ refl
      (in_queue_like last_seq s t k id (λ slot. kept_sends bytes_of slot m moment)
      (λ live. sends_alike last_seq _ _ (slot_like last_seq s t k (slot_of id)) live bytes_of m
      moment))

  -- msgrcv
  delivers_like : (held other : List (ℕ × Message PlainText)) (size entry later : ℕ)
      → held ≡ other → entry ≡ later
      → (x y : KeptTurn PlainText Header) → TurnAlike last_seq x y
      → TurnAlike last_seq (delivers held size entry x) (delivers other size later y)
  delivers_like held other size entry later is here (Ok x) (Ok y) same =
      (cc (same.0, is, here), same.1)
  delivers_like held other size entry later is here (Err d) (Err e) same = same
  delivers_like held other size entry later is here _ _ same = absurd same

  msgrcv_like : (seat id size : ℕ) (mtype : ℤ) (except noerror : Bool) (moment : ℕ)
      → AnswerAlike last_seq (msgrcv s seat id size mtype except noerror moment)
      (msgrcv t seat id size mtype except noerror moment)
  msgrcv_like seat id size mtype except noerror moment =
      let alike = slot_like last_seq s t k (slot_of id) in
      in_queue_like last_seq s t k id
      (λ slot. delivers slot.messages size (entries_of slot)
      (kept_receives slot size (selection_of mtype except) noerror seat moment))
      (λ live. delivers_like _ _ size _ _ alike.messages (entries_alike last_seq _ _ alike) _ _
      (receives_alike last_seq _ _ alike live size (selection_of mtype except) noerror seat
      moment))

  -- IPC_SET
  set_like : (seat id qbytes moment : ℕ) → AnswerAlike last_seq (set_answer s seat id qbytes moment)
      (set_answer t seat id qbytes moment)
  set_like seat id qbytes moment =
      in_queue_like last_seq s t k id (λ slot. kept_sets slot qbytes seat moment)
      (λ live. sets_alike last_seq _ _ (slot_like last_seq s t k (slot_of id)) live qbytes seat
      moment)

  -- IPC_RMID: what is returned depends on where the log was drained, the line does not
  removed_like : (n seat id : ℕ) (live : is_live (slot_like last_seq s t k (slot_of id)).list
      ≡ true)
      → AreLike last_seq (removed s (slot_of id) seat n).1 (removed t (slot_of id) seat n).1
  removed_like n seat id live =
      let alike = slot_like last_seq s t k (slot_of id) in
      let placed = with_slot_like last_seq s t k (slot_of id) _ _
      (removes_alike last_seq _ _ alike live seat n) in record {
        arena = ap (λ messages. spends_all messages s.arena) alike.messages
            ∙ ap (spends_all (slot_at t (slot_of id)).messages) k.arena;
        keys = ap (λ id. forget id s.keys) (last_id_alike last_seq _ _ alike)
            ∙ ap (forget (last_id_now (slot_at t (slot_of id)))) k.keys;
        one = k.one;
        other = k.other;
        slots = placed.slots;
      }

  gone_like : (a b : KeptSlot PlainText) (e : Event) → AreAlike last_seq a b
      → output (gone (entries_of a) ((base_now a).places + length (a.last ++ e ∷ []))) ≡ output
      (gone (entries_of b) ((base_now b).places + length (b.last ++ e ∷ [])))
  gone_like a b e alike =
      let events = length-append a.last (e ∷ []) in
      let others = length-append b.last (e ∷ []) in
      let count : (base_now a).places + length (a.last ++ e ∷ []) ≡ (base_now b).places + length
      (b.last ++ e ∷ []) =
      omega (arith, events, others, places_alike last_seq a b alike) in
      rw (entries_alike last_seq a b alike, count) refl

  remove_like : (n seat id : ℕ) → SaysAlike last_seq (remove_step n seat s id)
      (remove_step n seat t id)
  remove_like n seat id = rw (← look_like last_seq s t k id) (by (look s id) refl)
    where
      Goes : Result (Unit {0}) Refused → Type 0
      Goes r = SaysAlike last_seq
          (replied s (λ t. (gone t.0.entry (t.0.log.base.places + length t.0.log.tail), t.1))
          (by_errno (once r (Ok (removed s (slot_of id) seat n)))))
          (replied t (λ t. (gone t.0.entry (t.0.log.base.places + length t.0.log.tail), t.1))
          (by_errno (once r (Ok (removed t (slot_of id) seat n)))))

      by : (r : Result (Unit {0}) Refused) → look s id ≡ r → Goes r
      by (Ok u) is = record {
        line = gone_like _ _ (event.Removed seat n) (slot_like last_seq s t k (slot_of id));
        left = removed_like n seat id (look_live last_seq s t k id is);
      }
      by (Err refusal) is = record { line = refl; left = k }

  -- what a report shows
  rows_like : (line : ℕ → BoardRow → List ℕ) (counts : List ℕ)
      → flat_map (λ i. line i (row_now (slot_at s i))) counts
      ≡ flat_map (λ i. line i (row_now (slot_at t i))) counts
  rows_like line [] = refl
  rows_like line (i ∷ counts) =
      let row = row_alike last_seq _ _ (slot_like last_seq s t k i) in
      ap (λ r. line i r ++ flat_map (λ i. line i (row_now (slot_at s i))) counts) row
      ∙ ap (λ rest. line i (row_now (slot_at t i)) ++ rest) (rows_like line counts)

  listing_like : (listing : Listing) → listing_text listing s ≡ listing_text listing t
  listing_like Table =
      rw (slots_like last_seq s t k, rows_like line_of_row (range_with_len 0 (length t.slots)))
      refl
  listing_like (Queues keys) =
      rw (slots_like last_seq s t k, rows_like (queue_row keys) (range_with_len 0 (length t.slots)))
      refl
  listing_like Limits = rw (slots_like last_seq s t k) refl

  -- what is in use
  usage_like : usage_of s ≡ usage_of t
  usage_like = rw (slots_like last_seq s t k, k.arena)
      (usage_same (no_usage (length t.slots) (2 ^ t.arena.height)) (λ i. row_now (slot_at s i))
      (λ i. row_now (slot_at t i)) (length t.slots)
      (λ i less. row_alike last_seq _ _ (slot_like last_seq s t k i)))

  -- IPC_STAT
  stat_like : (id : ℕ) → stat_answer s id ≡ stat_answer t id
  stat_like id =
      ap (figures_shown (slot_at s (slot_of id))) (look_like last_seq s t k id) ∙ by (look t id)
    where
      by : (r : Result (Unit {0}) Refused)
          → figures_shown (slot_at s (slot_of id)) r ≡ figures_shown
          (slot_at t (slot_of id)) r
      by (Ok u) = ap Ok (figures_alike last_seq _ _ (slot_like last_seq s t k (slot_of id)))
      by (Err refusal) = refl

  -- a drain on the one side alone
  cut_like : (slot : ℕ) → AreLike last_seq (cut_step s slot).1 t
  cut_like slot =
      let slots = put s.slots t.slots slot (empty_kept slot) k.slots in
      pick (nat_lt slot (length s.slots)) _ _
      (search (rules, k.arena, k.keys, k.one, k.other, slots)) k
    where
      put : (xs ys : List (KeptSlot PlainText)) (n : ℕ) (d : KeptSlot PlainText)
          → AllZip (AreAlike last_seq) xs ys → AllZip (AreAlike last_seq)
          (set_at xs n (kept_cuts (get_or xs n d))) ys
      put [] [] n d all = tt
      put (a ∷ xs) (b ∷ ys) zero d all = (cut_alike last_seq a b all.0, all.1)
      put (a ∷ xs) (b ∷ ys) (suc n) d all = (all.0, put xs ys n d all.1)
      put _ _ _ d all = absurd all

      pick : (b : Bool) (x y : Reply × QueuesState) → AreLike last_seq x.1 t
          → AreLike last_seq y.1 t → AreLike last_seq (if b then x else y).1 t
      pick true x y one other = one
      pick false x y one other = other

module _ (last_seq : ℕ) (s t : QueuesState) (k : AreLike last_seq s t) where
  -- the calls of a line
  get_like : (n seat : ℕ) (key : ℤ) (flags : GetFlags) → SaysAlike last_seq
      (get_step n seat s key flags) (get_step n seat t key flags)
  get_like n seat key flags =
      told_like last_seq s t k _ _ _ _ (msgget_like last_seq s t k seat key flags n)
      (λ r u v left. record { line = refl; left = left })

  sent_like : (n seat id : ℕ) (mtype : ℤ) (d e : QueuesState) (text : PlainText)
      → AreLike last_seq d e → SaysAlike last_seq
      (replied s (λ t. (at t.0, t.1)) (by_errno (msgsnd d seat id mtype n text n)))
      (replied t (λ t. (at t.0, t.1)) (by_errno (msgsnd e seat id mtype n text n)))
  sent_like n seat id mtype d e text like =
      told_like last_seq s t k _ _ _ _
      (errno_like last_seq s t k _ _ (msgsnd_like last_seq d e like seat id mtype n text n))
      (λ r u v left. record { line = refl; left = left })

  send_like : (n seat id : ℕ) (mtype : ℤ) (text : AskedText) → SaysAlike last_seq
      (send_step n seat s id mtype text) (send_step n seat t id mtype text)
  send_like n seat id mtype text =
      told_like last_seq s t k _ _ _ _ (draft_like last_seq s t k text)
      (λ r u v left. sent_like n seat id mtype u v r left)

  receive_like : (n seat id size : ℕ) (mtype : ℤ) (except noerror : Bool) → SaysAlike last_seq
      (receive_step n seat s id size mtype except noerror)
      (receive_step n seat t id size mtype except noerror)
  receive_like n seat id size mtype except noerror =
      told_like last_seq s t k _ _ _ _
      (errno_like last_seq s t k _ _
      (msgrcv_like last_seq s t k seat id size mtype except noerror n))
      (λ r u v left. record {
        line = refl;
        left = with_arena_like last_seq u v left _ _
            (ap (spends r.text) left.arena);
      })

  sets_like : (n seat id qbytes : ℕ) → SaysAlike last_seq (set_step n seat s id qbytes)
      (set_step n seat t id qbytes)
  sets_like n seat id qbytes = told_like last_seq s t k _ _ _ _
      (errno_like last_seq s t k _ _ (set_like last_seq s t k seat id qbytes n))
      (λ r u v left. record { line = refl; left = left })

-- the same of whole runs, whose seat is the same
pub record RunsAlike (last_seq : ℕ) (s t : SessionState) : Type 0 where
  pub queues : AreLike last_seq s.queues t.queues
  pub seat : s.seat ≡ t.seat

-- what is reported of an arena
abbrev arena_of : Lending → Reply
arena_of a = arena_told (2 ^ a.height) (free_pages a.height a.lent) (largest a.height a.lent)

-- two steps that are written alike, and the runs after them
pub record StepsAlike (last_seq : ℕ) (x y : Reply × SessionState) : Type 0 where
  pub line : output x.0 ≡ output y.0
  pub left : RunsAlike last_seq x.1 y.1

module _ (last_seq n : ℕ) (s t : SessionState) (k : RunsAlike last_seq s t) where
  -- what a seat's call says
  by_seat_like : (f : ℕ → QueuesState → Reply × QueuesState)
      → ((seat : ℕ) → SaysAlike last_seq (f seat s.queues) (f seat t.queues))
      → StepsAlike last_seq (by_seat s (f s.seat s.queues)) (by_seat t (f t.seat t.queues))
  by_seat_like f says =
      let same : f s.seat t.queues ≡ f t.seat t.queues = ap (λ seat. f seat t.queues) k.seat in
      let its = subst (SaysAlike last_seq (f s.seat s.queues)) same (says s.seat) in
      record { line = its.line; left = record { queues = its.left; seat = k.seat } }

  -- a line that is no cut is answered alike
  pub step_like : (call : AskedCall) → is_cut call ≡ false → StepsAlike last_seq (step n s call)
      (step n t call)
  step_like (sit number) e =
      record { line = refl; left = record { queues = k.queues; seat = refl } }
  step_like show e = record {
    line = ap (λ arena. output (arena_of arena)) k.queues.arena;
    left = k;
  }
  step_like (get key flags) e = by_seat_like (λ seat q. get_step n seat q key flags)
      (λ seat. get_like last_seq s.queues t.queues k.queues n seat key flags)
  step_like (snd id mtype text) e = by_seat_like (λ seat q. send_step n seat q id mtype text)
      (λ seat. send_like last_seq s.queues t.queues k.queues n seat id mtype text)
  step_like (rcv id size mtype except noerror) e =
      by_seat_like (λ seat q. receive_step n seat q id size mtype except noerror)
      (λ seat. receive_like last_seq s.queues t.queues k.queues n seat id size mtype except
      noerror)
  step_like (set id qbytes) e = by_seat_like (λ seat q. set_step n seat q id qbytes)
      (λ seat. sets_like last_seq s.queues t.queues k.queues n seat id qbytes)
  step_like (rm id) e = by_seat_like (λ seat q. remove_step n seat q id)
      (λ seat. remove_like last_seq s.queues t.queues k.queues n seat id)
  step_like (stat id) e =
      record {
        line = ap (λ r. output (figures_reply r))
            (stat_like last_seq s.queues t.queues k.queues id);
        left = k;
      }
  step_like (cut slot) e = absurd (cc e)
  step_like (ipcs listing) e =
      record {
        line = ap (λ text. text ++ 10 ∷ [])
            (listing_like last_seq s.queues t.queues k.queues listing);
        left = k;
      }
  step_like info e =
      record {
        line = ap (λ u. output (usage u)) (usage_like last_seq s.queues t.queues k.queues);
        left = k;
      }

  -- a cut on the one side alone
  pub cut_alone : (call : AskedCall) → is_cut call ≡ true → RunsAlike last_seq (step n s call).1 t
  cut_alone (cut slot) e = record {
    queues = cut_like last_seq s.queues t.queues k.queues slot;
    seat = k.seat;
  }
  cut_alone _ e = absurd (cc e)
