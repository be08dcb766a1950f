-- A slot in which a queue is created or removed, or whose list is drained, by its fields.
use Rattle.std.proofs.Common.{◌≡◌, ℕ, ℤ, pos, ◌+◌, ◌<◌, ◌≤◌, ◌≢◌, List, [], ◌∷◌, ◌++◌, append_assoc, length, length-append, Option, None, Some, IfSome, is_some, false, refl, ap, sym, ◌∙◌, arith, true≢false, if◌then◌else◌}
use Rattle.std.proofs.lemmas.Bool.{ne_eqb}
use Rattle.std.specs.Option.{option_or}
use Rattle.mq_queue.specs.declared.base.Base.{Base}
use Rattle.mq_queue.specs.declared.event.Event.{Event}
use Rattle.mq_queue.specs.declared.event.Event.TheVariants as event
use Rattle.mq_queue.specs.Base.{base_of}
use Rattle.mq_queue.specs.Log.{is_empty}
use Rattle.mq_queue.specs.Queue.{Queue}
use Rattle.mq_queue.specs.Row.{last_log}
use Rattle.mq_table.specs.Cut.{cut_queue, kept_cuts}
use Rattle.mq_table.specs.Kept.{KeptSlot, base_now, entries_of, is_live_kept, made_of}
use Rattle.mq_table.specs.KeptCalls.{kept_makes, kept_removes}
use Rattle.mq_table.specs.SlotParts.{IsSlot, live_base, own_base, slot_with, some_base}
use Rattle.mq_table.specs.declared.limits.TheConstants.{MAX_PAST, MAX_SEQ}
use Rattle.mq_table.proofs.Grown.{log_there}
use Rattle.mq_table.proofs.Kepts.{live_is, made_is}
use Rattle.mq_table.proofs.KeptTurns.{base_behind, no_base, places_last}
use Rattle.mq_table.proofs.Slots.{turned_slot}
use Rattle.mq_table.proofs.Turned.{cuts_held, made_turned, removed_turned}

some_event : (log : List Event) → is_empty log ≡ false → length log ≢ 0
some_event log begun none = grind arith

-- a slot that has no base itself has none twice
none_own : {B : Type 0} (live : Option (Queue B))
    → None ≡ own_base live (option_or (live_base live) None)
none_own live = by (live_base live)
  where
    by : (o : Option Base) → None ≡ (if is_some o then None else option_or o None)
    by None = refl
    by (Some base) = refl

module _ {B : Type 0} (bytes : B → List ℕ) (number first gone : ℕ) (key : ℤ) (base : Option Base)
    (past : List Event) (made : ℕ) where
  abbrev slot : Option (Queue B) → KeptSlot B
  slot queue = slot_with number first gone key base past queue

  -- a queue is created where none is
  pub made_slot : (live : Option (Queue B)) → IsSlot bytes made live base (slot live)
      → is_live_kept (slot live) ≡ false → made_of (slot live) ≤ MAX_SEQ
      → (new : ℤ) (seat moment : ℕ) (q : Queue B)
      → q.base ≡ base_of [] → q.tail ≡ event.Made seat moment new ∷ [] → q.messages ≡ []
      → (made' : ℕ) → made' ≡ made + 1
      → IsSlot bytes made' (Some q) base (slot_with number first gone new base past (Some q))
  made_slot (Some p) h off few new seat moment q based tail none made' more =
      absurd (true≢false (h.there ∙ off))
  made_slot None h off few new seat moment q based tail none made' more =
      let list = h.lawful.list in
      let part = h.lawful.part in
      let off' = rw (live_is list (slot None) part) at off in
      let fresh = no_base list (slot None) part off' in
      turned_slot bytes number first gone key base past made None h new base past (Some q)
      (event.Made seat moment new) (kept_makes (slot None) new seat moment)
      (rw (based, tail, none) refl)
      (made_turned MAX_SEQ list (slot None) part h.lawful.lawful new seat moment off'
      (rw (made_is list (slot None) part) at few))
      made' more (omega (arith, h.counted, few, more)) h.short refl (based ∙ sym fresh)
      (rw fresh refl) (rw based refl)

  -- the queue that is there is removed
  pub removed_slot : (q : Queue B) → IsSlot bytes made (Some q) base (slot (Some q))
      → (seat moment : ℕ) (base' : Option Base) → base' ≡ option_or (some_base q.base) base
      → (past' : List Event) → past' ≡ past ++ (q.tail ++ event.Removed seat moment ∷ [])
      → entries_of (slot (Some q)) < MAX_PAST
      → IsSlot bytes made None base' (slot_with number first gone (pos 0) base' past' None)
  removed_slot q h seat moment base' kept past' grown room =
      let list = h.lawful.list in
      let part = h.lawful.part in
      let e : Event = event.Removed seat moment in
      turned_slot bytes number first gone key base past made (Some q) h (pos 0) base' past' None e
      (kept_removes (slot (Some q)) seat moment)
      (rw (kept, grown, append_assoc past q.tail (e ∷ [])) refl)
      (removed_turned MAX_SEQ list (slot (Some q)) part h.lawful.lawful
      (rw (live_is list (slot (Some q)) part) at (sym h.there)) seat moment)
      made (omega arith) h.few
      (omega (arith, room, ap length grown, length-append {A = Event}))
      refl tt (rw (base_behind (slot (Some q)).base (past ++ q.tail) e) refl) refl

  -- the live queue's log has some event
  some_places : (q : Queue B) → IsSlot bytes made (Some q) base (slot (Some q))
      → q.base.places + length q.tail ≢ 0
  some_places q h =
      let list = h.lawful.list in
      let part = h.lawful.part in
      let on = rw (live_is list (slot (Some q)) part) at (sym h.there) in
      let count = rw (← h.based) at (places_last list (slot (Some q)) part on) in
      λ none. some_event (last_log list) (log_there MAX_SEQ list h.lawful.lawful on).0.begun
      (sym count ∙ none)

  with_all_cut : (live : Option (Queue B)) → IsSlot bytes made live base (slot live)
      → slot_with number (entries_of (slot live)) (made_of (slot live)) key None [] (cut_queue live)
      ≡ kept_cuts (slot live)
  with_all_cut None h = rw (← h.there) refl
  with_all_cut (Some q) h =
      let some = ne_eqb (q.base.places + length q.tail) 0 (some_places q h) in
      rw (← h.there, ← h.based, some) refl

  -- the queue that is there, or none, is what a drain leaves
  cut_there : (live : Option (Queue B)) → IsSlot bytes made live base (slot live)
      → (is_some (cut_queue live) ≡ is_live_kept (kept_cuts (slot live)))
      × IfSome (cut_queue live) (λ queue. queue.base ≡ base_now (kept_cuts (slot live)))
  cut_there None h = (rw (← h.there) refl, tt)
  cut_there (Some q) h = (rw (← h.there) refl, rw (← h.there, ← h.based) refl)

  module _ (live : Option (Queue B)) (h : IsSlot bytes made live base (slot live)) (first' gone' : ℕ)
      (counts : first' ≡ entries_of (slot live)) (base' : Option Base) (none : base' ≡ None)
      (past' : List Event) (empty : past' ≡ []) (live' : Option (Queue B))
      (cut : live' ≡ cut_queue live) (all : gone' ≡ made) where
    -- the list is drained
    pub with_cut : slot_with number first' gone' key base' past' live' ≡ kept_cuts (slot live)
    with_cut = rw (counts, none, empty, cut, all, h.counted) (with_all_cut live h)

    pub cut_slot : first' ≤ MAX_PAST
        → IsSlot bytes made live' base' (slot_with number first' gone' key base' past' live')
    cut_slot few =
        let held =
        cuts_held MAX_SEQ bytes (slot live) (record { lawful = h.lawful; waits = h.waits }) in
        rw (with_cut, cut) (record {
          numbered = h.numbered;
          counted = omega (arith, h.counted);
          few = h.few;
          short = omega (arith, few, counts);
          lawful = held.lawful;
          there = (cut_there live h).0;
          based = (cut_there live h).1;
          last = ap (λ (s : KeptSlot B). s.last) (sym (with_all_cut live h));
          messages = ap (λ (s : KeptSlot B). s.messages) (sym (with_all_cut live h));
          waits = held.waits;
          own =
              none ∙ none_own (cut_queue live)
              ∙ ap (λ (s : KeptSlot B). own_base (cut_queue live) s.base) (with_all_cut live h);
        })
