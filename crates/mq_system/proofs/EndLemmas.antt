-- The queue that a slot list ends with: its log, its creation, and its key.
use Rattle.std.proofs.Common.{◌≡◌, ℕ, ℤ, pos, ◌+◌, ◌-◌, ◌==◌, ◌<◌, ◌≤◌, ◌≢◌, ◌⊎◌, inl, inr, ◌&&◌, if◌then◌else◌, nat_le, Bool, true, false, not, List, [], ◌∷◌, ◌++◌, append_assoc, fold, length, slice_get, Option, Some, None, unwrap_or, refl, ap, sym, subst, ◌∙◌, true≢false, arith, All}
use Rattle.std.specs.Prelude.{MatchOption}
use Rattle.std.specs.Ordering.{int_eq}
use Rattle.std.proofs.Math.Seq.{take-append_seam}
use Rattle.std.proofs.lemmas.Bool.{and_parts}
use Rattle.std.proofs.lemmas.Bool.Decides.{Decides-int_eq, eqb_tells, leb_tells}
use Rattle.std.proofs.lemmas.List.{append-nil}
use Rattle.std.proofs.lemmas.List.Elements.{All-tail}
use Rattle.mq_queue.specs.Lawful.{AllFollow, Lawful}
use Rattle.mq_queue.specs.Log.{is_empty, is_made, key_told, made_key}
use Rattle.mq_queue.specs.Row.{is_live, last_log, live_key, made_count}
use Rattle.mq_queue.specs.declared.event.Event.{Event}
use Rattle.mq_queue.specs.declared.event.Event.TheVariants.{Made, Sent, Received, Changed, Removed}
use Rattle.mq_table.specs.SlotList.{IsSlotList, Live, joined, standing}
use Rattle.mq_table.proofs.Logs.{begun, last_log_is, made_more}
use Rattle.mq_table.specs.Ids.{seq_of}
use Rattle.mq_table.specs.Slot.{SlotState, last_id}
use Rattle.mq_table.specs.declared.limits.TheConstants.{MAX_SLOTS}
use Rattle.mq_arena.specs.Text.{PlainText}
use Rattle.mq_system.specs.Answer.{id_with_key}
use Rattle.mq_system.specs.Making.{HoldsMade, IsKeyed, IsThere, Lacks}
use Rattle.mq_system.proofs.KeysLemmas.{seq_of_last, slot_of_last}

-- events that end with a log
pub record EndsWith (events : List Event) : Type 0 where
  pub past : List Event
  pub log : List Event
  pub whole : events ≡ past ++ log
  pub lawful : Lawful log

front_more : (log rest : List Event) → is_empty log ≡ false → is_empty (log ++ rest) ≡ false
front_more [] rest h = absurd (true≢false h)
front_more (e ∷ es) rest h = refl

-- logs one after another end with the last one
last_of : (logs : List (List Event)) → All Lawful logs → is_empty (joined logs) ≡ false
    → EndsWith (joined logs)
last_of [] all some = absurd (true≢false some)
last_of (log ∷ []) all some = record {
  past = [];
  log = log;
  whole = append-nil log;
  lawful = all 0 log (omega arith);
}
last_of (log ∷ next ∷ logs) all some =
    let others = All-tail Lawful log (next ∷ logs) all in
    let first : Lawful next = others 0 next (omega arith) in
    let rest = last_of (next ∷ logs) others (front_more next (joined logs) first.begun) in record {
      past = log ++ rest.past;
      log = rest.log;
      whole = ap (λ l. log ++ l) rest.whole ∙ sym (append_assoc log rest.past rest.log);
      lawful = rest.lawful;
    }

not_false : (b : Bool) → not b ≡ true → b ≡ false
not_false true h = absurd (true≢false (sym h))
not_false false h = refl

-- a slot list in which a queue is ends with that queue's log
pub ends_with : (last_seq : ℕ) (events : List Event) → IsSlotList last_seq events
    → is_live events ≡ true → EndsWith events
ends_with last_seq events h live =
    let some = not_false (is_empty events) (and_parts (not (is_empty events)) _ live).0 in
    let last = last_of h.logs h.lawful (rw h.whole at some) in record {
      past = last.past;
      log = last.log;
      whole = h.whole ∙ last.whole;
      lawful = last.lawful;
    }

-- an event that is no creation states no key
untold : (e : Event) → is_made e ≡ false → key_told e ≡ None
untold (Made seat moment key) unmade = absurd (true≢false unmade)
untold (Sent seat moment tag mtype n) unmade = refl
untold (Received seat noerror moment place selection size) unmade = refl
untold (Changed seat moment qbytes) unmade = refl
untold (Removed seat moment) unmade = refl

-- and so the key stays that of the creation
key_kept : (before rest : List Event) (key : ℤ) → is_empty before ≡ false → AllFollow before rest
    → fold (λ b e. unwrap_or (key_told e) b) key rest ≡ key
key_kept before [] key more each = refl
key_kept before (e ∷ es) key more each =
    rw (untold e (each.0.made_first ∙ more))
    (key_kept (before ++ e ∷ []) es key (begun before e) each.1)

-- a creation, with what it states
record Makes (e : Event) (key : ℤ) : Type 0 where
  seat : ℕ
  moment : ℕ
  is : e ≡ Made seat moment key

makes : (e : Event) (rest : List Event) → is_made e ≡ true → AllFollow (e ∷ []) rest
    → Makes e (made_key (e ∷ rest))
makes (Made seat moment key) rest h each = record {
  seat = seat;
  moment = moment;
  is = ap (Made seat moment) (sym (key_kept (Made seat moment key ∷ []) rest key refl each));
}
makes (Sent seat moment tag mtype n) rest h each = absurd (true≢false (sym h))
makes (Received seat noerror moment place selection size) rest h each = absurd (true≢false (sym h))
makes (Changed seat moment qbytes) rest h each = absurd (true≢false (sym h))
makes (Removed seat moment) rest h each = absurd (true≢false (sym h))

-- a log begins with a creation
begins : (log : List Event) → Lawful log → (past : List Event) → HoldsMade (made_count past) (made_key log) (past ++ log)
begins [] h past = absurd (true≢false h.begun)
begins (e ∷ es) h past =
    let made = makes e es h.each.0.made_first h.each.1 in record {
      entry = length past;
      seat = made.seat;
      moment = made.moment;
      there = first_of past e es ∙ ap Some made.is;
      before = rw (take-append_seam past (e ∷ es)) refl;
    }
  where
    first_of : (past : List Event) (e : Event) (es : List Event)
        → slice_get (past ++ e ∷ es) (length past) ≡ Some e
    first_of [] e es = refl
    first_of (x ∷ xs) e es = first_of xs e es

standing_live : (events : List Event) (n : ℕ) → made_count events ≡ n + 1 → is_live events ≡ true
    → standing events n ≡ Live
standing_live events n count live =
    rw (count, later (leb_tells (n + 1) n), live, same (eqb_tells (n + 1) (n + 1))) refl
  where
    later : ((nat_le (n + 1) n ≡ true) × (n + 1 ≤ n)) ⊎ ((nat_le (n + 1) n ≡ false) × (n < n + 1))
        → nat_le (n + 1) n ≡ false
    later (inl p) = absurd (omega (arith, p.1))
    later (inr p) = p.0

    same : (((n + 1 == n + 1) ≡ true) × (n + 1 ≡ n + 1)) ⊎ (((n + 1 == n + 1) ≡ false) × (n + 1 ≢ n + 1))
        → (n + 1 == n + 1) ≡ true
    same (inl p) = p.0
    same (inr p) = absurd (p.1 refl)

-- the queue that is in a slot is the one with the last seq, and its creation stated its key
pub keyed : (last_seq : ℕ) (events : List Event) (key : ℤ) → IsSlotList last_seq events
    → is_live events ≡ true → live_key events ≡ key
    → IsKeyed (made_count events - 1) key events × HoldsMade (made_count events - 1) key events
keyed last_seq events key h live named =
    let ends = ends_with last_seq events h live in
    let count : made_count events ≡ made_count ends.past + 1 =
    ap made_count ends.whole ∙ made_more ends.past ends.log ends.lawful in
    let seq : made_count events - 1 ≡ made_count ends.past = omega (arith, count) in
    let log : last_log events ≡ ends.log =
    ap last_log ends.whole ∙ last_log_is ends.past ends.log ends.lawful in
    let its : made_key ends.log ≡ key = ap made_key (sym log) ∙ (rw live at named) in
    rw seq (
      record { live = standing_live events (made_count ends.past) count live; named = named },
      subst (λ k. HoldsMade (made_count ends.past) k events) its
          (subst (HoldsMade (made_count ends.past) (made_key ends.log)) (sym ends.whole)
          (begins ends.log ends.lawful ends.past)),
    )

module _ (s : SlotState PlainText) (key : ℤ) (last_seq slot : ℕ) (events : List Event)
    (lawful : IsSlotList last_seq s.events) (few : s.number < MAX_SLOTS) (number : s.number ≡ slot)
    (known : events ≡ s.events) where
  -- what is found in a slot that is checked for a key
  found_there : (id : ℕ) → Some id ≡ id_with_key s key → IsThere slot key events id
  found_there id is = by (is_live s.events) refl (int_eq (live_key s.events) key) refl is
    where
      by : (live : Bool) → is_live s.events ≡ live → (same : Bool)
          → int_eq (live_key s.events) key ≡ same
          → Some id ≡ (if live && same then Some (last_id s) else None)
          → IsThere slot key events id
      by true live true same its =
          let both = keyed last_seq s.events key lawful live ((Decides-int_eq (live_key s.events) key).0 same) in
          let own : last_id s ≡ id = cc its in
          let seq : seq_of (last_id s) ≡ made_count s.events - 1 = seq_of_last s few in
          rw (known, ← own) (record {
            slot_is = slot_of_last s few ∙ number;
            keyed = rw seq both.0;
            made = rw seq both.1;
          })
      by true live false same its = cc
      by false live same other its = cc

  lacks_key : key ≢ pos 0 → None ≡ id_with_key s key → Lacks key events
  lacks_key some is = by (is_live s.events) refl (int_eq (live_key s.events) key) refl is
    where
      by : (live : Bool) → is_live s.events ≡ live → (same : Bool)
          → int_eq (live_key s.events) key ≡ same
          → None ≡ (if live && same then Some (last_id s) else None) → Lacks key events
      by true live true same its = cc
      by true live false other its = rw known (λ is. true≢false (sym ((Decides-int_eq (live_key s.events) key).1 is) ∙ other))
      by false live same other its = rw (known, live) (λ is. some (sym is))

  pub with_key_at : key ≢ pos 0 → (o : Option ℕ) → o ≡ id_with_key s key
      → MatchOption o (Lacks key events) (IsThere slot key events)
  with_key_at some None is = lacks_key some is
  with_key_at some (Some id) is = found_there id is
