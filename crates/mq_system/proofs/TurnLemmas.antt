-- What one change under a slot's lock leaves for a next one, and for its publishing.
use Rattle.std.proofs.Common.{◌≡◌, ℕ, ◌+◌, ◌<◌, ◌≤◌, List, [], ◌∷◌, ◌++◌, append-nil, length, length-append, zero, suc, min, Result, Ok, Err, IfErr, MatchResult, refl, arith, ap, sym, ◌∙◌, subst}
use Rattle.std.specs.List.{FoldsTo}
use Rattle.mq_arena.specs.Text.{PlainText}
use Rattle.mq_queue.specs.declared.event.Event.{Event}
use Rattle.mq_table.specs.Kept.{KeptSlot}
use Rattle.mq_table.specs.KeptPart.{IsKeptPart, whole}
use Rattle.mq_table.specs.Slot.{SlotState}
use Rattle.mq_calls.specs.declared.results.Refused.{Refused}
use Rattle.mq_system.specs.Answer.{SlotAnswer, refused_or_memory_in_slot}
use Rattle.mq_system.specs.Held.{HasAppended, HasChanged, HasNoted, HasRefused}
use Rattle.mq_system.specs.Seat.{IsNext, SeatState, front_of, noted_more}
use Rattle.mq_system.specs.Shared.{LockedSlot, all_events, locked, locked_all, unpublished}
use Rattle.mq_system.specs.Many.{Changes, HasSentMany, Sends, Under, message_of, send_of, under_all}
use Rattle.mq_system.specs.declared.many.Letter.{Letter}
use Rattle.mq_system.proofs.NextLemmas.{sent_next}
use Rattle.mq_system.proofs.NoteLemmas.{noted_next, noted_none, noted_one}
use Rattle.mq_system.proofs.RestLemmas.{all_published, one_behind, rest_none}

abbrev pub under : LockedSlot → SeatState → Under
under slot seat = record { slot = slot; seat = seat }

-- a call before which nothing is behind begins with the slot and the seat as they are
pub start_is : (published : List Event) (s : KeptSlot PlainText) (seat : SeatState)
    → IsKeptPart published s → front_of seat s.number ≡ published
    → under (locked published s) seat ≡ under_all published s seat
start_is published s seat k known =
    let all = all_published published s k in
    let noted : noted_more seat s.number (length (unpublished (length published) s)) (all_events published s) ≡ seat =
    rw (rest_none published s k, append-nil published) (noted_none seat s.number published known) in
    λ i. record { slot = locked (sym all i) s; seat = sym noted i }

-- a call whose entry is not published yet has changed the slot, and the seat that will note it
pub turn_changes : {T : Type 0} (published : List Event) (s t : KeptSlot PlainText)
    (seat : SeatState) (decided : SlotAnswer T) (value : T)
    → s.number < length seat.by_slot
    → HasAppended decided (locked_all published s) (locked_all published t) seat.number value
    → HasChanged decided (locked_all published s) (locked_all published t)
    (under_all published s seat).seat (under_all published t seat).seat value
turn_changes published s t seat decided value low its =
    let before : ℕ = length (unpublished (length published) s) in
    let one : length (unpublished (length published) t) ≡ before + 1 =
    omega (arith, ap length its.next.next, length-append (all_events published s) (its.next.event ∷ []), length-append published (unpublished (length published) t), length-append published (unpublished (length published) s)) in
    record {
      ok = its.ok;
      number = its.number;
      kept = its.kept;
      noted =
          rw (its.number, one)
          (noted_next seat s.number before (all_events published s) (all_events published t) low);
    }

-- a single call, once it is published and noted, answers as is decided for it; where it is refused,
-- nothing is published or noted
module _ {T R : Type 0} (published : List Event) (s t : KeptSlot PlainText) (old new : SeatState)
    (decide : SlotState PlainText → SlotAnswer T) (why : R → Refused) (k : IsKeptPart published s)
    (low : t.number < length old.by_slot) (known : front_of old s.number ≡ published)
    (noted : new ≡ noted_more old t.number (length (unpublished (length published) t))
    (all_events published t))
  where
    abbrev decided : SlotAnswer T
    decided = decide (locked_all published s).whole

    same : decide (whole published s) ≡ decided
    same = ap (λ (es : List Event). decide (whole es s)) (sym (all_published published s k))

    single_changes : (value : T)
        → HasAppended decided (locked_all published s) (locked_all published t) old.number value
        → HasChanged (decide (whole published s)) (locked published s) (locked_all published t) old new value
    single_changes value its =
        let next : IsNext old.number published (all_events published t) =
        subst (λ (es : List Event). IsNext old.number es (all_events published t))
        (all_published published s k) its.next in
        record {
          ok = same ∙ its.ok;
          number = its.number;
          kept = its.kept;
          noted =
              subst (λ (x : SeatState). HasNoted old x s.number (all_events published t)) (sym noted)
              (rw (its.number, one_behind old.number published t next)
              (noted_one old s.number (all_events published t) (rw (← its.number) low)));
        }

    single_refused : (r : Refused) → t ≡ s
        → HasRefused decided (locked_all published s) (locked_all published t) old old r
        → HasRefused (decide (whole published s)) (locked published s) (locked_all published t) old new r
    single_refused r left its =
        let all = all_published published s k in
        let none : noted_more old s.number (length (unpublished (length published) s)) (all_events published s) ≡ old =
        rw (rest_none published s k, append-nil published) (noted_none old s.number published known) in
        record {
          why =
              subst (λ (es : List Event). r ≡ refused_or_memory_in_slot (whole es s) (decide (whole es s))) all its.why;
          unchanged =
              ap (locked_all published) left ∙ ap (λ (es : List Event). locked es s) all;
          same =
              noted
              ∙ ap (λ (x : KeptSlot PlainText). noted_more old x.number (length (unpublished (length published) x)) (all_events published x)) left
              ∙ none;
        }

    pub single_answers : (result : Result T R)
        → MatchResult result (HasAppended decided (locked_all published s) (locked_all published t) old.number)
        (λ r. HasRefused decided (locked_all published s) (locked_all published t) old old (why r))
        → IfErr result (λ _. t ≡ s)
        → MatchResult result
        (HasChanged (decide (whole published s)) (locked published s) (locked_all published t) old new)
        (λ r. HasRefused (decide (whole published s)) (locked published s) (locked_all published t) old new (why r))
    single_answers (Ok value) its left = single_changes value its
    single_answers (Err r) its left = single_refused (why r) left its

-- a letter that was sent is the next entry
pub sends_next : (id moment : ℕ) (u v : Under) (l : Letter PlainText) (entry : ℕ)
    → Changes (send_of id moment l) u entry v → Sends id moment u l v
sends_next id moment u v l entry told =
    subst (λ n. Changes (send_of id moment l) u n v)
    (sent_next u.slot.whole id (message_of u.seat.number l) moment entry v.slot.whole told.ok).0 told

-- where nothing was done, all is as it was
pub none_done : {T : Type 0} (does : Under → T → Under → Type 0) (xs : List T) (u v : Under)
    → FoldsTo does u xs v → xs ≡ [] → u ≡ v
none_done {T} does xs u v turns is = subst (λ (ys : List T). FoldsTo does u ys v) is turns

pub nil_of_none : {T : Type 0} (xs : List T) → length xs ≡ 0 → xs ≡ []
nil_of_none [] h = refl
nil_of_none (x ∷ xs) h = absurd (omega (arith, h))

-- where as many are left as there were, none was sent
pub none_sent : (id moment most : ℕ) (u v : Under) (ls left : List (Letter PlainText))
    (ended : Result (Unit {0}) Refused) → (done : HasSentMany id moment most u v ls left ended)
    → length ls ≤ length left → (u ≡ v) × (left ≡ ls) × (done.sent ≡ [])
none_sent id moment most u v ls left ended done as_many =
    let none : done.sent ≡ [] =
    nil_of_none done.sent (omega (arith, as_many, ap length done.split, length-append done.sent left)) in (
      none_done (Sends id moment) done.sent u v done.turns none,
      sym (done.split ∙ ap (λ (xs : List (Letter PlainText)). xs ++ left) none),
      none,
    )

-- where fewer are left, some were
pub some_sent : (id moment most : ℕ) (u v : Under) (ls left : List (Letter PlainText))
    (ended : Result (Unit {0}) Refused) → (done : HasSentMany id moment most u v ls left ended)
    → length left < length ls → 0 < length done.sent
some_sent id moment most u v ls left ended done fewer =
    omega (arith, fewer, ap length done.split, length-append done.sent left)

-- where all were sent that could be, some were
pub all_sent : (id moment most : ℕ) (u v : Under) (ls left : List (Letter PlainText))
    → (done : HasSentMany id moment most u v ls left (Ok tt)) → 0 < length ls → 0 < most
    → 0 < length done.sent
all_sent id moment most u v ls left done some any =
    rw done.all (min_some (length ls) most some any)
  where
    min_some : (a b : ℕ) → 0 < a → 0 < b → 0 < min a b
    min_some zero b some any = absurd (omega (arith, some))
    min_some (suc a) zero some any = absurd (omega (arith, any))
    min_some (suc a) (suc b) some any = omega arith
