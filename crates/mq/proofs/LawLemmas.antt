-- Prefixes of a slot list, and what later calls return at a seat that knows of a removal.
use Rattle.std.proofs.Common.{◌≡◌, ◌⊎◌, inl, inr, ℕ, suc, ◌+◌, ◌-◌, ◌≤◌, if◌then◌else◌, true, false, List, [], ◌∷◌, ◌++◌, length, take, drop, append_assoc, refl, ap, sym, subst, ◌∙◌, arith, Option, Some, None, slice_get, unwrap_or, Err}
use Rattle.std.specs.Prelude.{All}
use Rattle.std.proofs.lemmas.List.{append-nil, length-append, take-append-drop}
use Rattle.std.proofs.lemmas.List.Elements.{All-tail}
use Rattle.std.proofs.lemmas.Option.{none-some, slice_get_within}
use Rattle.std.proofs.Math.Seq.{take-append-add, take-length}
use mathlib.Core.List.{IsPrefix}
use Rattle.mq_queue.proofs.Lists.{slice_get_front}
use Rattle.mq_queue.proofs.Logs.{front_follows}
use Rattle.mq_queue.specs.Answer.{receive_refusal, send_refusal, set_refusal}
use Rattle.mq_queue.specs.Figures.{figures}
use Rattle.mq_queue.specs.Lawful.{AllFollow, Lawful}
use Rattle.mq_queue.specs.Log.{ends_with_removed}
use Rattle.mq_queue.specs.Room.{quota}
use Rattle.mq_queue.specs.Row.{last_log, made_count}
use Rattle.mq_queue.specs.Waiting.{waiting}
use Rattle.mq_queue.specs.declared.error.QueueError.{QueueError}
use Rattle.mq_queue.specs.declared.event.Event.{Event}
use Rattle.mq_table.proofs.Logs.{counted}
use Rattle.mq_table.proofs.Pasts.{list_counted, list_of_live, list_of_past, past_grows}
use Rattle.mq_table.proofs.Removed.{stays}
use Rattle.mq_table.specs.Ids.{seq_of}
use Rattle.mq_table.specs.Slot.{ArePast, IsEndedLog}
use Rattle.mq_table.specs.SlotList.{IsSlotList, Removed, joined, standing}
use Rattle.mq_calls.specs.declared.errno.Errno.TheVariants.{EIDRM, EINVAL, ENOMEM}
use Rattle.mq_system.specs.Refusals.{out_of_slots}
use Rattle.mq_system.specs.Seat.{SeatState, front_of}
use Rattle.mq_system.specs.Seen.{Verdict, unless_refused, receive_verdict, remove_verdict, send_verdict, set_verdict}
use Rattle.mq_system.specs.Shown.{figures_by, stat_answer}
use Rattle.mq_system.specs.Shown.{figures_or_errno, stat_of}
use Rattle.mq.specs.Laws.{FindsRemoved, KnowsRemoved, StaysRefused, StaysWritten}

-- a prefix of two lists' concatenation ends within the first, or continues after it
apart : {X : Type 0} (log tail events more : List X) → log ++ tail ≡ events ++ more
    → ((rest : List X) × (log ≡ events ++ rest))
    ⊎ ((left : List X) × (events ≡ log ++ left) × (tail ≡ left ++ more))
apart [] tail events more e = inr (events, refl, e)
apart (x ∷ log) tail [] more e = inl (x ∷ log, refl)
apart {X = X} (x ∷ log) tail (y ∷ events) more e = by (apart log tail events more (cc e))
  where
    first : y ≡ x
    first = cc e

    by : ((rest : List X) × (log ≡ events ++ rest))
        ⊎ ((left : List X) × (events ≡ log ++ left) × (tail ≡ left ++ more))
        → ((rest : List X) × (x ∷ log ≡ y ∷ events ++ rest))
        ⊎ ((left : List X) × (y ∷ events ≡ x ∷ log ++ left) × (tail ≡ left ++ more))
    by (inl p) = inl (p.0, cc (first, p.1))
    by (inr p) = inr (p.0, cc (first, p.1), p.2)

-- the first events of a log are a log
begins : (e : Event) (es rest log : List Event) → log ≡ (e ∷ es) ++ rest → Lawful log
    → Lawful (e ∷ es)
begins e es rest log is h = record {
  begun = refl;
  each = front_follows [] (e ∷ es) rest (subst (AllFollow []) is h.each);
}

abbrev IsRemoved : List Event → Type 0
IsRemoved log = ends_with_removed log ≡ true

-- within `last_seq` + 1 creations, the first events of these logs after such a past are a slot list
abbrev IsCut : ℕ → List Event → List (List Event) → List Event → List Event → Type 0
IsCut last_seq past logs events more = ArePast past → All Lawful logs
    → All IsRemoved (take (length logs - 1) logs) → joined logs ≡ events ++ more
    → made_count (past ++ events) ≤ last_seq + 1 → IsSlotList last_seq (past ++ events)

-- they are, if they continue after the first log, and the rest of them are
goes_on : (last_seq : ℕ) (past log : List Event) (logs : List (List Event)) (left more : List Event)
    → IsCut last_seq (past ++ log) logs left more → ArePast past → All Lawful (log ∷ logs)
    → All IsRemoved (take (length (log ∷ logs) - 1) (log ∷ logs)) → joined logs ≡ left ++ more
    → made_count (past ++ (log ++ left)) ≤ last_seq + 1 → IsSlotList last_seq (past ++ (log ++ left))
goes_on last_seq past log logs [] more again h lawful ended same few =
    let whole = append-nil log in
    subst (λ es. IsSlotList last_seq (past ++ es)) (sym whole)
    (list_of_live last_seq past log h (lawful 0 log (omega arith))
    (subst (λ es. made_count (past ++ es) ≤ last_seq + 1) whole few))
goes_on last_seq past log [] (x ∷ left) more again h lawful ended same few = absurd (cc same)
goes_on last_seq past log (l ∷ ls) (x ∷ left) more again h lawful ended same few =
    let all : length (log ∷ l ∷ ls) - 1 ≡ suc (length ls) = omega arith in
    let first : All IsRemoved (log ∷ take (length ls) (l ∷ ls)) =
    subst (λ n. All IsRemoved (take n (log ∷ l ∷ ls))) all ended in
    let others : length ls ≡ length (l ∷ ls) - 1 = omega arith in
    let one : IsEndedLog log = record {
      lawful = lawful 0 log (omega arith);
      removed = first 0 log (omega arith);
    } in
    let seam = append_assoc past log (x ∷ left) in
    subst (IsSlotList last_seq) seam
    (again (past_grows past log h one) (All-tail Lawful log (l ∷ ls) lawful)
    (subst (λ n. All IsRemoved (take n (l ∷ ls))) others
    (All-tail IsRemoved log (take (length ls) (l ∷ ls)) first))
    same (subst (λ es. made_count es ≤ last_seq + 1) (sym seam) few))

cut : (last_seq : ℕ) (past : List Event) (logs : List (List Event)) (events more : List Event)
    → IsCut last_seq past logs events more
cut last_seq past logs [] more h lawful ended same few =
    let whole = append-nil past in
    subst (IsSlotList last_seq) (sym whole)
    (list_of_past last_seq past h (subst (λ es. made_count es ≤ last_seq + 1) whole few))
cut last_seq past [] (e ∷ es) more h lawful ended same few = absurd (cc same)
cut last_seq past (log ∷ logs) (e ∷ es) more h lawful ended same few =
    by (apart log (joined logs) (e ∷ es) more same)
    (λ left. cut last_seq (past ++ log) logs left more)
  where
    by : ((rest : List Event) × (log ≡ (e ∷ es) ++ rest))
        ⊎ ((left : List Event) × (e ∷ es ≡ log ++ left) × (joined logs ≡ left ++ more))
        → ((left : List Event) → IsCut last_seq (past ++ log) logs left more)
        → IsSlotList last_seq (past ++ e ∷ es)
    by (inl p) again =
        list_of_live last_seq past (e ∷ es) h (begins e es p.0 log p.1 (lawful 0 log (omega arith))) few
    by (inr p) again =
        subst (λ es. IsSlotList last_seq (past ++ es)) (sym p.1)
        (goes_on last_seq past log logs p.0 more (again p.0) h lawful ended p.2
        (subst (λ es. made_count (past ++ es) ≤ last_seq + 1) p.1 few))

none : ArePast []
none = record { logs = []; whole = refl; ended = λ k d within. absurd (omega (arith, within)) }

pub beginning : (last_seq : ℕ) (events more : List Event) → IsSlotList last_seq (events ++ more)
    → IsSlotList last_seq events
beginning last_seq events more h =
    let few : made_count events ≤ last_seq + 1 =
    omega (arith, h.few, list_counted last_seq (events ++ more) h, counted events more) in
    cut last_seq [] h.logs events more none h.lawful h.ended (sym h.whole) few

-- a seat's own event stays at its entry in its later fronts
pub written : StaysWritten
written old now later slot verdict entry event done grown =
    let front = front_of now slot in
    let more : IsPrefix front (front_of later slot) = grown.later slot in
    let within = slice_get_within front entry event done.there in
    subst (λ es. slice_get es entry ≡ Some event) more.1
    (slice_get_front front more.0 entry within ∙ done.there)

-- of a slot list that begins so, more of the beginning leaves a removed id removed
stays_in : (last_seq : ℕ) (front more rest : List Event) (seq n : ℕ)
    → IsSlotList last_seq ((front ++ more) ++ rest) → standing front seq ≡ Removed
    → standing (front ++ take n more) seq ≡ Removed
stays_in last_seq front more rest seq n lawful removed =
    let parts : (front ++ more) ++ rest ≡ (front ++ take n more) ++ (drop n more ++ rest) =
    ap (λ es. (front ++ es) ++ rest) (sym (take-append-drop n more))
    ∙ ap (λ es. es ++ rest) (sym (append_assoc front (take n more) (drop n more)))
    ∙ append_assoc (front ++ take n more) (drop n more) rest in
    stays last_seq front (take n more) seq
    (beginning last_seq (front ++ take n more) (drop n more ++ rest)
    (subst (IsSlotList last_seq) parts lawful))
    removed

-- so it is removed in each prefix of a later front that is as long as the earlier front, or longer
removed_then : (last_seq : ℕ) (old new : SeatState) (slot seq entry : ℕ)
    → KnowsRemoved last_seq old new slot seq → length (front_of old slot) ≤ entry
    → standing (take entry (front_of new slot)) seq ≡ Removed
removed_then last_seq old new slot seq entry k late =
    let front = front_of old slot in
    let more : IsPrefix front (front_of new slot) = k.later.later slot in
    let n = entry - length front in
    let at : length front + n ≡ entry = omega (arith, late) in
    let seen : take entry (front_of new slot) ≡ front ++ take n more.0 =
    ap (λ m. take m (front_of new slot)) (sym at)
    ∙ ap (λ es. take (length front + n) es) (sym more.1) ∙ take-append-add front more.0 n in
    subst (λ es. standing es seq ≡ Removed) (sym seen)
    (stays_in last_seq front more.0 k.rest seq n
    (subst (λ es. IsSlotList last_seq (es ++ k.rest)) (sym more.1) k.lawful) k.removed)

-- a verdict that is EIDRM of a removed id
abbrev TellsRemoved : ℕ → Verdict → Type 0
TellsRemoved seq verdict = (events : List Event) → standing events seq ≡ Removed
    → verdict events ≡ Some EIDRM

found_removed : (last_seq : ℕ) (old new : SeatState) (slot seq : ℕ) (verdict : Verdict)
    → TellsRemoved seq verdict → KnowsRemoved last_seq old new slot seq
    → FindsRemoved old new slot verdict
found_removed last_seq old new slot seq verdict tells k = record {
  never_done = λ entry event done.
      none-some EIDRM (sym done.allowed
      ∙ tells (take entry (front_of new slot)) (removed_then last_seq old new slot seq entry k done.late));
  refused = λ entry errno r.
      r.why ∙ ap (λ o. unwrap_or o ENOMEM)
      (tells (take entry (front_of new slot)) (removed_then last_seq old new slot seq entry k r.late));
}

tells_removed : (seq : ℕ) (refusal : List Event → Option QueueError)
    → TellsRemoved seq (λ events. unless_refused (standing events seq) (refusal events))
tells_removed seq refusal events removed = ap (λ s. unless_refused s (refusal events)) removed

-- what is shown of a removed id
shown_removed : (last_seq : ℕ) (old new : SeatState) (slot seq slots id : ℕ)
    → KnowsRemoved last_seq old new slot seq → seq_of id ≡ seq → out_of_slots slots id ≡ false
    → stat_of slots (front_of new slot) id ≡ Err EIDRM
shown_removed last_seq old new slot seq slots id k is within =
    let front = front_of new slot in
    let late : length (front_of old slot) ≤ length front =
    omega (arith, length-append (front_of old slot) (k.later.later slot).0, ap length (k.later.later slot).1) in
    let whole : standing front seq ≡ Removed =
    subst (λ es. standing es seq ≡ Removed) (take-length front)
    (removed_then last_seq old new slot seq (length front) k late) in
    ap (λ b. if b then Err EINVAL else figures_or_errno (stat_answer front (seq_of id))) within
    ∙ ap (λ s. figures_or_errno (stat_answer front s)) is
    ∙ ap (λ s. figures_or_errno (figures_by s (figures (last_log front)))) whole

-- and it is refused from then on
pub refused_from_then_on : StaysRefused
refused_from_then_on last_seq old new slot seq k = (
  λ mtype n. found_removed last_seq old new slot seq (send_verdict seq mtype n) (tells_removed seq
      (λ events. send_refusal (waiting (last_log events)) (quota (last_log events)) mtype n)) k,
  λ size selection noerror. found_removed last_seq old new slot seq
      (receive_verdict seq size selection noerror) (tells_removed seq
      (λ events. receive_refusal (waiting (last_log events)) size selection noerror)) k,
  λ qbytes. found_removed last_seq old new slot seq (set_verdict seq qbytes)
      (tells_removed seq (λ events. set_refusal qbytes)) k,
  found_removed last_seq old new slot seq (remove_verdict seq) (tells_removed seq (λ events. None)) k,
  λ slots id at is within. shown_removed last_seq old new slot seq slots id k is within,
)
