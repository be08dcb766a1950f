-- A removed id stays removed: where a queue is there later, it was created after the removal.
use Rattle.std.proofs.Common.{◌≡◌, ◌⊎◌, inl, inr, ℕ, ◌+◌, ◌<◌, ◌≤◌, Bool, true, false, List, [], ◌∷◌, ◌++◌, refl, ap, sym, ◌∙◌, true≢false, arith}
use Rattle.std.proofs.Math.Bool.{and-false}
use Rattle.std.proofs.lemmas.Bool.{cases_eq, eq-eqb, false_from_ne_true, leb-false, lt-leb, ne_eqb, not-false}
use Rattle.std.proofs.lemmas.List.{append-nil}
use Rattle.mq_queue.specs.declared.event.Event.{Event}
use Rattle.mq_queue.specs.Lawful.{Lawful}
use Rattle.mq_queue.specs.Log.{ends_with_removed}
use Rattle.mq_queue.specs.Row.{made_count, is_live}
use Rattle.mq_queue.proofs.Bases.{back_follows}
use Rattle.mq_table.specs.SlotList.{IsSlotList, standing, Never, Live, Removed}
use Rattle.mq_table.proofs.Grown.{lawful, log, past, some, unended, whole}
use Rattle.mq_table.proofs.Logs.{counted, ends_as, made_more}

-- whether a queue is there, the last of the events say
none_back : (x : Event) (xs : List Event) → is_live (x ∷ xs) ≡ false → is_live xs ≡ false
none_back x [] none = refl
none_back x (y ∷ ys) none = rw (← ends_as (x ∷ []) (y ∷ ys) refl) none

-- no event in the log of a queue that is there is a removal
not_in : (events more log : List Event) → events ++ more ≡ log → Lawful log
    → ends_with_removed log ≡ false → ends_with_removed events ≡ false
not_in events [] log same h live = rw (sym (append-nil events) ∙ same) live
not_in events (e ∷ rest) log same h live =
    (back_follows [] events (e ∷ rest) (rw (← same) at h.each)).0.removed_last

-- so where no queue is there, these events are all before the log of one that is there later
before_log : (events more past log : List Event) → events ++ more ≡ past ++ log → Lawful log
    → ends_with_removed log ≡ false → is_live events ≡ false → made_count events ≤ made_count past
before_log [] more past log same h live none = omega arith
before_log (x ∷ xs) more [] log same h live none =
    absurd (true≢false (sym (not-false _ none) ∙ not_in (x ∷ xs) more log same h live))
before_log (x ∷ xs) more (p ∷ ps) log same h live none =
    let first : x ≡ p = cc in
    let rest = before_log xs more ps log (cc) h live (none_back x xs none) in
    omega (arith, counted (x ∷ []) xs, counted (p ∷ []) ps, ap (λ e. made_count (e ∷ [])) first)

-- an id is removed where a later one was given
gone_is : (events : List Event) (seq : ℕ) → seq + 1 < made_count events → standing events seq ≡ Removed
gone_is events seq below =
    let none = lt-leb (made_count events) seq (omega arith) in
    let other = ne_eqb (seq + 1) (made_count events) (λ same. omega arith) in
    rw (none, other, and-false (is_live events)) refl

-- a removed id was given
given : (events : List Event) (seq : ℕ) → standing events seq ≡ Removed → seq < made_count events
given events seq gone =
    leb-false (made_count events) seq
    (false_from_ne_true _ (λ never. let said : Never ≡ Removed = rw never at gone in cc))

-- and where it is the last one, no queue is there
none_last : (events : List Event) (seq : ℕ) → standing events seq ≡ Removed
    → seq + 1 ≡ made_count events → is_live events ≡ false
none_last events seq gone last =
    let below = lt-leb (made_count events) seq (given events seq gone) in
    let same = eq-eqb (seq + 1) (made_count events) last in
    false_from_ne_true _ (λ live. let said : Live ≡ Removed = rw (below, live, same) at gone in cc)

pub stays : (last_seq : ℕ) (events more : List Event) (seq : ℕ) → IsSlotList last_seq (events ++ more)
    → standing events seq ≡ Removed → standing (events ++ more) seq ≡ Removed
stays last_seq events more seq h gone = by (is_live (events ++ more)) refl
  where
    all : List Event
    all = events ++ more

    later : is_live all ≡ true → (seq + 1 ≡ made_count events) ⊎ (seq + 1 ≡ made_count events → ⊥)
        → seq + 1 < made_count all
    later live (inl last) =
        let its = whole last_seq all h (some last_seq all h live) in
        let ends = lawful last_seq all h (some last_seq all h live) in
        let before = before_log events more (past last_seq all h) (log last_seq all h) its ends
        (unended last_seq all h live) (none_last events seq gone last) in
        omega (arith, last, before, ap made_count its, made_more (past last_seq all h) _ ends)
    later live (inr other) =
        omega (arith, given events seq gone, other, counted events more)

    by : (b : Bool) → is_live all ≡ b → standing all seq ≡ Removed
    by true live = gone_is all seq (later live (cases_eq (seq + 1) (made_count events)))
    by false off =
        let more' = counted events more in
        rw (lt-leb (made_count all) seq (omega (arith, given events seq gone, more')), off) refl
