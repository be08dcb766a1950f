-- The log of the queue in a slot, behind the events of those that were removed.
use Rattle.std.proofs.Common.{◌≡◌, ℕ, ◌+◌, false, List, [], ◌∷◌, ◌++◌, take, fold, Some, slice_get, append_assoc, refl, ap, sym, ◌∙◌, cond, true≢false, arith}
use Rattle.std.proofs.lemmas.List.{append-nil, take_more}
use Rattle.std.proofs.lemmas.Option.{slice_get_within, get_or_from_slice_get}
use Rattle.std.proofs.lemmas.List.Sums.{fold-append, sum_by-append}
use Rattle.mq_queue.specs.declared.event.Event.{Event}
use Rattle.mq_queue.specs.Lawful.{Lawful, AllFollow}
use Rattle.mq_queue.specs.Log.{is_empty, is_made, is_removed, ends_with_removed}
use Rattle.mq_queue.specs.Row.{made_count, log_after, last_log}

-- events that end with some are not empty
pub not_empty : (past log : List Event) → is_empty log ≡ false → is_empty (past ++ log) ≡ false
not_empty [] log h = h
not_empty (e ∷ es) log h = refl

-- a list with one more event is not empty
pub begun : (before : List Event) (event : Event) → is_empty (before ++ event ∷ []) ≡ false
begun before event = not_empty before (event ∷ []) refl

-- what follows in a log is appended to the last log
appended : (log before rest : List Event) → is_empty before ≡ false → AllFollow before rest
    → fold log_after log rest ≡ log ++ rest
appended log before [] more each = sym (append-nil log)
appended log before (e ∷ es) more each =
    rw (each.0.made_first, more)
    (appended (log ++ e ∷ []) (before ++ e ∷ []) es (begun before e) each.1
    ∙ append_assoc log (e ∷ []) es)

-- the creations in a list are those of its first part and those of its second
pub counted : (xs ys : List Event) → made_count (xs ++ ys) ≡ made_count xs + made_count ys
counted xs ys = sum_by-append (λ event. cond {A = ℕ} (is_made event) 1 0) xs ys

-- what follows in a log has no creation
unmade : (before rest : List Event) → is_empty before ≡ false → AllFollow before rest
    → made_count rest ≡ 0
unmade before [] more each = refl
unmade before (e ∷ es) more each =
    counted (e ∷ []) es
    ∙ rw (each.0.made_first, more, unmade (before ++ e ∷ []) es (begun before e) each.1) refl

-- a log has one creation
pub made_once : (log : List Event) → Lawful log → made_count log ≡ 1
made_once [] h = absurd (true≢false h.begun)
made_once (e ∷ es) h =
    counted (e ∷ []) es ∙ rw (h.each.0.made_first, unmade (e ∷ []) es refl h.each.1) refl

-- a log is the last one of the events that end with it
pub last_log_is : (past log : List Event) → Lawful log → last_log (past ++ log) ≡ log
last_log_is past [] h = absurd (true≢false h.begun)
last_log_is past (e ∷ es) h =
    fold-append log_after [] past (e ∷ es)
    ∙ rw h.each.0.made_first (appended (e ∷ []) (e ∷ []) es refl h.each.1)

-- and they have one creation more than the events before it
pub made_more : (past log : List Event) → Lawful log
    → made_count (past ++ log) ≡ made_count past + 1
made_more past log h = omega (arith, counted past log, made_once log h)

-- whether the events end with a removal, their last log says
pub ends_as : (past log : List Event) → is_empty log ≡ false
    → ends_with_removed (past ++ log) ≡ ends_with_removed log
ends_as past [] h = absurd (true≢false h)
ends_as past (e ∷ es) h = fold-append (λ _ event. is_removed event) false past (e ∷ es)

-- one more event of a log is added
pub added : (log before taken : List Event) (i : ℕ) (e : Event) → slice_get log i ≡ Some e
    → taken ≡ before ++ take i log → taken ++ e ∷ [] ≡ before ++ take (i + 1) log
added log before taken i e at h =
    rw (take_more log i e (slice_get_within log i e at), get_or_from_slice_get log i e e at)
    (ap (λ l. l ++ e ∷ []) h ∙ append_assoc before (take i log) (e ∷ []))
