-- A log whose beginning is drained.
use Rattle.std.proofs.Common.{◌≡◌, suc, List, [], ◌∷◌, ◌++◌, length, length-append, Bool, false, refl, sym, ◌∙◌, arith, append_assoc, append-nil}
use Rattle.std.proofs.Math.Logic.{⊎_elim}
use Rattle.std.proofs.lemmas.Bool.{ne_eqb}
use Rattle.std.proofs.lemmas.Grind.{fold-append}
use Rattle.mq_queue.specs.declared.event.Event.{Event}
use Rattle.mq_queue.specs.Base.{base_of, figures_from, quota_from, waiting_from}
use Rattle.mq_queue.specs.Figures.{figures, sender_told, sending_told, receiver_told, receipt_told, change_told}
use Rattle.mq_queue.specs.Lawful.{AllFollow, CanFollow, Lawful}
use Rattle.mq_queue.specs.LawfulFrom.{AllFollowFrom, CanFollowFrom, GoesOn, IsOpenLog, is_unbegun}
use Rattle.mq_queue.specs.Log.{is_empty, is_removed, ends_with_removed}
use Rattle.mq_queue.specs.Room.{quota, qbytes_told}
use Rattle.mq_queue.specs.Waiting.{waiting}
use Rattle.mq_queue.proofs.Steps.{none_ahead, told-append, waits_more}

-- whether the queue is removed, where it was not before
pub removed-append : (cut tail : List Event) → ends_with_removed cut ≡ false → ends_with_removed (cut ++ tail) ≡ ends_with_removed tail
removed-append cut tail live = rw (fold-append (λ (_ : Bool) event. is_removed event) false cut tail, live) refl

-- each event of a log that may be drained can follow those before it
open_follows : (cut : List Event) → IsOpenLog cut → AllFollow [] cut
open_follows cut opened =
    ⊎_elim (λ (none : cut ≡ []). rw none tt) (λ (lawful : Lawful cut). lawful.each) opened.lawful

-- the pending messages follow from the base
waits_on : (cut tail : List Event) → IsOpenLog cut → waiting (cut ++ tail) ≡ waiting_from (base_of cut) tail
waits_on cut tail opened = waits_more cut tail (none_ahead cut (open_follows cut opened))

-- so does the quota
pub quota_on : (cut tail : List Event) → ends_with_removed cut ≡ false → quota (cut ++ tail) ≡ quota_from (base_of cut) tail
quota_on cut tail live = rw (live, told-append qbytes_told 0 cut tail) refl

-- and so do the figures that are shown
figures_on : (cut tail : List Event) → IsOpenLog cut → figures (cut ++ tail) ≡ figures_from (base_of cut) tail
figures_on cut tail opened =
    rw (removed-append cut tail opened.live, waits_on cut tail opened, opened.live, told-append qbytes_told 0 cut tail, told-append sending_told 0 cut tail, told-append receipt_told 0 cut tail, told-append change_told 0 cut tail, told-append sender_told 0 cut tail, told-append receiver_told 0 cut tail) refl

-- whether nothing has happened
unbegun_on : (cut before : List Event) → is_empty (cut ++ before) ≡ is_unbegun (base_of cut) before
unbegun_on [] before = refl
unbegun_on (x ∷ xs) before = rw (ne_eqb (suc (length xs)) 0 (λ e. omega arith)) refl

-- an event that can follow a log can follow by its base
follows_from : (cut before : List Event) (event : Event) → IsOpenLog cut → CanFollow (cut ++ before) event → CanFollowFrom (base_of cut) before event
follows_from cut before event opened next = record {
  made_first = next.made_first ∙ unbegun_on cut before;
  removed_last = sym (removed-append cut before opened.live) ∙ next.removed_last;
  allowed = rw (waits_on cut before opened, quota_on cut before opened.live) at next.allowed;
}

-- and the other way round
follows_on : (cut before : List Event) (event : Event) → IsOpenLog cut → CanFollowFrom (base_of cut) before event → CanFollow (cut ++ before) event
follows_on cut before event opened next = record {
  made_first = next.made_first ∙ sym (unbegun_on cut before);
  removed_last = removed-append cut before opened.live ∙ next.removed_last;
  allowed = rw (waits_on cut before opened, quota_on cut before opened.live) next.allowed;
}

-- so it is of all that follow
all_from : (cut before events : List Event) → IsOpenLog cut → AllFollow (cut ++ before) events → AllFollowFrom (base_of cut) before events
all_from cut before [] opened rest = tt
all_from cut before (event ∷ events) opened rest =
    (follows_from cut before event opened rest.0, all_from cut (before ++ event ∷ []) events opened (rw append_assoc at rest.1))

-- and the other way round
all_on : (cut before events : List Event) → IsOpenLog cut → AllFollowFrom (base_of cut) before events → AllFollow (cut ++ before) events
all_on cut before [] opened rest = tt
all_on cut before (event ∷ events) opened rest =
    (follows_on cut before event opened rest.0, rw append_assoc (all_on cut (before ++ event ∷ []) events opened rest.1))

-- where two lists follow, one after the other, the second follows after the first
pub back_follows : (before xs ys : List Event) → AllFollow before (xs ++ ys) → AllFollow (before ++ xs) ys
back_follows before [] ys all = rw append-nil all
back_follows before (x ∷ xs) ys all = rw append_assoc at (back_follows (before ++ x ∷ []) xs ys all.1)

-- and the other way round
both_follow : (before xs ys : List Event) → AllFollow before xs → AllFollow (before ++ xs) ys → AllFollow before (xs ++ ys)
both_follow before [] ys front back = rw append-nil at back
both_follow before (x ∷ xs) ys front back =
    (front.0, both_follow (before ++ x ∷ []) xs ys front.1 (rw append_assoc back))

-- so all that holds of the whole log is known from the base
pub goes_on : (cut tail : List Event) → IsOpenLog cut → GoesOn cut tail
goes_on cut tail opened = record {
  lawful = λ lawful. record {
    begun = sym (unbegun_on cut tail) ∙ lawful.begun;
    each = all_from cut [] tail opened (rw append-nil (back_follows [] cut tail lawful.each));
  };
  whole = λ lawful. record {
    begun = unbegun_on cut tail ∙ lawful.begun;
    each = both_follow [] cut tail (open_follows cut opened) (rw append-nil at (all_on cut [] tail opened lawful.each));
  };
  waits = waits_on cut tail opened;
  shows = figures_on cut tail opened;
  based = rw (figures_on cut tail opened, waits_on cut tail opened, length-append cut tail) refl;
}
