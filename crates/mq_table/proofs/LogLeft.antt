-- What a removal returns is what is kept of the last log of the whole list.
use Rattle.std.proofs.Common.{◌≡◌, ℕ, List, [], ◌∷◌, ◌++◌, append_assoc, true, refl}
use Rattle.std.proofs.Math.Seq.{drop-append_seam, take-append_seam}
use Rattle.mq_queue.specs.declared.event.Event.{Event}
use Rattle.mq_queue.specs.declared.event.Event.TheVariants as event
use Rattle.mq_queue.specs.Queue.{rest_of}
use Rattle.mq_queue.specs.Row.{is_live, last_log}
use Rattle.mq_table.specs.Kept.{KeptSlot, base_now}
use Rattle.mq_table.specs.KeptPart.{IsKeptPart}
use Rattle.mq_table.specs.SlotList.{IsSlotList}
use Rattle.mq_table.proofs.Stays.{grows}

module _ {B : Type 0} (last_seq : ℕ) (list : List Event) (s : KeptSlot B) (k : IsKeptPart list s)
    (lawful : IsSlotList last_seq list) (live : is_live list ≡ true) (seat moment : ℕ) where
  abbrev gone : Event
  gone = event.Removed seat moment

  abbrev tail : List Event
  tail = s.last ++ gone ∷ []

  -- the log that is returned
  pub log_left : record { base = base_now s; tail = tail }
      ≡ rest_of (base_now s).places (last_log (list ++ gone ∷ []))
  log_left =
      let log = rw live at k.log in
      rw (
        grows list gone refl,
        log,
        append_assoc k.before s.last (gone ∷ []),
        k.based,
        take-append_seam k.before tail,
        drop-append_seam k.before tail,
      ) refl
