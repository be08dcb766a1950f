-- What holds of the slots that a system leaves.
use Rattle.std.proofs.Common.{◌≡◌, ℕ, ◌<◌, List, length, map, get_or, sym, subst, ap, ◌∙◌, All, arith}
use Rattle.std.proofs.lemmas.List.{get_or-map, length-map}
use Rattle.mq_arena.specs.Text.{PlainText}
use Rattle.mq_message.specs.Waiting.{header_of}
use Rattle.mq_queue.specs.declared.event.Event.{Event}
use Rattle.mq_table.specs.Cut.{IsCutOf}
use Rattle.mq_table.specs.Kept.{KeptSlot}
use Rattle.mq_table.specs.KeptPart.{IsKeptPart, IsLawfulSlot, WaitsNow}
use Rattle.mq_table.specs.SlotList.{IsSlotList}
use Rattle.mq_table.specs.SlotParts.{empty_kept}
use Rattle.mq_table.proofs.Cuts.{cut_is}
use Rattle.mq_table.proofs.Kepts.{waiting_is}
use Rattle.mq_calls.specs.Closed.{Ending, IsClosed, IsEndOf, ending_of, ends}
use Rattle.mq_calls.specs.Texts.{bytes_of}
use Rattle.mq_calls.specs.declared.close.ClosedSlot.{ClosedSlot}

-- a slot ends with the list of which it keeps a part
pub ends_with_list : (last_seq : ℕ) (list : List Event) (slot : KeptSlot PlainText)
    (closed : ClosedSlot) → ending_of closed ≡ ends slot → IsKeptPart list slot
    → IsSlotList last_seq list → WaitsNow bytes_of slot → IsEndOf last_seq list closed
ends_with_list last_seq list slot closed is part lawful waits = record {
  lawful = lawful;
  kept = subst (IsCutOf list) (sym (ap (λ (e : Ending). e.cut) is)) (cut_is list slot part);
  left =
      ap (λ (e : Ending). e.left) is ∙ sym (length-map slot.messages (header_of bytes_of))
      ∙ ap length (waits ∙ waiting_is list slot part);
}

-- each slot that was closed ended with a slot list
pub all_closed : (last_seq : ℕ) (slots : List (KeptSlot PlainText)) (closed : List ClosedSlot)
    → map ending_of closed ≡ map ends slots → All (IsLawfulSlot last_seq) slots
    → All (WaitsNow bytes_of) slots → All (IsClosed last_seq) closed
all_closed last_seq slots closed same lawful waits k d within =
    let none : KeptSlot PlainText = empty_kept 0 in
    let inside : k < length slots =
    omega (arith, within, length-map closed ending_of, ap length same, length-map slots ends) in
    let is : ending_of (get_or closed k d) ≡ ends (get_or slots k none) =
    sym (get_or-map ending_of closed k d (ending_of d) within)
    ∙ ap (λ (es : List Ending). get_or es k (ending_of d)) same
    ∙ get_or-map ends slots k none (ending_of d) inside in
    let h = lawful k none inside in
    record {
      list = h.list;
      is =
          ends_with_list last_seq h.list (get_or slots k none) (get_or closed k d) is h.part
          h.lawful (waits k none inside);
    }
