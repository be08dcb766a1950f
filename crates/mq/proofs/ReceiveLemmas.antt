-- Bytes that one thread receives.
use Rattle.std.proofs.Common.{◌≡◌, ℕ, ℤ, ◌≤◌, Bool, length, Result, Ok, Err, ap, subst, arith}
use Rattle.std.proofs.lemmas.List.{length-take}
use Rattle.mq_arena.specs.Text.{PlainText}
use Rattle.mq_message.specs.declared.header.Header.{Header}
use Rattle.mq_message.specs.Selection.{selection_of}
use Rattle.mq_table.specs.Ids.{slot_of}
use Rattle.mq_table.specs.Kept.{entries_of}
use Rattle.mq_table.specs.KeptCalls.{KeptTurn, kept_receives}
use Rattle.mq_calls.specs.Answer.{delivered, delivers, once}
use Rattle.mq_calls.specs.Calls.{msgrcv}
use Rattle.mq_calls.specs.Look.{Answer, in_slot, look}
use Rattle.mq_calls.specs.State.{QueuesState, slot_at}
use Rattle.mq_calls.specs.Texts.{text_at}
use Rattle.mq_calls.specs.declared.results.Delivered.{Delivered}
use Rattle.mq_calls.specs.declared.results.Refused.{Refused}

-- a received text is no longer than the room for it
pub received_fits : (s after : QueuesState) (seat id size : ℕ) (msgtyp : ℤ) (except noerror : Bool)
    (moment : ℕ) (d : Delivered PlainText)
    → msgrcv s seat id size msgtyp except noerror moment ≡ Ok (d, after)
    → length d.text.bytes ≤ size
received_fits s after seat id size msgtyp except noerror moment d is =
    by (look s id)
    (kept_receives (slot_at s (slot_of id)) size (selection_of msgtyp except) noerror seat moment) is
  where
    told : Answer (Delivered PlainText) → Delivered PlainText
    told (Ok turn) = turn.0
    told (Err refused) = d

    by : (looked : Result (Unit {0}) Refused) (turn : KeptTurn PlainText Header)
        → once looked
        (in_slot s id (delivers (slot_at s (slot_of id)).messages size
        (entries_of (slot_at s (slot_of id))) turn))
        ≡ Ok (d, after)
        → length d.text.bytes ≤ size
    by (Ok _) (Ok turn) its =
        let slot = slot_at s (slot_of id) in
        let same : delivered slot.messages size (entries_of slot) turn.0 ≡ d = ap told its in
        subst (λ (d : Delivered PlainText). length d.text.bytes ≤ size) same
        (omega (arith, length-take size (text_at turn.0.place slot.messages).bytes))
    by (Ok _) (Err refusal) its = cc
    by (Err refused) turn its = cc
