-- The pledge of what is received.
use Rattle.std.proofs.Common.{◌≡◌, ℕ, ◌≤◌, Bool, true, false, nat_le, ◌==◌, List, [], ◌∷◌, take, Option, None, Some, Result, Ok, Err, refl, sym, ap, true≢false, ◌∙◌, arith, All}
use Rattle.std.specs.Prelude.{IfSome, IsSomeAnd}
use Rattle.std.proofs.lemmas.Bool.{leb-true}
use Rattle.std.proofs.lemmas.List.{take_all}
use Rattle.std.proofs.lemmas.List.Elements.{All-tail}
use Rattle.std.specs.Option.{option_map_or}
use Rattle.mq_arena.specs.Text.{PlainText, no_text}
use Rattle.mq_message.specs.declared.message.Message.{Message}
use Rattle.mq_message.specs.declared.selection.Selection.{Selection}
use Rattle.mq_message.specs.Selection.{pick}
use Rattle.mq_message.specs.declared.header.Header.{Header}
use Rattle.mq_message.specs.Waiting.{header_of, message_at}
use Rattle.mq_queue.specs.declared.error.QueueError.{QueueError}
use Rattle.mq_queue.specs.declared.event.Event.TheVariants as event
use Rattle.mq_queue.specs.declared.received.Received.{Received}
use Rattle.mq_queue.specs.Answer.{handed_out, received_header}
use Rattle.mq_queue.specs.Row.{last_log}
use Rattle.mq_queue.specs.Waiting.{waiting}
use Rattle.mq_table.specs.Calls.{SlotTurn, received, receives}
use Rattle.mq_table.specs.Slot.{SlotState}
use Rattle.mq_calls.specs.Calls.{delivered, delivers}
use Rattle.mq_calls.specs.Texts.{bytes_of, cut_to}
use Rattle.mq_calls.specs.declared.results.Delivered.{Delivered}
use Rattle.mq_system.specs.Pledge.{IsPledged, MeetsPledge, MeetsWhole, Pledged}

-- what is returned of what was received
abbrev pub delivery : Received PlainText → Delivered PlainText
delivery r = record {
  entry = r.entry;
  mtype = r.mtype;
  sender = r.sender;
  tag = r.tag;
  length = r.length;
  text = r.body;
}

-- what is returned is the text that was pending, truncated to the size
delivered_is : (messages : List (ℕ × Message PlainText)) (size : ℕ) (r : Received PlainText)
    → IsSomeAnd (message_at r.place messages) (λ m. (r.body.bytes ≡ take size m.body.bytes) × (r.body.block ≡ m.body.block))
    → delivered messages size r.entry (received_header r) ≡ delivery r
delivered_is messages size r body =
    ap (λ (text : PlainText). record {
      entry = r.entry;
      mtype = r.mtype;
      sender = r.sender;
      tag = r.tag;
      length = r.length;
      text = text;
    }) (by (message_at r.place messages) body)
  where
    by : (o : Option (Message PlainText))
        → IsSomeAnd o (λ m. (r.body.bytes ≡ take size m.body.bytes) × (r.body.block ≡ m.body.block))
        → cut_to size (option_map_or (λ m. m.body) o no_text) ≡ r.body
    by None waits = absurd waits
    by (Some m) waits = λ i. record { bytes = (sym waits.0) i; block = (sym waits.1) i }

-- so it is what the call answers
pub delivers_it : (messages : List (ℕ × Message PlainText)) (size entry : ℕ)
    (r : Received PlainText) → r.entry ≡ entry
    → (turn : SlotTurn PlainText Header) (t : SlotState PlainText)
    → turn ≡ Ok (received_header r, t)
    → IsSomeAnd (message_at r.place messages) (λ m. (r.body.bytes ≡ take size m.body.bytes) × (r.body.block ≡ m.body.block))
    → delivers messages size entry turn ≡ Ok (delivery r, t)
delivers_it messages size entry r at turn t is body =
    ap (delivers messages size entry) is
    ∙ ap (λ n. Ok (delivered messages size n (received_header r), t)) (sym at)
    ∙ ap (λ (d : Delivered PlainText). Ok (d, t)) (delivered_is messages size r body)

module _ (kept : Pledged) where
  -- the pledge holds of the message at a place
  pub found_pledged : (messages : List (ℕ × Message PlainText)) (place : ℕ)
      → All (λ m. IsPledged kept m.1) messages → IfSome (message_at place messages) (IsPledged kept)
  found_pledged [] place h = tt
  found_pledged (m ∷ ms) place h =
      by (m.0 == place) refl
      (found_pledged ms place (All-tail (λ p. IsPledged kept p.1) m ms h))
    where
      by : (b : Bool) → (m.0 == place) ≡ b → IfSome (message_at place ms) (IsPledged kept)
          → IfSome (message_at place (m ∷ ms)) (IsPledged kept)
      by true same rest = rw same (h 0 m (omega arith))
      by false same rest = rw same rest

  module _ (size : ℕ) (r : Received PlainText) where
    -- what is received of a message that keeps the pledge
    pub meets : (o : Option (Message PlainText)) → IfSome o (IsPledged kept)
        → IsSomeAnd o (λ m. received_header r ≡ header_of bytes_of (r.place, m))
        → IsSomeAnd o (λ m. (r.body.bytes ≡ take size m.body.bytes) × (r.body.block ≡ m.body.block))
        → MeetsPledge kept size (delivery r)
    meets None pledged sent body = absurd sent
    meets (Some m) pledged sent body = record {
      whole = m.body.bytes;
      long = sym (ap (λ (h : Header). h.length) sent);
      pledge =
          rw (ap (λ (h : Header). h.seat) sent, ap (λ (h : Header). h.tag) sent, ap (λ (h : Header). h.mtype) sent)
          pledged;
      cut = body.0;
    }

    -- a text that is not longer than the size is whole
    pub meets_whole : MeetsPledge kept size (delivery r) → r.length ≤ size
        → MeetsWhole kept (delivery r)
    meets_whole h fits =
        rw (h.cut, take_all size h.whole (omega (arith, fits, h.long))) h.pledge

-- the header of what is received, or this one
abbrev header : Result (Header × SlotState PlainText) QueueError → Header → Header
header (Ok turn) other = turn.0
header (Err refusal) other = other

-- the header that is returned, or this one
abbrev handed : Result Header QueueError → Header → Header
handed (Ok m) other = m
handed (Err refusal) other = other

-- what is returned where it may not be truncated fits
handed_fits : (size : ℕ) (o : Option Header) (m : Header) → handed_out size false o ≡ Ok m
    → m.length ≤ size
handed_fits size None m e = cc
handed_fits size (Some h) m e = by (nat_le h.length size) refl
  where
    by : (b : Bool) → nat_le h.length size ≡ b → m.length ≤ size
    by true is =
        let same : h ≡ m = ap (λ r. handed r h) (rw is at e) in
        rw (← same) (leb-true h.length size is)
    by false is = let none = rw is at e in cc

module _ (s t : SlotState PlainText) (size : ℕ) (selection : Selection) (seat moment : ℕ)
    (r : Header) where
  fits_by : (noerror : Bool) (answer : Result Header QueueError)
      → ((m : Header) → answer ≡ Ok m → m.length ≤ size)
      → received s (λ m. event.Received seat noerror moment m.place selection size) answer
      ≡ Ok (r, t)
      → r.length ≤ size
  fits_by noerror (Ok m) small e =
      rw (← ap (λ turn. (header turn m).length) e) (small m refl)
  fits_by noerror (Err refusal) small e = cc

  pub receipt_fits : (noerror : Bool) → noerror ≡ false
      → receives s size selection noerror seat moment ≡ Ok (r, t) → r.length ≤ size
  receipt_fits true is e = absurd (true≢false is)
  receipt_fits false is e =
      let o = pick (λ m. m.mtype) (waiting (last_log s.events)) selection in
      fits_by false (handed_out size false o) (handed_fits size o) e
