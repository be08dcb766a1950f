-- A receipt with another form of its text.
use Rattle.std.proofs.Common.{◌≡◌, ℕ, ℤ, Bool, List, sym, subst}
use Rattle.mq_message.specs.declared.selection.Selection.{Selection}
use Rattle.mq_calls.specs.declared.results.Delivered.{Delivered}
use Rattle.mq_system.specs.Pledge.{Pledged}
use Rattle.mq_system.specs.Seat.{SeatState}
use Rattle.mq.specs.Caller.{IsReceivedOf}

-- the same receipt with another text, and its type and bytes written otherwise
pub moved : {T U : Type 0} (kept : Pledged) (slots id most : ℕ) (selection : Selection)
    (noerror : Bool) (moment : ℕ) (old new : SeatState) (d : Delivered T) (text : U) (mtype : ℤ)
    (bytes all : List ℕ)
    → mtype ≡ d.mtype → all ≡ bytes
    → IsReceivedOf kept slots id most selection noerror moment old new d bytes
    → IsReceivedOf kept slots id most selection noerror moment old new (record {
      entry = d.entry;
      mtype = mtype;
      sender = d.sender;
      tag = d.tag;
      length = d.length;
      text = text;
    }) all
moved {U = U} kept slots id most selection noerror moment old new d text mtype bytes all one two told =
    let as_type : ℤ → Delivered U = λ m. record {
      entry = d.entry;
      mtype = m;
      sender = d.sender;
      tag = d.tag;
      length = d.length;
      text = text;
    } in
    let P : ℤ → Type 0 =
    λ m. IsReceivedOf kept slots id most selection noerror moment old new (as_type m) bytes in
    let Q : List ℕ → Type 0 =
    λ bs. IsReceivedOf kept slots id most selection noerror moment old new (as_type mtype) bs in
    let here : P d.mtype = record {
      room = told.room;
      is_room = told.is_room;
      received = record {
        fits = told.received.fits;
        pledge = told.received.pledge;
        received = told.received.received;
      };
    } in
    subst Q (sym two) (subst P (sym one) here)
