-- The event of a call that is not refused can happen.
use Rattle.std.proofs.Common.{◌≡◌, ℕ, ℤ, None, Ok, List, Bool, sym, arith}
use Rattle.std.proofs.lemmas.Grind.{common_steps}
use Rattle.mq_message.specs.declared.header.Header.{Header}
use Rattle.mq_message.specs.declared.selection.Selection.{Selection}
use Rattle.mq_queue.specs.declared.event.Event.TheVariants.{Sent, Received, Changed}
use Rattle.mq_queue.specs.Answer.{receive_answer, send_refusal, set_refusal}
use Rattle.mq_queue.specs.Lawful.{CanHappen}
use Rattle.mq_queue.proofs.Sends.{not_refused}

module _ (headers : List Header) (quota seat moment : ℕ) where
  -- a send that is not refused
  pub sent_can : (tag : ℕ) (mtype : ℤ) (n : ℕ) → send_refusal headers quota mtype n ≡ None
      → CanHappen headers quota (Sent seat moment tag mtype n)
  sent_can tag mtype n taken =
      let free = not_refused headers quota mtype n (sym taken) in
      (grind (arith, common_steps), grind (arith, common_steps), free.2)

  -- a new quota that is not refused
  pub set_can : (qbytes : ℕ) → set_refusal qbytes ≡ None
      → CanHappen headers quota (Changed seat moment qbytes)
  set_can qbytes taken = grind (arith, common_steps)

  -- a receipt that is not refused
  pub received_can : (size : ℕ) (selection : Selection) (noerror : Bool) (m : Header)
      → receive_answer headers size selection noerror ≡ Ok m
      → CanHappen headers quota (Received seat noerror moment m.place selection size)
  received_can size selection noerror m taken = grind (arith, common_steps)
