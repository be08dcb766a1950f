use Rattle.std.proofs.Common.{◌≡◌, ◌∙◌, arith, ap, sym, length, length-append, ◌∷◌, []}
use Rattle.std.specs.Global.{Vec}
use Rattle.mq_board.specs.Readers.{ReaderState, new_readers}
use Rattle.mq_system.specs.Shared.{LockedSlot, empty_locked}
use Rattle.mq_system.proofs.StartLemmas.{each_push}
use Rattle.mq_system.proofs.parts.make_slots.Goals as goal

pub loop-number-preserved : goal.loop-number-preserved
loop-number-preserved g c =
    let had = c.loop-number.invariant in
    let slots = c.loop-number.slots.items in
    let rows = c.loop-number.rows.items in
    let board = c.in-Ok-next_board.ensures in
    let put = c.push_reserved.ensures in
    let added = c.push_reserved-in-loop-number.ensures in
    let slot = c.new.result in
    let part = c.slot_part.ensures in
    let empty : slot ≡ empty_locked (length slots) =
    c.new.ensures ∙ ap (λ s. empty_locked s.number) c.new-slot.ensures
    ∙ ap (λ n. empty_locked n) (sym had.0) in
    let readers = c.in-Ok-next_board.readers in
    let all : readers.items ≡ new_readers (length rows) c.args.config.seats =
    board.readers ∙ ap (λ n. new_readers n c.args.config.seats) (sym had.1) in (
      omega (arith, ap length put.items, length-append slots (slot ∷ []), had.0),
      omega (arith, ap length added.items, length-append rows (readers ∷ []), had.1),
      rw put.items (each_push (λ k (s : LockedSlot). s ≡ empty_locked k) slots slot had.2 empty),
      rw added.items
          (each_push (λ k (r : Vec ReaderState). r.items ≡ new_readers k c.args.config.seats) rows readers had.3 all),
      omega (arith, had.4, put.capacity),
      omega (arith, had.5, added.capacity),
      omega (arith, had.6, board.left),
      board.named,
      had.8,
      omega (arith, had.9, part.parts),
      part.total ∙ had.10,
    )
