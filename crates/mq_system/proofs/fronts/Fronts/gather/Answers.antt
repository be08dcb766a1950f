use Rattle.std.proofs.Common.{◌≡◌, ◌+◌, ◌<◌, [], ap, sym, subst, ◌∙◌, length, replicate, slice_set, List, arith}
use Rattle.mq_queue.specs.declared.event.Event.{Event}
use Rattle.mq_board.specs.Readers.{ReaderState}
use Rattle.mq_system.proofs.FrontLemmas.{AreTaken, none_seen, taken_more}
use Rattle.mq_system.proofs.fronts.Fronts.gather.Goals as goal

pub returns-clause-fronts : goal.returns-clause-fronts
returns-clause-fronts g c =
    let had = c.loop-board.invariant.0 in
    let all : length c.loop-board.readers.items ≡ length c.args.rows.now =
    omega (arith, had.count, c.loop-board-test.false, c.loop-board.auto.board-end) in
    ap (λ (fronts : List (List Event)). record { place = c.args.place; fronts = fronts })
    (none_seen c.loop-board.readers.items
    (λ k d less. ap (λ (r : ReaderState). r.events) (had.taken k d (omega (arith, less, had.count))))
    ∙ ap (λ n. replicate n []) all)

pub loop-board-preserved : goal.loop-board-preserved
loop-board-preserved g c =
    let board = c.loop-board.board in
    let inside : board < length c.loop-board.rows =
    omega (arith, c.loop-board-test.true, c.loop-board.auto.board-end, c.loop-board.auto.rows) in (
      subst
          (λ (rs : List ReaderState). AreTaken c.args.place (board + 1)
          (slice_set c.loop-board.rows board c.last_of.new.readers) rs)
          (sym c.push_reserved.ensures.items)
          (taken_more c.args.place board c.loop-board.rows c.loop-board.readers.items c.last_of.new.readers
          c.last_of.result c.loop-board.invariant.0 inside c.last_of.ensures.last c.last_of.ensures.left),
      omega (arith, c.loop-board.invariant.1, c.push_reserved.ensures.capacity),
    )
