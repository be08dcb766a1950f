use Rattle.std.proofs.Common.{◌≡◌, pos, take_all, refl, append-nil, arith}
use Rattle.mq_cli.specs.declared.threads.notes.Stream.{Stream}
use Rattle.mq_cli.specs.Calls.{same_stream}
use Rattle.mq_cli.specs.declared.threads.taken.Taken.{Taken}
use Rattle.mq_cli.specs.contracts.threads.notes.StreamPartialEq.TheImpl.{eq-value}
use Rattle.mq_cli.proofs.FarLemmas.{noted_next}
use Rattle.mq_cli.proofs.threads.notes.Notes.note_all.Goals as goal

-- streams are compared by their fields
stream_eq : (a b : Stream) → eq-value.it a b ≡ same_stream a b
stream_eq a b = refl

pub loop-taken-init : goal.loop-taken-init
loop-taken-init c = (omega arith, λ so_far had. rw (append-nil so_far) had)

-- what a read past the end would find
abbrev nobody : Taken
nobody = record { sender = 0; tag = 0; mtype = pos 0; length = 0 }

pub loop-taken-preserved : goal.loop-taken-preserved
loop-taken-preserved c = (
  omega (arith, c.note_one.ensures.room, c.loop-taken.invariant.0),
  noted_next eq-value.it stream_eq c.args.id c.args.came.now c.loop-taken.taken-index nobody c.args.self.now c.loop-taken.self c.note_one.new.self
      c.loop-taken-test.true c.note_one.ensures.noted c.loop-taken.invariant.1,
)

pub returns : goal.returns
returns c =
    let whole = take_all c.loop-taken.taken-index c.args.came.now c.loop-taken-test.false in
    rw whole at c.loop-taken.invariant.1
