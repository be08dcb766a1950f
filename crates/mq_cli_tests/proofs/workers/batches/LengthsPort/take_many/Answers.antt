use Rattle.std.proofs.Common.{Ok, arith}
use Rattle.mq_cli_tests.proofs.ManyLemmas.{takes_any}
use Rattle.mq_cli_tests.proofs.workers.batches.LengthsPort.take_many.Goals as goal

pub returns-clause-done : goal.returns-clause-done
returns-clause-done g c =
    takes_any c.args.call.now.id c.args.call.now.msgtyp g.T.Patience.ends c.args.call.now.moment c.args.most c.args.self.now c.loop.self c.loop.out.items (Ok tt)
    (omega (arith, c.loop.invariant.0, c.loop-test.false, c.min-end.ensures, c.max.ensures, c.requires.some), omega (arith, c.loop.invariant.0, c.loop-test.false, c.min-end.ensures, c.max.ensures, c.requires.some))
