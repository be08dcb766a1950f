use Rattle.std.proofs.Common.{rules}
use Rattle.std.proofs.lemmas.Int.{to_z-of_z}
use Rattle.mq_system.proofs.RefusalLemmas.{in_slots}
use Rattle.mq.proofs.caller.Caller.queue.Goals as goal

pub returns-in-Ok-clause-answer : goal.returns-in-Ok-clause-answer
returns-in-Ok-clause-answer g c =
    let got = simp (to_z-of_z, c.ranges.key) at c.in-Ok.ensures.answer in record {
      made = c.in-Ok.got.made;
      got = got;
      within = in_slots g.N.Names.slots c.in-Ok.got.id got.within;
    }

pub returns-in-Err-clause-answer : goal.returns-in-Err-clause-answer
returns-in-Err-clause-answer g c =
    let not_got = simp (to_z-of_z, c.ranges.key) at c.in-Err.ensures.answer in search (rules, not_got)
