use Rattle.std.proofs.Common.{rules, inr}
use Rattle.mq.proofs.caller.Caller.receive_text_within.Goals as goal

pub returns-in-Err-clause-answer : goal.returns-in-Err-clause-answer
returns-in-Err-clause-answer g c =
    let turned = c.in-Err.ensures.answer in record {
      allowed = search (rules, turned);
      look = search (rules, turned);
      why = inr (record { entry = c.in-Err.refused.entry; turned = search (rules, turned) });
    }
