use Rattle.std.proofs.Common.{◌≡◌, ◌<◌, false, min, rules, arith, inl, inr, refl}
use Rattle.mq_calls.specs.declared.errno.Errno.TheVariants.{EINVAL, ENOMEM}
use Rattle.mq_system.specs.declared.many.TheConstants.{MAX_BATCH}
use Rattle.mq.specs.Caller.{is_selectable}
use Rattle.mq.proofs.caller.Caller.receive_texts_within.Goals as goal

pub returns-then-is_none-clause-answer : goal.returns-then-is_none-clause-answer
returns-then-is_none-clause-answer g c =
    let other : is_selectable c.args.selection ≡ false = search rules in
    inr (record {
      errno = EINVAL;
      ended_is = c.none.ensures.ended;
      none = c.none.ensures.texts;
      same = refl;
      why = inl (refl, other);
    })

pub returns-in_default-clause-answer : goal.returns-in_default-clause-answer
returns-in_default-clause-answer g c =
    let some : 0 < min c.args.most MAX_BATCH = search (rules, arith) in
    inr (record {
      errno = ENOMEM;
      ended_is = c.none-in_default.ensures.ended;
      none = c.none-in_default.ensures.texts;
      same = refl;
      why = inr (refl, some);
    })

pub returns-clause-answer : goal.returns-clause-answer
returns-clause-answer g c = inl (search (rules, c.msgrcv_many_within-ended.ensures.answer))
