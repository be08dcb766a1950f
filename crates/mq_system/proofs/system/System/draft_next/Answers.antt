use Rattle.mq_system.proofs.system.System.draft_next.Goals as goal

pub returns-in-Some-clause-ok : goal.returns-in-Some-clause-ok
returns-in-Some-clause-ok g c =
    record { bytes_are = c.text_in.ensures.bytes; least = c.text_in.ensures.block }
