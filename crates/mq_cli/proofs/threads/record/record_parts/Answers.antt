use Rattle.std.proofs.Common.{List, subst}
use Rattle.mq_cli.specs.declared.threads.script.MainCall.{MainCall}
use Rattle.mq_cli.specs.RecordedThreads.{RecordedMain}
use Rattle.mq_cli.specs.ThreadsParsed.{wanted_seen}
use Rattle.mq_cli.proofs.RecordThreadsLemmas.{parts_failed}
use Rattle.mq_cli.proofs.threads.record.record_parts.Goals as goal

pub returns-in-Ok-run_sections-clause-ran : goal.returns-in-Ok-run_sections-clause-ran
returns-in-Ok-run_sections-clause-ran g c =
    let So : List MainCall → Type 0 = λ calls. RecordedMain g.N.Names.slots g.N.Names.last_seq calls c.in-Ok.refusals.items c.args.main.now c.record_main.new.seat in
    subst So c.deref.ensures.value c.in-Ok.ensures

pub returns-in-Err-clause-ran : goal.returns-in-Err-clause-ran
returns-in-Err-clause-ran g c =
    parts_failed g.N.Names.slots g.N.Names.last_seq (wanted_seen c.args.wanted.now) c.args.main.now
    c.record_main.new.seat _ c.in-Err.ensures
