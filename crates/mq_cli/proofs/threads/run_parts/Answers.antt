use Rattle.std.proofs.Common.{List, subst}
use Rattle.std.specs.Global.{Vec}
use Rattle.mq_cli.specs.declared.threads.step.Step.{Step}
use Rattle.mq_cli.specs.declared.threads.script.MainCall.{MainCall}
use Rattle.mq_cli.specs.MainPart.{WroteAll}
use Rattle.mq_cli.specs.Threads.{RanWorkers}
use Rattle.mq_cli.proofs.EndLemmas.{flush_failed, sections_ran}
use Rattle.mq_cli.proofs.threads.run_parts.Goals as goal

pub returns-in_default-clause-ran : goal.returns-in_default-clause-ran
returns-in_default-clause-ran g c =
    let had = g.W.Write.contents c.args.writer.now in
    let has = g.W.Write.contents c.run_main.new.writer in
    let So : List MainCall → Type 0 = λ calls. WroteAll g.N.Names.slots g.N.Names.last_seq calls c.args.main.now c.run_main.new.seat had has in
    flush_failed g.N.Names.slots g.N.Names.last_seq c.args.wanted.now c.args.main.now c.run_main.new.seat had has (g.W.Write.contents c.flush.new.self)
    (subst So c.deref.ensures.value c.in_ok-run_main.ensures) c.in_default.ensures.bytes

pub returns-clause-ran : goal.returns-clause-ran
returns-clause-ran g c =
    let had = g.W.Write.contents c.args.writer.now in
    let has = g.W.Write.contents c.run_main.new.writer in
    let So : List MainCall → Type 0 = λ calls. WroteAll g.N.Names.slots g.N.Names.last_seq calls c.args.main.now c.run_main.new.seat had has in
    let Done : List (Vec Step) → Type 0 = λ sections. RanWorkers sections c.run_sections.result in
    sections_ran g.N.Names.slots g.N.Names.last_seq c.args.wanted.now c.args.main.now c.run_main.new.seat had has (g.W.Write.contents c.flush.new.self)
    c.run_sections.result (subst So c.deref.ensures.value c.in_ok-run_main.ensures) c.in-Ok.ensures.bytes
    (subst Done c.deref-2.ensures.value c.run_sections.ensures)
