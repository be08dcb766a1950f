use Rattle.std.proofs.Common.{◌≡◌, ◌+◌, ◌-◌, length, ap, refl, arith}
use Rattle.mq_cli.proofs.ThreadsRuns.{onto_last_set}
use Rattle.mq_cli.proofs.threads.script.ThreadsScript.add.Goals as goal

pub returns-in_ok-push-in-Section : goal.returns-in_ok-push-in-Section
returns-in_ok-push-in-Section c =
    let sections = c.args.self.now.sections in
    let count : (sections.len - 1) + 1 ≡ length sections.items = omega (arith, sections.ok.0, c.in-Some.ensures.variant.0 refl) in
    rw c.in-Section.is
    (ap (λ l. record { calls = c.args.self.now.calls.items; sections = l })
    (onto_last_set sections.items (sections.len - 1) c.in-Some.section.now c.push-in-Some.new.self c.in-Section.step count c.in-Some.ensures.value c.in_ok-push-in-Section.ensures.items))
