use Rattle.std.proofs.Common.{rules}
use Rattle.mq_jobs.proofs.JobLemmas.{made_before}
use Rattle.mq_cli.specs.Plans.{IsCountable}
use Rattle.mq_cli.proofs.WorkersLemmas.{all_done}
use Rattle.mq_cli.proofs.threads.workers.run_workers.Goals as goal

pub run_jobs-requires-clause-before : goal.run_jobs-requires-clause-before
run_jobs-requires-clause-before g c κs within =
    made_before (λ job. job.plan.now) (λ plan. plan.items) IsCountable c.in-Ok.jobs.items c.args.plans.now (search rules) c.requires.plans

pub returns-in-Ok-run_jobs-clause-ran : goal.returns-in-Ok-run_jobs-clause-ran
returns-in-Ok-run_jobs-clause-ran g c =
    (all_done g.Q.Port.puts g.Q.Port.takes g.Q.Port.removes (λ job. job.plan.now) (λ job. job.port.now) c.in-Ok.jobs.items c.args.plans.now c.args.ports.now
    c.in-Ok-run_jobs.outcomes.items (search rules) (search rules) (search rules)).0

pub returns-in-Ok-run_jobs-clause-worked : goal.returns-in-Ok-run_jobs-clause-worked
returns-in-Ok-run_jobs-clause-worked g c =
    (all_done g.Q.Port.puts g.Q.Port.takes g.Q.Port.removes (λ job. job.plan.now) (λ job. job.port.now) c.in-Ok.jobs.items c.args.plans.now c.args.ports.now
    c.in-Ok-run_jobs.outcomes.items (search rules) (search rules) (search rules)).1
