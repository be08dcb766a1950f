-- Workers that ran side by side, each by a job that has its plan and its port.
use Rattle.std.proofs.Common.{◌≡◌, List, [], ◌∷◌, map}
use Rattle.std.specs.Global.{Vec}
use Rattle.std.specs.List.{AllZip}
use Rattle.mq_cli.specs.declared.threads.outcome.Outcome.{Outcome}
use Rattle.mq_cli.specs.declared.threads.step.Step.{Step}
use Rattle.mq_cli.specs.Plans.{IsCarriedOut}
use Rattle.mq_cli.specs.Works.{AllWorkFrom, Puts, Removals, Takes, WorksFrom}

module _ {J Q : Type 0} (puts : Puts Q) (takes : Takes Q) (removes : Removals Q) (plan_of : J → List Step) (port_of : J → Q) where
  -- what is known of a job and its outcome
  abbrev pub IsDone : J → Outcome → Type 0
  IsDone job outcome = IsCarriedOut (plan_of job) outcome × WorksFrom puts takes removes (plan_of job) outcome (port_of job)

  -- and so of each plan, its port and that outcome
  pub all_done : (jobs : List J) (plans : List (Vec Step)) (ports : List Q) (outcomes : List Outcome) → map plan_of jobs ≡ map (λ plan. plan.items) plans
      → map port_of jobs ≡ ports → AllZip IsDone jobs outcomes
      → AllZip (λ (plan : Vec Step) outcome. IsCarriedOut plan.items outcome) plans outcomes × AllWorkFrom puts takes removes plans ports outcomes
  all_done [] [] [] [] e f all = (tt, tt)
  all_done [] [] (port ∷ ports) outcomes e f all = absurd (cc f)
  all_done [] [] [] (outcome ∷ outcomes) e f all = absurd all
  all_done [] (plan ∷ plans) ports outcomes e f all = absurd (cc e)
  all_done (job ∷ jobs) [] ports outcomes e f all = absurd (cc e)
  all_done (job ∷ jobs) (plan ∷ plans) [] outcomes e f all = absurd (cc f)
  all_done (job ∷ jobs) (plan ∷ plans) (port ∷ ports) [] e f all = absurd all
  all_done (job ∷ jobs) (plan ∷ plans) (port ∷ ports) (outcome ∷ outcomes) e f all =
      let planned : plan_of job ≡ plan.items = cc in
      let ported : port_of job ≡ port = cc in
      let rest : map plan_of jobs ≡ map (λ plan. plan.items) plans = cc in
      let others : map port_of jobs ≡ ports = cc in
      let done = all_done jobs plans ports outcomes rest others all.1 in
      let one : WorksFrom puts takes removes plan.items outcome port = rw ported at (rw planned at all.0.1) in
      ((rw planned at all.0.0, done.0), (one, done.1))
