-- What a plan of a worker asks for, and what it has done of it at its end.
use Rattle.std.specs.Prelude.{◌≡◌, ◌≤◌, ◌<◌, ℕ, ◌+◌, ◌^◌, Bool, true, nat_lt, List, All}
use Rattle.std.specs.Prelude.{Option, Some, None, IfNone}
use Rattle.std.specs.Global.{Vec}
use Rattle.std.specs.List.{sum_by}
use Rattle.mq_cli.specs.declared.threads.step.Step.{Step}
use Rattle.mq_cli.specs.declared.threads.step.Step.TheVariants.{Put, Take, Remove}
use Rattle.mq_cli.specs.declared.threads.outcome.Outcome.{Outcome}

-- how many messages a step sends
abbrev pub puts_of : Step → ℕ
puts_of (Put id mtype count length within moment) = count
puts_of (Take id msgtyp count within moment) = 0
puts_of (Remove id moment) = 0

-- how many messages a step receives
abbrev pub takes_of : Step → ℕ
takes_of (Put id mtype count length within moment) = 0
takes_of (Take id msgtyp count within moment) = count
takes_of (Remove id moment) = 0

-- how many queues a step removes
abbrev pub removes_of : Step → ℕ
removes_of (Put id mtype count length within moment) = 0
removes_of (Take id msgtyp count within moment) = 0
removes_of (Remove id moment) = 1

abbrev pub puts_in : List Step → ℕ
puts_in plan = sum_by puts_of plan

abbrev pub takes_in : List Step → ℕ
takes_in plan = sum_by takes_of plan

abbrev pub removes_in : List Step → ℕ
removes_in plan = sum_by removes_of plan

-- the messages of a plan can be counted
abbrev pub IsCountable : List Step → Type 0
IsCountable plan = puts_in plan + takes_in plan < 2 ^ 64

-- the messages of each of some plans
abbrev pub AreCountable : List (Vec Step) → Type 0
AreCountable plans = All (λ (plan : Vec Step). IsCountable plan.items) plans

-- at the end of a plan all of it is done; before, no more than it asks for
pub record IsCarriedOut (plan : List Step) (outcome : Outcome) : Type 0 where
  pub all : IfNone outcome.end ((outcome.sent ≡ puts_in plan) × (outcome.received ≡ takes_in plan))
  pub sent : outcome.sent ≤ puts_in plan
  pub received : outcome.received ≤ takes_in plan

-- how the number of calls that succeeded grew by a plan
pub record HasGrown (plan : List Step) (outcome : Outcome) (old new : ℕ) : Type 0 where
  pub all : IfNone outcome.end (new ≡ old + (outcome.sent + outcome.received + removes_in plan))
  pub least : old + (outcome.sent + outcome.received) ≤ new
  pub most : new ≤ old + (outcome.sent + outcome.received + removes_in plan)

-- whether a tag is above the one before, if there was one
abbrev pub rises : Option ℕ → ℕ → Bool
rises None tag = true
rises (Some last) tag = nat_lt last tag
