-- What a worker did by its plan: which calls its port made, and how they ended.
use Rattle.std.specs.Prelude.{◌≡◌, ◌⊎◌, ℕ, ℤ, Bool, List, [], ◌∷◌, ◌++◌, length, reverse, count_by}
use Rattle.std.specs.Prelude.{Option, None, Some, Result, Ok, Err}
use Rattle.std.specs.Global.{Vec}
use Rattle.mq_calls.specs.declared.errno.Errno.{Errno}
use Rattle.mq_calls.specs.declared.errno.Errno.TheVariants.{ENOMEM}
use Rattle.mq_cli.specs.declared.threads.outcome.Outcome.{Outcome}
use Rattle.mq_cli.specs.declared.threads.step.Step.{Step}
use Rattle.mq_cli.specs.declared.threads.taken.Taken.{Taken}
use Rattle.mq_cli.specs.Calls.{PortCall, send, receive, remove, TakenMessage, calls_in, is_send}
use Rattle.mq_cli.specs.Calls.{tags_rise}

-- what the calls of a port do: the state before, the arguments, the result, the state after
abbrev pub Puts : Type 0 → Type 1
Puts Q = Q → ℕ → ℤ → ℕ → ℕ → Bool → ℕ → Result ℕ Errno → Q → Type 0

abbrev pub Takes : Type 0 → Type 1
Takes Q = Q → ℕ → ℤ → Bool → ℕ → Result Taken Errno → Q → Type 0

abbrev pub Removals : Type 0 → Type 1
Removals Q = Q → ℕ → ℕ → Result ℕ Errno → Q → Type 0

-- a call succeeded, and received these
abbrev pub Succeeds : {Q : Type 0} → Puts Q → Takes Q → Removals Q → PortCall → Q
    → List TakenMessage → Q
    → Type 0
Succeeds puts takes removes (send id mtype tag n ends moment) old received new =
    (received ≡ []) × ((entry : ℕ) × puts old id mtype tag n ends moment (Ok entry) new)
Succeeds puts takes removes (receive id msgtyp ends moment) old received new = (taken : Taken)
    × (received ≡ record { id = id; taken = taken } ∷ [])
    × takes old id msgtyp ends moment (Ok taken) new
Succeeds puts takes removes (remove id moment) old received new =
    (received ≡ []) × ((entry : ℕ) × removes old id moment (Ok entry) new)

-- a call was refused; one that receives may not be made, since there is no memory for its note
abbrev pub Fails : {Q : Type 0} → Puts Q → Takes Q → Removals Q → PortCall → Q → Errno → Q → Type 0
Fails puts takes removes (send id mtype tag n ends moment) old errno new =
    puts old id mtype tag n ends moment (Err errno) new
Fails puts takes removes (receive id msgtyp ends moment) old errno new =
    takes old id msgtyp ends moment (Err errno) new ⊎ ((errno ≡ ENOMEM) × (new ≡ old))
Fails puts takes removes (remove id moment) old errno new = removes old id moment (Err errno) new

-- the calls succeeded one after the other, and received these
abbrev pub AllSucceed : {Q : Type 0} → Puts Q → Takes Q → Removals Q → List PortCall → Q
    → List TakenMessage → Q → Type 0
AllSucceed puts takes removes [] old received new = (received ≡ []) × (new ≡ old)
AllSucceed {Q} puts takes removes (call ∷ calls) old received new = (first : List TakenMessage)
    × (rest : List TakenMessage) × (mid : Q) × (received ≡ first ++ rest)
    × Succeeds puts takes removes call old first mid
    × AllSucceed puts takes removes calls mid rest new

-- none is left, or the first of those that are left was refused
abbrev pub Ends : {Q : Type 0} → Puts Q → Takes Q → Removals Q → List PortCall → Q → Option Errno
    → Q
    → Type 0
Ends puts takes removes [] old None new = new ≡ old
Ends puts takes removes (call ∷ calls) old (Some errno) new =
    Fails puts takes removes call old errno new
Ends puts takes removes _ old _ new = ⊥

-- of these calls the first succeeded, one after the other: so many sent, and these were received;
-- then none was left, or the next was refused
pub record AreCalled {Q : Type 0} (puts : Puts Q) (takes : Takes Q) (removes : Removals Q)
    (calls : List PortCall) (old : Q) (sent : ℕ) (received : List TakenMessage) (end : Option Errno)
    (new : Q) : Type 0 where
  pub first : List PortCall
  pub rest : List PortCall
  pub mid : Q
  pub cut : calls ≡ first ++ rest
  pub made : AllSucceed puts takes removes first old received mid
  pub sent_is : sent ≡ count_by is_send first
  pub ended : Ends puts takes removes rest mid end new

-- a worker made the calls of its plan, up to its end
pub record HasWorked {Q : Type 0} (puts : Puts Q) (takes : Takes Q) (removes : Removals Q)
    (plan : List Step) (outcome : Outcome) (old new : Q) : Type 0 where
  pub received : List TakenMessage
  pub called : AreCalled puts takes removes (calls_in 0 plan) old outcome.sent received
      outcome.end new
  pub count : outcome.received ≡ length received
  pub ordered : outcome.ordered ≡ tags_rise (reverse received)

-- the same of a port that is dropped after the calls
abbrev pub WorksFrom : {Q : Type 0} → Puts Q → Takes Q → Removals Q → List Step → Outcome → Q
    → Type 0
WorksFrom {Q} puts takes removes plan outcome old =
    (new : Q) × HasWorked puts takes removes plan outcome old new

-- each worker made the calls of its plan by the port of its place
abbrev pub AllWorkFrom : {Q : Type 0} → Puts Q → Takes Q → Removals Q → List (Vec Step) → List Q
    → List Outcome
    → Type 0
AllWorkFrom puts takes removes [] [] [] = Unit {0}
AllWorkFrom puts takes removes (plan ∷ plans) (port ∷ ports) (outcome ∷ outcomes) =
    WorksFrom puts takes removes plan.items outcome port
    × AllWorkFrom puts takes removes plans ports outcomes
AllWorkFrom puts takes removes _ _ _ = ⊥
