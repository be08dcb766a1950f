-- What a call of a port did that receives several messages.
use Rattle.std.specs.Prelude.{◌≡◌, ℕ, ◌<◌, ◌≤◌, ◌==◌, ℤ, Bool, if◌then◌else◌, List, length, Result, Ok, Err}
use Rattle.std.specs.Prelude.{MatchResult}
use Rattle.std.specs.List.{FoldsTo, list_all}
use Rattle.mq_calls.specs.declared.errno.Errno.{Errno}
use Rattle.mq_system.specs.declared.many.TheConstants.{MAX_BATCH}
use Rattle.mq_cli.specs.declared.threads.taken.Taken.{Taken}
use Rattle.mq_cli.specs.Works.{Takes}

-- one of them was received, as by a call for one
abbrev pub TakesNext : {Q : Type 0} → Takes Q → ℕ → ℤ → Bool → ℕ → Q → Taken → Q → Type 0
TakesNext takes id msgtyp ends moment old taken new = takes old id msgtyp ends moment (Ok taken) new

-- up to so many messages were received, as by so many calls for one, one after another: at least
-- one, or the next of these calls was refused
pub record TakesMany {Q : Type 0} (takes : Takes Q) (id : ℕ) (msgtyp : ℤ) (ends : Bool)
    (moment most : ℕ) (old : Q) (taken : List Taken) (answer : Result (Unit {0}) Errno) (new : Q)
    : Type 0 where
  pub mid : Q
  pub turns : FoldsTo (TakesNext takes id msgtyp ends moment) old taken mid
  pub count : MatchResult answer (λ _. (0 < length taken) × (length taken ≤ most))
      (λ _. length taken < most)
  pub ended : MatchResult answer (λ _. new ≡ mid)
      (λ errno. takes mid id msgtyp ends moment (Err errno) new)

-- how many messages the next call receives at most, behind these: a text that has bytes holds pages
-- until it is spent, so that after one messages are received one by one
abbrev pub most_behind : List Taken → ℕ
most_behind came = if list_all (λ taken. taken.length == 0) came then MAX_BATCH else 1
