-- A threads script that was read, as the definitions see it.
use Rattle.std.specs.Prelude.{◌≡◌, ◌≤◌, ℕ, map, vec_len, Result, Ok, Err}
use Rattle.mq_cli.specs.declared.fault.Cause.{Cause}
use Rattle.mq_cli.specs.declared.fault.RunFault.{RunFault}
use Rattle.mq_cli.specs.declared.fault.RunFault.TheVariants.{Script, Memory}
use Rattle.mq_cli.specs.declared.limits.TheConstants.{MAX_WORKERS}
use Rattle.mq_cli.specs.declared.threads.script.ThreadsScript.{ThreadsScript}
use Rattle.mq_cli.specs.Plans.{AreCountable}
use Rattle.mq_cli.specs.ThreadsScript.{Wanted}

abbrev pub wanted_seen : ThreadsScript → Wanted
wanted_seen s = record { calls = s.calls.items; sections = map (λ v. v.items) s.sections.items }

-- what was read is what the script asks for, of no more sections than there may be, each of which
-- can be counted
pub record IsParsed (wanted : Result Wanted (ℕ × Cause)) (script : ThreadsScript) : Type 0 where
  pub is : wanted ≡ Ok (wanted_seen script)
  pub few : vec_len script.sections ≤ MAX_WORKERS
  pub countable : AreCountable script.sections.items

-- a script was read, or its first line that is not well formed was named; memory may run out
abbrev pub Parses : Result Wanted (ℕ × Cause) → Result ThreadsScript RunFault → Type 0
Parses wanted (Ok script) = IsParsed wanted script
Parses wanted (Err (Script line cause)) = wanted ≡ Err (line, cause)
Parses wanted (Err Memory) = Unit {0}
Parses wanted (Err _) = ⊥
