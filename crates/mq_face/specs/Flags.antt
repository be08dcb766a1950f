-- The flags of a call.
use Rattle.std.specs.Prelude.{ℕ, ◌==◌, bit_and, Bool, not}
use Rattle.mq_calls.specs.declared.results.GetFlags.{GetFlags}
use Rattle.mq_face.specs.declared.manual.TheConstants.{IPC_CREAT, IPC_EXCL}

-- whether the flags have this one
abbrev pub has : ℕ → ℕ → Bool
has flags flag = not (bit_and flags flag == 0)

-- those of msgget (msgget(2))
abbrev pub get_flags : ℕ → GetFlags
get_flags flags = record { create = has flags IPC_CREAT; exclusive = has flags IPC_EXCL }
