-- Calls that need memory.
use Rattle.std.specs.Prelude.{Result, Ok, Err}

-- why a call is refused: where nothing else refuses it, it is out of memory
abbrev pub or_memory : {A E : Type 0} → E → Result A E → E
or_memory memory (Ok turn) = memory
or_memory memory (Err refusal) = refusal
