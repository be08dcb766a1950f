-- What the end of a run determines.
use Rattle.std.proofs.Common.{List, [], ℕ, Option, None, Some, IfSome, Result, Ok, Err, arith}
use Rattle.std.proofs.KnownBytes.{Consumes-nil}
use Rattle.mq_cli.specs.Recorded.{KeepsScript, RecordedSerial}
use Rattle.mq_cli.specs.RecordedThreads.{KeepsThreads, RecordedThreads}
use Rattle.mq_cli.specs.Serial.{RanSerial, WritesSerial}
use Rattle.mq_cli.specs.ThreadsRun.{RanThreads, WritesThreads}
use Rattle.mq_cli.specs.declared.recorded.Recorded.{Recorded}
use Rattle.mq_cli.specs.declared.fault.RunFault.{RunFault}
use Rattle.mq_cli.specs.declared.fault.RunFault.TheVariants.{Script, Size, Read, Write, Memory, Thread}
use Rattle.mq_calls.specs.declared.config.Config.{Config}
use Rattle.mqsim.specs.Runs.{RanKind, Tells}
use Rattle.mqsim.specs.declared.command_line.Kind.{Kind}
use Rattle.mqsim.specs.declared.command_line.Kind.TheVariants.{Serial, Threads}

-- a run that never began
pub no_memory : (kind : Kind) (config : Config) (now : Option (List ℕ)) → RanKind {T = Unit {0}} kind config now now (Err Memory)
no_memory kind config now = record { reads = ([], Consumes-nil now, omega arith); tells = tt }

serial_tells : (config : Config) (script old new : Option (List ℕ)) (r : Result (Unit {0}) RunFault) → WritesSerial config script old new r → Tells Serial config script r
serial_tells config None old new (Ok done) wrote = tt
serial_tells config (Some s) old new (Ok done) wrote = wrote.0
serial_tells config None old new (Err (Script line cause)) wrote = tt
serial_tells config (Some s) old new (Err (Script line cause)) wrote = wrote.0
serial_tells config script old new (Err Size) wrote = tt
serial_tells config script old new (Err Read) wrote = tt
serial_tells config script old new (Err Write) wrote = tt
serial_tells config script old new (Err Memory) wrote = tt
serial_tells config script old new (Err Thread) wrote = tt

-- a run in one thread
pub ran_serial : (config : Config) (script left old new : Option (List ℕ)) (r : Result (Unit {0}) RunFault) → RanSerial config script left old new r
    → RanKind Serial config script left r
ran_serial config script left old new r ran = record { reads = ran.reads; tells = serial_tells config script old new r ran.writes }

threads_tell : (config : Config) (script old new : Option (List ℕ)) (r : Result (Unit {0}) RunFault) → WritesThreads config script old new r → Tells Threads config script r
threads_tell config None old new (Ok done) wrote = tt
threads_tell config (Some s) old new (Ok done) wrote = tt
threads_tell config script old new (Err (Script line cause)) wrote = wrote.0
threads_tell config script old new (Err Size) wrote = tt
threads_tell config script old new (Err Read) wrote = tt
threads_tell config script old new (Err Write) wrote = tt
threads_tell config script old new (Err Memory) wrote = tt
threads_tell config script old new (Err Thread) wrote = tt

-- a run in several
pub ran_threads : (config : Config) (script left old new : Option (List ℕ)) (r : Result (Unit {0}) RunFault) → RanThreads config script left old new r
    → RanKind Threads config script left r
ran_threads config script left old new r ran = record { reads = ran.reads; tells = threads_tell config script old new r ran.writes }

-- a run that is recorded says the same of its script
serial_keeps : (config : Config) (script : Option (List ℕ)) (r : Result Recorded RunFault) → IfSome script (KeepsScript config r) → Tells Serial config script r
serial_keeps config None (Ok kept) keeps = tt
serial_keeps config (Some s) (Ok kept) keeps = keeps.1
serial_keeps config None (Err (Script line cause)) keeps = tt
serial_keeps config (Some s) (Err (Script line cause)) keeps = keeps
serial_keeps config script (Err Size) keeps = tt
serial_keeps config script (Err Read) keeps = tt
serial_keeps config script (Err Write) keeps = tt
serial_keeps config script (Err Memory) keeps = tt
serial_keeps config script (Err Thread) keeps = tt

pub recorded_serial : (config : Config) (script left : Option (List ℕ)) (r : Result Recorded RunFault) → RecordedSerial config script left r → RanKind Serial config script left r
recorded_serial config script left r ran = record { reads = ran.reads; tells = serial_keeps config script r ran.keeps }

threads_keep : (config : Config) (script : Option (List ℕ)) (r : Result Recorded RunFault) → IfSome script (KeepsThreads config r) → Tells Threads config script r
threads_keep config None (Ok kept) keeps = tt
threads_keep config (Some s) (Ok kept) keeps = tt
threads_keep config None (Err (Script line cause)) keeps = tt
threads_keep config (Some s) (Err (Script line cause)) keeps = keeps
threads_keep config script (Err Size) keeps = tt
threads_keep config script (Err Read) keeps = tt
threads_keep config script (Err Write) keeps = tt
threads_keep config script (Err Memory) keeps = tt
threads_keep config script (Err Thread) keeps = tt

pub recorded_threads : (config : Config) (script left : Option (List ℕ)) (r : Result Recorded RunFault) → RecordedThreads config script left r → RanKind Threads config script left r
recorded_threads config script left r ran = record { reads = ran.reads; tells = threads_keep config script r ran.keeps }

-- what was recorded is drawn, or is not, where memory runs out or a write fails
pub drawn : (kind : Kind) (config : Config) (script left : Option (List ℕ)) (kept : Recorded) → RanKind {T = Recorded} kind config script left (Ok kept)
    → RanKind {T = Unit {0}} kind config script left (Ok tt)
drawn kind config script left kept ran = record { reads = ran.reads; tells = ran.tells }

pub undrawn_memory : (kind : Kind) (config : Config) (script left : Option (List ℕ)) (kept : Recorded) → RanKind {T = Recorded} kind config script left (Ok kept)
    → RanKind {T = Unit {0}} kind config script left (Err Memory)
undrawn_memory kind config script left kept ran = record { reads = ran.reads.0; tells = tt }

pub undrawn_write : (kind : Kind) (config : Config) (script left : Option (List ℕ)) (kept : Recorded) → RanKind {T = Recorded} kind config script left (Ok kept)
    → RanKind {T = Unit {0}} kind config script left (Err Write)
undrawn_write kind config script left kept ran = record { reads = ran.reads.0; tells = tt }

-- a fault of a run that is recorded is that of the whole
pub unrecorded : (kind : Kind) (config : Config) (script left : Option (List ℕ)) (fault : RunFault) → RanKind {T = Recorded} kind config script left (Err fault)
    → RanKind {T = Unit {0}} kind config script left (Err fault)
unrecorded kind config script left Size ran = record { reads = ran.reads; tells = tt }
unrecorded kind config script left Read ran = record { reads = ran.reads; tells = tt }
unrecorded kind config script left Write ran = record { reads = ran.reads; tells = tt }
unrecorded kind config script left Memory ran = record { reads = ran.reads; tells = tt }
unrecorded kind config script left Thread ran = record { reads = ran.reads; tells = tt }
unrecorded kind config script left (Script line cause) ran = record { reads = ran.reads; tells = ran.tells }
