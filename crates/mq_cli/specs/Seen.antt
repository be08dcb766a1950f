-- The program's own types as the definitions see them.
use Rattle.std.specs.Prelude.{Option, Result}
use Rattle.std.specs.Option.{option_map}
use Rattle.mq_cli.specs.declared.fault.Cause.{Cause}
use Rattle.mq_cli.specs.declared.command.Command.{Command}
use Rattle.mq_cli.specs.declared.command.Command.TheVariants.{Seat, Arena, Get, Send, Receive, Set}
use Rattle.mq_cli.specs.declared.command.Command.TheVariants.{Remove, Stat, Cut, Report, Info}
use Rattle.mq_cli.specs.declared.command.TextForm.{TextForm}
use Rattle.mq_cli.specs.declared.command.TextForm.TheVariants.{Plain, Letters}
use Rattle.mq_cli.specs.Commands.{AskedCall, sit, show, get, snd, rcv, set, rm, stat, cut, ipcs, info}
use Rattle.mq_cli.specs.Commands.{AskedText, plain, letters, Flags, ok_map}
use Rattle.mq_cli.specs.declared.command.ReceiveFlags.{ReceiveFlags}
use Rattle.mq_cli.specs.declared.reply.ArenaFigures.{ArenaFigures}
use Rattle.mq_cli.specs.Transcript.{Reply, arena}

abbrev pub text_seen : TextForm → AskedText
text_seen (Plain bytes) = plain bytes.now
text_seen (Letters count) = letters count

abbrev pub flags_seen : ReceiveFlags → Flags
flags_seen flags = record { except = flags.except; noerror = flags.noerror }

-- the call that a command asks for
abbrev pub asked_by : Command → AskedCall
asked_by (Seat number) = sit number
asked_by Arena = show
asked_by (Get call) = get call.key call.flags
asked_by (Send call) = snd call.id call.mtype (text_seen call.text)
asked_by (Receive call) = rcv call.id call.size call.mtype call.flags.except call.flags.noerror
asked_by (Set id qbytes) = set id qbytes
asked_by (Remove id) = rm id
asked_by (Stat id) = stat id
asked_by (Cut slot) = cut slot
asked_by (Report listing) = ipcs listing
asked_by Info = info

abbrev pub seen : Result Command Cause → Result AskedCall Cause
seen read = ok_map asked_by read

abbrev pub seen_line : Result (Option Command) Cause → Result (Option AskedCall) Cause
seen_line read = ok_map (λ line. option_map asked_by line) read

-- the reply that shows the arena
abbrev pub arena_shown : ArenaFigures → Reply
arena_shown f = arena f.pages f.free f.largest
