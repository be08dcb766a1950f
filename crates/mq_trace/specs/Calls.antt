-- The names of the calls (msgop(2), msgctl(2)).
use Rattle.std.specs.Prelude.{ℕ, List, codes}
use Rattle.mq_trace.specs.declared.refusal.CallName.{CallName}
use Rattle.mq_trace.specs.declared.refusal.CallName.TheVariants.{Get, Send, Receive, Set, Remove}
use Rattle.mq_trace.specs.declared.refusal.CallName.TheVariants.{Stat, Cut}

-- the letters of a call's name
abbrev pub call_name : CallName → List ℕ
call_name Get = codes "msgget"
call_name Send = codes "msgsnd"
call_name Receive = codes "msgrcv"
call_name Set = codes "IPC_SET"
call_name Remove = codes "IPC_RMID"
call_name Stat = codes "IPC_STAT"
call_name Cut = codes "cut"
