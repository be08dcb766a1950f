-- Which refusals a call of a queue may have, whatever stands under the locks (msgop(2),
-- msgctl(2)).
use Rattle.std.specs.Prelude.{◌≡◌, ℕ, ℤ, ◌<◌, ◌≤◌, pos, int_lt, nat_le, ◌||◌}
use Rattle.std.specs.Prelude.{Bool, true, false, IsSome}
use Rattle.mq_queue.specs.declared.limits.TheConstants.{MSGMAX, MSGMNB}
use Rattle.mq_table.specs.Ids.{slot_of}
use Rattle.mq_calls.specs.Look.{refused_early}
use Rattle.mq_calls.specs.declared.errno.Errno.{Errno}
use Rattle.mq_calls.specs.declared.errno.Errno.TheVariants.{EINVAL, EIDRM, EAGAIN, ENOMEM, ENOMSG, E2BIG, EPERM}
use Rattle.mq_calls.specs.declared.results.Refused.{Refused}

-- the number of slots alone refuses an id
abbrev pub out_of_slots : ℕ → ℕ → Bool
out_of_slots slots id = nat_le slots (slot_of id)

-- a message that its type, or the number of slots, alone refuses (msgop(2), msgsnd)
abbrev pub never_sent : ℕ → ℕ → ℤ → Bool
never_sent slots id mtype = int_lt mtype (pos 1) || out_of_slots slots id

-- what is refused early is so refused; all else after some entries of its slot, by an errno that
-- the call may have
abbrev pub Refuses : Bool → (Errno → Type 0) → Refused → Type 0
Refuses true may r = r ≡ refused_early EINVAL
Refuses false may r = IsSome r.entry × may r.errno

-- why no text was drafted of so many bytes: they are too many, or no run of pages is free for
-- them, or no memory
abbrev pub MayNotDraft : ℕ → Errno → Type 0
MayNotDraft n EINVAL = MSGMAX < n
MayNotDraft n ENOMEM = (0 < n) × (n ≤ MSGMAX)
MayNotDraft n _ = ⊥

-- msgsnd: EAGAIN only for a sender that does not wait
abbrev pub MaySend : Bool → Errno → Type 0
MaySend nowait EINVAL = Unit {0}
MaySend nowait EIDRM = Unit {0}
MaySend nowait EAGAIN = nowait ≡ true
MaySend nowait ENOMEM = Unit {0}
MaySend nowait _ = ⊥

-- msgrcv: ENOMSG only for a receiver that does not wait, E2BIG only without MSG_NOERROR
abbrev pub MayReceive : Bool → Bool → Errno → Type 0
MayReceive nowait noerror EINVAL = Unit {0}
MayReceive nowait noerror EIDRM = Unit {0}
MayReceive nowait noerror ENOMSG = nowait ≡ true
MayReceive nowait noerror E2BIG = noerror ≡ false
MayReceive nowait noerror ENOMEM = Unit {0}
MayReceive nowait noerror _ = ⊥

-- IPC_SET: EPERM only for a quota over MSGMNB
abbrev pub MaySet : ℕ → Errno → Type 0
MaySet qbytes EINVAL = Unit {0}
MaySet qbytes EIDRM = Unit {0}
MaySet qbytes EPERM = MSGMNB < qbytes
MaySet qbytes ENOMEM = Unit {0}
MaySet qbytes _ = ⊥

-- IPC_RMID
abbrev pub MayRemove : Errno → Type 0
MayRemove EINVAL = Unit {0}
MayRemove EIDRM = Unit {0}
MayRemove ENOMEM = Unit {0}
MayRemove _ = ⊥
