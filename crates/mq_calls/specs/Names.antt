-- The names, numbers and messages of the refusals (errno(3), strerror(3)).
use Rattle.std.specs.Prelude.{ℕ, ℤ, pos, List, codes}
use Rattle.mq_calls.specs.declared.errno.Errno.{Errno}
use Rattle.mq_calls.specs.declared.errno.Errno.TheVariants.{EINVAL, EIDRM, EAGAIN, ENOMEM}
use Rattle.mq_calls.specs.declared.errno.Errno.TheVariants.{ENOMSG, E2BIG, EPERM, EEXIST}
use Rattle.mq_calls.specs.declared.errno.Errno.TheVariants.{ENOENT, ENOSPC}

-- the letters of a refusal's name
abbrev pub errno_name : Errno → List ℕ
errno_name EINVAL = codes "EINVAL"
errno_name EIDRM = codes "EIDRM"
errno_name EAGAIN = codes "EAGAIN"
errno_name ENOMEM = codes "ENOMEM"
errno_name ENOMSG = codes "ENOMSG"
errno_name E2BIG = codes "E2BIG"
errno_name EPERM = codes "EPERM"
errno_name EEXIST = codes "EEXIST"
errno_name ENOENT = codes "ENOENT"
errno_name ENOSPC = codes "ENOSPC"

-- its number, as Linux has it (errno(3))
abbrev pub errno_number : Errno → ℤ
errno_number EPERM = pos 1
errno_number ENOENT = pos 2
errno_number E2BIG = pos 7
errno_number EAGAIN = pos 11
errno_number ENOMEM = pos 12
errno_number EEXIST = pos 17
errno_number EINVAL = pos 22
errno_number ENOSPC = pos 28
errno_number ENOMSG = pos 42
errno_number EIDRM = pos 43

-- its message, as the C library of Linux has it (strerror(3))
abbrev pub errno_message : Errno → List ℕ
errno_message EPERM = codes "Operation not permitted"
errno_message ENOENT = codes "No such file or directory"
errno_message E2BIG = codes "Argument list too long"
errno_message EAGAIN = codes "Resource temporarily unavailable"
errno_message ENOMEM = codes "Cannot allocate memory"
errno_message EEXIST = codes "File exists"
errno_message EINVAL = codes "Invalid argument"
errno_message ENOSPC = codes "No space left on device"
errno_message ENOMSG = codes "No message of desired type"
errno_message EIDRM = codes "Identifier removed"
