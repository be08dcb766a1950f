use Rattle.std.proofs.Common.{◌≡◌, ◌*◌, length, take}
use Rattle.mq_face.specs.Bytes.{bytes_of_numbers}
use Rattle.mq_face.proofs.bytes.to_bytes.Given as goal

-- the bytes of the numbers so far
abbrev pub invariant-loop-i : goal.invariant-loop-i
invariant-loop-i l = (length l.bytes ≡ 64) × (take (8 * l.i) l.bytes ≡ bytes_of_numbers (take l.i l.numbers))
