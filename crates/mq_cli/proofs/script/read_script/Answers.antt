use Rattle.std.proofs.Common.{◌≡◌, ◌+◌, ◌++◌, take, length, arith}
use Rattle.std.proofs.KnownBytes.{Consumes-trans}
use Rattle.mq_cli.proofs.Transfers.{length_read}
use Rattle.mq_cli.proofs.script.read_script.Goals as goal

pub returns-then-count-len : goal.returns-then-count-len
returns-then-count-len g c =
    let long : length (c.loop.script.items ++ take c.in-Ok.count c.read.new.buf) ≡ length c.loop.script.items + c.in-Ok.count =
    length_read _ _ _ (omega (arith, c.in-Ok.ensures.bound)) in
    (c.loop.script.items ++ take c.in-Ok.count c.read.new.buf, Consumes-trans _ _ _ _ _ c.loop.invariant.0 c.in-Ok.ensures.bytes.0, omega (arith, c.len.ensures))

pub returns-then-is_err : goal.returns-then-is_err
returns-then-is_err g c =
    let long : length (c.loop.script.items ++ take c.in-Ok.count c.read.new.buf) ≡ length c.loop.script.items + c.in-Ok.count =
    length_read _ _ _ (omega (arith, c.in-Ok.ensures.bound)) in
    (c.loop.script.items ++ take c.in-Ok.count c.read.new.buf, Consumes-trans _ _ _ _ _ c.loop.invariant.0 c.in-Ok.ensures.bytes.0, omega (arith, c.len.ensures))
