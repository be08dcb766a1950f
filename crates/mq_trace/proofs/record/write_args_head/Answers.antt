use Rattle.std.proofs.Common.{append_assoc}
use Rattle.mq_trace.specs.Records.{args_head}
use Rattle.mq_trace.proofs.record.write_args_head.Goals as goal

pub returns : goal.returns
unfolding args_head
returns c =
    rw (c.in_ok-write_field-2.ensures, c.in_ok-write_field.ensures) (simp append_assoc)
