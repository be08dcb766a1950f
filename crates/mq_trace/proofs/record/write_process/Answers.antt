use Rattle.std.proofs.Common.{append_assoc}
use Rattle.mq_trace.specs.Records.{process_record}
use Rattle.mq_trace.proofs.record.write_process.Goals as goal

pub returns : goal.returns
unfolding process_record
returns c =
    rw (c.in_ok-extend_from_slice.ensures.items, c.in_ok-write_key.ensures, c.in_ok-write_field-2.ensures, c.in_ok-write_field.ensures, c.pid_of.ensures) (simp append_assoc)
