use Rattle.std.proofs.Common.{append_assoc}
use Rattle.mq_trace.specs.Records.{counter_record}
use Rattle.mq_trace.proofs.record.write_counter.Goals as goal

pub returns : goal.returns
unfolding counter_record
returns c =
    rw (c.in_ok-extend_from_slice.ensures.items, c.in_ok-write_field-4.ensures, c.in_ok-write_field-3.ensures, c.in_ok-write_field-2.ensures, c.in_ok-write_field.ensures, c.pid_of.ensures, c.time_of.ensures) (simp append_assoc)
