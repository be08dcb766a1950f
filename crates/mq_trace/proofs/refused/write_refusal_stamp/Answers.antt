use Rattle.std.proofs.Common.{append_assoc}
use Rattle.mq_trace.specs.Records.{refusal_stamp}
use Rattle.mq_trace.proofs.refused.write_refusal_stamp.Goals as goal

pub returns : goal.returns
unfolding refusal_stamp
returns c =
    rw (c.in_ok-write_field-2.ensures, c.in_ok-write_field.ensures) (simp append_assoc)
