use Rattle.std.proofs.Common.{append_assoc}
use Rattle.mq_trace.specs.Records.{refusal_args}
use Rattle.mq_trace.proofs.refused.write_refusal_args.Goals as goal

pub returns : goal.returns
unfolding refusal_args
returns c =
    rw (c.in_ok-extend_from_slice-4.ensures.items, c.in_ok-write_field.ensures, c.in_ok-write_id.ensures, c.in_ok-extend_from_slice-3.ensures.items, c.in_ok-extend_from_slice-2.ensures.items, c.in_ok-extend_from_slice.ensures.items, c.as_bytes.ensures.value, c.name.ensures) (simp append_assoc)
