use Rattle.std.proofs.Common.{append_assoc}
use Rattle.mq_trace.specs.Records.{slice_head}
use Rattle.mq_trace.proofs.record.write_slice.Goals as goal

pub returns : goal.returns
unfolding slice_head
returns c =
    rw (c.in_ok-extend_from_slice-4.ensures.items, c.in_ok-write_name.ensures, c.in_ok-extend_from_slice-3.ensures.items, c.in_ok-write_field-2.ensures, c.in_ok-write_field.ensures, c.in_ok-extend_from_slice-2.ensures.items, c.in_ok-extend_from_slice.ensures.items) (simp append_assoc)
