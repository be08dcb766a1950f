use Rattle.std.proofs.Common.{append_assoc}
use Rattle.mq_trace.specs.Records.{receipt_args}
use Rattle.mq_trace.proofs.record.write_receipt.Goals as goal

pub returns : goal.returns
unfolding receipt_args
returns c =
    rw (c.in_ok-extend_from_slice-4.ensures.items, c.in_ok-write_selection.ensures, c.in_ok-extend_from_slice-3.ensures.items, c.in_ok-extend_from_slice-2.ensures.items, c.in_ok-extend_from_slice.ensures.items, c.in_ok-write_field-2.ensures, c.in_ok-write_field.ensures, c.as_bytes.ensures.value, c.bool_name.ensures) (simp append_assoc)
