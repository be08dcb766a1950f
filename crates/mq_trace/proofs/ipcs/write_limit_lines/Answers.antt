use Rattle.std.proofs.Common.{append_assoc}
use Rattle.mq_trace.specs.Ipcs.{limit_lines}
use Rattle.mq_trace.proofs.ipcs.write_limit_lines.Goals as goal

pub returns : goal.returns
unfolding limit_lines
returns c =
    rw (c.in_ok-write_field-3.ensures, c.in_ok-write_field-2.ensures, c.in_ok-write_field.ensures) (simp append_assoc)
