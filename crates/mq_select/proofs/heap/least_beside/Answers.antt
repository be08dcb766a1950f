use Rattle.std.proofs.Common.{not}
use Rattle.std.specs.Ordering.{int_eq}
use Rattle.std.proofs.lemmas.Int.{to_z-of_z}
use Rattle.mq_select.proofs.Entries.{least_of_entry, none_of_entries}
use Rattle.mq_select.proofs.heap.least_beside.Goals as goal

pub returns-in_err-first : goal.returns-in_err-first
returns-in_err-first c =
    let found = simp (to_z-of_z, c.ranges.other) at c.first_beside.ensures in
    rw c.from_residual.ensures (none_of_entries c.args.heap.now.entries (λ t. not (int_eq t c.args.other)) (rw c.in_err-first.was at found))

pub returns : goal.returns
returns c =
    let found = simp (to_z-of_z, c.ranges.other) at c.first_beside.ensures in
    rw c.place_of_entry.ensures
    (least_of_entry c.args.heap.now.entries (λ t. not (int_eq t c.args.other)) c.in_ok-first.first c.len-len.ensures.unique (rw c.in_ok-first.was at found))
