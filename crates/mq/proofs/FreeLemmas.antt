-- How many pages can be free.
use Rattle.std.proofs.Common.{ℕ, ◌^◌, ◌≤◌, List, arith}
use Rattle.std.proofs.lemmas.List.FromFn.{length-range_with_len}
use Rattle.std.proofs.lemmas.List.Sums.{count_by-le-length}
use Rattle.std.specs.List.{range_with_len}
use Rattle.mq_tree.specs.Blocks.{PlainBlock}
use Rattle.mq_tree.specs.LentSet.{free_pages, is_free_page}

-- no more than there are
pub free_within : (height : ℕ) (lent : List PlainBlock) → free_pages height lent ≤ 2 ^ height
unfolding free_pages
free_within height lent =
    let all = range_with_len 0 (2 ^ height) in
    omega (arith, count_by-le-length (is_free_page lent) all, length-range_with_len 0 (2 ^ height))
