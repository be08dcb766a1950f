use Rattle.std.proofs.Common.{◌≡◌, ℕ, ◌+◌, List, [], ◌∷◌, ◌++◌, sym, ap, ◌∙◌, arith, append-nil}
use Rattle.std.specs.List.{flat_map, range_with_len}
use Rattle.std.proofs.lemmas.Grind.{flat_map-append}
use Rattle.std.proofs.lemmas.List.{map-id}
use Rattle.std.proofs.lemmas.List.FromFn.{map-range_with_len_more}
use Rattle.mq_queue.specs.declared.figures.BoardRow.{BoardRow}
use Rattle.mq_table.specs.KeptShown.{row_now}
use Rattle.mq_calls.specs.State.{QueuesState, slot_at}
use Rattle.mq_cli.specs.Reports.{rows_to}

-- one more number from 0 on
one_more : (n : ℕ) → range_with_len 0 (n + 1) ≡ range_with_len 0 n ++ n ∷ []
one_more n =
    sym (map-id (range_with_len 0 (n + 1))) ∙ map-range_with_len_more (λ k. k) 0 n n (omega arith)
    ∙ ap (λ ks. ks ++ n ∷ []) (map-id (range_with_len 0 n))

-- what is written of one more slot
pub rows_more : (line : ℕ → BoardRow → List ℕ) (s : QueuesState) (n : ℕ) → rows_to line s (n + 1) ≡ rows_to line s n ++ line n (row_now (slot_at s n))
rows_more line s n =
    let of_slot : ℕ → List ℕ = λ k. line k (row_now (slot_at s k)) in
    ap (flat_map of_slot) (one_more n) ∙ flat_map-append of_slot (range_with_len 0 n) (n ∷ [])
    ∙ ap (λ text. flat_map of_slot (range_with_len 0 n) ++ text) (append-nil (of_slot n))
