-- The bytes of a text in a block that was just taken.
use Rattle.std.proofs.Common.{◌≡◌, refl, ℕ, ◌*◌, ◌≤◌, List, ◌++◌, length, take, replicate, Some, ◌∙◌, ap, sym}
use Rattle.std.proofs.lemmas.List.{take-replicate, take_at}
use Rattle.std.specs.List.{concat}
use Rattle.std.specs.Option.{option_map}
use Rattle.mq_tree.specs.LentSet.{Lending}
use Rattle.mq_arena.specs.OwnedBlock.{OwnedBlock}
use Rattle.mq_arena.specs.Lent.{place, lend}
use Rattle.mq_arena.specs.declared.page.TheConstants.{PAGE_LEN}
use Rattle.mq_arena.proofs.Overwriting.{concat-replicate}
use Rattle.mq_arena.specs.Text.{PlainText, order_for, text_in}

-- the first ones of pages that are all zero
pub zeros : (len k : ℕ) (pages : List (List ℕ)) → pages ≡ replicate k (replicate PAGE_LEN 0) → len ≤ PAGE_LEN * k
    → take len (concat pages) ≡ replicate len 0
zeros len k pages zero_pages room =
    ap (λ ps. take len (concat ps)) zero_pages ∙ ap (take len) (concat-replicate PAGE_LEN k)
    ∙ take-replicate len (PAGE_LEN * k) 0 room

-- the text in the block that was taken with its bytes
pub in_taken : (arena after : Lending) (b : OwnedBlock) (order : ℕ) (bytes rest : List ℕ) (text : PlainText)
    → order ≡ order_for (length bytes) → lend arena order ≡ Some (place b, after) → concat b.pages ≡ bytes ++ rest
    → text ≡ record { bytes = take (length bytes) (concat b.pages); block = Some (place b) }
    → text_in arena bytes ≡ Some (text, after)
in_taken arena after b order bytes rest text least lent filled is =
    let cut : take (length bytes) (concat b.pages) ≡ bytes = ap (take (length bytes)) filled ∙ take_at bytes rest (length bytes) refl in
    let whole : text ≡ record { bytes = bytes; block = Some (place b) } = is ∙ ap (λ bs. record { bytes = bs; block = Some (place b) }) cut in
    let found : lend arena (order_for (length bytes)) ≡ Some (place b, after) = ap (lend arena) (sym least) ∙ lent in
    ap (option_map (λ l. (record { bytes = bytes; block = Some l.0 }, l.1))) found ∙ ap (λ t. Some (t, after)) (sym whole)
