-- The shells of an arena, of which each allocated block takes one.
use Rattle.std.proofs.Common.{◌≡◌, ◌≤◌, ◌<◌, suc, inl, inr, true, false, nat_lt, ℕ, List, [], ◌∷◌, length, Some, refl, ap, arith}
use Rattle.std.proofs.lemmas.Bool.{cases_Bool, cond_both}
use Rattle.std.proofs.lemmas.List.Elements.{All-weaker}
use Rattle.std.specs.List.{AllPairs, sum_by}
use Rattle.mq_tree.proofs.FreePages.{free_sum}
use Rattle.mq_tree.proofs.Kept.{IsLentSet-joined}
use Rattle.mq_tree.proofs.LentSets.{AllPairs-head, AllPairs-tail, left_absent, is_block-true, is_block_start}
use Rattle.mq_tree.specs.Blocks.{PlainBlock, block, is_block, page_count}
use Rattle.mq_tree.specs.LentSet.{Lending, IsLentSet, StartsBefore, inserted, left, is_lent}
use Rattle.mq_tree.specs.Fit.{fit}
use Rattle.mq_arena.specs.Stocked.{IsShelled}
use Rattle.mq_arena.proofs.Magazines.{few_blocks}

-- one block more is allocated
pub length-joined : (b : PlainBlock) (lent : List PlainBlock)
    → length (inserted b lent) ≡ suc (length lent)
length-joined b [] = refl
length-joined b (c ∷ cs) =
    cond_both (nat_lt b.start c.start) (b ∷ c ∷ cs) (c ∷ inserted b cs) (λ l. length l ≡ suc (suc (length cs))) (λ _. refl) (λ _. ap suc (length-joined b cs))

-- one block fewer is allocated, where it was
pub length-left : (b : PlainBlock) (lent : List PlainBlock) → AllPairs StartsBefore lent → is_lent b lent ≡ true
    → suc (length (left b lent)) ≡ length lent
length-left b [] order lent = cc
length-left b (c ∷ cs) order lent = elim (cases_Bool (is_block b c)) [
  | inl is ↦
      let others = All-weaker (StartsBefore c) (λ d. is_block b d ≡ false)
      (λ d later. is_block_start b d (λ e. omega (arith, ap (λ x. x.start) (is_block-true b c is), later, e))) cs (AllPairs-head StartsBefore c cs order) in
      rw (is, left_absent b cs others) refl
  | inr other ↦
      let later : is_lent b cs ≡ true = rw other at lent in
      rw other (ap suc (length-left b cs (AllPairs-tail StartsBefore c cs order) later))
]

-- where a block fits, a shell is there
pub shell_there : (arena : Lending) (order start shells room : ℕ) → IsShelled arena shells room → IsLentSet arena.height arena.lent
    → fit arena.height arena.lent order ≡ Some start → 0 < shells
shell_there arena order start shells room shelled set found =
    let more = inserted (block start order) arena.lent in
    let few : length more ≤ sum_by page_count more = few_blocks (λ b. b.order) more in
    let whole = free_sum arena.height more (IsLentSet-joined arena.height arena.lent order start found set) in
    omega (arith, few, whole, length-joined (block start order) arena.lent, shelled.count)

-- while a block is allocated, there is room for its shell
pub shell_out : (arena : Lending) (b : PlainBlock) (shells room : ℕ) → IsShelled arena shells room
    → IsLentSet arena.height arena.lent → is_lent b arena.lent ≡ true → shells < room
shell_out arena b shells room shelled set lent =
    omega (arith, length-left b arena.lent set.in_order lent, shelled.count, shelled.room)
