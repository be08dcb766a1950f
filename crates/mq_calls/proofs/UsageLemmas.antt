use Rattle.std.proofs.Common.{◌≡◌, ◌<◌, ℕ, ◌+◌, ◌^◌, suc, zero, length, add-one, arith, refl, sym}
use Rattle.mq_queue.specs.declared.figures.BoardRow.{BoardRow}
use Rattle.mq_table.specs.KeptShown.{row_now}
use Rattle.mq_calls.specs.State.{QueuesState, slot_at}
use Rattle.mq_calls.specs.Usages.{first_usage, no_usage, usage_to, used}
use Rattle.mq_calls.specs.declared.usage.Usage.{Usage}

pub usage_none : (none : Usage) (row_of : ℕ → BoardRow) → usage_to none row_of 0 ≡ none
unfolding usage_to
usage_none none row_of = refl

-- one slot more
pub usage_more : (none : Usage) (row_of : ℕ → BoardRow) (k : ℕ) → used (usage_to none row_of k) k (row_of k) ≡ usage_to none row_of (k + 1)
unfolding usage_to
usage_more none row_of k = rw (add-one k) refl

-- the rows of the slots alone determine it
pub usage_same : (none : Usage) (a b : ℕ → BoardRow) (k : ℕ) → ((i : ℕ) → i < k → a i ≡ b i) → usage_to none a k ≡ usage_to none b k
unfolding usage_to
usage_same none a b zero same = refl
usage_same none a b (suc k) same =
    rw (usage_same none a b k (λ i less. same i (omega (arith, less)))) (rw (same k (omega arith)) refl)

-- no slot of a state, and one more
pub first_none : (s : QueuesState) → no_usage (length s.slots) (2 ^ s.arena.height) ≡ first_usage s 0
first_none s = sym (usage_none _ (λ k. row_now (slot_at s k)))

pub first_more : (s : QueuesState) (k : ℕ) → used (first_usage s k) k (row_now (slot_at s k)) ≡ first_usage s (k + 1)
first_more s k = usage_more _ (λ k. row_now (slot_at s k)) k

pub ruleset usages = (first_none, first_more)
