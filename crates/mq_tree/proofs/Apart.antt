-- Blocks with no page in common.
use Rattle.std.proofs.Common.{◌≡◌, ℕ, ◌+◌, ◌^◌, arith, true, List, leb, max}
use Rattle.std.specs.List.{list_all}
use Rattle.std.proofs.lemmas.Bool.{or_parts, leb-false, true_from_ne_false}
use Rattle.std.proofs.lemmas.Bool.Decides.{nat_tests}
use Rattle.std.proofs.lemmas.Nat.{pow_pos}
use Rattle.std.proofs.lemmas.List.Sums.{AllPass-from_list_all, list_all-from_AllPass}
use Rattle.std.proofs.lemmas.List.Elements.{All-weaker}
use Rattle.mq_tree.specs.Blocks.{PlainBlock, HasPage, AreApart, are_apart}
use Rattle.mq_tree.specs.Fit.{IsFreePage}

pub apart_from_test : (a b : PlainBlock) → are_apart a b ≡ true → AreApart a b
apart_from_test a b t page h k = grind (arith, nat_tests)

-- the blocks are apart: else the later of their first pages is in both
pub test_from_apart : (a b : PlainBlock) → AreApart a b → are_apart a b ≡ true
test_from_apart a b apart = true_from_ne_false (are_apart a b) (λ f.
    let p = or_parts (leb (a.start + 2 ^ a.order) b.start) (leb (b.start + 2 ^ b.order) a.start) f in
    let below_a = leb-false (a.start + 2 ^ a.order) b.start p.0 in
    let below_b = leb-false (b.start + 2 ^ b.order) a.start p.1 in
    apart (max a.start b.start) (record { from = omega arith; below = omega (arith, below_a, pow_pos a.order) })
    (record { from = omega arith; below = omega (arith, below_b, pow_pos b.order) }))

-- a block apart from each allocated one has only free pages
pub free_from_test : (b : PlainBlock) (lent : List PlainBlock) → list_all (are_apart b) lent ≡ true → (page : ℕ) → HasPage b page → IsFreePage lent page
free_from_test b lent t page h =
    All-weaker (λ c. are_apart b c ≡ true) (λ c. ¬ HasPage c page) (λ c e. apart_from_test b c e page h) lent (AllPass-from_list_all (are_apart b) lent t)

pub test_from_free : (b : PlainBlock) (lent : List PlainBlock) → ((page : ℕ) → HasPage b page → IsFreePage lent page) → list_all (are_apart b) lent ≡ true
test_from_free b lent free = list_all-from_AllPass (are_apart b) lent (λ k d l. test_from_apart b _ (λ page h. free page h k d l))
