-- Two laws that are proved for every list of blocks.
use Rattle.std.proofs.Common.{◌≡◌, ℕ, ◌<◌, ◌≤◌, zero, suc, sym, ap, ◌∙◌, arith, inl, inr, List, Some, get_or}
use Rattle.std.specs.Option.{is_some, IsSome, IsSomeAnd}
use Rattle.std.specs.List.{Contains}
use Rattle.std.proofs.lemmas.Bool.{cases_Bool, cases_lt, cases_order, both_ways}
use Rattle.std.proofs.lemmas.List.{get_or_default}
use Rattle.mq_tree.specs.Blocks.{PlainBlock, HasPage}
use Rattle.mq_tree.specs.LentSet.{IsLentSet}
use Rattle.mq_tree.specs.Fit.{fit, largest, largest_below}
use Rattle.mq_tree.proofs.Fits.{fit_over}

-- ---- no page in two blocks
pub lent_apart : (height : ℕ) (lent : List PlainBlock) (a b : PlainBlock) (page : ℕ) → IsLentSet height lent → Contains lent a → Contains lent b → HasPage a page → HasPage b page → a ≡ b
lent_apart height lent a b page s p q ha hb =
    let pa : get_or lent p.0 a ≡ a = p.2 in
    let pb : get_or lent q.0 a ≡ b = get_or_default lent q.0 a b q.1 ∙ q.2 in
    elim (cases_order p.0 q.0) [
      | inl e ↦ sym pa ∙ ap (λ k. get_or lent k a) e ∙ pb
      | inr o ↦ elim o [
        | inl l ↦ absurd (s.apart p.0 q.0 a l q.1 page (rw pa ha) (rw pb hb))
        | inr l ↦ absurd (s.apart q.0 p.0 a l p.1 page (rw pb hb) (rw pa ha))
      ]
    ]

-- ---- the largest order
below_fits : (height : ℕ) (lent : List PlainBlock) (n most : ℕ) → largest_below n height lent ≡ Some most → IsSome (fit height lent most)
below_fits height lent zero most e = absurd (cc)
below_fits height lent (suc n) most e = elim (cases_Bool (is_some (fit height lent n))) [
  | inl t ↦ let f : Some n ≡ Some most = rw t at e in let g : n ≡ most = cc in rw (← g) t
  | inr t ↦ below_fits height lent n most (rw t at e)
]

below_most : (height : ℕ) (lent : List PlainBlock) (n order : ℕ) → order < n → IsSome (fit height lent order) → IsSomeAnd (largest_below n height lent) (λ most. order ≤ most)
below_most height lent zero order l f = absurd (omega arith)
below_most height lent (suc n) order l f = elim (cases_Bool (is_some (fit height lent n))) [
  | inl t ↦ rw t (omega arith)
  | inr t ↦
      let other : order ≡ n → ⊥ = λ e. both_ways (is_some (fit height lent n)) t (rw (← e) f) in
      rw t (below_most height lent n order (omega arith) f)
]

pub largest_fits : (height : ℕ) (lent : List PlainBlock) (most : ℕ) → largest height lent ≡ Some most → IsSome (fit height lent most)
unfolding largest
largest_fits height lent most e = below_fits height lent (suc height) most e

pub largest_most : (height : ℕ) (lent : List PlainBlock) (order : ℕ) → IsSome (fit height lent order) → IsSomeAnd (largest height lent) (λ most. order ≤ most)
unfolding largest
largest_most height lent order f = elim (cases_lt height order) [
  | inl l ↦ let none = rw (fit_over height lent order l) at f in absurd (cc)
  | inr l ↦ below_most height lent (suc height) order (omega arith) f
]
