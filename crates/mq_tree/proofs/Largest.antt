-- The largest order that fits, from how the orders that fit lie.
use Rattle.std.proofs.Common.{◌≡◌, ℕ, ◌+◌, ◌-◌, ◌<◌, ◌≤◌, refl, sym, ◌∙◌, arith, inl, inr, true, List, Option, Some, None, leb}
use Rattle.std.specs.Option.{is_some}
use Rattle.std.proofs.lemmas.Bool.{cases_lt, leb-true, le-leb, lt-ltb, le-ltb}
use Rattle.mq_tree.specs.Blocks.{PlainBlock}
use Rattle.mq_tree.specs.Fit.{fit, largest}
use Rattle.mq_tree.specs.Nodes.{largest_under}
use Rattle.mq_tree.proofs.LawLemmas.{largest_fits, largest_most}

module _ (height : ℕ) (lent : List PlainBlock) (node : ℕ) (fits : (k : ℕ) → is_some (fit height lent k) ≡ leb (k + 2) node) where
  top_fits : 1 < node → is_some (fit height lent (node - 2)) ≡ true
  top_fits l = fits (node - 2) ∙ le-leb (node - 2 + 2) node (omega arith)

  -- where exactly the orders up to the node's fit, the node's order is the largest
  pub largest_is : (o : Option ℕ) → largest height lent ≡ o → o ≡ largest_under node
  largest_is None e = elim (cases_lt 1 node) [
    | inl l ↦ absurd (rw e at (largest_most height lent (node - 2) (top_fits l)))
    | inr l ↦ rw (le-ltb 1 node l) refl
  ]
  largest_is (Some m) e =
      let low : m + 2 ≤ node = leb-true (m + 2) node (sym (fits m) ∙ largest_fits height lent m e) in
      let high : node - 2 ≤ m = rw e at (largest_most height lent (node - 2) (top_fits (omega arith))) in
      let same : m ≡ node - 2 = omega arith in
      rw (lt-ltb 1 node (omega arith), ← same) refl
