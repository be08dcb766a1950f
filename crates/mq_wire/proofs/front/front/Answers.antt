use Rattle.std.proofs.Common.{◌≡◌, ◌≤◌, ◌<◌, ◌+◌, ℕ, List, Option, Some, None, MatchOption, length, take, drop, arith, ◌∙◌, Bor}
use Rattle.mq_wire.proofs.FrontLemmas.{front_if}
use Rattle.mq_wire.proofs.front.front.Goals as goal

split_is : (n : ℕ) (xs rest bs : List ℕ) (o : Option (Bor (List ℕ) × Bor (List ℕ))) → n ≤ length bs
    → take n bs ≡ xs → drop n bs ≡ rest
    → MatchOption o (length bs < n)
    (λ p. (p.0.now ≡ take n bs) × (p.1.now ≡ drop n bs) × (length p.1.now + n ≡ length bs))
    → MatchOption o ⊥ (λ p. (p.0.now ≡ xs) × (p.1.now ≡ rest))
split_is n xs rest bs None fits front back short = absurd (omega (arith, fits, short))
split_is n xs rest bs (Some p) fits front back parts = (parts.0 ∙ front, parts.1 ∙ back)

pub returns-clause-back : goal.returns-clause-back
returns-clause-back g c = λ test xs rest long is.
    let f = front_if g.row.N test xs rest c.args.bytes.now (λ i. (c.type_inv.bytes i).fits) long is in
    (f.holds, split_is _ _ _ _ c.split_first_chunk.result f.fits f.front f.back c.split_first_chunk.ensures.cases)
