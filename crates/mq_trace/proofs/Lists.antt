use Rattle.std.proofs.Common.{◌≡◌, ℕ, ◌+◌, ◌<◌, ◌==◌, false, List, [], ◌∷◌, ◌++◌, length, get_or, drop, map, refl, sym, ap, ◌∙◌, arith, suc}
use Rattle.std.proofs.Math.Seq.{drop-cons}
use Rattle.mq_trace.specs.Records.{refusal_record, refused_process}
use Rattle.mq_trace.specs.Trace.{refusal_records}
use Rattle.mq_trace.specs.declared.refusal.Refusal.{Refusal}

-- what is left of a list begins with the next element
pub drop_at : {X : Type 0} (xs : List X) (i : ℕ) (x : X) → i < length xs → x ≡ get_or xs i x → drop i xs ≡ x ∷ drop (i + 1) xs
drop_at {X} xs i x within is =
    let next : suc i ≡ i + 1 = omega arith in
    drop-cons xs i x within ∙ ap (λ (y : X). y ∷ drop (suc i) xs) (sym is) ∙ ap (λ (k : ℕ). x ∷ drop k xs) next

-- the same by what would stand past the end
pub drop_from : {X : Type 0} (xs : List X) (i : ℕ) (d : X) → i < length xs → drop i xs ≡ get_or xs i d ∷ drop (i + 1) xs
drop_from {X} xs i d within =
    let next : suc i ≡ i + 1 = omega arith in
    drop-cons xs i d within ∙ ap (λ (k : ℕ). get_or xs i d ∷ drop k xs) next

-- where a call was refused, the process is named first
pub some_refusals : (rs : List Refusal) → (length rs == 0) ≡ false → refusal_records rs ≡ (refused_process ∷ []) ++ map refusal_record rs
some_refusals [] none = cc
some_refusals (r ∷ rs) some = refl
