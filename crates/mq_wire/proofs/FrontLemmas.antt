-- Prefixes of bytes.
use Rattle.std.proofs.Common.{◌≡◌, ℕ, ◌<◌, ◌≤◌, ◌+◌, Bool, true, false, List, ◌++◌, length, get_or, take, drop, refl, ap, ◌∙◌, arith, length-append}
use Rattle.std.proofs.lemmas.List.{take_at, drop_at}
use Rattle.mq_wire.specs.Encoding.{bytes_if}

pub record IsFront (n : ℕ) (test : Bool) (xs rest bs : List ℕ) : Type 0 where
  pub holds : test ≡ true
  pub fits : n ≤ length bs
  pub front : take n bs ≡ xs
  pub back : drop n bs ≡ rest

pub front_if : (n : ℕ) (test : Bool) (xs rest bs : List ℕ) → ((i : ℕ) → get_or bs i 0 < 256)
    → (test ≡ true → length xs ≡ n) → bs ≡ bytes_if test xs ++ rest → IsFront n test xs rest bs
front_if n true xs rest bs bytes long is = record {
  holds = refl;
  fits = let l : length bs ≡ length xs + length rest = ap length is ∙ length-append xs rest in omega (arith, l, long refl);
  front = ap (take n) is ∙ take_at xs rest n (long refl);
  back = ap (drop n) is ∙ drop_at xs rest n (long refl);
}
front_if n false xs rest bs bytes long is =
    let at : get_or bs 0 0 ≡ 256 = ap (λ l. get_or l 0 0) is in
    absurd (omega (arith, at, bytes 0))
