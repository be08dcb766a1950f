-- Searching and counting over a run of numbers.
use Rattle.std.proofs.Common.{◌≡◌, ℕ, ◌+◌, ◌-◌, ◌<◌, ◌≤◌, zero, suc, refl, arith, inl, inr, Bool, true, false, cond, ◌&&◌, leb, ltb, min, max, Some, None}
use Rattle.std.specs.List.{range_with_len, find, count_by}
use Rattle.std.proofs.lemmas.Bool.{cases_Bool, cases_eq}
use Rattle.std.proofs.lemmas.Bool.Decides.{nat_tests}
use Rattle.std.proofs.lemmas.List.Sums.{sum_by-cons}

-- what a search found: it passes, and nothing before it does
pub record IsFirst (p : ℕ → Bool) (a s : ℕ) : Type 0 where
  pub passes : p s ≡ true
  pub first : (x : ℕ) → a ≤ x → x < s → p x ≡ false

pub find_some : (p : ℕ → Bool) (a n s : ℕ) → find p (range_with_len a n) ≡ Some s → IsFirst p a s
find_some p a zero s h = absurd (cc)
find_some p a (suc n) s h = elim (cases_Bool (p a)) [
  | inl t ↦
      let e : Some a ≡ Some s = rw t at h in
      let f : a ≡ s = cc in
      rw (← f) (record { passes = t; first = λ x l u. absurd (omega arith) })
  | inr t ↦
      let i = find_some p (a + 1) n s (rw t at h) in
      record { passes = i.passes; first = λ x l u. elim (cases_eq a x) [ inl e ↦ rw (← e) t | inr e ↦ i.first x (omega arith) u ] }
]

pub find_nowhere : (p : ℕ → Bool) (a n : ℕ) → find p (range_with_len a n) ≡ None → (x : ℕ) → a ≤ x → x < a + n → p x ≡ false
find_nowhere p a zero h x l u = absurd (omega arith)
find_nowhere p a (suc n) h x l u = elim (cases_Bool (p a)) [
  | inl t ↦ let e : Some a ≡ None = rw t at h in absurd (cc)
  | inr t ↦ elim (cases_eq a x) [ inl e ↦ rw (← e) t | inr e ↦ find_nowhere p (a + 1) n (rw t at h) x (omega arith) (omega arith) ]
]

-- ---- counts over a run of numbers
count_first : (p : ℕ → Bool) (a n : ℕ) → count_by p (range_with_len a (suc n)) ≡ cond (p a) 1 0 + count_by p (range_with_len (a + 1) n)
count_first p a n = sum_by-cons (λ x. cond (p x) 1 0) a (range_with_len (a + 1) n)

pub count_all : (a n : ℕ) → count_by (λ _. true) (range_with_len a n) ≡ n
count_all a zero = refl
count_all a (suc n) = omega (arith, count_first (λ _. true) a n, count_all (a + 1) n)

-- how many numbers of a run are from s on and below e
pub count_between : (s e a n : ℕ) → count_by (λ x. leb s x && ltb x e) (range_with_len a n) ≡ min (a + n) e - max a s
count_between s e a zero = omega arith
count_between s e a (suc n) = grind (arith, nat_tests, count_first (λ x. leb s x && ltb x e) a n, count_between s e (a + 1) n)

-- one test passes where just one of two others does
pub count_sum : (p q r : ℕ → Bool) (a n : ℕ) → ((x : ℕ) → cond (p x) 1 0 ≡ cond (q x) 1 0 + cond (r x) 1 0)
    → count_by p (range_with_len a n) ≡ count_by q (range_with_len a n) + count_by r (range_with_len a n)
count_sum p q r a zero each = refl
count_sum p q r a (suc n) each = omega (arith, count_first p a n, count_first q a n, count_first r a n, each a, count_sum p q r (a + 1) n each)
