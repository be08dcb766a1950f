-- Texts that are slices of a sequence of letters.
use Rattle.std.proofs.Common.{◌≡◌, ℕ, ◌+◌, ◌-◌, ◌*◌, ◌/◌, ◌%◌, ◌≤◌, zero, suc, List, [], ◌∷◌, ◌++◌, map, length, take, drop, refl, sym, ap, ◌∙◌, arith}
use Rattle.std.specs.List.{range_with_len}
use Rattle.std.proofs.Math.Seq.{drop-append_seam}
use Rattle.std.proofs.Math.Nat.{mod-add-div, add-mul-mod_self_left}
use Rattle.std.proofs.lemmas.List.FromFn.{length-map-range_with_len, take-map-range_with_len}
use Rattle.mq_cli.specs.Drafts.{letter}
use Rattle.mq_cli.specs.Letters.{letters_from}

-- a sequence split in two
pub in_two : {A : Type 0} (f : ℕ → A) (a s n : ℕ) → map f (range_with_len a (s + n)) ≡ map f (range_with_len a s) ++ map f (range_with_len (a + s) n)
in_two f a zero n =
    let none : 0 + n ≡ n = omega arith in
    let same : a + 0 ≡ a = omega arith in
    rw (none, same) refl
in_two f a (suc s) n =
    let one : suc s + n ≡ suc (s + n) = omega arith in
    let next : a + 1 + s ≡ a + suc s = omega arith in
    rw one (ap (λ l. f a ∷ l) (in_two f (a + 1) s n ∙ ap (λ k. map f (range_with_len (a + 1) s) ++ map f (range_with_len k n)) next))

-- a sequence without its first elements
dropped : (f : ℕ → ℕ) (a s n : ℕ) → drop s (map f (range_with_len a (s + n))) ≡ map f (range_with_len (a + s) n)
dropped f a s n =
    let seam = drop-append_seam (map f (range_with_len a s)) (map f (range_with_len (a + s) n)) in
    rw (in_two f a s n) (rw (length-map-range_with_len f a s) at seam)

-- a sequence from a later number, by a function that adds the rest
shifted : (f : ℕ → ℕ) (s a n : ℕ) → map f (range_with_len (s + a) n) ≡ map (λ i. f (s + i)) (range_with_len a n)
shifted f s a zero = refl
shifted f s a (suc n) =
    let next : s + a + 1 ≡ s + (a + 1) = omega arith in
    ap (λ l. f (s + a) ∷ l) (ap (λ k. map f (range_with_len k n)) next ∙ shifted f s (a + 1) n)

same_map : (f g : ℕ → ℕ) → ((i : ℕ) → f i ≡ g i) → (xs : List ℕ) → map f xs ≡ map g xs
same_map f g same [] = refl
same_map f g same (x ∷ xs) = ap (λ y. y ∷ map f xs) (same x) ∙ ap (λ l. g x ∷ l) (same_map f g same xs)

-- the place in the alphabet, by the remainders alone
place : (s t i : ℕ) → ((t % 26 + s) % 26 + i) % 26 ≡ (s + t + i) % 26
place s t i =
    let sum : (t % 26 + s) % 26 + 26 * ((t % 26 + s) / 26) ≡ t % 26 + s = mod-add-div (t % 26 + s) 26 in
    let tag : t % 26 + 26 * (t / 26) ≡ t = mod-add-div t 26 in
    let whole : s + t + i ≡ (t % 26 + s) % 26 + i + 26 * ((t % 26 + s) / 26 + t / 26) = omega (arith, sum, tag) in
    sym (ap (λ n. n % 26) whole ∙ add-mul-mod_self_left ((t % 26 + s) % 26 + i) 26 ((t % 26 + s) / 26 + t / 26))

-- a slice of a sequence of letters
letters_cut : (all : List ℕ) (total start count : ℕ) → all ≡ map letter (range_with_len 0 total) → start + count ≤ total
    → take count (drop start all) ≡ map (λ i. letter (start + i)) (range_with_len 0 count)
letters_cut all total start count is fits =
    let rest = total - start in
    let whole : total ≡ start + rest = omega (arith, fits) in
    let from : 0 + start ≡ start + 0 = omega arith in
    let left : drop start all ≡ map letter (range_with_len (start + 0) rest) =
    ap (drop start) is ∙ ap (λ k. drop start (map letter (range_with_len 0 k))) whole ∙ dropped letter 0 start rest ∙ ap (λ k. map letter (range_with_len k rest)) from in
    ap (take count) left ∙ take-map-range_with_len letter (start + 0) rest count (omega (arith, fits)) ∙ shifted letter start 0 count

-- which is the text of a seat with a tag, where it begins at the remainder of both
text_cut : (all : List ℕ) (total seat tag count : ℕ) → all ≡ map letter (range_with_len 0 total) → (tag % 26 + seat) % 26 + count ≤ total
    → take count (drop ((tag % 26 + seat) % 26) all) ≡ letters_from (seat + tag) count
text_cut all total seat tag count is fits =
    letters_cut all total ((tag % 26 + seat) % 26) count is fits
    ∙ same_map (λ i. letter ((tag % 26 + seat) % 26 + i)) (λ i. letter (seat + tag + i)) (λ i. ap (λ n. 97 + n) (place seat tag i)) (range_with_len 0 count)

length-letters_from : (start count : ℕ) → length (letters_from start count) ≡ count
length-letters_from start count = length-map-range_with_len (λ i. letter (start + i)) 0 count

-- the same by its own length
pub text_is : (all : List ℕ) (total seat tag count : ℕ) → all ≡ map letter (range_with_len 0 total) → (tag % 26 + seat) % 26 + count ≤ total
    → take count (drop ((tag % 26 + seat) % 26) all) ≡ letters_from (seat + tag) (length (take count (drop ((tag % 26 + seat) % 26) all)))
text_is all total seat tag count is fits =
    let e = text_cut all total seat tag count is fits in
    e ∙ ap (letters_from (seat + tag)) (sym (ap length e ∙ length-letters_from (seat + tag) count))

-- the alphabet once more
again : (n count : ℕ) → map letter (range_with_len (26 * n) count) ≡ map letter (range_with_len 0 count)
again n count =
    let from : 26 * n + 0 ≡ 26 * n = omega arith in
    ap (λ k. map letter (range_with_len k count)) (sym from) ∙ shifted letter (26 * n) 0 count
    ∙ same_map (λ i. letter (26 * n + i)) letter (λ i. ap (λ k. 97 + k) (whole i)) (range_with_len 0 count)
  where
    whole : (i : ℕ) → (26 * n + i) % 26 ≡ i % 26
    whole i =
        let order : 26 * n + i ≡ i + 26 * n = omega arith in
        ap (λ k. k % 26) order ∙ add-mul-mod_self_left i 26 n

-- whole alphabets, and the beginning of another
pub more_letters : (all alphabet : List ℕ) (n count : ℕ) → all ≡ map letter (range_with_len 0 (26 * n))
    → alphabet ≡ map letter (range_with_len 0 count) → all ++ alphabet ≡ map letter (range_with_len 0 (26 * n + count))
more_letters all alphabet n count is next =
    let from : 0 + 26 * n ≡ 26 * n = omega arith in
    rw (is, next) (sym (in_two letter 0 (26 * n) count ∙ ap (λ l. map letter (range_with_len 0 (26 * n)) ++ l)
    (ap (λ k. map letter (range_with_len k count)) from ∙ again n count)))
