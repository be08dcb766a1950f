-- One step of an entry up a heap, or down, by the places at each index alone.
use Rattle.std.proofs.Common.{ℤ, pos, List, length, ap, ◌≡◌, ℕ, ◌<◌, ◌≤◌, arith}
use Rattle.std.specs.List.{swap}
use Rattle.std.proofs.lemmas.List.Edits.{Swapped, swapped_from_swap}
use Rattle.std.proofs.lemmas.Bool.{cases_eq}
use Rattle.mq_select.specs.Heap.{place_at, IsBelow, IsHeapUpTo, IsHeapDownTo}

-- the places after two entries were exchanged
places_swapped : (xs ys : List (ℤ × ℕ)) (a b : ℕ) → a < length xs → b < length xs → ys ≡ swap xs a b → Swapped (place_at xs) (place_at ys) a b
places_swapped xs ys a b l m e =
    let s = swapped_from_swap xs ys a b (pos 0, 0) l m e in
    (ap (λ (p : ℤ × ℕ). p.1) s.0, ap (λ (p : ℤ × ℕ). p.1) s.1, λ k x y. ap (λ (p : ℤ × ℕ). p.1) (s.2 k x y))

-- an entry that is less than the one above it goes up
pub rises : (xs ys : List (ℤ × ℕ)) (i j : ℕ) → IsHeapUpTo i xs → IsBelow j i → place_at xs i < place_at xs j → ys ≡ swap xs i j → length ys ≡ length xs → IsHeapUpTo j ys
rises xs ys i j r up less e long =
    let inside : j < length xs = omega (arith, r.inside, up.0) in
    let s = places_swapped xs ys i j r.inside inside e in
    record {
      inside = omega (arith, inside, long);
      others = λ p c b m other. grind (arith, cases_eq c i, cases_eq p i, cases_eq p j, s.0, s.1, s.2 p, s.2 c, r.others p c, r.others j c, r.around j c);
      around = λ p c b d m. grind (arith, cases_eq c i, s.0, s.2 p, s.2 c, r.others p j, r.others j c);
    }

-- one that is greater than the lesser of the two below it goes down
pub sinks : (xs ys : List (ℤ × ℕ)) (i k : ℕ) → IsHeapDownTo i xs → IsBelow i k → k < length xs → place_at xs k < place_at xs i → ((d : ℕ) → IsBelow i d → d < length xs → place_at xs k ≤ place_at xs d) → ys ≡ swap xs i k → length ys ≡ length xs → IsHeapDownTo k ys
sinks xs ys i k r down l less least e long =
    let s = places_swapped xs ys i k r.inside l e in
    record {
      inside = omega (arith, l, long);
      others = λ p c b m other. grind (arith, cases_eq c i, cases_eq c k, cases_eq p i, s.0, s.1, s.2 p, s.2 c, r.others p c, r.around p k, least c);
      around = λ p c b d m. grind (arith, cases_eq p i, s.0, s.2 c, r.others k c);
    }
