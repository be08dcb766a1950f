use Rattle.std.proofs.Common.{◌≡◌, ◌≢◌, ℕ, ◌+◌, ◌-◌, ◌<◌, ◌≤◌, ◌==◌, ◌⊎◌, inl, inr, ◌∙◌, List, [], ◌∷◌, length, Some, None, refl, ap, arith, zero, suc}
use Rattle.std.specs.List.{find, slice_get}
use Rattle.std.proofs.lemmas.Grind.{common_steps}
use Rattle.std.proofs.lemmas.Option.{slice_get_within}
use Rattle.mq_message.specs.declared.header.Header.{Header}
use Rattle.mq_trace.specs.Walk.{IsAscending, IsAscendingTo, place_in}

-- no message has this place
pub find_none : (p : ℕ) (ws : List Header) → ((i : ℕ) → i < length ws → place_in ws i ≢ p) → find (λ m. m.place == p) ws ≡ None
find_none p [] none = refl
find_none p (w ∷ ws) none =
    let other : w.place ≢ p = none 0 (omega arith) in
    let rest : find (λ m. m.place == p) ws ≡ None = find_none p ws (λ i within. none (suc i) (omega arith)) in
    grind (arith, common_steps)

-- the first message with this place
pub find_first : (p : ℕ) (ws : List Header) (i : ℕ) (m : Header) → slice_get ws i ≡ Some m → m.place ≡ p → ((k : ℕ) → k < i → place_in ws k ≢ p)
    → find (λ m. m.place == p) ws ≡ Some m
find_first p [] i m got is before = cc
find_first p (w ∷ ws) zero m got is before =
    let same : w ≡ m = cc in
    grind (arith, common_steps)
find_first p (w ∷ ws) (suc i) m got is before =
    let other : w.place ≢ p = before 0 (omega arith) in
    let rest : find (λ m. m.place == p) ws ≡ Some m = find_first p ws i m got is (λ k below. before (suc k) (omega arith)) in
    grind (arith, common_steps)

-- one message more in the order of places
before_last : (i : ℕ) (ws : List Header) (a : ℕ) → a < i → IsAscendingTo i ws → (a < i - 1) ⊎ (a ≡ i - 1) → place_in ws (i - 1) < place_in ws i
    → place_in ws a < place_in ws i
before_last i ws a below so (inl less) next =
    let step : place_in ws a < place_in ws (i - 1) = so a (i - 1) less (omega arith) in omega arith
before_last i ws a below so (inr same) next = rw same next

last_or_before : (i j : ℕ) → j < i + 1 → (j < i) ⊎ (j ≡ i)
last_or_before i j below = grind arith

more_at : (i : ℕ) (ws : List Header) → IsAscendingTo i ws → place_in ws (i - 1) < place_in ws i → (a b : ℕ) → a < b → (b < i) ⊎ (b ≡ i)
    → place_in ws a < place_in ws b
more_at i ws so next a b below (inl less) = so a b below less
more_at i ws so next a b below (inr same) =
    let within : a < i = omega arith in
    rw same (before_last i ws a within so (last_or_before (i - 1) a (omega arith)) next)

pub ascending_more : (i : ℕ) (ws : List Header) → IsAscendingTo i ws → place_in ws (i - 1) < place_in ws i → IsAscendingTo (i + 1) ws
ascending_more i ws so next a b below within = more_at i ws so next a b below (last_or_before i b within)

at_middle : (ws : List Header) (middle p : ℕ) → IsAscending ws → middle < length ws → place_in ws middle < p → (k : ℕ) → (k < middle) ⊎ (k ≡ middle)
    → place_in ws k < p
at_middle ws middle p so within lower k (inl less) =
    let step : place_in ws k < place_in ws middle = so k middle less within in omega arith
at_middle ws middle p so within lower k (inr same) = rw same lower

-- where the message in the middle has a lower place, those before it have
pub below_middle : (ws : List Header) (middle p : ℕ) → IsAscending ws → middle < length ws → place_in ws middle < p
    → (k : ℕ) → k < middle + 1 → place_in ws k < p
below_middle ws middle p so within lower k below = at_middle ws middle p so within lower k (last_or_before middle k below)

from_middle : (ws : List Header) (middle p : ℕ) → IsAscending ws → p < place_in ws middle → (k : ℕ) → k < length ws → (middle < k) ⊎ (middle ≡ k)
    → p < place_in ws k
from_middle ws middle p so greater k within (inl less) =
    let step : place_in ws middle < place_in ws k = so middle k less within in omega arith
from_middle ws middle p so greater k within (inr same) = rw (← same) greater

-- and where it has a greater one, those behind it have
pub above_middle : (ws : List Header) (middle p : ℕ) → IsAscending ws → p < place_in ws middle
    → (k : ℕ) → middle ≤ k → k < length ws → p < place_in ws k
above_middle ws middle p so greater k above within =
    from_middle ws middle p so greater k within (last_or_before k middle (omega arith))

-- the place of a message that is there
pub place_got : (ws : List Header) (i : ℕ) (m : Header) → slice_get ws i ≡ Some m → place_in ws i ≡ m.place
place_got [] i m got = cc
place_got (w ∷ ws) zero m got = let same : w ≡ m = cc in ap (λ (x : Header). x.place) same
place_got (w ∷ ws) (suc i) m got = place_got ws i m got

lower_than : (p : ℕ) (ws : List Header) (i k : ℕ) → IsAscending ws → k < i → i < length ws → place_in ws i ≡ p → place_in ws k ≢ p
lower_than p ws i k so below within at same = let less : place_in ws k < place_in ws i = so k i below within in absurd (omega arith)

-- it is the first one in the order of places
pub first_in : (p : ℕ) (ws : List Header) (i : ℕ) (m : Header) → IsAscending ws → slice_get ws i ≡ Some m → m.place ≡ p → find (λ m. m.place == p) ws ≡ Some m
first_in p ws i m so got is =
    let at : place_in ws i ≡ m.place = place_got ws i m got in
    let within : i < length ws = slice_get_within ws i m got in
    find_first p ws i m got is (λ k below. lower_than p ws i k so below within (at ∙ is))

pub greater_of : (a b : ℕ) → a ≤ b → b ≢ a → a < b
greater_of a b within other = grind arith

either_side : (p : ℕ) (ws : List Header) (low high k : ℕ) → high ≤ low → ((k : ℕ) → k < low → place_in ws k < p)
    → ((k : ℕ) → high ≤ k → k < length ws → p < place_in ws k) → k < length ws → (k < low) ⊎ (low ≤ k) → place_in ws k ≢ p
either_side p ws low high k met below above within (inl left) same = let less : place_in ws k < p = below k left in absurd (omega arith)
either_side p ws low high k met below above within (inr right) same =
    let more : p < place_in ws k = above k (omega arith) within in absurd (omega arith)

left_or_right : (k low : ℕ) → (k < low) ⊎ (low ≤ k)
left_or_right k low = grind arith

-- where the sides meet, no message has the place
pub none_between : (p : ℕ) (ws : List Header) (low high : ℕ) → high ≤ low → ((k : ℕ) → k < low → place_in ws k < p)
    → ((k : ℕ) → high ≤ k → k < length ws → p < place_in ws k) → find (λ m. m.place == p) ws ≡ None
none_between p ws low high met below above =
    find_none p ws (λ k within. either_side p ws low high k met below above within (left_or_right k low))
