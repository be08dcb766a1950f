use Rattle.std.proofs.Common.{◌≡◌, ◌≤◌, ℕ, ℤ, Some}
use Rattle.mq_select.specs.FirstPlaces.{first_of}
use Rattle.mq_queue_tests.proofs.parts.the_least_places_are_those_of_a_search.Given as goal

abbrev pub invariant-loop-place : goal.invariant-loop-place
invariant-loop-place g l = (t : ℤ) (n : ℕ) → first_of l.fronts t ≡ Some n → n ≤ l.place
