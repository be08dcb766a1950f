use Rattle.std.proofs.Common.{rules, ◌≡◌, ℕ, ◌≤◌, Result, Ok, Err, IsOk, OnErr, arith}
use Rattle.mq_select.proofs.first_places.FirstPlaces.reserve.Goals as goal

-- where one more fits nothing is refused
no_room : {T E : Type 0} (r : Result T E) (spare : ℕ) → (1 ≤ spare → IsOk r) → OnErr r (spare ≡ 0)
no_room (Ok x) spare fits = tt
no_room (Err e) spare fits = grind (arith, fits)

pub returns-clause-refused : goal.returns-clause-refused
returns-clause-refused c = search (rules, no_room)
