-- No message is received twice.
use Rattle.std.proofs.Common.{◌≡◌, ℕ, ◌+◌, ◌≤◌, List, [], ◌∷◌, ◌++◌, Bool, false, cond, refl, arith}
use Rattle.std.specs.List.{count_by, list_any}
use Rattle.std.proofs.lemmas.Bool.Decides.{nat_tests}
use Rattle.std.proofs.lemmas.List.Sums.{sum_by-cons, sum_by_push}
use Rattle.mq_queue.specs.declared.event.Event.{Event}
use Rattle.mq_queue.specs.declared.event.Event.TheVariants.{Received}
use Rattle.mq_queue.specs.Lawful.{AllFollow, CanFollow}
use Rattle.mq_queue.specs.Waiting.{names}
use Rattle.mq_queue.proofs.Logs.{along}
use Rattle.mq_queue.proofs.Steps.{picked_there}

-- where none passes, none is counted
none_counted : {X : Type 0} (p : X → Bool) (xs : List X) → list_any p xs ≡ false → count_by p xs ≡ 0
none_counted p [] none = refl
none_counted p (x ∷ xs) none = grind (arith, sum_by-cons (λ x. cond (p x) 1 0) x xs, none_counted p xs)

-- each message has one receipt at most
abbrev pub Once : List Event → Type 0
Once log = (place : ℕ) → count_by (names place) log ≤ 1

pub once : (log : List Event) → AllFollow [] log → Once log
once = along Once (λ place. omega arith) step
  where
    by : (before : List Event) (event : Event) (place : ℕ) → CanFollow before event → count_by (names place) before ≤ 1 → count_by (names place) before + cond (names place event) 1 0 ≤ 1
    by before (Received seat noerror moment received selection size) place next one =
        let new = (picked_there before seat moment received selection size noerror next).1.new in
        grind (arith, nat_tests, none_counted (names received) before new)
    by before _ place next one = omega arith

    step : (before : List Event) (event : Event) → Once before → CanFollow before event → Once (before ++ event ∷ [])
    step before event one next place =
        rw (sum_by_push (λ event. cond (names place event) 1 0) before event) (by before event place next (one place))
