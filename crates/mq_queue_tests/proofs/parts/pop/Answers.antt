use Rattle.std.proofs.Common.{◌≡◌, ◌<◌, ◌≤◌, ◌==◌, ◌∙◌, ℕ, List, [], ◌∷◌, length, filter, find, not, slice_get, cond, Some, None, IsSome, Bool, true, false, refl, sym, eq-eqb, arith}
use Rattle.std.specs.Option.{option_map}
use Rattle.std.proofs.lemmas.Option.{same_Some}
use Rattle.mq_message.specs.Waiting.{message_at, without}
use Rattle.mq_queue_tests.proofs.parts.pop.Goals as goal

nothing_first : {X : Type 0} (xs : List (ℕ × X)) → option_map (λ m. m.0) (slice_get xs 0) ≡ None → xs ≡ []
nothing_first [] h = refl
nothing_first (x ∷ xs) h = cc

first_waits : {X : Type 0} (xs : List (ℕ × X)) (place : ℕ) → option_map (λ m. m.0) (slice_get xs 0) ≡ Some place → IsSome (message_at place xs)
first_waits [] place h = cc
first_waits (x ∷ xs) place h = rw (eq-eqb x.0 place (same_Some _ _ h)) refl

filter_no_longer : {X : Type 0} (p : X → Bool) (xs : List X) → length (filter p xs) ≤ length xs
filter_no_longer p [] = omega arith
filter_no_longer {X} p (x ∷ xs) = by (p x) (filter_no_longer p xs)
  where
    by : (b : Bool) → length (filter p xs) ≤ length xs → length (cond b (x ∷ filter p xs) (filter p xs)) ≤ length (x ∷ xs)
    by true h = omega arith
    by false h = omega arith

one_less : {X : Type 0} (place : ℕ) (xs : List (ℕ × X)) → IsSome (message_at place xs) → length (without place xs) < length xs
one_less place [] h = let no' : false ≡ true = h in cc
one_less {X} place (x ∷ xs) h = by (x.0 == place) h (filter_no_longer (λ m. not (m.0 == place)) xs) (one_less place xs)
  where
    by : (b : Bool) → IsSome (option_map (λ m. m.1) (cond b (Some x) (find (λ m. m.0 == place) xs))) → length (without place xs) ≤ length xs → (IsSome (message_at place xs) → length (without place xs) < length xs) → length (cond (not b) (x ∷ without place xs) (without place xs)) < length (x ∷ xs)
    by true k l r = omega arith
    by false k l r = let m = r k in omega arith

pub returns-in_err-place-clause-none : goal.returns-in_err-place-clause-none
returns-in_err-place-clause-none c =
    rw c.from_residual.ensures (nothing_first c.args.queue.now (sym c.first.ensures ∙ c.in_err-place.was))

pub take-message-requires : goal.take-message-requires
take-message-requires c = first_waits c.args.queue.now c.in_ok-place.place (sym c.first.ensures ∙ c.in_ok-place.was)

pub returns-clause-some : goal.returns-clause-some
returns-clause-some c =
    rw c.take-message.ensures.rest (one_less c.in_ok-place.place c.args.queue.now (first_waits c.args.queue.now c.in_ok-place.place (sym c.first.ensures ∙ c.in_ok-place.was)))
