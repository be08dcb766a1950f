-- What is said of a port of which nothing is known but how many messages it returned.
use Rattle.std.proofs.Common.{◌≡◌, ℕ, ◌<◌, ◌≤◌, ℤ, Bool, List, [], ◌∷◌, length, Result, Ok, Err, refl, arith}
use Rattle.std.specs.Prelude.{MatchResult}
use Rattle.std.specs.List.{FoldsTo}
use Rattle.mq_calls.specs.declared.errno.Errno.{Errno}
use Rattle.mq_cli.specs.declared.threads.taken.Taken.{Taken}
use Rattle.mq_cli.specs.Batches.{TakesMany, TakesNext}
use Rattle.mq_cli.specs.Works.{Takes}

module _ {Q : Type 0} (id : ℕ) (msgtyp : ℤ) (ends : Bool) (moment : ℕ) where
  abbrev any : Takes Q
  any old id msgtyp ends moment answer new = Unit {0}

  any_turns : (taken : List Taken) (old new : Q) → 0 < length taken → FoldsTo (TakesNext any id msgtyp ends moment) old taken new
  any_turns [] old new some = absurd (omega (arith, some))
  any_turns (one ∷ []) old new some = (new, tt, refl)
  any_turns (one ∷ two ∷ taken) old new some = (old, tt, any_turns (two ∷ taken) old new (omega arith))

  pub takes_any : (most : ℕ) (old new : Q) (taken : List Taken) (answer : Result (Unit {0}) Errno)
      → MatchResult answer (λ _. (0 < length taken) × (length taken ≤ most)) (λ _. length taken < most)
      → TakesMany any id msgtyp ends moment most old taken answer new
  takes_any most old new taken (Ok _) count = record {
    mid = new;
    turns = any_turns taken old new count.0;
    count = count;
    ended = refl;
  }
  takes_any most old new [] (Err errno) count =
      record { mid = old; turns = refl; count = count; ended = tt }
  takes_any most old new (one ∷ taken) (Err errno) count = record {
    mid = new;
    turns = any_turns (one ∷ taken) old new (omega arith);
    count = count;
    ended = tt;
  }
