-- What it takes to send a message.
use Rattle.std.proofs.Common.{◌≡◌, ℕ, ℤ, pos, int_lt, nat_lt, None, List, [], ◌∷◌, ◌++◌, map, true, false, arith}
use Rattle.std.proofs.lemmas.List.{map-append}
use Rattle.mq_message.specs.declared.header.Header.{Header}
use Rattle.mq_queue.specs.declared.limits.TheConstants.{MSGMAX}
use Rattle.mq_queue.specs.Answer.{send_refusal}
use Rattle.mq_queue.specs.Room.{has_room}

-- a message that is not refused has room
pub not_refused : (waiting : List Header) (quota : ℕ) (mtype : ℤ) (n : ℕ) → None ≡ send_refusal waiting quota mtype n → (int_lt mtype (pos 1) ≡ false) × (nat_lt MSGMAX n ≡ false) × (has_room waiting n quota ≡ true)
not_refused waiting quota mtype n e = (grind (arith, e), grind (arith, e), grind (arith, e))

pub map_push : {X Y : Type 0} (f : X → Y) (xs : List X) (x : X) → map f (xs ++ x ∷ []) ≡ map f xs ++ f x ∷ []
map_push f xs x = map-append f xs (x ∷ [])
