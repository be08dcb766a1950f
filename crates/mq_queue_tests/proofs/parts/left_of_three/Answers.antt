use Rattle.std.proofs.Common.{◌≡◌, ℕ, List, [], ◌∷◌, map, IsSome, OnOk, Result, Ok, Err, true, refl}
use Rattle.std.specs.Result.{is_ok}
use Rattle.mq_message.specs.Waiting.{message_at}
use Rattle.mq_queue_tests.proofs.parts.left_of_three.Goals as goal

-- of three messages at the places 0, 1 and 2, one is pending at 1
second_waits : {X : Type 0} (xs : List (ℕ × X)) → map (λ m. m.0) xs ≡ 0 ∷ 1 ∷ 2 ∷ [] → IsSome (message_at 1 xs)
second_waits [] h = cc
second_waits (x ∷ []) h = cc
second_waits (x ∷ y ∷ xs) h =
    let first : x.0 ≡ 0 = cc in
    let second : y.0 ≡ 1 = cc in
    rw (first, second) refl

where_ok : {T E P : Type 0} (r : Result T E) → true ≡ is_ok r → OnOk r P → P
where_ok (Ok x) e h = h
where_ok (Err x) e h = cc

pub length_of-requires : goal.length_of-requires
length_of-requires c =
    second_waits c.put_three-put.new.queue (where_ok c.put_three-put.result c.if-is_ok.ensures.value c.put_three-put.ensures)

pub take-message-requires : goal.take-message-requires
take-message-requires c =
    second_waits c.put_three-put.new.queue (where_ok c.put_three-put.result c.if-is_ok.ensures.value c.put_three-put.ensures)
