-- The message that the waiting list finds is the one that the log names.
use Rattle.std.proofs.Common.{◌≡◌, ℕ, ◌==◌, List, [], ◌∷◌, length, map, find, filter, Option, Some, None, Err, ◌+◌, ◌<◌, ◌≤◌, arith, nat_le, IfSome, Bool, true, not, ◌||◌, refl, ap, sym}
use Rattle.std.specs.Option.{option_map}
use Rattle.std.proofs.lemmas.Bool.Decides.{nat_tests}
use Rattle.std.proofs.lemmas.Option.{MatchOption-at_some}
use Rattle.mq_message.specs.declared.message.Message.{Message}
use Rattle.mq_message.specs.declared.selection.Selection.{Selection}
use Rattle.mq_message.specs.Selection.{pick, eligible}
use Rattle.mq_message.specs.declared.header.Header.{Header}
use Rattle.mq_message.specs.Waiting.{header_of, headers_of, message_at, without}
use Rattle.mq_queue.specs.declared.error.QueueError.TheVariants.{NoMessage}
use Rattle.mq_queue.specs.declared.event.Event.{Event}
use Rattle.mq_queue.specs.declared.figures.Figures.{Figures}
use Rattle.mq_queue.specs.Answer.{receive_answer}
use Rattle.mq_queue.specs.Figures.{live_figures}
use Rattle.mq_queue.specs.Queue.{AreFigures, IsSound}
use Rattle.mq_queue.specs.Room.{bytes_waiting}
use Rattle.mq_queue.specs.Waiting.{waiting}
use Rattle.mq_queue.proofs.Places.{Rises, first_least, found_is, length-without, rest_rises, sum_by-without}
use Rattle.mq_queue.proofs.Sound.{messages_rise}
use Rattle.mq_queue.proofs.Steps.{waits_rising}

-- what is found in a list that was mapped
find-map : {X Y : Type 0} (p : Y → Bool) (f : X → Y) (xs : List X) → find p (map f xs) ≡ option_map f (find (λ x. p (f x)) xs)
find-map p f [] = refl
find-map p f (x ∷ xs) = grind (arith, find-map p f xs)

-- what passes of a list that was mapped
filter-map : {X Y : Type 0} (p : Y → Bool) (f : X → Y) (xs : List X) → filter p (map f xs) ≡ map f (filter (λ x. p (f x)) xs)
filter-map p f [] = refl
filter-map p f (x ∷ xs) = grind (arith, filter-map p f xs)

-- a list that is mapped twice
map-map : {X Y Z : Type 0} (g : Y → Z) (f : X → Y) (xs : List X) → map g (map f xs) ≡ map (λ x. g (f x)) xs
map-map g f [] = refl
map-map g f (x ∷ xs) = ap (λ ys. g (f x) ∷ ys) (map-map g f xs)

-- a selection picks the same message with its body and without
pick-headers : {B : Type 0} (bytes : B → List ℕ) (messages : List (ℕ × Message B)) (selection : Selection) → pick (λ m. m.mtype) (headers_of bytes messages) selection ≡ option_map (header_of bytes) (pick (λ m. m.1.mtype) messages selection)
pick-headers {B} bytes messages selection =
    rw (map-map (λ (m : Header). m.mtype) (header_of bytes) messages)
    (find-map (λ (m : Header). eligible (map (λ m. m.1.mtype) messages) selection m.mtype) (header_of bytes) messages)

-- the messages without one are the headers without it
pub headers_without : {B : Type 0} (bytes : B → List ℕ) (messages : List (ℕ × Message B)) (place : ℕ) → headers_of bytes (without place messages) ≡ filter (λ m. not (m.place == place)) (headers_of bytes messages)
headers_without bytes messages place = sym (filter-map (λ (m : Header). not (m.place == place)) (header_of bytes) messages)

-- what a test finds is found by its place
found_at : {X : Type 0} (p : ℕ × X → Bool) (xs : List (ℕ × X)) (place : ℕ) (m : X) → Rises (λ (x : ℕ × X). x.0) xs → find p xs ≡ Some (place, m) → message_at place xs ≡ Some m
found_at p [] place m rises found = cc
found_at {X} p ((n, x) ∷ xs) place m rises found =
    grind (arith, nat_tests, found_is (λ y. n < y.0) p xs (place, m) (first_least (λ (x : ℕ × X). x.0) (n, x) xs rises), found_at p xs place m (rest_rises (λ (x : ℕ × X). x.0) (n, x) xs rises))

-- something is found where a place is
found_there : {X : Type 0} (o : Option (ℕ × X)) (place : ℕ) → Some place ≡ option_map (λ m. m.0) o → (m : X) × (o ≡ Some (place, m))
found_there None place e = cc
found_there (Some (n, m)) place e = (m, cc)

-- the message that is found is the one picked of the pending headers, where its text has this
-- length
pub picked_header : {B : Type 0} (bytes : B → List ℕ) (log : List Event) (messages : List (ℕ × Message B)) (selection : Selection) (place n : ℕ) → IsSound bytes log messages → Some place ≡ option_map (λ m. m.0) (pick (λ m. m.1.mtype) messages selection) → IfSome (message_at place messages) (λ m. n ≡ length (bytes m.body)) → (m : Message B) × (message_at place messages ≡ Some m) × (pick (λ m. m.mtype) (waiting log) selection ≡ Some (record { place = place; seat = m.sender; tag = m.tag; mtype = m.mtype; length = n }))
picked_header {B} bytes log messages selection place n sound found long =
    let there = found_there (pick (λ (m : ℕ × Message B). m.1.mtype) messages selection) place found in
    let at = found_at (λ m. eligible (map (λ m. m.1.mtype) messages) selection m.1.mtype) messages place there.0 (messages_rise bytes log messages sound) there.1 in
    (there.0, at, rw (← sound.waits, pick-headers bytes messages selection, MatchOption-at_some _ _ _ at long) (ap (option_map (header_of bytes)) there.1))

-- where nothing is found there is no message
pub none_found : {B : Type 0} (bytes : B → List ℕ) (messages : List (ℕ × Message B)) (waits : List Header) (size : ℕ) (selection : Selection) (noerror : Bool) → headers_of bytes messages ≡ waits → None ≡ option_map (λ m. m.0) (pick (λ m. m.1.mtype) messages selection) → receive_answer waits size selection noerror ≡ Err NoMessage
none_found bytes messages waits size selection noerror same found =
    rw (← same, pick-headers bytes messages selection) (grind (arith, found))

-- the message is the one that the selection picks, and it fits the size or may be truncated
pub record IsTaken (log : List Event) (selection : Selection) (size : ℕ) (noerror : Bool) (m : Header) : Type 0 where
  pub picked : pick (λ m. m.mtype) (waiting log) selection ≡ Some m
  pub fits : (noerror || nat_le m.length size) ≡ true

-- the message that the waiting list finds and takes out is such a message
pub taken_is : {B : Type 0} (bytes : B → List ℕ) (log : List Event) (messages : List (ℕ × Message B)) (selection : Selection) (size : ℕ) (noerror : Bool) (found place n : ℕ) (m : Message B) → IsSound bytes log messages → Some found ≡ option_map (λ m. m.0) (pick (λ m. m.1.mtype) messages selection) → message_at place messages ≡ Some m → IfSome (message_at place messages) (λ m. n ≡ length (bytes m.body)) → true ≡ (noerror || nat_le n size) → place ≡ found → IsTaken log selection size noerror (record { place = place; seat = m.sender; tag = m.tag; mtype = m.mtype; length = n })
taken_is bytes log messages selection size noerror found place n m sound picked at long fits same =
    let there = picked_header bytes log messages selection place n sound (rw (← same) at picked) long in
    record { picked = cc (there.1, there.2, at); fits = sym fits }

-- without it one message fewer is pending, and fewer bytes by its length
pub taken_left : (log : List Event) (kept : Figures) (selection : Selection) (m : Header) → kept ≡ live_figures log → pick (λ m. m.mtype) (waiting log) selection ≡ Some m → (1 + length (filter (λ x. not (x.place == m.place)) (waiting log)) ≡ kept.qnum) × (m.length + bytes_waiting (filter (λ x. not (x.place == m.place)) (waiting log)) ≡ kept.cbytes)
taken_left log kept selection m same picked =
    let p : Header → Bool = λ x. eligible (map (λ m. m.mtype) (waiting log)) selection x.mtype in
    rw same (length-without (λ (x : Header). x.place) p (waiting log) m (waits_rising log) picked, sum_by-without (λ (x : Header). x.place) p (λ (x : Header). x.length) (waiting log) m (waits_rising log) picked)

-- its bytes are among the pending ones
pub found_within : {B : Type 0} (bytes : B → List ℕ) (log : List Event) (messages : List (ℕ × Message B)) (kept : Figures) (selection : Selection) (found n : ℕ) → IsSound bytes log messages → AreFigures log kept → Some found ≡ option_map (λ m. m.0) (pick (λ m. m.1.mtype) messages selection) → IfSome (message_at found messages) (λ m. n ≡ length (bytes m.body)) → (n ≤ kept.cbytes) × (1 ≤ kept.qnum)
found_within bytes log messages kept selection found n sound are picked long =
    let there = picked_header bytes log messages selection found n sound picked long in
    let left = taken_left log kept selection _ are.same there.2 in
    (omega (arith, left.1), omega (arith, left.0))
