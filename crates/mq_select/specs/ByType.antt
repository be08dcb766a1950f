-- The pending messages indexed by type: those of each type in a queue, and all of them in the order
-- of their places.
use Rattle.std.specs.Prelude.{◌≡◌, ℕ, ℤ, ◌<◌, ◌^◌, Bool, true, false, nat_lt, if◌then◌else◌}
use Rattle.std.specs.Prelude.{Option, Some, None, IsSome, List, [], ◌∷◌, ◌++◌, length, filter, find}
use Rattle.std.specs.List.{AllByRecursion}
use Rattle.std.specs.List.Sorted.{IsStrictlySortedBy}
use Rattle.std.specs.Map.{keys_of, lookup}
use Rattle.std.specs.BTreeMap.{is_at}
use Rattle.std.specs.Option.{option_map, unwrap_or}
use Rattle.std.specs.Ordering.{int_cmp, int_eq}
use Rattle.mq_message.specs.Waiting.{message_at}

-- a message among others by its place
abbrev pub placed_in : {X : Type 0} → ℕ × X → List (ℕ × X) → List (ℕ × X)
placed_in x [] = x ∷ []
placed_in x (y ∷ ys) = if nat_lt x.0 y.0 then x ∷ y ∷ ys else y ∷ placed_in x ys

-- two lists in one, by place
abbrev pub merge : {X : Type 0} → List (ℕ × X) → List (ℕ × X) → List (ℕ × X)
merge [] ys = ys
merge (x ∷ xs) ys = placed_in x (merge xs ys)

-- the messages of all queues, by place
abbrev pub merged : {X : Type 0} → List (ℤ × List (ℕ × X)) → List (ℕ × X)
merged [] = []
merged (q ∷ qs) = merge q.1 (merged qs)

-- the same, queue by queue
abbrev pub gathered : {X : Type 0} → List (ℤ × List (ℕ × X)) → List (ℕ × X)
gathered [] = []
gathered (q ∷ qs) = q.1 ++ gathered qs

-- the queue of a type, if there is one
abbrev pub queue_at : {X : Type 0} → List (ℤ × List (ℕ × X)) → ℤ → Option (List (ℕ × X))
queue_at queues t = lookup (is_at (int_cmp t)) queues

-- the messages in it
abbrev pub queue_of : {X : Type 0} → List (ℤ × List (ℕ × X)) → ℤ → List (ℕ × X)
queue_of queues t = unwrap_or (queue_at queues t) []

-- whether any message is pending in a queue
abbrev pub some_wait : {X : Type 0} → List X → Bool
some_wait [] = false
some_wait (x ∷ xs) = true

-- a queue that is not empty
abbrev pub unless_empty : {X : Type 0} → Option (List X) → Option (List X)
unless_empty None = None
unless_empty (Some []) = None
unless_empty (Some (x ∷ xs)) = Some (x ∷ xs)

-- the messages of a type
abbrev pub of_type : {X : Type 0} → (X → ℤ) → List (ℕ × X) → ℤ → List (ℕ × X)
of_type type_of all t = filter (λ m. int_eq (type_of m.1) t) all

-- the place of the first of them
abbrev pub first_place : {X : Type 0} → (X → ℤ) → List (ℕ × X) → ℤ → Option ℕ
first_place type_of all t = option_map (λ m. m.0) (find (λ m. int_eq (type_of m.1) t) all)

-- each place is above those before it
abbrev pub IsRising : {X : Type 0} → List (ℕ × X) → Type 0
IsRising [] = Unit {0}
IsRising (x ∷ xs) = AllByRecursion (λ y. x.0 < y.0) xs × IsRising xs

-- the queues, first places and types are those of these messages, and no queue is empty but
-- that of the type for which there is room
pub record IsByType {X : Type 0} (type_of : X → ℤ) (all : List (ℕ × X))
    (queues : List (ℤ × List (ℕ × X))) (firsts : ℤ → Option ℕ) (types : ℕ → Option ℤ)
    (prepared : Option ℤ) : Type 0 where
  pub rising : IsRising all
  pub ordered : IsStrictlySortedBy int_cmp (keys_of queues)
  pub parted : (t : ℤ) → queue_of queues t ≡ of_type type_of all t
  pub kept : (t : ℤ) → queue_at queues t ≡ Some [] → prepared ≡ Some t
  pub first : (t : ℤ) → firsts t ≡ first_place type_of all t
  pub typed : (place : ℕ) → types place ≡ option_map type_of (message_at place all)

-- there is a queue of this type, and room for one more message of it
pub record HasRoomFor {X : Type 0} (queues : List (ℤ × List (ℕ × X))) (firsts types : ℕ)
    (room : Bool) (mtype : ℤ) : Type 0 where
  pub queue : IsSome (queue_at queues mtype)
  pub few : length (queue_of queues mtype) < 2 ^ 62
  pub first : 0 < firsts
  pub place : 0 < types
  pub node : room ≡ true
