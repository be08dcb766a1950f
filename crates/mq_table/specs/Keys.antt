-- The table of keys.
use Rattle.std.specs.Prelude.{◌≢◌, map, All, ℕ, ℤ, pos, ◌==◌, if◌then◌else◌, [], ◌∷◌, ◌++◌, not, Option, List, find, filter}
use Rattle.std.specs.List.{IsDistinct}
use Rattle.std.specs.Option.{option_map}
use Rattle.std.specs.Ordering.{int_eq}

-- the id of the live queue with this key, if there is one, in the list of keys and ids in the order
-- of creation
abbrev pub id_of_key : List (ℤ × ℕ) → ℤ → Option ℕ
id_of_key keys key = option_map (λ p. p.1) (find (λ p. int_eq p.0 key) keys)

-- the keys and ids that are left once the queue with this id was removed
abbrev pub forget : ℕ → List (ℤ × ℕ) → List (ℤ × ℕ)
forget id keys = filter (λ p. not (p.1 == id)) keys

-- the keys and ids without the entry of this key
abbrev pub forget_key : ℤ → List (ℤ × ℕ) → List (ℤ × ℕ)
forget_key key keys = filter (λ p. not (int_eq p.0 key)) keys

-- the keys and ids once a queue was created: key 0 is IPC_PRIVATE and is not kept (msgget(2))
abbrev pub entered : ℤ → ℕ → List (ℤ × ℕ) → List (ℤ × ℕ)
entered key id keys = if int_eq key (pos 0) then keys else keys ++ (key, id) ∷ []

-- no key is there twice, and none is 0
pub record AreKeys (keys : List (ℤ × ℕ)) : Type 0 where
  pub distinct : IsDistinct int_eq (map (λ p. p.0) keys)
  pub named : All (λ p. p.0 ≢ pos 0) keys
