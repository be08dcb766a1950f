-- Which of the pending messages a receive returns (msgop(2), msgrcv).
use Rattle.std.specs.Prelude.{ℕ, ℤ, pos, int_lt, int_le, unsigned_abs, Option, Some, None}
use Rattle.std.specs.Prelude.{Bool, true, false, not, if◌then◌else◌, List, map, filter, fold, find}
use Rattle.std.specs.Option.{option_map_or}
use Rattle.std.specs.Ordering.{int_eq}
use Rattle.mq_message.specs.declared.selection.Selection.{Selection}
use Rattle.mq_message.specs.declared.selection.Selection.TheVariants.{Any, Exact, Except, UpTo}

-- what a msgtyp selects, with the flag MSG_EXCEPT or without (msgop(2), msgrcv)
abbrev pub selection_of : ℤ → Bool → Selection
selection_of msgtyp except =
    if int_lt (pos 0) msgtyp then (if except then Except msgtyp else Exact msgtyp)
    else (if int_lt msgtyp (pos 0) then UpTo (unsigned_abs msgtyp) else Any)

-- the lower of a type and the lowest before it, if there was one
abbrev pub lower_of : Option ℤ → ℤ → Option ℤ
lower_of None mtype = Some mtype
lower_of (Some least) mtype = Some (if int_lt mtype least then mtype else least)

-- the lowest of the types that are at most the bound
abbrev pub least_of : ℕ → List ℤ → Option ℤ
least_of bound types = fold lower_of None (filter (λ mtype. int_le mtype (pos bound)) types)

-- whether a message of this type is eligible, where messages of these types are pending (msgop(2),
-- msgrcv)
abbrev pub eligible : List ℤ → Selection → ℤ → Bool
eligible types Any mtype = true
eligible types (Exact wanted) mtype = int_eq mtype wanted
eligible types (Except other) mtype = not (int_eq mtype other)
eligible types (UpTo bound) mtype = option_map_or (int_eq mtype) (least_of bound types) false

-- the first eligible message of the list (msgop(2), msgrcv)
abbrev pub pick : {X : Type 0} → (X → ℤ) → List X → Selection → Option X
pick type_of waiting selection =
    find (λ x. eligible (map type_of waiting) selection (type_of x)) waiting
