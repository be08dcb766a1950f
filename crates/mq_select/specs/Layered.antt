-- Pending messages in two layers: first those of one type, and behind them the others.
use Rattle.std.specs.Prelude.{◌≡◌, ℕ, ℤ, ◌++◌, Bool, false, int_lt, nat_le, if◌then◌else◌}
use Rattle.std.specs.Prelude.{Option, Some, List, [], ◌∷◌}
use Rattle.std.specs.Option.{option_map_or}
use Rattle.std.specs.Ordering.{int_eq}
use Rattle.mq_message.specs.declared.message.Message.{Message}
use Rattle.mq_message.specs.declared.selection.Selection.{Selection}
use Rattle.mq_message.specs.declared.selection.Selection.TheVariants.{Any, Exact, Except, UpTo}
use Rattle.mq_message.specs.Selection.{least_of}
use Rattle.mq_message.specs.Waiting.{Listed}
use Rattle.mq_select.specs.ByType.{some_wait, IsRising}
use Rattle.mq_select.specs.Same.{Same}

-- whether the next message joins those of one type: none is pending behind them, and it is of their
-- type
abbrev pub joins : {B : Type 0} → Same B → List (ℕ × Message B) → ℤ → Bool
joins first behind mtype = if some_wait behind then false else int_eq first.mtype mtype

-- the type for which there is room in the layer that the next message of this type goes to
abbrev pub room_for : {B : Type 0} → Same B → Listed B → ℤ → Option ℤ
room_for first rest mtype =
    if joins first rest.messages mtype then first.prepared else rest.prepared

-- whether a selection prefers a message of these types to an earlier one of this type
abbrev pub prefers : Selection → ℤ → List ℤ → Bool
prefers Any mtype later = false
prefers (Exact wanted) mtype later = false
prefers (Except other) mtype later = false
prefers (UpTo bound) mtype later =
    option_map_or (λ least. int_lt least mtype) (least_of bound later) false

-- whether a place is that of the first message or a later one
abbrev pub reaches : {X : Type 0} → ℕ → List (ℕ × X) → Bool
reaches place [] = false
reaches place (x ∷ xs) = nat_le x.0 place

-- the places rise through both layers, and for a prepared type there is room where its message goes
pub record IsLayered {B : Type 0} (first : Same B) (rest : Listed B) (prepared : Option ℤ) :
    Type 0 where
  pub rising : IsRising (first.messages ++ rest.messages)
  pub room : (t : ℤ) → prepared ≡ Some t → room_for first rest t ≡ Some t
