-- The lists of the examples, in which a pending message is its place and its type.
use Rattle.std.specs.Prelude.{ℕ, ℤ, Option, unwrap_or, pos, negsuc, ◌^◌, ◌-◌, List, [], ◌∷◌}
use Rattle.std.specs.Option.{option_map}
use Rattle.mq_message.specs.declared.selection.Selection.{Selection}
use Rattle.mq_message.specs.Selection.{pick}
use Rattle.mq_message.specs.Waiting.{without}

-- the place of the message that a receive returns
abbrev pub picked : List (ℕ × ℤ) → Selection → Option ℕ
picked messages selection = option_map (λ m. m.0) (pick (λ m. m.1) messages selection)

-- the places of the messages that consecutive receives with these selections return, each from what
-- is left
abbrev pub places_handed_out : List (ℕ × ℤ) → List Selection → List (Option ℕ)
places_handed_out messages [] = []
places_handed_out messages (s ∷ selections) =
    picked messages s
    ∷ places_handed_out (without (unwrap_or (picked messages s) 0) messages) selections

-- types 3, 1, 2, 1
abbrev pub two_of_type_1 : List (ℕ × ℤ)
two_of_type_1 = (1, pos 3) ∷ (2, pos 1) ∷ (3, pos 2) ∷ (4, pos 1) ∷ []

-- types 7, 5, 7, 4
abbrev pub two_of_type_7 : List (ℕ × ℤ)
two_of_type_7 = (1, pos 7) ∷ (2, pos 5) ∷ (3, pos 7) ∷ (4, pos 4) ∷ []

-- the greatest type there is, then type 8
abbrev pub greatest_then_8 : List (ℕ × ℤ)
greatest_then_8 = (1, pos (2 ^ 63 - 1)) ∷ (2, pos 8) ∷ []

-- no type, one, all up to one, and all that there are
abbrev pub msgtyps : List ℤ
msgtyps = pos 0 ∷ pos 7 ∷ negsuc 6 ∷ negsuc (2 ^ 63 - 1) ∷ []
