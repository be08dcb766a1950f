-- The messages of one type, in nodes that were allocated beforehand.
use Rattle.std.specs.Prelude.{Option, Some, None, List, [], ◌∷◌}

-- what lies in the nodes that are filled
abbrev pub in_nodes : {X : Type 0} → List (Option X) → List X
in_nodes [] = []
in_nodes (None ∷ nodes) = in_nodes nodes
in_nodes (Some x ∷ nodes) = x ∷ in_nodes nodes
