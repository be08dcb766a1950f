-- How a selection is printed.
use Rattle.std.specs.Prelude.{ℕ, List, ◌++◌, codes}
use Rattle.std.specs.Fmt.{decimal, signed_decimal}
use Rattle.mq_message.specs.declared.selection.Selection.{Selection}
use Rattle.mq_message.specs.declared.selection.Selection.TheVariants.{Any, Exact, Except, UpTo}

-- a selection in words: `any`, `type 5`, `not type 5` or `up to 5`
abbrev pub selection_text : Selection → List ℕ
selection_text Any = codes "any"
selection_text (Exact wanted) = codes "type " ++ signed_decimal wanted
selection_text (Except other) = codes "not type " ++ signed_decimal other
selection_text (UpTo bound) = codes "up to " ++ decimal bound
