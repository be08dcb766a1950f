-- A queue in nodes that are all filled: its messages, by the nodes' index.
use Rattle.std.proofs.Common.{Bool, IsSome, List, None, Option, Some, [], ap, arith, drop, false, find, map, not, position, refl, remove, slice_get, suc, sym, take, zero, ℕ, ◌++◌, ◌==◌, ◌∙◌, ◌∷◌, ◌≡◌}
use Rattle.std.specs.List.{prefix_len}
use Rattle.std.specs.Option.{option_map, option_map_or}
use Rattle.std.proofs.lemmas.List.{length-map, map-append}
use Rattle.std.proofs.lemmas.Option.{slice_get-map}
use Rattle.indexmap.proofs.SetLemmas.{map-remove}
use Rattle.mq_message.specs.Waiting.{message_at}
use Rattle.mq_select.specs.Queue.{in_nodes}

-- each node is filled
abbrev pub AllFilled : {X : Type 0} → List (Option X) → Type 0
AllFilled nodes = nodes ≡ map Some (in_nodes nodes)

filled_some : {X : Type 0} (xs : List X) → in_nodes (map Some xs) ≡ xs
filled_some [] = refl
filled_some (x ∷ xs) = ap (λ ys. x ∷ ys) (filled_some xs)

-- what is known of nodes that are these messages
pub filled_is : {X : Type 0} (nodes : List (Option X)) (xs : List X) → nodes ≡ map Some xs → in_nodes nodes ≡ xs
filled_is nodes xs e = ap in_nodes e ∙ filled_some xs

pub all_filled : {X : Type 0} (nodes : List (Option X)) (xs : List X) → nodes ≡ map Some xs → AllFilled nodes
all_filled nodes xs e = e ∙ ap (map Some) (sym (filled_is nodes xs e))

-- one more filled node at the end
pub pushed : {X : Type 0} (nodes new : List (Option X)) (x : X) → AllFilled nodes → new ≡ nodes ++ Some x ∷ [] → new ≡ map Some (in_nodes nodes ++ x ∷ [])
pushed nodes new x full e = e ∙ ap (λ ns. ns ++ Some x ∷ []) full ∙ sym (map-append Some (in_nodes nodes) (x ∷ []))

-- one node less
pub removed : {X : Type 0} (nodes new : List (Option X)) (i : ℕ) → AllFilled nodes → new ≡ remove nodes i → new ≡ map Some (remove (in_nodes nodes) i)
removed nodes new i full e = e ∙ ap (λ ns. remove ns i) full ∙ sym (map-remove Some (in_nodes nodes) i)

prefix_some : {X : Type 0} (p : Option X → Bool) (xs : List X) → prefix_len p (map Some xs) ≡ prefix_len (λ x. p (Some x)) xs
prefix_some p [] = refl
prefix_some p (x ∷ xs) = rw (prefix_some p xs) refl

-- the node of a place stands where its message does
pub index_is : {X : Type 0} (nodes : List (Option (ℕ × X))) (place : ℕ) → AllFilled nodes → position (λ n. option_map_or (λ m. m.0 == place) n false) nodes ≡ position (λ m. m.0 == place) (in_nodes nodes)
index_is {X} nodes place full =
    let p : Option (ℕ × X) → Bool = λ n. option_map_or (λ m. m.0 == place) n false in
    ap (position p) full ∙ rw (prefix_some (λ n. not (p n)) (in_nodes nodes), length-map (in_nodes nodes) Some) refl

-- what lies in a node
at_node : {X : Type 0} (nodes : List (Option X)) (i : ℕ) → AllFilled nodes → slice_get nodes i ≡ option_map Some (slice_get (in_nodes nodes) i)
at_node nodes i full = ap (λ ns. slice_get ns i) full ∙ slice_get-map Some (in_nodes nodes) i

pub node_is : {X : Type 0} (nodes : List (Option X)) (i : ℕ) (x : X) → AllFilled nodes → slice_get nodes i ≡ Some (Some x) → slice_get (in_nodes nodes) i ≡ Some x
node_is nodes i x full at = grind (arith, at, at_node nodes i full)

pub node_not_empty : {X : Type 0} (nodes : List (Option X)) (i : ℕ) → AllFilled nodes → slice_get nodes i ≡ Some None → ⊥
node_not_empty nodes i full at = grind (arith, at, at_node nodes i full)

-- a list split at an index, without the node there
pub cut_out : {X : Type 0} (xs : List X) (i : ℕ) → take i xs ++ drop 1 (drop i xs) ≡ remove xs i
cut_out [] zero = refl
cut_out [] (suc i) = refl
cut_out (x ∷ xs) zero = refl
cut_out (x ∷ xs) (suc i) = ap (λ ys. x ∷ ys) (cut_out xs i)

find_some : {X : Type 0} (p : Option X → Bool) (xs : List X) → find p (map Some xs) ≡ option_map Some (find (λ x. p (Some x)) xs)
find_some p [] = refl
find_some p (x ∷ xs) = grind (arith, find_some p xs)

-- the node of a place
node_of : {X : Type 0} (nodes : List (Option (ℕ × X))) (place : ℕ) → AllFilled nodes → find (λ n. option_map_or (λ m. m.0 == place) n false) nodes ≡ option_map Some (find (λ m. m.0 == place) (in_nodes nodes))
node_of {X} nodes place full =
    let p : Option (ℕ × X) → Bool = λ n. option_map_or (λ m. m.0 == place) n false in
    ap (find p) full ∙ find_some p (in_nodes nodes)

-- it has its message
pub found_in : {X : Type 0} (nodes : List (Option (ℕ × X))) (place : ℕ) (m : ℕ × X) → AllFilled nodes → find (λ n. option_map_or (λ m. m.0 == place) n false) nodes ≡ Some (Some m) → message_at place (in_nodes nodes) ≡ Some m.1
found_in nodes place m full h = grind (arith, h, node_of nodes place full)

-- and the node of a place at which a message is pending is there, and filled
pub found_full : {X : Type 0} (nodes : List (Option (ℕ × X))) (place : ℕ) → AllFilled nodes → find (λ n. option_map_or (λ m. m.0 == place) n false) nodes ≡ Some None → ⊥
found_full nodes place full h = grind (arith, h, node_of nodes place full)

pub found_there : {X : Type 0} (nodes : List (Option (ℕ × X))) (place : ℕ) → AllFilled nodes → IsSome (message_at place (in_nodes nodes)) → find (λ n. option_map_or (λ m. m.0 == place) n false) nodes ≡ None → ⊥
found_there nodes place full waits h = grind (arith, waits, h, node_of nodes place full)
