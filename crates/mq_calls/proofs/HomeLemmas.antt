-- What the arena is once texts are freed.
use Rattle.std.proofs.Common.{◌≡◌, ℕ, Bool, true, false, not, ◌||◌, List, [], ◌∷◌, ◌++◌, map, reverse, Option, None, Some, refl, sym, ap, ◌∙◌, append-nil, append_assoc, arith}
use Rattle.std.specs.List.{filter, flat_map, list_any}
use Rattle.std.specs.List.Sorted.{IsPermutation}
use Rattle.std.specs.Option.{option_map_or}
use Rattle.std.proofs.lemmas.List.Sorted.{list_any-IsPermutation}
use Rattle.std.proofs.Math.Bool.{or_comm}
use Rattle.std.proofs.lemmas.Grind.{flat_map-append}
use Rattle.std.proofs.lemmas.List.{map-append, reverse-append}
use Rattle.std.proofs.lemmas.List.Elements.{filter_agree}
use Rattle.std.proofs.lemmas.List.Folds.{list_any-append}
use Rattle.mq_tree.specs.Blocks.{PlainBlock, is_block}
use Rattle.mq_tree.specs.LentSet.{Lending}
use Rattle.mq_arena.specs.Lent.{gives_back, with_lent}
use Rattle.mq_arena.specs.Text.{PlainText}
use Rattle.mq_message.specs.declared.message.Message.{Message}
use Rattle.mq_table.specs.Kept.{KeptSlot}
use Rattle.mq_calls.specs.Closed.{Ending, all_home, ending_of, ends}
use Rattle.mq_calls.specs.Texts.{lies_in, spends, spends_all}
use Rattle.mq_calls.specs.declared.close.ClosedSlot.{ClosedSlot}

-- what passes neither test is kept by one after the other
kept_twice : {X : Type 0} (p q : X → Bool) (xs : List X) → filter (λ x. not (p x || q x)) xs ≡ filter (λ x. not (q x)) (filter (λ x. not (p x)) xs)
kept_twice p q [] = refl
kept_twice p q (x ∷ xs) = grind (arith, kept_twice p q xs)

-- nothing is taken out where no test holds
kept_all : {X : Type 0} (xs : List X) → filter (λ x. true) xs ≡ xs
kept_all [] = refl
kept_all (x ∷ xs) = ap (λ ys. x ∷ ys) (kept_all xs)

-- where no message is pending, no block is freed
pub none_home : (arena : Lending) → spends_all [] arena ≡ arena
none_home arena = ap (with_lent arena) (kept_all arena.lent)

-- a block, if there is one, is freed with those of the messages or before them
placed_home : (block : Option PlainBlock) (messages : List (ℕ × Message PlainText))
    (arena : Lending)
    → with_lent arena (filter (λ b. not (option_map_or (λ c. is_block c b) block false || list_any (λ m. lies_in b m.1.body) messages)) arena.lent)
    ≡ spends_all messages (option_map_or (λ b. gives_back b arena) block arena)
placed_home None messages arena = refl
placed_home (Some c) messages arena =
    ap (with_lent arena) (kept_twice (is_block c) (λ b. list_any (λ m. lies_in b m.1.body) messages) arena.lent)

-- one text is freed, and then all others
pub one_home : (place : ℕ) (m : Message PlainText) (messages : List (ℕ × Message PlainText)) (arena : Lending)
    → spends_all ((place, m) ∷ messages) arena ≡ spends_all messages (spends m.body arena)
one_home place m messages arena = placed_home m.body.block messages arena

-- in whatever order
pub order_home : (xs ys : List (ℕ × Message PlainText)) (arena : Lending) → IsPermutation xs ys → spends_all xs arena ≡ spends_all ys arena
order_home xs ys arena is =
    ap (with_lent arena) (filter_agree (λ b. not (list_any (λ m. lies_in b m.1.body) xs)) (λ b. not (list_any (λ m. lies_in b m.1.body) ys))
    (λ b. ap not (list_any-IsPermutation (λ m. lies_in b m.1.body) xs ys is)) arena.lent)

-- the texts of two lists are freed one list after the other
both_home : (xs ys : List (ℕ × Message PlainText)) (arena : Lending) → spends_all (xs ++ ys) arena ≡ spends_all xs (spends_all ys arena)
both_home xs ys arena =
    let waits : List (ℕ × Message PlainText) → PlainBlock → Bool = λ ms b. list_any (λ m. lies_in b m.1.body) ms in
    ap (with_lent arena)
    (filter_agree (λ b. not (waits (xs ++ ys) b)) (λ b. not (waits ys b || waits xs b))
    (λ b. ap not (list_any-append (λ m. lies_in b m.1.body) xs ys ∙ or_comm (waits xs b) (waits ys b))) arena.lent
    ∙ kept_twice (waits ys) (waits xs) arena.lent)

-- the last slot's are freed first
pub last_home : (slots : List (KeptSlot PlainText)) (slot : KeptSlot PlainText) (arena : Lending)
    → all_home (slots ++ slot ∷ []) arena ≡ all_home slots (spends_all slot.messages arena)
last_home slots slot arena =
    let f : KeptSlot PlainText → List (ℕ × Message PlainText) = λ s. s.messages in
    ap (λ ms. spends_all ms arena) (flat_map-append f slots (slot ∷ []) ∙ ap (λ ms. flat_map f slots ++ ms) (append-nil slot.messages))
    ∙ both_home (flat_map f slots) slot.messages arena

-- what is left of the slots, and the endings of the others, are those of all
pub endings_kept : (slots : List (KeptSlot PlainText)) (slot : KeptSlot PlainText) (closed : List ClosedSlot) (c : ClosedSlot) (all : List Ending) → ending_of c ≡ ends slot
    → map ends (slots ++ slot ∷ []) ++ reverse (map ending_of closed) ≡ all → map ends slots ++ reverse (map ending_of (closed ++ c ∷ [])) ≡ all
endings_kept slots slot closed c all is e =
    rw (map-append ending_of closed (c ∷ []), reverse-append (map ending_of closed) (ending_of c ∷ []), is)
    (rw (map-append ends slots (slot ∷ []), append_assoc) at e)

-- the endings of slots the other way round
pub reversed : (closed : List ClosedSlot) → map ending_of (reverse closed) ≡ reverse (map ending_of closed)
reversed [] = refl
reversed (c ∷ closed) =
    ap (map ending_of) (reverse-append (c ∷ []) closed) ∙ map-append ending_of (reverse closed) (c ∷ [])
    ∙ ap (λ es. es ++ ending_of c ∷ []) (reversed closed) ∙ sym (reverse-append (ending_of c ∷ []) (map ending_of closed))
