-- How many messages are pending, and in which order: what their types by place determine.
use Rattle.std.proofs.Common.{◌≡◌, ◌∙◌, refl, sym, ℕ, ℤ, ◌<◌, nat_eq, false, None, List, [], ◌∷◌, ◌++◌, All, AllPairs, length, slice_get, arith, length-append}
use Rattle.std.specs.List.{AllByRecursion, IsDistinct}
use Rattle.std.specs.Cmp.{nat_eq_equiv}
use Rattle.std.specs.Map.{keys_of, lookup}
use Rattle.std.specs.Option.{is_some, option_map}
use Rattle.std.specs.Set.{is_member}
use Rattle.std.proofs.Math.ListN.{get_or-append}
use Rattle.std.proofs.Math.Seq.{get_or-append_seam}
use Rattle.std.proofs.lemmas.Bool.Decides.{nat_tests}
use Rattle.std.proofs.lemmas.List.Elements.{All-from_recursion}
use Rattle.std.proofs.lemmas.List.Kept.{AllPairs-cons}
use Rattle.std.proofs.lemmas.Map.Entries.{length-keys_of}
use Rattle.std.proofs.lemmas.Map.Keys.{IsDistinct-cons}
use Rattle.std.proofs.lemmas.Map.Made.{is_some-lookup, length-from_same_keys}
use Rattle.mq_message.specs.Waiting.{message_at}
use Rattle.mq_select.specs.ByType.{IsRising}

-- places that rise, by index
pub pairs_rise : {X : Type 0} (all : List (ℕ × X)) → IsRising all → AllPairs (λ a b. a.0 < b.0) all
pairs_rise [] h = λ i j d l m. absurd (omega arith)
pairs_rise {X} (x ∷ xs) h =
    AllPairs-cons (λ (a b : ℕ × X). a.0 < b.0) x xs (All-from_recursion (λ (b : ℕ × X). x.0 < b.0) xs h.0) (pairs_rise xs h.1)

-- no place is there twice
distinct : {X : Type 0} (all : List (ℕ × X)) → IsRising all → IsDistinct nat_eq (keys_of all)
unfolding IsDistinct
distinct [] h = tt
distinct {X} (x ∷ xs) h = IsDistinct-cons nat_eq x.0 (keys_of xs) (others xs h.0) (distinct xs h.1)
  where
    others : (ys : List (ℕ × X)) → AllByRecursion (λ (y : ℕ × X). x.0 < y.0) ys → AllByRecursion (λ y. nat_eq x.0 y ≡ false) (keys_of ys)
    others [] a = tt
    others (y ∷ ys) a = let less = a.0 in (grind (arith, nat_tests), others ys a.1)

-- a message is pending at a place exactly where it is one of the places
waits_at : {X : Type 0} (all : List (ℕ × X)) (n : ℕ) → is_some (message_at n all) ≡ is_member nat_eq (keys_of all) n
waits_at [] n = refl
waits_at (x ∷ xs) n = grind (arith, nat_tests, waits_at xs n)

-- as many messages are pending as places have a type
pub count_is : {X : Type 0} (type_of : X → ℤ) (all : List (ℕ × X)) (types : List (ℕ × ℤ)) → IsRising all → IsDistinct nat_eq (keys_of types) → ((n : ℕ) → lookup (nat_eq n) types ≡ option_map type_of (message_at n all)) → length types ≡ length all
count_is type_of all types rising unique typed =
    sym (length-keys_of types)
    ∙ length-from_same_keys nat_eq_equiv (keys_of types) (keys_of all) unique (distinct all rising) (λ n. grind (arith, is_some-lookup (nat_eq n) types, typed n, waits_at all n))
    ∙ length-keys_of all

-- where there is no first message, there is none
pub no_first : {X Y : Type 0} (f : X → Y) (xs : List X) → None ≡ option_map f (slice_get xs 0) → xs ≡ []
no_first f [] e = refl
no_first f (x ∷ xs) e = cc

-- the message that is taken out is above those taken out before
pub next_above : {X : Type 0} (went xs all ys : List (ℕ × X)) (y : ℕ × X) → AllPairs (λ a b. a.0 < b.0) all → went ++ xs ≡ all → xs ≡ y ∷ ys → All (λ x. x.0 < y.0) went
next_above went xs all ys y rising whole is k d l =
    let joined : went ++ y ∷ ys ≡ all = rw (← is) whole in
    let long = length-append went (y ∷ ys) in
    let less = rw (← joined) at (rising k (length went) d l (rw (← joined) (omega (arith, long)))) in
    rw (get_or-append went (y ∷ ys) d k l, get_or-append_seam went y ys d) at less
