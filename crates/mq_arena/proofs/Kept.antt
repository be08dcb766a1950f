-- What a call that keeps pages whole leaves.
use Rattle.std.proofs.Common.{◌≡◌, ◌≤◌, ◌-◌, ◌++◌, ℕ, List, length, take, drop, subst, sym, ◌∙◌, ap, arith, length-append, length-drop}
use Rattle.std.proofs.lemmas.List.{length-take-le}
use Rattle.std.proofs.lemmas.List.Elements.{All-take, All-drop}
use Rattle.std.specs.Borrow.{MutBor}
use Rattle.std.specs.List.{refill}
use Rattle.mq_arena.specs.declared.page.TheConstants.{PAGE_LEN}
use Rattle.mq_arena.proofs.Filling.{refill_all}
use Rattle.mq_arena.specs.Bytes.{AreWhole}
use Rattle.mq_arena.specs.Halves.{MayLeave, KeepsPages}

-- a call at whole pages leaves as many whole pages
pub kept : {F : Type 0} (step : MutBor (List (List ℕ)) → Unit {0} → MutBor (List (List ℕ)) → F → Type 0) (n : ℕ)
    (x y : List (List ℕ)) → KeepsPages step n → AreWhole x → length x ≡ n → MayLeave step x y
    → AreWhole y × (length y ≡ n)
kept step n x y keeps whole long w =
    let there : AreWhole w.shown.now = subst AreWhole (sym w.shows) whole in
    let after = keeps w.shown w.left w.next there (ap length w.shows ∙ long) w.called in
    (subst AreWhole w.leaves after.0, ap length (sym w.leaves) ∙ after.1)

-- the same call at the same value
pub at_same : {F X : Type 0} (step : MutBor X → Unit {0} → MutBor X → F → Type 0)
    (other : MutBor X → Unit {0} → MutBor X → F → Type 0) (x z y : X) → x ≡ z
    → ((p q : MutBor X) (next : F) → step p tt q next → other p tt q next) → MayLeave step x y → MayLeave other z y
at_same step other x z y same also w = record {
  shown = w.shown;
  shows = w.shows ∙ same;
  left = w.left;
  leaves = w.leaves;
  next = w.next;
  called = also w.shown w.left w.next w.called;
}

-- the pages after both calls are what the two calls left
pub halves_left : {F G : Type 0} (f : MutBor (List (List ℕ)) → Unit {0} → MutBor (List (List ℕ)) → F → Type 0)
    (g : MutBor (List (List ℕ)) → Unit {0} → MutBor (List (List ℕ)) → G → Type 0)
    (old now front back : List (List ℕ)) (i n : ℕ) → AreWhole old → length old ≡ n → i ≤ n
    → KeepsPages f i → KeepsPages g (n - i) → MayLeave f (take i old) front → MayLeave g (drop i old) back
    → now ≡ refill (length old) old (front ++ back) → refill (length old) old now ≡ front ++ back
halves_left f g old now front back i n whole long within keeps_front keeps_back first second written =
    let short : i ≤ length old = omega arith in
    let in_front = kept f i (take i old) front keeps_front
    (All-take (λ p. length p ≡ PAGE_LEN) i old whole) (length-take-le i old short) first in
    let in_back = kept g (n - i) (drop i old) back keeps_back
    (All-drop (λ p. length p ≡ PAGE_LEN) i old whole) (omega (arith, length-drop i old)) second in
    let same : length (front ++ back) ≡ length old =
    omega (arith, length-append front back, in_front.1, in_back.1) in
    let all : now ≡ front ++ back = written ∙ refill_all old (front ++ back) same in
    ap (refill (length old) old) all ∙ refill_all old (front ++ back) same
