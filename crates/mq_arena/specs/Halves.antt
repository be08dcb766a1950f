-- Two closures that write the two halves of a block's pages, and what they need and leave.
use Rattle.std.specs.Prelude.{◌≡◌, ℕ, List, ◌++◌, length, take, drop}
use Rattle.std.specs.Borrow.{MutBor}
use Rattle.mq_arena.specs.Bytes.{AreWhole}

-- a call at x may leave y there
pub record MayLeave {F X : Type 0} (step : MutBor X → Unit {0} → MutBor X → F → Type 0)
    (x y : X) : Type 0 where
  pub shown : MutBor X
  pub shows : shown.now ≡ x
  pub left : MutBor X
  pub leaves : left.now ≡ y
  pub next : F
  pub called : step shown tt left next

-- the call may be made at x
abbrev pub TakesAtMut : {X : Type 0} → (MutBor X → Type 0) → X → Type 0
TakesAtMut {X} pre x = (p : MutBor X) → p.now ≡ x → pre p

-- the call may be made at any n whole pages
abbrev pub TakesPages : (MutBor (List (List ℕ)) → Type 0) → ℕ → Type 0
TakesPages pre n = (p : MutBor (List (List ℕ))) → AreWhole p.now → length p.now ≡ n → pre p

-- the pages once the first call was made at those below i, and the second at those from i on
pub record AreWritten {F G : Type 0}
    (first : MutBor (List (List ℕ)) → Unit {0} → MutBor (List (List ℕ)) → F → Type 0)
    (second : MutBor (List (List ℕ)) → Unit {0} → MutBor (List (List ℕ)) → G → Type 0)
    (i : ℕ) (old new : List (List ℕ)) : Type 0 where
  pub front : List (List ℕ)
  pub back : List (List ℕ)
  pub new_is : new ≡ front ++ back
  pub count : length front ≡ i
  pub front_by : MayLeave first (take i old) front
  pub back_by : MayLeave second (drop i old) back

-- a call at n whole pages leaves n whole pages
abbrev pub KeepsPages : {F : Type 0}
    → (MutBor (List (List ℕ)) → Unit {0} → MutBor (List (List ℕ)) → F → Type 0)
    → ℕ → Type 0
KeepsPages {F} step n = (p q : MutBor (List (List ℕ))) (next : F)
    → AreWhole p.now → length p.now ≡ n → step p tt q next → AreWhole q.now × (length q.now ≡ n)
