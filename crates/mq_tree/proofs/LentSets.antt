-- A lent set that gains or loses a block, and one that is made of two halves.
use Rattle.std.proofs.Common.{◌≡◌, ℕ, ◌+◌, ◌<◌, ◌≤◌, suc, refl, arith, inl, inr, true, false, List, [], ◌∷◌, ◌++◌, length, map, ltb, eqb}
use Rattle.std.specs.List.{All, AllPairs}
use Rattle.std.proofs.lemmas.Bool.{cond_both, ltb-true, ltb-false, lt-ltb, le-ltb, eqb-true, and_parts, cases_Bool, or_parts}
use Rattle.std.proofs.lemmas.Bool.Decides.{nat_tests}
pub use Rattle.std.proofs.lemmas.List.Kept.{AllPairs-cons, AllPairs-filter}
use Rattle.std.proofs.lemmas.List.Elements.{All-nil, All-cons, All-head, All-tail, All-append}
use Rattle.std.proofs.lemmas.List.{get_or-map, length-map}
use Rattle.std.proofs.lemmas.List.Folds.{list_any_none}
use Rattle.mq_tree.specs.Blocks.{PlainBlock, block, is_block, moved_up}
use Rattle.mq_tree.specs.LentSet.{StartsBefore, inserted, left, is_lent}

-- ---- pairs
pub AllPairs-head : (R : PlainBlock → PlainBlock → Type 0) (x : PlainBlock) (xs : List PlainBlock) → AllPairs R (x ∷ xs) → All (R x) xs
AllPairs-head R x xs h k d l = h 0 (suc k) d (omega arith) (omega arith)

pub AllPairs-tail : (R : PlainBlock → PlainBlock → Type 0) (x : PlainBlock) (xs : List PlainBlock) → AllPairs R (x ∷ xs) → AllPairs R xs
AllPairs-tail R x xs h i j d l u = h (suc i) (suc j) d (omega arith) (omega arith)

pub AllPairs-nil : (R : PlainBlock → PlainBlock → Type 0) → AllPairs R []
AllPairs-nil R i j d l u = absurd (omega arith)

pub AllPairs-append : (R : PlainBlock → PlainBlock → Type 0) (xs ys : List PlainBlock) → AllPairs R xs → AllPairs R ys → All (λ x. All (R x) ys) xs → AllPairs R (xs ++ ys)
AllPairs-append R [] ys p q cross = q
AllPairs-append R (x ∷ xs) ys p q cross =
    AllPairs-cons R x (xs ++ ys) (All-append (R x) xs ys (AllPairs-head R x xs p) (All-head (λ x. All (R x) ys) x xs cross))
    (AllPairs-append R xs ys (AllPairs-tail R x xs p) q (All-tail (λ x. All (R x) ys) x xs cross))

pub AllPairs-map : (R S : PlainBlock → PlainBlock → Type 0) (f : PlainBlock → PlainBlock) → ((a b : PlainBlock) → R a b → S (f a) (f b)) → (xs : List PlainBlock) → AllPairs R xs → AllPairs S (map f xs)
AllPairs-map R S f step xs p i j d l u =
    let v : j < length xs = omega (arith, u, length-map xs f) in
    rw (get_or-map f xs i d d (omega arith), get_or-map f xs j d d v) (step _ _ (p i j d l v))

-- ---- one block
pub is_block_itself : (b : PlainBlock) → is_block b b ≡ true
is_block_itself b = grind (arith, nat_tests)

pub is_block-true : (a b : PlainBlock) → is_block a b ≡ true → a ≡ b
is_block-true a b t =
    let p = and_parts (eqb b.start a.start) (eqb b.order a.order) t in
    rw (← eqb-true b.start a.start p.0, ← eqb-true b.order a.order p.1) refl

pub is_block_start : (a b : PlainBlock) → (b.start ≡ a.start → ⊥) → is_block a b ≡ false
is_block_start a b n = grind (arith, nat_tests)

pub is_block_order : (a b : PlainBlock) → (b.order ≡ a.order → ⊥) → is_block a b ≡ false
is_block_order a b n = grind (arith, nat_tests)

ltb_moved : (c m n : ℕ) → ltb (c + m) (c + n) ≡ ltb m n
ltb_moved c m n = grind (arith, nat_tests)

-- ---- joined
pub All-joined : (P : PlainBlock → Type 0) (b : PlainBlock) (xs : List PlainBlock) → P b → All P xs → All P (inserted b xs)
All-joined P b [] p h = All-cons P b [] p h
All-joined P b (c ∷ cs) p h =
    cond_both (ltb b.start c.start) (b ∷ c ∷ cs) (c ∷ inserted b cs) (All P) (λ _. All-cons P b (c ∷ cs) p h)
    (λ _. All-cons P c (inserted b cs) (All-head P c cs h)
    (All-joined P b cs p (All-tail P c cs h)))

-- a block of the left half is inserted into the left blocks
pub joined_left : (b : PlainBlock) (xs ys : List PlainBlock) → All (λ c. b.start < c.start) ys → inserted b (xs ++ ys) ≡ inserted b xs ++ ys
joined_left b [] [] h = refl
joined_left b [] (c ∷ cs) h = rw (lt-ltb b.start c.start (All-head (λ c. b.start < c.start) c cs h)) refl
joined_left b (x ∷ xs) ys h = elim (cases_Bool (ltb b.start x.start)) [
  | inl t ↦ rw t refl
  | inr t ↦ rw (t, joined_left b xs ys h) refl
]

-- a block of the right half is inserted into the right blocks
pub joined_right : (b : PlainBlock) (xs ys : List PlainBlock) → All (λ c. c.start ≤ b.start) xs → inserted b (xs ++ ys) ≡ xs ++ inserted b ys
joined_right b [] ys h = refl
joined_right b (x ∷ xs) ys h =
    rw (le-ltb b.start x.start (All-head (λ c. c.start ≤ b.start) x xs h), joined_right b xs ys (All-tail (λ c. c.start ≤ b.start) x xs h)) refl

pub joined_moved : (c : ℕ) (b : PlainBlock) (ys : List PlainBlock) → inserted (block (c + b.start) b.order) (moved_up c ys) ≡ moved_up c (inserted b ys)
joined_moved c b [] = refl
joined_moved c b (y ∷ ys) = elim (cases_Bool (ltb b.start y.start)) [
  | inl t ↦ rw (ltb_moved c b.start y.start, t) refl
  | inr t ↦ rw (ltb_moved c b.start y.start, t, joined_moved c b ys) refl
]

-- pairs of a list in order that gains a block
pub AllPairs-joined : (R : PlainBlock → PlainBlock → Type 0) (b : PlainBlock) (xs : List PlainBlock) → AllPairs StartsBefore xs → AllPairs R xs
    → All (λ c. b.start < c.start → R b c) xs → All (λ c. c.start ≤ b.start → R c b) xs → AllPairs R (inserted b xs)
AllPairs-joined R b [] o p before after = AllPairs-cons R b [] (All-nil (R b)) (AllPairs-nil R)
AllPairs-joined R b (c ∷ cs) o p before after =
    cond_both (ltb b.start c.start) (b ∷ c ∷ cs) (c ∷ inserted b cs) (AllPairs R)
    (λ t.
    let l : b.start < c.start = ltb-true b.start c.start t in
    let later : All (R b) cs = λ k d u. All-tail (λ c. b.start < c.start → R b c) c cs before k d u (omega (arith, l, AllPairs-head StartsBefore c cs o k d u)) in
    AllPairs-cons R b (c ∷ cs) (All-cons (R b) c cs (All-head (λ c. b.start < c.start → R b c) c cs before l) later) p)
    (λ t.
    AllPairs-cons R c (inserted b cs) (All-joined (R c) b cs (All-head (λ c. c.start ≤ b.start → R c b) c cs after (ltb-false b.start c.start t)) (AllPairs-head R c cs p))
    (AllPairs-joined R b cs (AllPairs-tail StartsBefore c cs o) (AllPairs-tail R c cs p) (All-tail (λ c. b.start < c.start → R b c) c cs before) (All-tail (λ c. c.start ≤ b.start → R c b) c cs after)))

-- ---- left
-- where the block is not allocated, nothing is removed
pub left_not_lent : (b : PlainBlock) (xs : List PlainBlock) → is_lent b xs ≡ false → left b xs ≡ xs
left_not_lent b [] t = refl
left_not_lent b (c ∷ cs) t = let p = or_parts (is_block b c) (is_lent b cs) t in rw (p.0, left_not_lent b cs p.1) refl

pub left_absent : (b : PlainBlock) (xs : List PlainBlock) → All (λ c. is_block b c ≡ false) xs → left b xs ≡ xs
left_absent b xs h = left_not_lent b xs (list_any_none (is_block b) xs h)

pub is_block_moved : (c : ℕ) (b y : PlainBlock) → is_block (block (c + b.start) b.order) (block (c + y.start) y.order) ≡ is_block b y
is_block_moved c b y = grind (arith, nat_tests)

pub left_moved : (c : ℕ) (b : PlainBlock) (ys : List PlainBlock) → left (block (c + b.start) b.order) (moved_up c ys) ≡ moved_up c (left b ys)
left_moved c b [] = refl
left_moved c b (y ∷ ys) = elim (cases_Bool (is_block b y)) [
  | inl t ↦ rw (is_block_moved c b y, t) (left_moved c b ys)
  | inr t ↦ rw (is_block_moved c b y, t, left_moved c b ys) refl
]

pub is_lent_moved : (c : ℕ) (b : PlainBlock) (ys : List PlainBlock) → is_lent (block (c + b.start) b.order) (moved_up c ys) ≡ is_lent b ys
is_lent_moved c b [] = refl
is_lent_moved c b (y ∷ ys) = rw (is_block_moved c b y, is_lent_moved c b ys) refl

-- a block that is inserted and removed again
pub left-joined : (b : PlainBlock) (xs : List PlainBlock) → All (λ c. is_block b c ≡ false) xs → left b (inserted b xs) ≡ xs
left-joined b [] h = rw (is_block_itself b) refl
left-joined b (c ∷ cs) h = elim (cases_Bool (ltb b.start c.start)) [
  | inl t ↦ rw (t, is_block_itself b) (left_absent b (c ∷ cs) h)
  | inr t ↦
      let rest = left-joined b cs (All-tail (λ c. is_block b c ≡ false) c cs h) in
      rw (t, All-head (λ c. is_block b c ≡ false) c cs h, rest) refl
]
