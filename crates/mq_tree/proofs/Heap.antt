-- The layout of a heap: the nodes over a node, and its halves.
use Rattle.std.proofs.Common.{◌≡◌, ◌≢◌, ℕ, ◌+◌, ◌-◌, ◌*◌, ◌/◌, ◌^◌, ◌<◌, ◌≤◌, suc, refl, sym, ap, ◌∙◌, arith, inl, inr, ◌⊎◌}
use Rattle.std.proofs.Math.Nat.{div-le_self}
use Rattle.std.proofs.lemmas.Bool.{cases_lt, cases_order}
use Rattle.std.proofs.lemmas.Nat.{pow_pos, shr-shr, shr_split, le-div, div_below, leading_top}
use Rattle.mq_tree.specs.Trees.{HasHeight}
use Rattle.mq_tree.proofs.Powers.{pow_suc, pow_le}

pub up_last : (n i : ℕ) → i / 2 ^ suc n ≡ i / 2 ^ n / 2
up_last n i = let e : n + 1 ≡ suc n = omega arith in sym (shr-shr i n 1 ∙ ap (λ x. i / 2 ^ x) e)

pub up_first : (n i : ℕ) → i / 2 ^ suc n ≡ i / 2 / 2 ^ n
up_first n i = let e : 1 + n ≡ suc n = omega arith in sym (shr-shr i 1 n ∙ ap (λ x. i / 2 ^ x) e)

pub up_none : (i : ℕ) → i / 2 ^ 0 ≡ i
up_none i = omega arith

-- a node is one of the halves of the node over it
pub one_of_halves : (i : ℕ) → (i ≡ 2 * (i / 2)) ⊎ (i ≡ 2 * (i / 2) + 1)
one_of_halves i = elim (cases_lt (2 * (i / 2)) i) [ inl l ↦ inr (omega arith) | inr l ↦ inl (omega arith) ]

-- ---- places
pub at_root : (height : ℕ) → HasHeight height height 1
at_root height = record { depth = 0; depth_is = omega arith; root_is = refl }

-- a half of a node
to_half : (height k i j : ℕ) → j / 2 ≡ i → HasHeight height (suc k) i → HasHeight height k j
to_half height k i j e p = record { depth = suc p.depth; depth_is = omega (arith, p.depth_is); root_is = rw (up_first p.depth j, e) p.root_is }

pub to_left : (height k i : ℕ) → HasHeight height (suc k) i → HasHeight height k (2 * i)
to_left height k i p = to_half height k i (2 * i) (omega arith) p

pub to_right : (height k i : ℕ) → HasHeight height (suc k) i → HasHeight height k (2 * i + 1)
to_right height k i p = to_half height k i (2 * i + 1) (omega arith) p

-- one step up
pub to_parent : {height k i : ℕ} → HasHeight height k i → k < height
    → HasHeight height (suc k) (i / 2)
to_parent {i = i} p l =
    let e : suc (p.depth - 1) ≡ p.depth = omega (arith, p.depth_is) in
    record { depth = p.depth - 1; depth_is = omega (arith, p.depth_is); root_is = rw (← up_first (p.depth - 1) i, e) p.root_is }

-- more steps up lead to at most half of what fewer do
up_less : (j d n : ℕ) → d < n → j / 2 ^ n ≤ j / 2 ^ d / 2
up_less j d n l =
    let x = n - suc d in
    let e : n ≡ suc d + x = omega arith in
    rw (e, ← shr-shr j (suc d) x, up_last d j) (div-le_self (j / 2 ^ d / 2) (2 ^ x))

within : {height k i : ℕ} (p : HasHeight height k i) → (2 ^ p.depth ≤ i) × (i < 2 ^ suc p.depth)
within {i = i} p =
    let s = rw p.root_is at (shr_split i p.depth) in
    (omega (arith, s), omega (arith, s, pow_suc p.depth, pow_pos p.depth))

module _ {height k i : ℕ} (p : HasHeight height k i) where
  pub place_pos : 0 < i
  place_pos = omega (arith, (within p).0, pow_pos p.depth)

  pub place_below : i < 2 * 2 ^ height
  place_below = omega (arith, (within p).1, pow_le (suc p.depth) (suc height) (omega (arith, p.depth_is)), pow_suc height)

  -- the nodes over it end at the root
  pub over_root : (n : ℕ) → 0 < i / 2 ^ n → n + k ≤ height
  over_root n l = elim (cases_lt p.depth n) [
    | inr m ↦ omega (arith, p.depth_is)
    | inl m ↦ absurd (omega (arith, up_less i p.depth n m, p.root_is, l))
  ]

-- a node has one height
pub place_height : {height k m i : ℕ} → HasHeight height k i → HasHeight height m i → k ≡ m
place_height p q = omega (arith, p.depth_is, q.depth_is, over_root p q.depth (omega (arith, q.root_is)), over_root q p.depth (omega (arith, p.root_is)))

-- the node at the full height is the root, and those of single pages come last
pub root_alone : {height i : ℕ} → HasHeight height height i → i ≡ 1
root_alone {i = i} p = let none : p.depth ≡ 0 = omega (arith, p.depth_is) in rw (none, up_none i) at p.root_is

pub page_nodes : {height k i : ℕ} → HasHeight height k i → 2 ^ height ≤ i → k ≡ 0
page_nodes {height = height} {i = i} p l = omega (arith, over_root p height (le-div 1 i (2 ^ height) (pow_pos height) (omega (arith, l))))

pub no_page_nodes : {height k i : ℕ} → HasHeight height k i → i < 2 ^ height → 0 < k
no_page_nodes {height = height} {k = k} p l = elim (cases_lt 0 k) [
  | inl some ↦ some
  | inr none ↦ absurd (omega (arith, l, (within p).0, pow_le height p.depth (omega (arith, none, p.depth_is))))
]

-- two halves of one node are not over the same node
pub halves_apart : (j d m a b : ℕ) → j / 2 ^ d ≡ a → j / 2 ^ m ≡ b → a / 2 ≡ b / 2 → 0 < a → 0 < b → a ≡ b
halves_apart j d m a b p q e l r = elim (cases_order d m) [
  | inl same ↦ rw (← p, ← q, same) refl
  | inr o ↦ elim o [
    | inl x ↦ absurd (omega (arith, up_less j d m x, p, q, e, r))
    | inr x ↦ absurd (omega (arith, up_less j m d x, p, q, e, l))
  ]
]

-- a node differs from those over it
pub over_differs : (j n i : ℕ) → j / 2 ^ suc n ≡ i → 0 < i → i ≢ j
over_differs j n i e l f = omega (arith, up_less j 0 (suc n) (omega arith), up_none j, e, f, l)

-- each node but node 0 has its place
pub place_of : (height i : ℕ) → 0 < i → i < 2 * 2 ^ height → (k : ℕ) × HasHeight height k i
place_of height i l u =
    let t = leading_top (suc height) i l (omega (arith, u, pow_suc height)) in
    let one : i / 2 ^ t.0 ≡ 1 = omega (arith, le-div 1 i (2 ^ t.0) (pow_pos t.0) (omega (arith, t.2)), div_below i (2 ^ t.0) 2 (pow_pos t.0) (omega (arith, t.3, pow_suc t.0))) in
    (height - t.0, record { depth = t.0; depth_is = omega (arith, t.1); root_is = one })
