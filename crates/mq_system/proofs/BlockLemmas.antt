-- Blocks for letters: one more is added behind, and the first is used; and letters of others.
use Rattle.std.proofs.Common.{◌≡◌, ◌<◌, ◌++◌, ◌∷◌, [], ℕ, List, length, drop, slice_index_or, refl, arith, Bor, pos}
use Rattle.mq_arena.specs.OwnedBlock.{OwnedBlock}
use Rattle.std.specs.List.{AllZip}
use Rattle.mq_system.specs.Drafts.{AreBlocksFor, IsBlockFor, IsFirstBlockFor}
use Rattle.mq_system.specs.declared.many.Letter.{Letter}

-- the letter that an index beyond a list of letters names
abbrev pub no_letter : Letter (Bor (List ℕ))
no_letter = record { mtype = pos 0; tag = 0; text = record { ref_ptr = (0, 0); now = [] } }

module _ {V : Type 0} (bytes_of : V → List ℕ) where
  -- a block for the letter behind those that have one
  pub one_more : (bs : List OwnedBlock) (ls : List (Letter V)) (d : Letter V) (b : OwnedBlock)
      → length bs < length ls → AreBlocksFor bytes_of bs ls
      → IsBlockFor (length (bytes_of (slice_index_or ls (length bs) d).text)) b
      → AreBlocksFor bytes_of (bs ++ b ∷ []) ls
  one_more [] [] d b lt had one = let no : ⊥ = omega arith in absurd no
  one_more [] (x ∷ ls) d b lt had one = (one, tt)
  one_more (c ∷ bs) [] d b lt had one = absurd had
  one_more (c ∷ bs) (x ∷ ls) d b lt had one = (had.0, one_more bs ls d b (omega arith) had.1 one)

  -- the first block is for the first letter, and the others are for the others
  pub first_for : (bs : List OwnedBlock) (l : Letter V) (ls : List (Letter V))
      → AreBlocksFor bytes_of bs (l ∷ ls) → IsFirstBlockFor (length (bytes_of l.text)) bs
  first_for [] l ls had = tt
  first_for (b ∷ bs) l ls had = had.0

  pub rest_for : (bs : List OwnedBlock) (l : Letter V) (ls : List (Letter V))
      → AreBlocksFor bytes_of bs (l ∷ ls) → AreBlocksFor bytes_of (drop 1 bs) ls
  rest_for [] l ls had = tt
  rest_for (b ∷ bs) l ls had = had.1

  -- without letters there are no blocks
  pub none_left : (bs : List OwnedBlock) → AreBlocksFor bytes_of bs [] → bs ≡ []
  none_left [] had = refl
  none_left (b ∷ bs) had = absurd had

-- one more pair
pub more_zipped : {A B : Type 0} (R : A → B → Type 0) (xs : List A) (zs : List B) (x : A) (z : B)
    → AllZip R xs zs → R x z → AllZip R (xs ++ x ∷ []) (zs ++ z ∷ [])
more_zipped R [] [] x z h r = (r, tt)
more_zipped R [] (b ∷ zs) x z h r = absurd h
more_zipped R (a ∷ xs) [] x z h r = absurd h
more_zipped R (a ∷ xs) (b ∷ zs) x z h r = (h.0, more_zipped R xs zs x z h.1 r)
