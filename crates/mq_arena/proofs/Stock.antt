-- The pages of an arena, before and after a block is allocated or freed.
use Rattle.std.proofs.Common.{◌≡◌, ◌∙◌, ◌+◌, ◌^◌, ◌≤◌, ◌<◌, inl, inr, true, not, ℕ, List, [], length, replicate, get_or, Some, sym, ap, subst, arith}
use Rattle.std.proofs.lemmas.Bool.{cases_Bool, and_parts, and_from, not-true, not_from_false}
use Rattle.std.proofs.lemmas.List.Elements.{All-contains}
use Rattle.std.proofs.lemmas.List.{length-replicate, get_or-replicate}
use Rattle.mq_tree.proofs.Powers.{pow_le}
use Rattle.mq_tree.proofs.Fits.{fit_passes}
use Rattle.mq_tree.proofs.FreePages.{new_free, free_joined, free_left, page_of, page_beside, free_when_apart, is_free_page-joined, is_free_page-left}
use Rattle.mq_tree.proofs.Kept.{left_fit, fit_apart, lent_member, IsLentSet-nil, IsLentSet-joined, IsLentSet-left}
use Rattle.mq_tree.specs.Blocks.{block, IsInArena, has_page}
use Rattle.mq_tree.specs.LentSet.{Lending, IsLentSet, free_pages, inserted, left, is_lent, is_free_page}
use Rattle.mq_tree.specs.Fit.{fit}
use Rattle.mq_arena.specs.Homes.{AreHome, SameOutside}
use Rattle.mq_arena.specs.Lent.{with_lent}
use Rattle.mq_arena.specs.Stocked.{IsStocked, IsArena, IsFreshArena}
use Rattle.mq_arena.specs.declared.limits.TheConstants.{INLINE_ORDER, INLINE_PAGES}
use Rattle.mq_arena.specs.declared.page.TheConstants.{PAGE_LEN}
use Rattle.mq_arena.proofs.Shells.{length-joined, length-left}

-- the arena holds the pages of the block that is allocated next
pub fit_home : (arena : Lending) (homes : List (List ℕ)) (order start : ℕ) → IsStocked arena homes
    → fit arena.height arena.lent order ≡ Some start → AreHome homes start (2 ^ order)
fit_home arena homes order start stocked found page from below =
    stocked.there page (omega (arith, (fit_passes arena.height arena.lent order start found).in_arena))
    (free_when_apart (block start order) arena.lent (fit_apart arena.height arena.lent order start found) page (record { from = from; below = below }))

-- an allocated block is in the arena
pub lent_inside : (arena : Lending) (homes : List (List ℕ)) (order start : ℕ) → IsStocked arena homes
    → is_lent (block start order) arena.lent ≡ true → start + 2 ^ order ≤ 2 ^ arena.height
lent_inside arena homes order start stocked lent =
    All-contains (IsInArena arena.height) arena.lent (block start order) stocked.lent_set.in_arena (lent_member (block start order) arena.lent lent)

-- a block of a low order fits in the inline places
pub few_pages : (order : ℕ) → order ≤ INLINE_ORDER → 2 ^ order ≤ INLINE_PAGES
few_pages order low = pow_le order INLINE_ORDER low

-- the arena once a block is allocated
pub arena_taken : (arena : Lending) (homes left_homes : List (List ℕ)) (order start shells places out parts fewer_shells same_places more fewer : ℕ)
    → IsArena arena homes shells places out parts → fit arena.height arena.lent order ≡ Some start
    → length left_homes ≡ length homes → SameOutside homes left_homes start (2 ^ order)
    → fewer_shells + 1 ≡ shells → same_places ≡ places → more ≡ out + 2 ^ order → fewer + 2 ^ order ≡ parts
    → IsArena (with_lent arena (inserted (block start order) arena.lent)) left_homes fewer_shells same_places more fewer
arena_taken arena homes left_homes order start shells places out parts fewer_shells same_places more fewer was found same_length same one_less kept count rest =
    let b = block start order in
    let free = free_joined arena.height arena.lent order start found in
    record {
      stocked = record {
        lent_set = IsLentSet-joined arena.height arena.lent order start found was.stocked.lent_set;
        long = same_length ∙ was.stocked.long;
        there = λ page inside free_page.
            let still = and_parts (not (has_page b page)) (is_free_page arena.lent page) (sym (is_free_page-joined b arena.lent page) ∙ free_page) in
            ap length (same page (page_beside b page (not-true (has_page b page) still.0))) ∙ was.stocked.there page inside still.1;
      };
      shelled = record { count = omega (arith, length-joined b arena.lent, was.shelled.count); room = kept ∙ was.shelled.room };
      adds_up = record { pages = omega (arith, free, was.adds_up.pages); parted = omega (arith, free, was.adds_up.parted) };
    }

-- allocating a block and freeing it at once restores the arena
pub lent_back : (arena out after : Lending) (order start : ℕ) → fit arena.height arena.lent order ≡ Some start
    → out ≡ with_lent arena (inserted (block start order) arena.lent) → after ≡ with_lent out (left (block start order) out.lent)
    → after ≡ arena
lent_back arena out after order start found lent back =
    back ∙ ap (λ (o : Lending). with_lent o (left (block start order) o.lent)) lent
    ∙ ap (with_lent arena) (left_fit arena.height arena.lent order start found)

-- and so its invariant, where the shell is returned too
pub arena_back : (arena after : Lending) (homes : List (List ℕ)) (shells places same_shells same_places out parts : ℕ)
    → IsArena arena homes shells places out parts → after ≡ arena → same_shells ≡ shells → same_places ≡ places
    → IsArena after homes same_shells same_places out parts
arena_back arena after homes shells places same_shells same_places out parts was same shells_back places_back =
    rw (same, shells_back, places_back) was

-- the arena once a block is freed
pub arena_given : (arena : Lending) (homes full_homes : List (List ℕ)) (order start shells places out parts more_shells same_places less more : ℕ)
    → IsArena arena homes shells places out parts → is_lent (block start order) arena.lent ≡ true
    → length full_homes ≡ length homes → AreHome full_homes start (2 ^ order) → SameOutside homes full_homes start (2 ^ order)
    → more_shells ≡ shells + 1 → same_places ≡ places → less + 2 ^ order ≡ out → more ≡ parts + 2 ^ order
    → IsArena (with_lent arena (left (block start order) arena.lent)) full_homes more_shells same_places less more
arena_given arena homes full_homes order start shells places out parts more_shells same_places less more was lent same_length home same one_more kept count rest =
    let b = block start order in
    let free = free_left arena.height arena.lent b was.stocked.lent_set lent in
    record {
      stocked = record {
        lent_set = IsLentSet-left arena.height b arena.lent was.stocked.lent_set;
        long = same_length ∙ was.stocked.long;
        there = λ page inside free_page. elim (cases_Bool (has_page b page)) [
          | inl here ↦ let run = page_of b page here in home page run.from run.below
          | inr beside ↦
              let still = and_from (not (has_page b page)) (is_free_page (left b arena.lent) page) (not_from_false (has_page b page) beside) free_page in
              let was_free = and_parts (not (has_page b page)) (is_free_page arena.lent page) (is_free_page-left b arena.lent page ∙ still) in
              ap length (same page (page_beside b page beside)) ∙ was.stocked.there page inside was_free.1
        ];
      };
      shelled = record { count = omega (arith, length-left b arena.lent was.stocked.lent_set.in_order lent, was.shelled.count); room = kept ∙ was.shelled.room };
      adds_up = record { pages = omega (arith, free, was.adds_up.pages); parted = omega (arith, free, was.adds_up.parted) };
    }

-- the arena when it is opened: nothing is allocated
pub arena_made : (arena : Lending) (homes : List (List ℕ)) (shells places out parts : ℕ)
    → IsFreshArena arena homes shells places → out ≡ 0 → 2 ^ arena.height < parts → IsArena arena homes shells places out parts
arena_made arena homes shells places out parts made none_out enough =
    let free : free_pages arena.height arena.lent ≡ 2 ^ arena.height =
    ap (free_pages arena.height) made.none ∙ new_free arena.height in
    record {
      stocked = record {
        lent_set = subst (IsLentSet arena.height) (sym made.none) (IsLentSet-nil arena.height);
        long = ap length made.all ∙ length-replicate (2 ^ arena.height) (replicate PAGE_LEN 0);
        there = λ page inside free_page.
            ap (λ pages. length (get_or pages page [])) made.all
            ∙ ap length (get_or-replicate (2 ^ arena.height) page (replicate PAGE_LEN 0) [] inside)
            ∙ length-replicate {A = ℕ} PAGE_LEN 0;
      };
      shelled = record {
        count = let none : length arena.lent ≡ 0 = ap length made.none in omega (arith, none, made.shelled);
        room = made.room;
      };
      adds_up = record { pages = omega arith; parted = omega arith };
    }
