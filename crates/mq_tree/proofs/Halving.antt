-- A block fits in an arena where it fits in its left half, or else in its right half.
use Rattle.std.proofs.Common.{◌≡◌, ℕ, ◌+◌, ◌-◌, ◌^◌, ◌<◌, ◌≤◌, suc, sym, ◌∙◌, arith, inl, inr, List, ◌++◌, Option, Some, None, length, length-append, subst}
use Rattle.std.specs.List.{All}
use Rattle.std.specs.Option.{option_map, option_or}
use Rattle.std.proofs.Math.ListN.{get_or-map, get_or-append}
use Rattle.std.proofs.lemmas.Bool.{cases_lt}
use Rattle.std.proofs.lemmas.List.{get_or-append-add, length-map}
use Rattle.std.proofs.lemmas.List.Elements.{All-append, All-map}
use Rattle.mq_tree.specs.Blocks.{PlainBlock, block, IsInArena, HasPage, moved_up}
use Rattle.mq_tree.specs.Fit.{fit, Fits, HasNoFit}
use Rattle.mq_tree.proofs.Powers.{pow_suc, mod_up, aligned_inside}
use Rattle.mq_tree.proofs.Fits.{fit_is, fit_from, no_fit_is, no_fit_from}

module _ (half : ℕ) (xs ys : List PlainBlock) (order : ℕ) (low : order ≤ half) (inside : All (IsInArena half) xs) where
  abbrev both : List PlainBlock
  both = xs ++ moved_up (2 ^ half) ys

  abbrev up : PlainBlock → PlainBlock
  up y = block (2 ^ half + y.start) y.order

  -- a block that fits in the left half fits in the whole
  fits_left : (start : ℕ) → Fits half xs order start → Fits (suc half) both order start
  fits_left start f = record {
    aligned = f.aligned;
    in_arena = omega (arith, f.in_arena, pow_suc half);
    free =
        λ page h. All-append (λ b. ¬ HasPage b page) xs (moved_up (2 ^ half) ys) (f.free page h)
        (All-map (λ b. ¬ HasPage b page) up ys (λ k d u g. omega (arith, g.from, h.below, f.in_arena)));
  }

  left_fits : (start : ℕ) → start < 2 ^ half → Fits (suc half) both order start → Fits half xs order start
  left_fits start l f = record {
    aligned = f.aligned;
    in_arena = aligned_inside order half start low l f.aligned;
    free =
        λ page h k d u. rw (get_or-append xs (moved_up (2 ^ half) ys) d k u)
        at (f.free page h k d (omega (arith, u, length-append xs (moved_up (2 ^ half) ys))));
  }

  -- and so does one that fits in the right half
  fits_right : (start : ℕ) → Fits half ys order start → Fits (suc half) both order (2 ^ half + start)
  fits_right start f = record {
    aligned = mod_up order half start low ∙ f.aligned;
    in_arena = omega (arith, f.in_arena, pow_suc half);
    free =
        λ page h. All-append (λ b. ¬ HasPage b page) xs (moved_up (2 ^ half) ys)
        (λ k d u g. omega (arith, inside k d u, g.below, h.from))
        (All-map (λ b. ¬ HasPage b page) up ys (λ k d u g.
        f.free (page - 2 ^ half) (record { from = omega (arith, h.from); below = omega (arith, h.from, h.below) }) k d u
        (record { from = omega (arith, g.from); below = omega (arith, h.from, g.below) })));
  }

  right_fits : (start : ℕ) → Fits (suc half) both order (2 ^ half + start) → Fits half ys order start
  right_fits start f = record {
    aligned = sym (mod_up order half start low) ∙ f.aligned;
    in_arena = omega (arith, f.in_arena, pow_suc half);
    free =
        λ page h k d u g.
        let there = f.free (2 ^ half + page) (record { from = omega (arith, h.from); below = omega (arith, h.below) }) (length xs + k) (up d)
        (omega (arith, u, length-append xs (moved_up (2 ^ half) ys), length-map ys up)) in
        (rw (get_or-append-add xs (moved_up (2 ^ half) ys) k (up d) ∙ get_or-map up ys k d) at there)
        (record { from = omega (arith, g.from); below = omega (arith, g.below) });
  }

  -- where none fits in the left half, each start in the whole is one in the right half
  in_halves : HasNoFit half xs order → (start : ℕ) → Fits (suc half) both order start → (2 ^ half ≤ start) × Fits half ys order (start - 2 ^ half)
  in_halves none start f = elim (cases_lt start (2 ^ half)) [
    | inl l ↦ absurd (none start (left_fits start l f))
    | inr l ↦ let e : start ≡ 2 ^ half + (start - 2 ^ half) = omega arith in (l, right_fits (start - 2 ^ half) (subst (Fits (suc half) both order) e f))
  ]

  -- the fit in the whole is that in the left half, or else that in the right half
  pub fit_halves : (o p : Option ℕ) → fit half xs order ≡ o → fit half ys order ≡ p → fit (suc half) (xs ++ moved_up (2 ^ half) ys) order ≡ option_or o (option_map (λ s. 2 ^ half + s) p)
  fit_halves (Some s) p e g =
      let i = fit_is half xs order s e in
      fit_from (suc half) both order s (record {
        fits = fits_left s i.fits;
        least = λ other f. elim (cases_lt other s) [ inl l ↦ i.least other (left_fits other (omega (arith, l, i.fits.in_arena)) f) | inr l ↦ l ];
      })
  fit_halves None (Some s) e g =
      let i = fit_is half ys order s g in
      fit_from (suc half) both order (2 ^ half + s) (record {
        fits = fits_right s i.fits;
        least = λ other f. let q = in_halves (no_fit_is half xs order e) other f in omega (arith, q.0, i.least (other - 2 ^ half) q.1);
      })
  fit_halves None None e g = no_fit_from (suc half) both order (λ start f. no_fit_is half ys order g (start - 2 ^ half) (in_halves (no_fit_is half xs order e) start f).1)
