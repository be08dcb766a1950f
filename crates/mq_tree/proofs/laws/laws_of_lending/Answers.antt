use Rattle.mq_tree.proofs.Fits.{fit_is, fit_from, no_fit_is, no_fit_from}
use Rattle.mq_tree.proofs.FreePages.{free_sum, free_joined, free_left}
use Rattle.mq_tree.proofs.Kept.{left_fit, IsLentSet-joined, IsLentSet-left}
use Rattle.mq_tree.proofs.LawLemmas.{lent_apart, largest_fits, largest_most}
use Rattle.mq_tree.proofs.laws.laws_of_lending.Goals as goal

pub returns : goal.returns
returns c = record {
  fit_is_least = λ height lent order.
      (λ start. (fit_is height lent order start, fit_from height lent order start), (no_fit_is height lent order, no_fit_from height lent order));
  largest_fits = λ height lent. (largest_fits height lent, largest_most height lent);
  lent_set_is_apart = lent_apart;
  stays_lent_set = λ height lent.
      (λ order start found. (left_fit height lent order start found, IsLentSet-joined height lent order start found), λ b. IsLentSet-left height b lent);
  free_pages_add_up = λ height lent. (free_sum height lent, free_joined height lent, free_left height lent);
}
