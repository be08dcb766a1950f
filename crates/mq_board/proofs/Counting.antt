-- The steps of a history keep its invariant, and do what they state.
use Rattle.std.proofs.Common.{◌≡◌, ℕ, ◌<◌, ◌==◌, Bool, true, false, List, [], ◌∷◌, ◌++◌, length, slice_set, refl, ap, sym, ◌∙◌, subst, arith, inl, None}
use Rattle.std.proofs.lemmas.Bool.Decides.{nat_tests}
use Rattle.std.proofs.lemmas.List.{append-nil, get_or-set_same, length-set}
use Rattle.std.proofs.lemmas.List.Concat.{flat_map-append}
use mathlib.Core.List.{IsPrefix}
use prog.Atomic.{either}
use Rattle.logbook.specs.Pages.{Cell, Moves, Goes, cell, keeps, no_nib, step}
use Rattle.mq_queue.specs.declared.event.Event.{Event}
use Rattle.mq_board.specs.Histories.{IsCounted, Adds, LearnsAll, events_of}
use Rattle.mq_board.proofs.Fronts.{prefix_whole}

abbrev pub shown : List (List Event) → List (List Event)
shown log = []

abbrev pub moved : List (List Event) → List (List Event) → ℕ → Type 0
moved xs ys n = Unit {0}

-- one batch more
events_push : (log : List (List Event)) (batch : List Event)
    → events_of (log ++ batch ∷ []) ≡ events_of log ++ batch
events_push log batch =
    flat_map-append (λ (b : List Event). b) log (batch ∷ [])
    ∙ ap (λ (es : List Event). events_of log ++ es) (append-nil batch)

-- a log that begins another has the first of its events
pub events_prefix : (v log : List (List Event)) → IsPrefix v log
    → IsPrefix (events_of v) (events_of log)
events_prefix v log pre = (
  events_of pre.0,
  sym (flat_map-append (λ (b : List Event). b) v pre.0) ∙ ap (λ l. events_of l) pre.1,
)

-- a new history
pub kept_first : IsCounted ((0, true) ∷ (0, true) ∷ []) []
kept_first = record { inside = omega arith; head = refl }

-- the word says how many events there are
kept_set : (cs : List Cell) (n : ℕ) (log : List (List Event)) → 0 < length cs
    → n ≡ length (events_of log) → IsCounted (slice_set cs 0 (n, true)) log
kept_set cs n log inside is = record {
  inside = omega (arith, length-set cs 0 (n, true), inside);
  head = get_or-set_same cs 0 (n, true) (0, false) inside ∙ ap (λ (k : ℕ). (k, true)) is;
}

counted : (cs : List Cell) (log : List (List Event)) → IsCounted cs log
    → (cell cs 0).0 ≡ length (events_of log)
counted cs log kept = ap (λ (c : Cell). c.0) kept.head

-- no event was added
counted_still : (cs : List Cell) (log : List (List Event)) → IsCounted cs log
    → (cell cs 0).0 ≡ length (events_of (log ++ []))
counted_still cs log kept =
    counted cs log kept ∙ ap (λ (l : List (List Event)). length (events_of l)) (sym (append-nil log))

adds_goes : (cs : List Cell) (v log : List (List Event)) (ask : List Event) (n m : ℕ)
    → IsCounted cs log → IsPrefix v log → n ≡ length (events_of v)
    → m ≡ length (events_of v ++ ask) → (b : Bool) → ((cell cs 0).0 == n) ≡ b
    → Goes IsCounted shown moved 0 (v, (no_nib, None)) (λ k. either (k == n) m k)
    (Adds (step 0 n m ask) (v, (no_nib, None))) cs log
adds_goes cs v log ask n m kept pre count next true is =
    let found : (cell cs 0).0 ≡ n = grind (arith, nat_tests, is) in
    let long : length (events_of log) ≡ n = sym (counted cs log kept) ∙ found in
    let all : events_of v ≡ events_of log =
    prefix_whole (events_of v) (events_of log) (events_prefix v log pre) (omega (arith, long, count)) in
    let word : either ((cell cs 0).0 == n) m (cell cs 0).0 ≡ m = rw is refl in
    let more : events_of (log ++ ask ∷ []) ≡ events_of v ++ ask =
    events_push log ask ∙ ap (λ (es : List Event). es ++ ask) (sym all) in
    let P : ℕ → Type 0 = λ k. IsCounted (slice_set cs 0 (k, true)) (log ++ ask ∷ []) in (
      keeps,
      ask ∷ [],
      None,
      tt,
      subst P (sym word) (kept_set cs m (log ++ ask ∷ []) kept.inside
          (next ∙ ap (λ (es : List Event). length es) (sym more))),
      inl (refl, refl),
      λ _ _. more,
    )
adds_goes cs v log ask n m kept pre count next false is =
    let word : either ((cell cs 0).0 == n) m (cell cs 0).0 ≡ (cell cs 0).0 = rw is refl in
    let P : ℕ → Type 0 = λ k. IsCounted (slice_set cs 0 (k, true)) (log ++ []) in (
      keeps,
      [],
      None,
      tt,
      subst P (sym word) (kept_set cs (cell cs 0).0 (log ++ []) kept.inside (counted_still cs log kept)),
      inl (refl, refl),
      λ _ found. absurd (grind (arith, nat_tests, is, found)),
    )

-- a step whose view has as many events as there are has them all, and appends a batch
pub adds_moves : (v : List (List Event)) (ask : List Event) (n m : ℕ) → n ≡ length (events_of v)
    → m ≡ length (events_of v ++ ask)
    → Moves IsCounted shown moved 0 (v, (no_nib, None)) (λ k. either (k == n) m k)
    (Adds (step 0 n m ask) (v, (no_nib, None)))
adds_moves v ask n m count next cs log kept pre away = (
  kept.inside,
  ap (λ (c : Cell). c.1) kept.head,
  adds_goes cs v log ask n m kept pre count next ((cell cs 0).0 == n) refl,
)

-- a step that reads the word gets all events in its view
pub learns_moves : (v : List (List Event)) (ask : List Event)
    → Moves IsCounted shown moved 0 (v, (no_nib, None)) (λ k. k)
    (LearnsAll (step 0 0 0 ask) (v, (no_nib, None)))
learns_moves v ask cs log kept pre away = (
  kept.inside,
  ap (λ (c : Cell). c.1) kept.head,
  (
    keeps,
    [],
    None,
    tt,
    kept_set cs (cell cs 0).0 (log ++ []) kept.inside (counted_still cs log kept),
    inl (refl, refl),
    counted_still cs log kept,
  ),
)
