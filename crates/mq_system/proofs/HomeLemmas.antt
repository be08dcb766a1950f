-- How the seats of a system are taken apart, and their readers returned, the last slot's first.
use Rattle.std.proofs.Common.{◌≡◌, ◌≢◌, ◌⊎◌, inl, inr, ℕ, zero, suc, ◌+◌, ◌-◌, ◌<◌, ◌≤◌, ◌==◌, true, false, List, [], ◌∷◌, ◌++◌, length, map, reverse, take, drop, slice_index_or, slice_set, refl, sym, ap, ◌∙◌, subst, arith, length-append}
use Rattle.std.specs.List.{All, AllPairs, Contains, sum_by}
use mathlib.Core.List.{IsPrefix}
use Rattle.std.proofs.Math.Seq.{get_or-append_seam, take-append_seam, take-length}
use Rattle.std.proofs.lemmas.Bool.Decides.{eqb_tells}
use Rattle.std.proofs.lemmas.List.{append-nil, append_assoc, get_or-map, get_or-reverse, get_or-set_other, get_or-set_same, get_or-take, length-map, length-reverse, length-set, length-take-le, reverse-append, take-append-drop, take-append-le}
use Rattle.std.proofs.lemmas.List.Elements.{All-cons}
use Rattle.mq_queue.specs.declared.event.Event.{Event}
use Rattle.mq_board.specs.Writers.{WriterState}
use Rattle.mq_system.specs.Fronts.{FrontsState}
use Rattle.mq_system.specs.Seat.{SeatState, counted_by, front_of, seat_of}
use Rattle.mq_system.specs.Closed.{AreCounted, AreDistinct, AreSeen, AreWithout, IsRecorded, IsWithout, known_by}
use Rattle.mq_system.proofs.StartLemmas.{Each}
use Rattle.mq_system.proofs.SumLemmas.{add_up}
use Rattle.mq_system.proofs.ClosedLemmas.{IsSeen}

-- of some seats the last were taken apart, the last first
pub record AreApart (slots : ℕ) (all seats : List SeatState) (fronts : List FrontsState)
    : Type 0 where
  pub gone : List SeatState
  pub whole : all ≡ seats ++ gone
  pub known : reverse fronts ≡ map known_by gone
  pub recorded : All (IsRecorded slots) gone

pub none_apart : (slots : ℕ) (all : List SeatState) (fronts : List FrontsState)
    → length fronts ≡ 0 → AreApart slots all all fronts
none_apart slots all [] none = record {
  gone = [];
  whole = sym (append-nil all);
  known = refl;
  recorded = λ k d low. absurd (omega (arith, low));
}
none_apart slots all (f ∷ fs) none = absurd (omega (arith, none))

pub one_apart : (slots : ℕ) (all seats left : List SeatState) (seat : SeatState)
    (fronts next : List FrontsState) → AreApart slots all seats fronts
    → seats ≡ left ++ seat ∷ [] → next ≡ fronts ++ known_by seat ∷ [] → IsRecorded slots seat
    → AreApart slots all left next
one_apart slots all seats left seat fronts next h is pushed recorded = record {
  gone = seat ∷ h.gone;
  whole = h.whole ∙ ap (λ s. s ++ h.gone) is ∙ append_assoc left (seat ∷ []) h.gone;
  known = ap reverse pushed ∙ reverse-append fronts (known_by seat ∷ [])
      ∙ ap (λ k. known_by seat ∷ k) h.known;
  recorded = All-cons (IsRecorded slots) seat h.gone recorded h.recorded;
}

-- the fronts of a seat that was taken apart
pub is_known : (f : FrontsState) (seat : SeatState) → f.place ≡ seat.number
    → f.fronts ≡ seat.fronts → f ≡ known_by seat
is_known f seat place fronts =
    ap (λ (n : ℕ). record { place = n; fronts = f.fronts }) place
    ∙ ap (λ (fs : List (List Event)). record { place = seat.number; fronts = fs }) fronts

-- each seat was
pub all_apart : (slots : ℕ) (all seats : List SeatState) (fronts : List FrontsState)
    → AreApart slots all seats fronts → seats ≡ []
    → (reverse fronts ≡ map known_by all) × All (IsRecorded slots) all
all_apart slots all seats fronts h none =
    let same : all ≡ h.gone = h.whole ∙ ap (λ s. s ++ h.gone) none in
    (h.known ∙ ap (map known_by) (sym same), subst (All (IsRecorded slots)) (sym same) h.recorded)

-- of the first fronts, so many, the last slot's were returned, and their places are in `home`
pub record AreHandedOut (events : List Event) (count : ℕ) (old new : List FrontsState)
    (home : List ℕ) : Type 0 where
  pub same : length new ≡ length old
  pub out : (k : ℕ) (d : FrontsState) → k < count
      → IsWithout events (slice_index_or old k d) (slice_index_or new k d)
  pub rest : (k : ℕ) (d : FrontsState) → count ≤ k
      → slice_index_or new k d ≡ slice_index_or old k d
  pub came : (k : ℕ) (d : FrontsState) → k < count → Contains home (slice_index_or old k d).place
  pub apart : (j k : ℕ) (d : FrontsState) → j < k → k < count
      → (slice_index_or old j d).place ≢ (slice_index_or old k d).place

pub none_out : (events : List Event) (fronts : List FrontsState) (home : List ℕ)
    → AreHandedOut events 0 fronts fronts home
none_out events fronts home = record {
  same = refl;
  out = λ k d low. absurd (omega (arith, low));
  rest = λ k d high. refl;
  came = λ k d low. absurd (omega (arith, low));
  apart = λ j k d less low. absurd (omega (arith, low));
}

-- an item is the same whatever stands where there is none
item : {A : Type 0} (xs : List A) (k : ℕ) (d e : A) → k < length xs
    → slice_index_or xs k d ≡ slice_index_or xs k e
item [] k d e low = absurd (omega (arith, low))
item (x ∷ xs) zero d e low = refl
item (x ∷ xs) (suc k) d e low = item xs k d e (omega (arith, low))

-- one more was returned
pub one_out : (events : List Event) (count place : ℕ) (old new : List FrontsState)
    (home later : List ℕ) (e has : FrontsState) (front : List Event)
    → AreHandedOut events count old new home → count < length old
    → (slice_index_or new count e).fronts ≡ has.fronts ++ front ∷ []
    → has.place ≡ (slice_index_or new count e).place
    → place ≡ (slice_index_or new count e).place → IsPrefix front events
    → ¬ Contains home place → Contains later place
    → ((place : ℕ) → Contains home place → Contains later place)
    → AreHandedOut events (count + 1) old (slice_set new count has) later
one_out events count place old new home later e has front h low fronts kept_place own seen away came kept =
    record {
      same = length-set new count has ∙ h.same;
      out = outs;
      rest = λ k d high. get_or-set_other new count k has d (λ q. absurd (omega (arith, q, high)))
          ∙ h.rest k d (omega (arith, high));
      came = homes;
      apart = aparts;
    }
  where
    was : (d : FrontsState) → slice_index_or old count d ≡ slice_index_or new count e
    was d =
        sym (h.rest count d (omega arith)) ∙ item new count d e (omega (arith, low, h.same))

    last : (d : FrontsState)
        → IsWithout events (slice_index_or old count d) (slice_index_or (slice_set new count has) count d)
    last d =
        rw (was d, get_or-set_same new count has d (omega (arith, low, h.same)))
        (record { front = front; seen = seen; place = kept_place; fronts = fronts })

    outs : (k : ℕ) (d : FrontsState) → k < count + 1
        → IsWithout events (slice_index_or old k d) (slice_index_or (slice_set new count has) k d)
    outs k d within = by (eqb_tells k count)
      where
        by : (((k == count) ≡ true) × (k ≡ count)) ⊎ (((k == count) ≡ false) × (k ≢ count))
            → IsWithout events (slice_index_or old k d) (slice_index_or (slice_set new count has) k d)
        by (inl p) = rw p.1 (last d)
        by (inr p) =
            rw (get_or-set_other new count k has d p.1)
            (h.out k d (omega (arith, within, p.1)))

    homes : (k : ℕ) (d : FrontsState) → k < count + 1
        → Contains later (slice_index_or old k d).place
    homes k d within = by (eqb_tells k count)
      where
        by : (((k == count) ≡ true) × (k ≡ count)) ⊎ (((k == count) ≡ false) × (k ≢ count))
            → Contains later (slice_index_or old k d).place
        by (inl p) = rw (p.1, was d, ← own) came
        by (inr p) = kept (slice_index_or old k d).place (h.came k d (omega (arith, within, p.1)))

    aparts : (j k : ℕ) (d : FrontsState) → j < k → k < count + 1
        → (slice_index_or old j d).place ≢ (slice_index_or old k d).place
    aparts j k d less within = by (eqb_tells k count)
      where
        by : (((k == count) ≡ true) × (k ≡ count)) ⊎ (((k == count) ≡ false) × (k ≢ count))
            → (slice_index_or old j d).place ≢ (slice_index_or old k d).place
        by (inl p) = λ q.
            let same : (slice_index_or old j d).place ≡ place =
            q ∙ ap (λ (i : ℕ). (slice_index_or old i d).place) p.1 ∙ ap (λ (f : FrontsState). f.place) (was d) ∙ sym own in
            away (subst (Contains home) same (h.came j d (omega (arith, less, p.1))))
        by (inr p) = h.apart j k d less (omega (arith, within, p.1))

-- of each seat's fronts those of the first slots are left, so many
pub record AreLeft (slots : ℕ) (seats : List SeatState) (fronts : List FrontsState)
    : Type 0 where
  pub count : length fronts ≡ length seats
  pub places : (k : ℕ) (d : SeatState) (e : FrontsState) → k < length seats
      → (slice_index_or fronts k e).place ≡ (slice_index_or seats k d).number
  pub known : (k : ℕ) (d : SeatState) (e : FrontsState) → k < length seats
      → (slice_index_or fronts k e).fronts ≡ take slots (slice_index_or seats k d).fronts

-- the seat and the fronts where there is none
nobody : SeatState
nobody = record { number = 0; by_slot = []; fronts = [] }

nowhere : FrontsState
nowhere = record { place = 0; fronts = [] }

-- at first all are
pub all_left : (slots : ℕ) (seats : List SeatState) (fronts : List FrontsState)
    → fronts ≡ map known_by seats → All (IsRecorded slots) seats → AreLeft slots seats fronts
all_left slots seats fronts is recorded = record {
  count = ap length is ∙ length-map seats known_by;
  places = λ k d e low. ap (λ (f : FrontsState). f.place) (at k d e low);
  known = λ k d e low. ap (λ (f : FrontsState). f.fronts) (at k d e low)
      ∙ sym (all_taken (slice_index_or seats k d).fronts (recorded k d low).fronts);
}
  where
    all_taken : (xs : List (List Event)) → length xs ≡ slots → take slots xs ≡ xs
    all_taken xs whole = ap (λ n. take n xs) (sym whole) ∙ take-length xs

    at : (k : ℕ) (d : SeatState) (e : FrontsState) → k < length seats
        → slice_index_or fronts k e ≡ known_by (slice_index_or seats k d)
    at k d e low = ap (λ (f : List FrontsState). slice_index_or f k e) is ∙ get_or-map known_by seats k d e low

-- the fronts that are left are those of so many slots
pub left_length : (slots count : ℕ) (seats : List SeatState) (fronts : List FrontsState)
    → AreLeft count seats fronts → All (IsRecorded slots) seats → count ≤ slots
    → All (λ f. length f.fronts ≡ count) fronts
left_length slots count seats fronts h recorded few k e low =
    let seat = slice_index_or seats k nobody in
    let within : k < length seats = omega (arith, low, h.count) in
    ap length (h.known k nobody e within)
    ∙ length-take-le count seat.fronts (omega (arith, few, (recorded k nobody within).fronts))

-- the last of the first items, and the others
taken_last : {A : Type 0} (n : ℕ) (xs ys : List A) (y d : A) → take (n + 1) xs ≡ ys ++ y ∷ []
    → n < length xs → (ys ≡ take n xs) × (slice_index_or xs n d ≡ y)
taken_last {A = A} n xs ys y d is low =
    let short : length ys ≡ n =
    omega (arith, ap length is, length-append ys (y ∷ []), length-take-le (n + 1) xs (omega (arith, low))) in
    let first : take n xs ≡ take n (take (n + 1) xs) =
    ap (take n) (sym (take-append-drop (n + 1) xs))
    ∙ take-append-le n (take (n + 1) xs) (drop (n + 1) xs) (omega (arith, length-take-le (n + 1) xs (omega (arith, low)))) in
    let others : take n (ys ++ y ∷ []) ≡ ys =
    ap (λ k. take k (ys ++ y ∷ [])) (sym short) ∙ take-append_seam ys (y ∷ []) in (
      sym (first ∙ ap (take n) is ∙ others),
      sym (get_or-take (n + 1) xs n d (omega arith)) ∙ ap (λ (l : List A). slice_index_or l n d) is
          ∙ ap (λ k. slice_index_or (ys ++ y ∷ []) k d) (sym short) ∙ get_or-append_seam ys y [] d,
    )

-- one slot fewer is left, and what each seat knew of it was a prefix of what happened there
pub record IsFewer (slot : ℕ) (events : List Event) (seats : List SeatState)
    (fronts : List FrontsState) : Type 0 where
  pub left : AreLeft slot seats fronts
  pub seen : All (λ s. IsPrefix (front_of s slot) events) seats

pub one_fewer : (slots slot : ℕ) (events : List Event) (seats : List SeatState)
    (old new : List FrontsState) → All (IsRecorded slots) seats → slot < slots
    → AreLeft (slot + 1) seats old → AreWithout events old new → IsFewer slot events seats new
one_fewer slots slot events seats old new recorded low h out = record {
  left = record {
    count = out.count ∙ h.count;
    places = λ k d e within. (gone k e within).place ∙ h.places k d e within;
    known = λ k d e within. (last k d e within).0;
  };
  seen = λ k d within. rw (last k d nowhere within).1 (gone k nowhere within).seen;
}
  where
    gone : (k : ℕ) (e : FrontsState) → k < length seats
        → IsWithout events (slice_index_or old k e) (slice_index_or new k e)
    gone k e within = out.each k e (omega (arith, within, h.count))

    last : (k : ℕ) (d : SeatState) (e : FrontsState) (within : k < length seats)
        → ((slice_index_or new k e).fronts ≡ take slot (slice_index_or seats k d).fronts)
        × (front_of (slice_index_or seats k d) slot ≡ (gone k e within).front)
    last k d e within =
        taken_last slot (slice_index_or seats k d).fronts (slice_index_or new k e).fronts
        (gone k e within).front []
        (sym (h.known k d e within) ∙ (gone k e within).fronts)
        (omega (arith, low, (recorded k d within).fronts))

-- readers that were returned have different places, and so their seats different numbers
pub all_distinct : (slots : ℕ) (seats : List SeatState) (fronts : List FrontsState)
    → AreLeft slots seats fronts → AllPairs (λ f g. f.place ≢ g.place) fronts → AreDistinct seats
all_distinct slots seats fronts h apart j k d less low = λ e.
    apart j k nowhere less (omega (arith, low, h.count))
    (h.places j d nowhere (omega (arith, less, low)) ∙ e ∙ sym (h.places k d nowhere low))

-- what each seat knew of the lists, in the order of their slots
pub all_seen : (slots : ℕ) (seats : List SeatState) (lists : List (List Event))
    → length lists ≡ slots → Each (IsSeen slots seats) lists → AreSeen seats (reverse lists)
all_seen slots seats lists count each seat slot d e low within =
    let inside : slot < length lists = omega (arith, within, length-reverse lists) in
    let back = length lists - 1 - slot in
    let same : slots - 1 - back ≡ slot = omega (arith, inside, count) in
    let known : IsPrefix (front_of (slice_index_or seats seat d) (slots - 1 - back)) (slice_index_or lists back e) =
    each back e (omega (arith, inside)) seat d low in
    let Prefix : ℕ → Type 0 = λ j. IsPrefix (front_of (slice_index_or seats seat d) j) (slice_index_or lists back e) in
    rw (get_or-reverse lists slot e inside) (subst Prefix same known)

-- in each slot happened what the seats count there
pub all_counted : (slots : ℕ) (seats : List SeatState) (lists : List (List Event))
    → length lists ≡ slots → All (IsRecorded slots) seats → AreDistinct seats
    → AreSeen seats lists → sum_by length lists ≡ counted_by seats → AreCounted seats lists
all_counted slots seats lists count recorded distinct seen total slot d low =
    ap length (item lists slot d [] low)
    ∙ add_up seat_of (λ s. s.number) (λ s. s.by_slot) (λ s. s.fronts) slots seats lists
    count
    (λ k e within. (recorded k e within).each)
    apart
    (λ k e within. (recorded k e within).known)
    prefixes
    total
    slot (omega (arith, low, count))
  where
    apart : AllPairs (λ p q. p ≢ q) (map (λ (s : SeatState). s.number) seats)
    apart i j n less within =
        let inside : j < length seats = omega (arith, within, length-map seats (λ (s : SeatState). s.number)) in
        rw (
          get_or-map (λ (s : SeatState). s.number) seats i nobody n (omega (arith, less, inside)),
          get_or-map (λ (s : SeatState). s.number) seats j nobody n inside,
        )
        (distinct i j nobody less inside)

    prefixes : All (λ (s : SeatState). (k : ℕ) → k < slots
        → IsPrefix (slice_index_or s.fronts k []) (slice_index_or lists k [])) seats
    prefixes i e within k below = seen i k e [] within (omega (arith, below, count))

-- a writer that took one reader back after the other stays as it was but for these
pub back_again : (a b c : WriterState) → b ≡ record a { home = b.home }
    → c ≡ record b { home = c.home } → c ≡ record a { home = c.home }
back_again a b c first second = second ∙ ap (λ (w : WriterState). record w { home = c.home }) first
