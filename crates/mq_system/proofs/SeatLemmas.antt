-- What a seat keeps when it learns and when it counts.
use Rattle.std.proofs.Common.{◌≡◌, ◌≢◌, ◌⊎◌, inl, inr, ℕ, zero, suc, ◌+◌, ◌*◌, ◌<◌, ◌≤◌, ◌==◌, true, false, Bool, List, All, slice_index, slice_index_or, slice_set, [], ◌∷◌, length, replicate, MatchBool, refl, ap, sym, ◌∙◌, arith}
use Rattle.std.specs.Prelude.{cond}
use Rattle.std.specs.List.{sum}
use Rattle.std.proofs.Common.{get_or-set_same, get_or-set_other, length-set}
use Rattle.std.proofs.lemmas.Bool.Decides.{eqb_tells}
use Rattle.std.proofs.lemmas.List.Elements.{All-head, All-tail}
use Rattle.std.proofs.lemmas.List.{get_or-map, length-map, map-set, set-get_or}
use Rattle.std.proofs.lemmas.List.Sums.{count_by-le-length, sum_by-append, sum_by-cons}
use Rattle.std.proofs.Math.Nat.{suc-mul}
use mathlib.Core.List.{IsPrefix}
use Rattle.mq_queue.specs.declared.event.Event.{Event}
use Rattle.mq_board.specs.Readers as reader
use Rattle.mq_board.specs.Readers.{ReaderState}
use Rattle.mq_system.specs.Fronts.{AreReaders, fronts_of}
use Rattle.mq_system.specs.Seat.{AreKnown, AreNext, IsLater, IsSeat, SeatState, events_by, front_of, seat_of}
use Rattle.mq_system.specs.declared.seat.TheConstants.{MAX_COUNT}
use Rattle.mq_system.proofs.LaterLemmas.{later_set}

-- counts sum to the greatest count each, at most
most : (counts : List ℕ) → All (λ count. count ≤ MAX_COUNT) counts
    → sum counts ≤ length counts * MAX_COUNT
most [] h = omega (arith)
most (c ∷ cs) h =
    omega (arith, All-head (λ count. count ≤ MAX_COUNT) c cs h, most cs (All-tail (λ count. count ≤ MAX_COUNT) c cs h), sum_by-cons (λ x. x) c cs, suc-mul (length cs) MAX_COUNT)

-- where one count can grow by so much, so can all together
pub room_left : (counts : List ℕ) (slot more : ℕ) → All (λ count. count ≤ MAX_COUNT) counts
    → slot < length counts → slice_index counts slot + more ≤ MAX_COUNT
    → sum counts + more ≤ length counts * MAX_COUNT
room_left [] slot more h low less = absurd (omega (arith, low))
room_left (c ∷ cs) zero more h low less =
    omega (arith, less, most cs (All-tail (λ count. count ≤ MAX_COUNT) c cs h), sum_by-cons (λ x. x) c cs, suc-mul (length cs) MAX_COUNT)
room_left (c ∷ cs) (suc k) more h low less =
    omega (arith, All-head (λ count. count ≤ MAX_COUNT) c cs h, room_left cs k more (All-tail (λ count. count ≤ MAX_COUNT) c cs h) (omega (arith, low)) less, sum_by-cons (λ x. x) c cs, suc-mul (length cs) MAX_COUNT)

-- counts of nothing are small, sum to 0, and are known
pub none_great : (n : ℕ) → All (λ count. count ≤ MAX_COUNT) (replicate n 0)
none_great zero k d less = absurd (omega (arith, less))
none_great (suc n) zero d less = omega arith
none_great (suc n) (suc k) d less = none_great n k d (omega (arith, less))

pub none_counted : (n : ℕ) → sum (replicate n 0) ≡ 0
none_counted zero = refl
none_counted (suc n) = omega (arith, sum_by-cons (λ x. x) 0 (replicate n 0), none_counted n)

pub none_known : (n slot : ℕ) → slice_index (replicate n 0) slot ≡ 0
none_known zero slot = refl
none_known (suc n) zero = refl
none_known (suc n) (suc k) = none_known n k

-- whether it is the seat's, as a number
abbrev one_by : ℕ → Event → ℕ
one_by seat e = cond (seat_of e == seat) 1 0

own_is_one : (seat : ℕ) (e : Event) → seat_of e ≡ seat → one_by seat e ≡ 1
own_is_one seat e own = by (eqb_tells (seat_of e) seat)
  where
    by : (((seat_of e == seat) ≡ true) × (seat_of e ≡ seat)) ⊎ (((seat_of e == seat) ≡ false) × (seat_of e ≢ seat))
        → one_by seat e ≡ 1
    by (inl p) = rw p.0 refl
    by (inr p) = absurd (p.1 own)

-- all of these are that seat's
all_own : (seat : ℕ) (es : List Event) → All (λ e. seat_of e ≡ seat) es
    → events_by seat es ≡ length es
all_own seat [] own = refl
all_own seat (e ∷ es) own =
    omega (arith, sum_by-cons (λ (x : Event). one_by seat x) e es, own_is_one seat e (All-head (λ x. seat_of x ≡ seat) e es own), all_own seat es (All-tail (λ x. seat_of x ≡ seat) e es own))

-- so there are so many more of them
pub events_more : (seat : ℕ) (old new : List Event) (more : ℕ) → AreNext seat old new more
    → events_by seat new ≡ events_by seat old + more
events_more seat old new more h =
    ap (events_by seat) h.next
    ∙ sum_by-append (λ (x : Event). one_by seat x) old h.events
    ∙ ap (λ n. events_by seat old + n) (all_own seat h.events h.own ∙ h.many)

-- a later list has no fewer events of a seat
events_kept : (seat : ℕ) (old new : List Event) → IsPrefix old new
    → events_by seat old ≤ events_by seat new
events_kept seat old new p =
    omega (arith, ap (events_by seat) p.1, sum_by-append (λ (x : Event). one_by seat x) old p.0)

module _ (slots number : ℕ) (fronts : List (List Event)) (by_slot : List ℕ) (slot : ℕ)
    (after : List Event) (inside : slot < length fronts)
    (known : AreKnown slots number fronts by_slot) where
  -- counts stay known once a front has grown
  pub known_set : IsPrefix (slice_index_or fronts slot []) after
      → AreKnown slots number (slice_set fronts slot after) by_slot
  known_set later k low = by (eqb_tells k slot)
    where
      by : (((k == slot) ≡ true) × (k ≡ slot)) ⊎ (((k == slot) ≡ false) × (k ≢ slot))
          → slice_index by_slot k ≤ events_by number (slice_index_or (slice_set fronts slot after) k [])
      by (inl p) =
          rw (p.1, get_or-set_same fronts slot after [] inside)
          (omega (arith, known slot (rw (← p.1) low), events_kept number (slice_index_or fronts slot []) after later))
      by (inr p) = rw (get_or-set_other fronts slot k after [] p.1) (known k low)

  -- and so they do where the seat made so many events more and counts them
  pub known_more : (count : ℕ) → slot < length by_slot
      → events_by number after ≡ events_by number (slice_index_or fronts slot []) + count
      → AreKnown slots number (slice_set fronts slot after)
      (slice_set by_slot slot (slice_index by_slot slot + count))
  known_more count there more k low = by (eqb_tells k slot)
    where
      by : (((k == slot) ≡ true) × (k ≡ slot)) ⊎ (((k == slot) ≡ false) × (k ≢ slot))
          → slice_index (slice_set by_slot slot (slice_index by_slot slot + count)) k
          ≤ events_by number (slice_index_or (slice_set fronts slot after) k [])
      by (inl p) =
          rw (p.1, get_or-set_same fronts slot after [] inside, get_or-set_same by_slot slot (slice_index by_slot slot + count) 0 there)
          (omega (arith, known slot (rw (← p.1) low), more))
      by (inr p) =
          rw (get_or-set_other fronts slot k after [] p.1, get_or-set_other by_slot slot k (slice_index by_slot slot + count) 0 p.1)
          (known k low)

-- a count that can grow by so much: its changes are in a list that is not too long
pub count_fits : (slots number : ℕ) (fronts : List (List Event)) (by_slot : List ℕ)
    (slot count : ℕ) (after : List Event) → AreKnown slots number fronts by_slot → slot < slots
    → AreNext number (slice_index_or fronts slot []) after count → length after ≤ MAX_COUNT
    → slice_index by_slot slot + count ≤ MAX_COUNT
count_fits slots number fronts by_slot slot count after known low next short =
    omega (arith, known slot low, short, events_more number (slice_index_or fronts slot []) after count next, count_by-le-length (λ (e : Event). seat_of e == number) after)

-- a seat with these readers
abbrev pub state : ℕ → List ℕ → List ReaderState → SeatState
state number by_slot readers =
    record { number = number; by_slot = by_slot; fronts = fronts_of readers }

-- a seat whose reader of one slot learned or read
module _ (seats slots number : ℕ) (readers : List ReaderState) (by_slot : List ℕ)
    (parts amount slot : ℕ) (before after : ReaderState) (low : slot < slots)
    (h : IsSeat seats slots number readers by_slot parts amount)
    (is : before ≡ slice_index_or readers slot before) (later : reader.HasSeenMore before after)
  where
    inside : slot < length readers
    inside = rw h.readers_each low

    inside_fronts : slot < length (fronts_of readers)
    inside_fronts = rw (length-map readers (λ (r : ReaderState). r.events)) inside

    -- the front of that slot before
    front_was : front_of (state number by_slot readers) slot ≡ before.events
    front_was =
        get_or-map (λ (r : ReaderState). r.events) readers slot before [] inside
        ∙ ap (λ (r : ReaderState). r.events) (sym is)

    -- the fronts now
    pub fronts_are : fronts_of (slice_set readers slot after)
        ≡ slice_set (fronts_of readers) slot after.events
    fronts_are = map-set (λ (r : ReaderState). r.events) readers slot after

    pub front_is : front_of (state number by_slot (slice_set readers slot after)) slot ≡ after.events
    front_is =
        ap (λ (fronts : List (List Event)). slice_index_or fronts slot []) fronts_are
        ∙ get_or-set_same (fronts_of readers) slot after.events [] inside_fronts

    pub others_are : fronts_of (slice_set readers slot after)
        ≡ slice_set (fronts_of readers) slot
        (front_of (state number by_slot (slice_set readers slot after)) slot)
    others_are = fronts_are ∙ ap (slice_set (fronts_of readers) slot) (sym front_is)

    grew : IsPrefix (front_of (state number by_slot readers) slot) after.events
    grew = rw front_was later.front

    placed : AreReaders number (slice_set readers slot after)
    placed k d less = by (eqb_tells k slot)
      where
        there : ((slice_index_or readers slot before).board ≡ slot)
            × ((slice_index_or readers slot before).place ≡ number)
        there = h.placed slot before inside

        by : (((k == slot) ≡ true) × (k ≡ slot)) ⊎ (((k == slot) ≡ false) × (k ≢ slot))
            → ((slice_index_or (slice_set readers slot after) k d).board ≡ k)
            × ((slice_index_or (slice_set readers slot after) k d).place ≡ number)
        by (inl p) =
            rw (p.1, get_or-set_same readers slot after d inside) (
              later.board ∙ ap (λ (r : ReaderState). r.board) is ∙ there.0,
              later.place ∙ ap (λ (r : ReaderState). r.place) is ∙ there.1,
            )
        by (inr p) =
            rw (get_or-set_other readers slot k after d p.1)
            (h.placed k d (rw (← length-set readers slot after) less))

    -- it is a seat
    pub seat_learned : IsSeat seats slots number (slice_set readers slot after) by_slot parts amount
    seat_learned = record {
      some = h.some;
      few = h.few;
      few_slots = h.few_slots;
      each = h.each;
      readers_each = length-set readers slot after ∙ h.readers_each;
      placed = placed;
      part = h.part;
      bounded = h.bounded;
      left = h.left;
      known =
          rw fronts_are
          (known_set slots number (fronts_of readers) by_slot slot after.events inside_fronts h.known grew);
    }

    -- and knows no less
    pub seat_later : IsLater (state number by_slot readers)
        (state number by_slot (slice_set readers slot after))
    seat_later =
        later_set (state number by_slot readers) (state number by_slot (slice_set readers slot after))
        slot after.events inside_fronts fronts_are grew

    -- what it learned
    pub seat_told : (events : List Event) (learned : Bool)
        → MatchBool learned ((after.events ≡ events) × (length before.events ≤ length events))
        ((after ≡ before) × (length events < length before.events))
        → MatchBool learned (front_of (state number by_slot (slice_set readers slot after)) slot ≡ events)
        ((state number by_slot (slice_set readers slot after) ≡ state number by_slot readers)
        × (length events < length (front_of (state number by_slot readers) slot)))
    seat_told events true (new, long) = front_is ∙ new
    seat_told events false (same, short) = (
      ap (state number by_slot) (ap (slice_set readers slot) (same ∙ is)
          ∙ set-get_or readers slot before),
      rw front_was short,
    )

    -- what it knows once it has counted changes of its own, too
    pub seat_noted : (events : List Event) (count : ℕ) → after.events ≡ events
        → AreNext number (front_of (state number by_slot readers) slot) events count
        → AreKnown slots number (fronts_of (slice_set readers slot after))
        (slice_set by_slot slot (slice_index by_slot slot + count))
    seat_noted events count told next =
        rw fronts_are
        (known_more slots number (fronts_of readers) by_slot slot after.events inside_fronts h.known
        count (rw h.each low)
        (ap (events_by number) told
        ∙ events_more number (front_of (state number by_slot readers) slot) events count next))
