-- The entries of a slot's list that its board lacks.
use Rattle.std.proofs.Common.{◌≡◌, ℕ, ◌+◌, ◌-◌, ◌≤◌, true, List, [], ◌∷◌, ◌++◌, drop, length, length-append, append_assoc, append-nil, refl, ap, sym, ◌∙◌, arith, subst, All}
use Rattle.std.proofs.lemmas.List.{append_cancel_left, drop_at}
use Rattle.std.proofs.lemmas.List.Elements.{All-push}
use Rattle.std.proofs.Math.Seq.{drop-append-add}
use Rattle.mq_queue.specs.declared.event.Event.{Event}
use Rattle.mq_queue.specs.Row.{is_live}
use Rattle.mq_table.specs.Kept.{KeptSlot, kept_of}
use Rattle.mq_table.specs.KeptPart.{IsKeptPart}
use Rattle.mq_arena.specs.Text.{PlainText}
use Rattle.mq_board.specs.Writers.{WriterState}
use Rattle.mq_system.specs.Pledge.{Pledged}
use Rattle.mq_system.specs.Seat.{AreNext, IsNext, seat_of}
use Rattle.mq_system.specs.Shared.{IsBehind, IsShared, all_events, unpublished}

-- a list of a slot, of which a beginning that has all drained entries is published
module _ {B : Type 0} (list published more : List Event) (slot : KeptSlot B)
    (k : IsKeptPart list slot) (is : list ≡ published ++ more)
    (low : slot.first ≤ length published) where
  pub rest_is : unpublished (length published) slot ≡ more
  rest_is =
      let n : ℕ = length published - slot.first in
      let far : length published ≡ length k.gone + n = omega (arith, low, k.first) in
      sym (drop-append-add k.gone (kept_of slot) n)
      ∙ ap (λ (i : ℕ). drop i (k.gone ++ kept_of slot)) (sym far)
      ∙ ap (drop (length published)) (sym k.whole ∙ is)
      ∙ drop_at published more (length published) refl

  pub all_is : all_events published slot ≡ list
  all_is = ap (λ (es : List Event). published ++ es) rest_is ∙ sym is

-- all of a slot's list is published
module _ {B : Type 0} (published : List Event) (slot : KeptSlot B) (k : IsKeptPart published slot)
  where
    pub first_low : slot.first ≤ length published
    first_low = omega (arith, k.first, ap length k.whole, length-append k.gone (kept_of slot))

    pub rest_none : unpublished (length published) slot ≡ []
    rest_none = rest_is published published [] slot k (sym (append-nil published)) first_low

    pub all_published : all_events published slot ≡ published
    all_published = all_is published published [] slot k (sym (append-nil published)) first_low

pub none_own : (seat : ℕ) → All (λ e. seat_of e ≡ seat) []
none_own seat k d low = absurd (omega (arith, low))

-- a slot whose board has all of its list lacks nothing
pub behind_none : (kept : Pledged) (slots last_seq seat : ℕ) (writer : WriterState)
    (slot : KeptSlot PlainText) (parts amount : ℕ)
    → IsShared kept slots last_seq writer.board writer.events writer.pending slot parts amount
    → IsBehind kept slots last_seq seat writer slot parts amount
behind_none kept slots last_seq seat writer slot parts amount h =
    let none = rest_none writer.events slot h.published.kept in
    let all = all_published writer.events slot h.published.kept in
    let same : amount ≡ amount + length (unpublished (length writer.events) slot) =
    omega (arith, ap length none) in
    record {
      shared =
          rw all
          (subst (λ (n : ℕ).
          IsShared kept slots last_seq writer.board writer.events writer.pending slot parts n)
          same h);
      first = first_low writer.events slot h.published.kept;
      own = rw none (none_own seat);
      live = λ some. absurd (omega (arith, some, ap length none));
    }

-- one entry more, which is not published yet
module _ (kept : Pledged) (slots last_seq seat : ℕ) (writer : WriterState)
    (s t : KeptSlot PlainText) (parts amount : ℕ)
    (h : IsBehind kept slots last_seq seat writer s parts amount) (e : Event)
    (now : IsShared kept slots last_seq writer.board (all_events writer.events s ++ e ∷ []) [] t
    parts (amount + length (unpublished (length writer.events) s) + 1))
    (first : t.first ≡ s.first) (own : seat_of e ≡ seat)
    (live : is_live (all_events writer.events s ++ e ∷ []) ≡ true)
  where
    abbrev rest : List Event
    rest = unpublished (length writer.events) s

    list : all_events writer.events s ++ e ∷ [] ≡ writer.events ++ (rest ++ e ∷ [])
    list = append_assoc writer.events rest (e ∷ [])

    low : t.first ≤ length writer.events
    low = omega (arith, first, h.first)

    pub rest_next : unpublished (length writer.events) t ≡ rest ++ e ∷ []
    rest_next =
        rest_is (all_events writer.events s ++ e ∷ []) writer.events (rest ++ e ∷ []) t
        now.published.kept list low

    pub all_next : all_events writer.events t ≡ all_events writer.events s ++ e ∷ []
    all_next =
        all_is (all_events writer.events s ++ e ∷ []) writer.events (rest ++ e ∷ []) t
        now.published.kept list low

    pub behind_next : IsBehind kept slots last_seq seat writer t parts amount
    behind_next = record {
      shared = record {
        published = record {
          numbered = now.published.numbered;
          kept = rw all_next now.published.kept;
          none = h.shared.published.none;
        };
        within = now.within;
        lawful = rw all_next now.lawful;
        pledged = now.pledged;
        part = now.part;
        noted =
            omega (arith, now.noted, ap length rest_next, length-append rest (e ∷ []), ap length all_next);
      };
      first = low;
      own = rw rest_next (All-push (λ x. seat_of x ≡ seat) rest e h.own own);
      live = λ some. rw all_next live;
    }

    pub is_next : IsNext seat (all_events writer.events s) (all_events writer.events t)
    is_next = record { event = e; own = own; next = all_next }

-- what is behind, once it is published and noted
module _ (kept : Pledged) (slots last_seq seat : ℕ) (writer : WriterState)
    (slot : KeptSlot PlainText) (parts amount : ℕ)
    (h : IsBehind kept slots last_seq seat writer slot parts amount) where
  pub are_next : (front : List Event) (count : ℕ) → front ≡ writer.events
      → length (unpublished (length writer.events) slot) ≡ count
      → AreNext seat front (all_events writer.events slot) count
  are_next front count known many = record {
    events = unpublished (length writer.events) slot;
    own = h.own;
    next =
        ap (λ (es : List Event). es ++ unpublished (length writer.events) slot) (sym known);
    many = many;
  }

-- one entry is behind where the list has one more than what is published
pub one_behind : {B : Type 0} (seat : ℕ) (published : List Event) (slot : KeptSlot B)
    → IsNext seat published (all_events published slot)
    → length (unpublished (length published) slot) ≡ 1
one_behind seat published slot next =
    ap length (append_cancel_left published (unpublished (length published) slot) (next.event ∷ []) next.next)

-- and none where it has as many
pub none_behind : {B : Type 0} (published : List Event) (slot : KeptSlot B)
    → length (all_events published slot) ≡ length published
    → unpublished (length published) slot ≡ []
none_behind published slot same =
    nil (unpublished (length published) slot)
    (omega (arith, same, length-append published (unpublished (length published) slot)))
  where
    nil : (es : List Event) → length es ≡ 0 → es ≡ []
    nil [] none = refl
    nil (e ∷ es) none = absurd (omega (arith, none))
