-- What a slot's kept part says is what its whole list says.
use Rattle.std.proofs.Common.{◌≡◌, ℕ, suc, zero-add, ◌+◌, ◌-◌, ◌≤◌, nat_lt, List, [], ◌∷◌, ◌++◌, append_assoc, append-nil, length, length-append, is_some, slice_get, false, not, refl, ap, sym, ◌∙◌, arith}
use Rattle.std.proofs.lemmas.Bool.{le-ltb}
use Rattle.mq_queue.specs.declared.event.Event.{Event}
use Rattle.mq_queue.specs.Base.{event_from}
use Rattle.mq_queue.specs.Figures.{figures}
use Rattle.mq_queue.specs.Log.{is_removed}
use Rattle.mq_queue.specs.Room.{quota}
use Rattle.mq_queue.specs.Row.{is_live, made_count, row, slot_figures}
use Rattle.mq_queue.specs.Waiting.{waiting}
use Rattle.mq_queue.proofs.Bases.{goes_on, quota_on}
use Rattle.mq_table.specs.Kept.{KeptSlot, entries_of, is_live_kept, kept_figures, kept_of, live_from, made_of, places_now, quota_now, waiting_now}
use Rattle.mq_table.specs.KeptPart.{IsKeptPart, base_at, whole}
use Rattle.mq_table.specs.KeptShown.{is_free_now, last_id_now, next_id_now, row_now, standing_now}
use Rattle.mq_table.specs.Slot.{last_id, next_id}
use Rattle.mq_table.specs.SlotList.{is_free, live_log, standing}
use Rattle.mq_table.proofs.Logs.{begun, counted, ends_as}

-- after one event more a queue is there, unless that is a removal
pub live_more : (events : List Event) (e : Event) → is_live (events ++ e ∷ []) ≡ not (is_removed e)
live_more events e = rw (begun events e, ends_as events (e ∷ []) refl) refl

-- whether a queue is there, determined from some entries on
live_from_is : (gone rest : List Event) → live_from (is_live gone) rest ≡ is_live (gone ++ rest)
live_from_is gone [] = rw (append-nil gone) refl
live_from_is gone (e ∷ es) =
    ap (λ b. live_from b es) (sym (live_more gone e)) ∙ live_from_is (gone ++ e ∷ []) es
    ∙ ap is_live (append_assoc gone (e ∷ []) es)

base_there : (gone : List Event) → is_some (base_at gone) ≡ is_live gone
base_there gone = grind arith

-- the figures of a slot are those of the log that is there
figures_there : (list : List Event) → slot_figures list ≡ figures (live_log list)
figures_there list = grind arith

-- an element behind a list
pub behind : {X : Type 0} (xs ys : List X) (i : ℕ)
    → slice_get (xs ++ ys) (length xs + i) ≡ slice_get ys i
behind [] ys i = ap (slice_get ys) (zero-add i)
behind (x ∷ xs) ys i =
    let one : length (x ∷ xs) + i ≡ suc (length xs + i) = omega arith in
    rw one (behind xs ys i)

-- of the kept entries, those behind the ones of removed queues
pub event_behind : (first : ℕ) (past tail : List Event) (i : ℕ) → first ≤ i
    → length past ≤ i - first
    → slice_get tail (i - first - length past) ≡ event_from first (past ++ tail) i
event_behind first past tail i low far =
    let later : nat_lt i first ≡ false = le-ltb i first low in
    let place : i - first ≡ length past + (i - first - length past) = omega (arith, far) in
    rw later
    (sym (ap (slice_get (past ++ tail)) place ∙ behind past tail (i - first - length past)))

module _ {B : Type 0} (list : List Event) (s : KeptSlot B) (k : IsKeptPart list s) where
  -- whether a queue is there
  pub live_is : is_live_kept s ≡ is_live list
  live_is =
      rw (k.base, base_there k.gone, live_from_is k.gone (kept_of s)) (ap is_live (sym k.whole))

  -- the whole list's length, and its number of Made
  pub entries_is : entries_of s ≡ length list
  entries_is = omega (arith, k.first, ap length k.whole, length-append k.gone (kept_of s))

  pub made_is : made_of s ≡ made_count list
  made_is = omega (arith, k.made, ap made_count k.whole, counted k.gone (kept_of s))

  -- what the log of the queue that is there says
  pub waiting_is : waiting_now s ≡ waiting (live_log list)
  waiting_is = rw (k.log, k.based) (sym (goes_on k.before s.last k.opened).waits)

  pub quota_is : quota_now s ≡ quota (live_log list)
  quota_is = rw (k.log, k.based) (sym (quota_on k.before s.last k.opened.live))

  pub places_is : places_now s ≡ length (live_log list)
  places_is = rw (k.log, k.based) (sym (length-append k.before s.last))

  -- its figures, which are published
  pub figures_is : kept_figures s ≡ slot_figures list
  figures_is =
      rw (figures_there list, k.log, k.based) (sym (goes_on k.before s.last k.opened).shows)

  -- what became of an id, and whether a queue can be created
  pub standing_is : (seq : ℕ) → standing_now s seq ≡ standing list seq
  standing_is seq = rw (live_is, made_is) refl

  pub is_free_is : (last_seq : ℕ) → is_free_now last_seq s ≡ is_free last_seq list
  is_free_is last_seq = rw (live_is, made_is) refl

  -- what a report shows
  pub row_is : row_now s ≡ row list
  row_is = rw (live_is, made_is, k.keyed, figures_is) refl

  -- the ids of the slot's queues
  pub next_id_is : next_id_now s ≡ next_id (whole list s)
  next_id_is = rw made_is refl

  pub last_id_is : last_id_now s ≡ last_id (whole list s)
  last_id_is = rw made_is refl

-- a slot whose list has one event more
module _ {B : Type 0} (list : List Event) (s : KeptSlot B) (k : IsKeptPart list s)
    (e : Event) (t : KeptSlot B) (k' : IsKeptPart (list ++ e ∷ []) t) where
  -- its creations, and whether a queue is there
  pub made_more : made_of t ≡ made_of s + made_count (e ∷ [])
  made_more =
      omega (arith, made_is list s k, made_is (list ++ e ∷ []) t k', counted list (e ∷ []))

  pub there_more : is_live_kept t ≡ not (is_removed e)
  there_more = live_is (list ++ e ∷ []) t k' ∙ live_more list e
