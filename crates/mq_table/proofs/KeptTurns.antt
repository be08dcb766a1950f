-- The calls of a slot by its kept part are those of the whole slot, of which the rest is kept.
use Rattle.std.proofs.Common.{◌≡◌, ◌⊎◌, ℕ, ℤ, pos, ◌+◌, List, [], ◌∷◌, ◌++◌, append_assoc, append-nil, length, length-append, Option, None, true, false, not, inl, refl, ap, sym, ◌∙◌, arith}
use Rattle.std.proofs.lemmas.List.Sums.{fold-append}
use Rattle.mq_message.specs.declared.message.Message.{Message}
use Rattle.mq_queue.specs.declared.base.Base.{Base}
use Rattle.mq_queue.specs.declared.event.Event.{Event}
use Rattle.mq_queue.specs.declared.event.Event.TheVariants as event
use Rattle.mq_queue.specs.Base.{base_of}
use Rattle.mq_queue.specs.LawfulFrom.{IsOpenLog}
use Rattle.mq_queue.specs.Log.{is_made, is_removed, key_told}
use Rattle.mq_queue.specs.Room.{quota}
use Rattle.mq_queue.specs.Row.{is_live, last_log}
use Rattle.mq_queue.specs.Waiting.{waiting}
use Rattle.mq_table.specs.Kept.{KeptSlot, base_now, kept_of, places_now, queue_base, quota_now, waiting_now}
use Rattle.mq_table.specs.KeptCalls.{kept_goes_on, kept_makes, kept_removes}
use Rattle.mq_table.specs.KeptPart.{IsKeptPart}
use Rattle.mq_table.proofs.Kepts.{live_more, places_is, quota_is, waiting_is}
use Rattle.mq_table.proofs.Stays.{grows}

-- no event was drained of a log that is not there
pub none_before : (before last : List Event) → before ++ last ≡ [] → (before ≡ []) × (last ≡ [])
none_before [] last none = (refl, none)
none_before (e ∷ es) last none = cc

pub none_open : IsOpenLog []
none_open = record { lawful = inl refl; live = refl }

-- where an entry of a removed queue is kept, nothing was drained of the next one's log
pub base_behind : (base : Option Base) (past : List Event) (e : Event)
    → queue_base base (past ++ e ∷ []) ≡ base_of []
base_behind base [] e = refl
base_behind base (p ∷ ps) e = refl

-- a slot in which nothing happened
pub none_kept : {B : Type 0} (s : KeptSlot B) → s.first ≡ 0 → s.made ≡ 0 → s.base ≡ None
    → s.key ≡ pos 0 → s.past ≡ [] → s.last ≡ [] → IsKeptPart [] s
none_kept s first made base key past last = record {
  gone = [];
  before = [];
  whole = sym (ap (λ l. l ++ s.last) past ∙ last);
  first = first;
  made = made;
  base = base;
  log = sym last;
  opened = none_open;
  based = rw (past, base) refl;
  keyed = key;
}

module _ {B : Type 0} (list : List Event) (s : KeptSlot B) (k : IsKeptPart list s) where
  -- where an entry of a removed queue is kept, nothing was drained of the next one's log
  pub fresh : (length s.past ≡ 0) ⊎ (length k.before ≡ 0)
  fresh = let places = ap (λ (b : Base). b.places) k.based in grind (arith, places)

  pub counts : length list ≡ length k.gone + (length s.past + length s.last)
  counts =
      ap length k.whole ∙ length-append k.gone (kept_of s)
      ∙ ap (λ n. length k.gone + n) (length-append s.past s.last)

  -- where no queue is, no event of it is, and the base is that of no event
  none_there : is_live list ≡ false → (k.before ≡ []) × (s.last ≡ [])
  none_there off = none_before k.before s.last (sym k.log ∙ rw off refl)

  pub no_base : is_live list ≡ false → base_now s ≡ base_of []
  no_base off = k.based ∙ ap base_of (none_there off).0

  -- msgget: a queue is created where none is
  pub makes_kept : (key : ℤ) (seat moment : ℕ) → is_live list ≡ false
      → IsKeptPart (list ++ event.Made seat moment key ∷ []) (kept_makes s key seat moment)
  makes_kept key seat moment off =
      let e : Event = event.Made seat moment key in
      let live : is_live (list ++ e ∷ []) ≡ true = live_more list e in
      let log : last_log (list ++ e ∷ []) ≡ e ∷ [] = rw fold-append refl in record {
        gone = k.gone;
        before = [];
        whole = ap (λ l. l ++ e ∷ []) k.whole ∙ simp ((none_there off).1, append-nil, append_assoc);
        first = k.first;
        made = k.made;
        base = k.base;
        log = rw live log;
        opened = none_open;
        based = no_base off;
        keyed = rw (live, log) refl;
      }

  module _ (live : is_live list ≡ true) where
    -- what the last log of the list says
    pub waits_last : waiting_now s ≡ waiting (last_log list)
    waits_last = waiting_is list s k ∙ rw live refl

    pub quota_last : quota_now s ≡ quota (last_log list)
    quota_last = quota_is list s k ∙ rw live refl

    pub places_last : places_now s ≡ length (last_log list)
    places_last = places_is list s k ∙ rw live refl

    -- one event more that is neither a creation nor a removal
    pub kept_more : (e : Event) (messages : List (ℕ × Message B)) → is_made e ≡ false
        → is_removed e ≡ false → key_told e ≡ None
        → IsKeptPart (list ++ e ∷ []) (kept_goes_on s e messages)
    kept_more e messages unmade stays untold =
        let there : is_live (list ++ e ∷ []) ≡ true = live_more list e ∙ ap not stays in
        let log = rw live at k.log in record {
          gone = k.gone;
          before = k.before;
          whole = ap (λ l. l ++ e ∷ []) k.whole ∙ simp append_assoc;
          first = k.first;
          made = k.made;
          base = k.base;
          log = rw (there, grows list e unmade, log) (append_assoc k.before s.last (e ∷ []));
          opened = k.opened;
          based = k.based;
          keyed = k.keyed ∙ rw (there, live, grows list e unmade, fold-append, untold) refl;
        }

    -- IPC_RMID
    pub removes_kept : (seat moment : ℕ)
        → IsKeptPart (list ++ event.Removed seat moment ∷ []) (kept_removes s seat moment)
    removes_kept seat moment =
        let e : Event = event.Removed seat moment in
        let off : is_live (list ++ e ∷ []) ≡ false = live_more list e in record {
          gone = k.gone;
          before = [];
          whole = ap (λ l. l ++ e ∷ []) k.whole ∙ simp (append_assoc, append-nil);
          first = k.first;
          made = k.made;
          base = k.base;
          log = rw off refl;
          opened = none_open;
          based = base_behind s.base (s.past ++ s.last) e;
          keyed = rw off refl;
        }
