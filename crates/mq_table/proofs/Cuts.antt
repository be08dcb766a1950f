-- What a drain returns is of the slot's whole list, of which the slot keeps the rest.
use Rattle.std.proofs.Common.{◌≡◌, inr, ℕ, ◌+◌, List, append-nil, length, length-append, take, drop, Some, None, Bool, true, false, if◌then◌else◌, refl, ap, sym, ◌∙◌, arith}
use Rattle.std.proofs.Math.Seq.{drop-append_seam, take-append_seam}
use Rattle.mq_queue.specs.declared.event.Event.{Event}
use Rattle.mq_queue.specs.Base.{base_after, base_of}
use Rattle.mq_queue.specs.LawfulFrom.{IsOpenLog}
use Rattle.mq_queue.specs.Row.{is_live, last_log, made_count}
use Rattle.mq_queue.proofs.Bases.{goes_on}
use Rattle.mq_table.specs.Cut.{IsCutOf, base_left, cut_of, kept_cuts}
use Rattle.mq_table.specs.Kept.{KeptSlot, base_now, kept_of}
use Rattle.mq_table.specs.KeptPart.{IsKeptPart, base_at}
use Rattle.mq_table.specs.SlotList.{IsSlotList, live_log}
use Rattle.mq_table.proofs.Grown.{log_there}
use Rattle.mq_table.proofs.Kepts.{entries_is, live_is, made_is}
use Rattle.mq_table.proofs.KeptTurns.{counts, fresh, none_open}

module _ {B : Type 0} (list : List Event) (s : KeptSlot B) (k : IsKeptPart list s) where
  -- what a drain of the slot returns is a drain of the list
  pub cut_is : IsCutOf list (cut_of s)
  cut_is =
      let front : take s.first list ≡ k.gone =
      rw k.first (ap (take (length k.gone)) k.whole ∙ take-append_seam k.gone (kept_of s)) in
      let rest : drop s.first list ≡ kept_of s =
      rw k.first (ap (drop (length k.gone)) k.whole ∙ drop-append_seam k.gone (kept_of s)) in
      let log : length (live_log list) ≡ length k.before + length s.last =
      ap length k.log ∙ length-append k.before s.last in
      let new = fresh list s k in record {
        within = omega (arith, k.first, ap length k.whole, length-append k.gone (kept_of s));
        entries = sym rest;
        made = k.made ∙ ap made_count (sym front);
        base = k.base ∙ ap base_at (sym front);
        past = omega (arith, new, log, counts list s k, k.first);
      }

  -- the base that a drain keeps
  base_is : base_left s ≡ base_at list
  base_is = rw (live_is list s k) (by (is_live list) refl)
    where
      by : (b : Bool) → is_live list ≡ b
          → (if b then Some (base_after (base_now s) s.last) else None)
          ≡ (if b then Some (base_of (last_log list)) else None)
      by true live =
          let log = rw live at k.log in
          rw (k.based, log) (ap Some (sym (goes_on k.before s.last k.opened).based))
      by false off = refl

  -- and after it the slot keeps no entry
  pub cut_kept : (last_seq : ℕ) → IsSlotList last_seq list → IsKeptPart list (kept_cuts s)
  cut_kept last_seq lawful = record {
    gone = list;
    before = live_log list;
    whole = sym (append-nil list);
    first = entries_is list s k;
    made = made_is list s k;
    base = base_is;
    log = sym (append-nil (live_log list));
    opened = opened (is_live list) refl;
    based = rw base_is (grind arith);
    keyed = k.keyed;
  }
    where
      opened : (b : Bool) → is_live list ≡ b → IsOpenLog (live_log list)
      opened true live =
          let there = log_there last_seq list lawful live in
          rw live (record { lawful = inr there.0; live = there.1 })
      opened false off = rw off none_open
