-- Queues whose slots keep parts of the same lists, and what calls return in them.
use Rattle.std.proofs.Common.{◌≡◌, ℕ, ℤ, suc, zero, pos, ◌&&◌, nat_le, nat_lt, if◌then◌else◌, List}
use Rattle.std.proofs.Common.{[], ◌∷◌, length, get_or, set, Option, None, Some, Result, Ok, Err}
use Rattle.std.proofs.Common.{Bool, true, false, not, refl, rules, ap, sym, subst, ◌∙◌, arith}
use Rattle.std.specs.List.{AllZip, position_or_len}
use Rattle.std.specs.Ordering.{int_eq}
use Rattle.std.proofs.lemmas.Bool.{and_parts, leb-true, not-true}
use Rattle.std.proofs.lemmas.List.Elements.{length_all_zip}
use Rattle.std.proofs.lemmas.List.Quantifiers.{position-Some}
use Rattle.mq_tree.specs.LentSet.{Lending}
use Rattle.mq_arena.specs.Text.{PlainText}
use Rattle.mq_queue.specs.Row.{is_live, made_count}
use Rattle.mq_queue.specs.declared.event.Event.{Event}
use Rattle.mq_table.specs.Ids.{seq_of, slot_of}
use Rattle.mq_table.specs.Kept.{KeptSlot}
use Rattle.mq_table.specs.KeptCalls.{KeptTurn}
use Rattle.mq_table.specs.KeptShown.{is_free_now, standing_now}
use Rattle.mq_table.specs.Keys.{id_of_key}
use Rattle.mq_table.specs.SlotParts.{empty_kept}
use Rattle.mq_table.specs.SlotList.{IsSlotList, by_standing, is_free, standing}
use Rattle.mq_table.specs.declared.refusal.IdRefusal.{IdRefusal}
use Rattle.mq_table.proofs.Kepts.{is_free_is, standing_is}
use Rattle.mq_table.proofs.KeptTurns.{none_kept}
use Rattle.mq_calls.specs.declared.errno.Errno.TheVariants.{EINVAL}
use Rattle.mq_calls.specs.declared.results.GetFlags.{GetFlags}
use Rattle.mq_calls.specs.declared.results.Refused.{Refused}
use Rattle.mq_calls.specs.Get.{by_key, free_slot, made_in, makes_one, msgget}
use Rattle.mq_calls.specs.Look.{by_slot, in_queue, in_slot, look, once, refused_early}
use Rattle.mq_calls.specs.State.{QueuesState, slot_at, with_arena, with_slot}
use Rattle.mq_cli.proofs.AlikeSlots.{AreAlike, TurnAlike, entries_alike, free_alike, made_alike}
use Rattle.mq_cli.proofs.AlikeSlots.{next_id_alike, standing_alike}

-- lists of things that go together, one replaced in each
set_pairs : {X : Type 0} (R : X → X → Type 0) (xs ys : List X) (k : ℕ) (x y : X) → AllZip R xs ys
    → R x y
    → AllZip R (set xs k x) (set ys k y)
set_pairs R [] [] k x y all r = tt
set_pairs R (a ∷ xs) (b ∷ ys) zero x y all r = (r, all.1)
set_pairs R (a ∷ xs) (b ∷ ys) (suc k) x y all r = (all.0, set_pairs R xs ys k x y all.1 r)
set_pairs R _ _ _ x y all r = absurd all

-- one of each
pair_at : {X : Type 0} (R : X → X → Type 0) (xs ys : List X) (k : ℕ) (d : X) → AllZip R xs ys
    → R d d
    → R (get_or xs k d) (get_or ys k d)
pair_at R [] [] k d all r = r
pair_at R (a ∷ xs) (b ∷ ys) zero d all r = all.0
pair_at R (a ∷ xs) (b ∷ ys) (suc k) d all r = pair_at R xs ys k d all.1 r
pair_at R _ _ _ d all r = absurd all

-- a test that does not distinguish them first holds at the same place
first_place : {X : Type 0} (R : X → X → Type 0) (p : X → Bool) (xs ys : List X) → AllZip R xs ys
    → ((x y : X) → R x y → p x ≡ p y) → position_or_len p xs ≡ position_or_len p ys
first_place R p [] [] all same = refl
first_place R p (a ∷ xs) (b ∷ ys) all same = rw (same a b all.0, first_place R p xs ys all.1 same)
    refl
first_place R p _ _ all same = absurd all

-- both have allocated the same, know the same keys, and have slots that are alike
pub record AreLike (last_seq : ℕ) (s t : QueuesState) : Type 0 where
  pub arena : s.arena ≡ t.arena
  pub keys : s.keys ≡ t.keys
  pub one : s.last_seq ≡ last_seq
  pub other : t.last_seq ≡ last_seq
  pub slots : AllZip (AreAlike last_seq) s.slots t.slots

-- two results that are the same, and leave queues that are alike
abbrev pub AnswerAlike : {T E : Type 0} → ℕ → Result (T × QueuesState) E
    → Result (T × QueuesState) E → Type 0
AnswerAlike last_seq (Ok t) (Ok u) = (t.0 ≡ u.0) × AreLike last_seq t.1 u.1
AnswerAlike last_seq (Ok t) (Err e) = ⊥
AnswerAlike last_seq (Err e) (Ok u) = ⊥
AnswerAlike last_seq (Err d) (Err e) = d ≡ e

-- results by a test that has one value in both
pub if_like : {T E : Type 0} (last_seq : ℕ) (b : Bool) (x y u v : Result (T × QueuesState) E)
    → AnswerAlike last_seq x y → AnswerAlike last_seq u v
    → AnswerAlike last_seq (if b then x else u) (if b then y else v)
if_like last_seq true x y u v one other = one
if_like last_seq false x y u v one other = other

-- a slot list of no entry
none_listed : (last_seq : ℕ) → IsSlotList last_seq []
none_listed last_seq = record {
  logs = [];
  whole = refl;
  few = omega arith;
  lawful = (λ k d within. absurd (omega (arith, within)));
  ended = (λ k d within. absurd (omega (arith, within)));
}

pub empty_alike : (last_seq k : ℕ) → AreAlike last_seq (empty_kept k) (empty_kept k)
empty_alike last_seq k =
    let none = none_kept {B = PlainText} (empty_kept k) refl refl refl refl refl refl in
    search (rules, none_listed last_seq, none)

-- an id that is valid has a live queue
live_there : (list : List Event) (seq : ℕ) → by_standing (standing list seq) ≡ Ok tt
    → is_live list ≡ true
live_there list seq e = by (nat_le (made_count list) seq) (is_live list) refl refl
  where
    by : (never live : Bool) → nat_le (made_count list) seq ≡ never → is_live list ≡ live
        → is_live list ≡ true
    by true live is its = absurd (cc (e, is))
    by false true is its = its
    by false false is its = absurd (cc (e, is, its))

module _ (last_seq : ℕ) (s t : QueuesState) (k : AreLike last_seq s t) where
  pub slots_like : length s.slots ≡ length t.slots
  slots_like = length_all_zip (AreAlike last_seq) s.slots t.slots k.slots

  pub slot_like : (n : ℕ) → AreAlike last_seq (slot_at s n) (slot_at t n)
  slot_like n = pair_at (AreAlike last_seq) s.slots t.slots n (empty_kept n) k.slots
      (empty_alike last_seq n)

  pub with_arena_like : (a b : Lending) → a ≡ b → AreLike last_seq (with_arena s a) (with_arena t b)
  with_arena_like a b same = search (rules, same, k.keys, k.one, k.other, k.slots)

  pub with_slot_like : (n : ℕ) (a b : KeptSlot PlainText) → AreAlike last_seq a b
      → AreLike last_seq (with_slot s n a) (with_slot t n b)
  with_slot_like n a b alike =
      let slots = set_pairs (AreAlike last_seq) s.slots t.slots n a b k.slots alike in
      search (rules, k.arena, k.keys, k.one, k.other, slots)

  -- an id is looked up alike
  pub look_like : (id : ℕ) → look s id ≡ look t id
  look_like id =
      rw (slots_like, standing_alike last_seq _ _ (slot_like (slot_of id)) (seq_of id))
      (ap (λ r. if nat_lt (slot_of id) (length t.slots) then r else Err (refused_early EINVAL))
      (named (by_standing (standing_now (slot_at t (slot_of id)) (seq_of id)))))
    where
      named : (r : Result (Unit {0}) IdRefusal) → by_slot s id r ≡ by_slot t id r
      named (Ok u) = refl
      named (Err refusal) = rw (entries_alike last_seq _ _ (slot_like (slot_of id))) refl

  -- and one that is valid has a live queue
  pub look_live : (id : ℕ) → look s id ≡ Ok tt → is_live (slot_like (slot_of id)).list ≡ true
  look_live id e = by (nat_lt (slot_of id) (length s.slots)) refl
    where
      there : (r : Result (Unit {0}) IdRefusal) → by_slot s id r ≡ Ok tt → r ≡ Ok tt
      there (Ok u) is = refl
      there (Err refusal) is = absurd (cc is)

      by : (b : Bool) → nat_lt (slot_of id) (length s.slots) ≡ b
          → is_live (slot_like (slot_of id)).list ≡ true
      by true within =
          let alike = slot_like (slot_of id) in
          let shown = there (by_standing (standing_now (slot_at s (slot_of id)) (seq_of id)))
          (rw within at e) in
          live_there alike.list (seq_of id)
          (rw (standing_is alike.list _ alike.one (seq_of id)) at shown)
      by false within = absurd (cc (e, within))

  in_slot_like : {T : Type 0} (id : ℕ) (x y : KeptTurn PlainText T) → TurnAlike last_seq x y
      → AnswerAlike last_seq (in_slot s id x) (in_slot t id y)
  in_slot_like id (Ok x) (Ok y) same = (same.0, with_slot_like (slot_of id) x.1 y.1 same.1)
  in_slot_like id (Err d) (Err e) same =
      rw (same, entries_alike last_seq _ _ (slot_like (slot_of id))) refl
  in_slot_like id _ _ same = absurd same

  -- a call of an id's queue
  pub in_queue_like : {T : Type 0} (id : ℕ) (call : KeptSlot PlainText → KeptTurn PlainText T)
      → (is_live (slot_like (slot_of id)).list ≡ true → TurnAlike last_seq
      (call (slot_at s (slot_of id))) (call (slot_at t (slot_of id))))
      → AnswerAlike last_seq (in_queue s id call) (in_queue t id call)
  in_queue_like id call same = rw (← look_like id) (by (look s id) refl)
    where
      by : (r : Result (Unit {0}) Refused) → look s id ≡ r
          → AnswerAlike last_seq (once r (in_slot s id (call (slot_at s (slot_of id)))))
          (once r (in_slot t id (call (slot_at t (slot_of id)))))
      by (Ok u) is = in_slot_like id _ _ (same (look_live id is))
      by (Err refused) is = refl

  -- the first free slot
  free_slot_like : free_slot s ≡ free_slot t
  free_slot_like =
      rw (
        k.one,
        k.other,
        slots_like,
        first_place (AreAlike last_seq) (is_free_now last_seq) s.slots
            t.slots k.slots (free_alike last_seq),
      ) refl

  -- a queue is created in it
  made_in_like : (key : ℤ) (seat moment : ℕ) (place : Option ℕ) → free_slot s ≡ place
      → AnswerAlike last_seq (made_in s key seat moment place) (made_in t key seat moment place)
  made_in_like key seat moment None is = refl
  made_in_like key seat moment (Some n) is =
      let alike = slot_like n in
      let found = position-Some (λ slot. is_free_now s.last_seq slot) s.slots n (empty_kept n) is in
      let free : is_free last_seq alike.list ≡ true =
      sym (is_free_is alike.list (slot_at s n) alike.one last_seq) ∙ rw k.one at found.1 in
      let parts = and_parts (not (is_live alike.list)) (nat_le (made_count alike.list) last_seq)
      free in
      let made = made_alike last_seq _ _ alike key seat moment (not-true _ parts.0)
      (leb-true _ _ parts.1) in
      let placed = with_slot_like n _ _ made in (
        rw (next_id_alike last_seq _ _ alike, entries_alike last_seq _ _ alike) refl,
        record {
          arena = k.arena;
          keys = rw (next_id_alike last_seq _ _ alike, k.keys) refl;
          one = k.one;
          other = k.other;
          slots = placed.slots;
        },
      )

  makes_one_like : (key : ℤ) (seat moment : ℕ) → AnswerAlike last_seq (makes_one s key seat moment)
      (makes_one t key seat moment)
  makes_one_like key seat moment = rw (← free_slot_like)
      (made_in_like key seat moment (free_slot s) refl)

  by_key_like : (seat : ℕ) (key : ℤ) (flags : GetFlags) (moment : ℕ) (id : Option ℕ)
      → AnswerAlike last_seq (by_key s seat key flags moment id) (by_key t seat key flags moment id)
  by_key_like seat key flags moment (Some id) =
      if_like last_seq (flags.create && flags.exclusive) _ _ _ _ refl (refl, k)
  by_key_like seat key flags moment None =
      if_like last_seq flags.create _ _ _ _ (makes_one_like key seat moment) refl

  -- msgget
  pub msgget_like : (seat : ℕ) (key : ℤ) (flags : GetFlags) (moment : ℕ) → AnswerAlike last_seq
      (msgget s seat key flags moment) (msgget t seat key flags moment)
  msgget_like seat key flags moment =
      if_like last_seq (int_eq key (pos 0)) _ _ _ _ (makes_one_like key seat moment)
      (subst (λ keys. AnswerAlike last_seq (by_key s seat key flags moment (id_of_key s.keys key))
      (by_key t seat key flags moment (id_of_key keys key))) k.keys
      (by_key_like seat key flags moment (id_of_key s.keys key)))
