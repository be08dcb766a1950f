-- What a change of one slot keeps.
use Rattle.std.proofs.Common.{◌≡◌, ◌≢◌, ◌⊎◌, ◌↔◌, inl, inr, ℕ, ℤ, pos, suc, ◌+◌, ◌*◌, ◌-◌, ◌<◌, ◌≤◌, ◌==◌, Bool, true, false, not, if◌then◌else◌, None, Some, is_some, List, [], ◌∷◌, ◌++◌, length, get_or, set, take, drop, refl, ap, sym, subst, ◌∙◌, true≢false, arith, length-set, get_or-set_same, get_or-set_other, drop-cons, take-append-drop, Any, Contains, filter}
use Rattle.std.specs.Ordering.{int_eq}
use Rattle.std.proofs.lemmas.List.{get_or_default}
use Rattle.std.proofs.lemmas.List.Elements.{All-contains, All-contains_itself, All-filter, All-set, Contains-append_left, Contains-append_right, Contains-push, Contains-push_cases, filter-append, filter_passes}
use Rattle.std.proofs.lemmas.List.Quantifiers.{any-set}
use Rattle.std.proofs.lemmas.Bool.{cases_eq, ne_eqb}
use Rattle.std.proofs.lemmas.Bool.Decides.{Decides-int_eq, nat_tests}
use Rattle.mq_arena.specs.Text.{PlainText}
use Rattle.mq_queue.specs.declared.base.Base.{Base}
use Rattle.mq_queue.specs.declared.event.Event.{Event}
use Rattle.mq_queue.specs.Base.{base_after}
use Rattle.mq_table.specs.Cut.{kept_cuts}
use Rattle.mq_table.specs.Kept.{KeptSlot, base_now, is_live_kept, made_of}
use Rattle.mq_table.specs.KeptCalls.{kept_makes, kept_removes}
use Rattle.mq_table.specs.KeptPart.{IsLawfulSlot, WaitsNow}
use Rattle.mq_table.specs.KeptShown.{last_id_now, next_id_now}
use Rattle.mq_table.specs.Keys.{entered, forget}
use Rattle.mq_table.specs.SlotParts.{empty_kept}
use Rattle.mq_table.specs.declared.limits.TheConstants.{MAX_SLOTS}
use Rattle.mq_table.proofs.KeptStays.{KeptStays, kept_makes_live, kept_makes_one_more, kept_removes_live, more_stays}
use Rattle.mq_table.proofs.OneMore.{IsOneMore}
use Rattle.mq_table.proofs.Turned.{IsHeld, cuts_held, makes_held, more_held, removes_held}
use Rattle.mq_local.specs.Holds.{HasQueue, AreKeysOf}
use Rattle.mq_local.specs.Kept.{IsKept}
use Rattle.mq_calls.specs.Texts.{bytes_of}

-- a list in which t takes the place of the element at k
module _ {X : Type 0} (P : X → Type 0) (xs : List X) (k : ℕ) (within : k < length xs) (old t d : X)
    (at : get_or xs k d ≡ old) where
  -- it holds of another element than that at k
  abbrev pub Elsewhere : Type 0
  Elsewhere = (j : ℕ) × (x : X) × (j < length xs) × (get_or xs j x ≡ x) × P x × (j ≢ k)

  -- what holds of some element, holds of that at k or elsewhere
  pub here_or_else : Any P xs → P old ⊎ Elsewhere
  here_or_else some = elim (cases_eq some.0 k) [
    | inl same ↦
        let here : some.1 ≡ old = cc (get_or_default xs k d some.1 within, some.3, same, at) in
        inl (subst P here some.4)
    | inr other ↦ inr (some.0, some.1, some.2, some.3, some.4, other)
  ]

  -- so it does in the new list
  pub new_or_else : Any P (set xs k t) → P t ⊎ Elsewhere
  new_or_else some = elim (cases_eq some.0 k) [
    | inl same ↦
        let here : some.1 ≡ t = cc (get_or-set_same xs k t some.1 within, some.3, same) in
        inl (subst P here some.4)
    | inr other ↦
        let kept = sym (get_or-set_other xs k some.0 t some.1 other) ∙ some.3 in
        inr (some.0, some.1, rw (← length-set xs k t) some.2, kept, some.4, other)
  ]

  pub still_else : Elsewhere → Any P (set xs k t)
  still_else w =
      let kept = get_or-set_other xs k w.0 t w.1 w.5 ∙ w.3 in
      (w.0, w.1, rw (length-set xs k t) w.2, kept, w.4)

-- an element of what a test leaves of a list is one of the list that passes it
module _ {X : Type 0} (p : X → Bool) (x : X) (xs : List X) where
  pub contains_left : Contains xs x → p x ≡ true → Contains (filter p xs) x
  contains_left h passes =
      let front : List X = take h.0 xs in
      let rest : List X = drop (suc h.0) xs in
      let whole : xs ≡ front ++ x ∷ rest =
      sym (take-append-drop h.0 xs)
      ∙ ap (λ ys. front ++ ys) (drop-cons xs h.0 x h.1 ∙ ap (λ y. y ∷ rest) h.2) in
      let left : filter p xs ≡ filter p front ++ x ∷ filter p rest =
      ap (filter p) whole ∙ filter-append p front (x ∷ rest) ∙ rw passes refl in
      rw left (Contains-append_right (filter p front) (x ∷ filter p rest) x (0, omega arith, refl))

  pub left_contained : Contains (filter p xs) x → Contains xs x × (p x ≡ true)
  left_contained h =
      let listed = All-filter p (Contains xs) xs (All-contains_itself xs) in (
        All-contains (Contains xs) (filter p xs) x listed h,
        All-contains (λ y. p y ≡ true) (filter p xs) x (filter_passes p xs) h,
      )

-- a drain is no change of the queue
cut_stays : (s : KeptSlot PlainText) → KeptStays s (kept_cuts s)
cut_stays s = record {
  number = refl;
  made = omega arith;
  live = by (is_live_kept s) (base_after (base_now s) s.last);
  key = refl;
}
  where
    by : (b : Bool) (base : Base) → is_some (if b then Some base else None) ≡ b
    by true base = refl
    by false base = refl

-- a queue that continues has its key and its id
goes_on : (key : ℤ) (id : ℕ) (s t : KeptSlot PlainText) → KeptStays s t → HasQueue key id s
    → HasQueue key id t
goes_on key id s t h q = record {
  live = h.live ∙ q.live;
  made = h.key ∙ q.made;
  named = rw (h.number, h.made) q.named;
}

went_on : (key : ℤ) (id : ℕ) (s t : KeptSlot PlainText) → KeptStays s t → HasQueue key id t
    → HasQueue key id s
went_on key id s t h q = record {
  live = sym h.live ∙ q.live;
  made = sym h.key ∙ q.made;
  named = rw (← h.number, ← h.made) q.named;
}

-- a key other than 0, and an id that a queue in some slot has
abbrev HasKey : ℤ → ℕ → List (KeptSlot PlainText) → Type 0
HasKey key id slots = (key ≢ pos 0) × Any (HasQueue key id) slots

module _ (slots : List (KeptSlot PlainText)) (keys : List (ℤ × ℕ)) (all : AreKeysOf slots keys)
    (k : ℕ) (within : k < length slots) (old t : KeptSlot PlainText)
    (at : get_or slots k (empty_kept k) ≡ old) where
  -- a queue in another slot than k
  abbrev Else : ℤ → ℕ → Type 0
  Else key id = Elsewhere (HasQueue key id) slots k within old t (empty_kept k) at

  -- what the key and the id say of some slot, before and after slot k is changed
  was : (key : ℤ) (id : ℕ) → Any (HasQueue key id) slots → HasQueue key id old ⊎ Else key id
  was key id = here_or_else (HasQueue key id) slots k within old t (empty_kept k) at

  now : (key : ℤ) (id : ℕ) → Any (HasQueue key id) (set slots k t)
      → HasQueue key id t ⊎ Else key id
  now key id = new_or_else (HasQueue key id) slots k within old t (empty_kept k) at

  still : (key : ℤ) (id : ℕ) → Else key id → Any (HasQueue key id) (set slots k t)
  still key id = still_else (HasQueue key id) slots k within old t (empty_kept k) at

  new : (key : ℤ) (id : ℕ) → HasQueue key id t → Any (HasQueue key id) (set slots k t)
  new key id q = any-set (HasQueue key id) slots k t within q

  -- a key of another slot's queue is in the table
  known : (key : ℤ) (id : ℕ) → key ≢ pos 0 → Else key id → Contains keys (key, id)
  known key id some w = (all key id).1 (some, (w.0, w.1, w.2, w.3, w.4))

  -- the keys of a queue that continues
  pub keys_stay : KeptStays old t → AreKeysOf (set slots k t) keys
  keys_stay h key id = (
    λ there.
        let has = (all key id).0 there in
        let goes : Any (HasQueue key id) (set slots k t) = elim (was key id has.1) [
          | inl q ↦ new key id (goes_on key id old t h q)
          | inr w ↦ still key id w
        ] in
        (has.0, goes),
    λ has. elim (now key id has.1) [
      | inl q ↦
          let here = get_or_default slots k old (empty_kept k) within ∙ at in
          (all key id).1 (has.0, (k, old, within, here, went_on key id old t h q))
      | inr w ↦ known key id has.0 w
    ],
  )

  -- the keys once a queue is made
  module _ (none : is_live_kept old ≡ false) (key' : ℤ) (id' : ℕ)
      (made : HasQueue key' id' t) where
    stays : (key : ℤ) (id : ℕ) → Contains keys (key, id) → HasKey key id (set slots k t)
    stays key id there =
        let has = (all key id).0 there in
        let goes : Any (HasQueue key id) (set slots k t) = elim (was key id has.1) [
          | inl q ↦ cc (q.live, none)
          | inr w ↦ still key id w
        ] in
        (has.0, goes)

    pub keys_made : AreKeysOf (set slots k t) (entered key' id' keys)
    keys_made key id = by (int_eq key' (pos 0)) refl
      where
        by : (b : Bool) → int_eq key' (pos 0) ≡ b
            → Contains (entered key' id' keys) (key, id) ↔ HasKey key id (set slots k t)
        by true is = rw is (
          stays key id,
          λ has. elim (now key id has.1) [
            | inl q ↦
                absurd (has.0 (cc (made.made, q.made, (Decides-int_eq key' (pos 0)).0 is)))
            | inr w ↦ known key id has.0 w
          ],
        )
        by false is = rw is (
          λ there. elim (Contains-push_cases keys (key', id') (key, id) there) [
            | inl before ↦ stays key id before
            | inr same ↦
                let one : key' ≡ key = ap (λ (p : ℤ × ℕ). p.0) same in
                let other : id' ≡ id = ap (λ (p : ℤ × ℕ). p.1) same in (
                  λ zero. true≢false (sym ((Decides-int_eq key' (pos 0)).1 (one ∙ zero)) ∙ is),
                  new key id (rw (← one, ← other) made),
                )
          ],
          λ has. elim (now key id has.1) [
            | inl q ↦
                let one : key' ≡ key = sym made.made ∙ q.made in
                let other : id' ≡ id = sym made.named ∙ q.named in
                rw (← one, ← other) (Contains-push keys (key', id'))
            | inr w ↦
                Contains-append_left keys ((key', id') ∷ []) (key, id) (known key id has.0 w)
          ],
        )

  -- the keys once the queue is removed
  module _ (placed : (j : ℕ) → j < length slots → (get_or slots j (empty_kept j)).number ≡ j)
      (few : length slots ≤ MAX_SLOTS) (gone : is_live_kept t ≡ false) where
    apart : (j : ℕ) (s : KeptSlot PlainText) → j < length slots → get_or slots j s ≡ s → j ≢ k
        → last_id_now s ≡ last_id_now old → ⊥
    apart j s low is other same =
        let its : s.number ≡ j =
        ap (λ (x : KeptSlot PlainText). x.number)
        (sym is ∙ get_or_default slots j s (empty_kept j) low) ∙ placed j low in
        let olds : old.number ≡ k =
        ap (λ (x : KeptSlot PlainText). x.number) (sym at) ∙ placed k within in
        other (omega (arith, low, few, within, rw (its, olds) at same))

    pub keys_removed : AreKeysOf (set slots k t) (forget (last_id_now old) keys)
    keys_removed key id = (
      λ there.
          let left =
          left_contained (λ (p : ℤ × ℕ). not (p.1 == last_id_now old)) (key, id) keys there in
          let has = (all key id).0 left.0 in
          let goes : Any (HasQueue key id) (set slots k t) = elim (was key id has.1) [
            | inl q ↦ absurd (grind (arith, nat_tests, left.1, q.named))
            | inr w ↦ still key id w
          ] in
          (has.0, goes),
      λ has. elim (now key id has.1) [
        | inl q ↦ cc (q.live, gone)
        | inr w ↦
            contains_left (λ (p : ℤ × ℕ). not (p.1 == last_id_now old)) (key, id) keys
            (known key id has.0 w)
            (ap not
            (ne_eqb id (last_id_now old) (λ same. apart w.0 w.1 w.2 w.3 w.5 (w.4.named ∙ same))))
      ],
    )

module _ {C : Type 0} (slots : List (KeptSlot PlainText)) (keys : List (ℤ × ℕ)) (last_seq : ℕ)
    (closed : List C) (room : ℕ) (h : IsKept slots keys last_seq closed room)
    (k : ℕ) (within : k < length slots) (old t d : KeptSlot PlainText)
    (found : old ≡ get_or slots k d) where
  at : get_or slots k (empty_kept k) ≡ old
  at = get_or_default slots k (empty_kept k) d within ∙ sym found

  -- whether a queue is there
  there : (b : Bool) → is_live_kept (get_or slots k (empty_kept k)) ≡ b → is_live_kept old ≡ b
  there b is = ap (λ (s : KeptSlot PlainText). is_live_kept s) (sym at) ∙ is

  -- what always holds of the old slot
  was_held : IsHeld last_seq bytes_of old
  was_held = record {
    lawful = rw (← at) (h.lawful k (empty_kept k) within);
    waits = rw (← at) (h.waits k (empty_kept k) within);
  }

  -- slot k is another one, with its number
  changed : (keys' : List (ℤ × ℕ)) → IsHeld last_seq bytes_of t → t.number ≡ old.number
      → AreKeysOf (set slots k t) keys' → IsKept (set slots k t) keys' last_seq closed room
  changed keys' held number keyed = record {
    placed = placed;
    lawful = All-set (IsLawfulSlot last_seq) slots k t held.lawful h.lawful;
    waits = All-set (WaitsNow bytes_of) slots k t held.waits h.waits;
    keyed = keyed;
    few = omega (arith, length-set slots k t, h.few);
    bounded = h.bounded;
    none_closed = h.none_closed;
    reserved = omega (arith, length-set slots k t, h.reserved);
  }
    where
      placed : (j : ℕ) → j < length (set slots k t)
          → (get_or (set slots k t) j (empty_kept j)).number ≡ j
      placed j low = elim (cases_eq j k) [
        | inl same ↦
            rw (same, get_or-set_same slots k t (empty_kept k) within)
            (number ∙ ap (λ (s : KeptSlot PlainText). s.number) (sym at) ∙ h.placed k within)
        | inr other ↦
            rw (get_or-set_other slots k j t (empty_kept j) other)
            (h.placed j (omega (arith, low, length-set slots k t)))
      ]

  -- a queue continues
  kept_stays : IsHeld last_seq bytes_of t → KeptStays old t
      → IsKept (set slots k t) keys last_seq closed room
  kept_stays held s = changed keys held s.number (keys_stay slots keys h.keyed k within old t at s)

  pub kept_on : is_live_kept (get_or slots k (empty_kept k)) ≡ true → (e : Event)
      → IsOneMore bytes_of old t e → IsKept (set slots k t) keys last_seq closed room
  kept_on live e more =
      let on = there true live in
      kept_stays (more_held last_seq bytes_of old was_held t e on more)
      (more_stays bytes_of old t e on more)

  -- nothing was changed
  pub kept_same : (keys' : List (ℤ × ℕ)) → keys' ≡ keys → t ≡ old
      → IsKept (set slots k t) keys' last_seq closed room
  kept_same keys' left same =
      rw left
      (kept_stays (rw same was_held)
      (rw same (record { number = refl; made = refl; live = refl; key = refl })))

  -- the slot's list is drained
  pub kept_cut : t ≡ kept_cuts old → IsKept (set slots k t) keys last_seq closed room
  kept_cut is =
      kept_stays (rw is (cuts_held last_seq bytes_of old was_held)) (rw is (cut_stays old))

  -- a queue is made
  pub kept_made : (key : ℤ) (seat moment : ℕ)
      → is_live_kept (get_or slots k (empty_kept k)) ≡ false
      → made_of (get_or slots k (empty_kept k)) ≤ last_seq
      → t ≡ kept_makes old key seat moment
      → (keys' : List (ℤ × ℕ)) → keys' ≡ entered key (next_id_now old) keys
      → IsKept (set slots k t) keys' last_seq closed room
  kept_made key seat moment none fits is keys' entering =
      let few : made_of old ≤ last_seq = rw (← at) fits in
      let one : made_of t ≡ made_of old + 1 =
      ap (λ (s : KeptSlot PlainText). made_of s) is
      ∙ kept_makes_one_more last_seq old was_held.lawful seat moment key (there false none) in
      let number : t.number ≡ old.number = ap (λ (s : KeptSlot PlainText). s.number) is in
      let new : HasQueue key (next_id_now old) t = record {
        live =
            ap (λ (s : KeptSlot PlainText). is_live_kept s) is
            ∙ kept_makes_live last_seq old was_held.lawful seat moment key (there false none);
        made = ap (λ (s : KeptSlot PlainText). s.key) is;
        named = its (made_of old) (made_of t) t.number old.number number one;
      } in
      changed keys'
      (rw is (makes_held last_seq bytes_of old was_held key seat moment (there false none) few))
      number
      (rw entering
      (keys_made slots keys h.keyed k within old t at (there false none) key (next_id_now old) new))
    where
      its : (m n a b : ℕ) → a ≡ b → n ≡ m + 1 → (n - 1) * MAX_SLOTS + a ≡ m * MAX_SLOTS + b
      its m n a b same more = let less : n - 1 ≡ m = omega arith in rw (same, less) refl

  -- the queue is removed
  pub kept_removed : (seat moment : ℕ) → is_live_kept (get_or slots k (empty_kept k)) ≡ true
      → t ≡ kept_removes old seat moment
      → (keys' : List (ℤ × ℕ)) → keys' ≡ forget (last_id_now old) keys
      → IsKept (set slots k t) keys' last_seq closed room
  kept_removed seat moment live is keys' left =
      let number : t.number ≡ old.number = ap (λ (s : KeptSlot PlainText). s.number) is in
      let gone : is_live_kept t ≡ false =
      ap (λ (s : KeptSlot PlainText). is_live_kept s) is
      ∙ kept_removes_live last_seq old was_held.lawful seat moment (there true live) in
      changed keys'
      (rw is (removes_held last_seq bytes_of old was_held seat moment (there true live))) number
      (rw left (keys_removed slots keys h.keyed k within old t at h.placed h.few gone))
