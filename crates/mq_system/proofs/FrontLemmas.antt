-- A seat's readers, taken from those of each board.
use Rattle.std.proofs.Common.{◌≡◌, ◌≢◌, ℕ, suc, ◌+◌, ◌-◌, ◌<◌, ◌≤◌, ◌==◌, Bool, true, false, List, [], ◌∷◌, ◌++◌, length, replicate, slice_index_or, slice_set, refl, ap, sym, ◌∙◌, arith}
use Rattle.std.proofs.Math.Seq.{get_or-append_seam}
use Rattle.std.proofs.lemmas.Bool.Decides.{nat_tests}
use Rattle.std.proofs.lemmas.List.{append_cancel_right, get_or-set_other, get_or-set_same, get_or_append_left, length-append, length-set}
use Rattle.std.specs.Global.{Vec}
use Rattle.mq_queue.specs.declared.event.Event.{Event}
use Rattle.mq_board.specs.Readers.{ReaderState, new_reader, new_readers}
use Rattle.mq_board.proofs.NewReaders.{readers_more}
use Rattle.mq_system.specs.Fronts.{fronts_of}

-- from so many boards the reader with this place was taken
pub record AreTaken (place boards : ℕ) (rows : List (Vec ReaderState)) (readers : List ReaderState)
    : Type 0 where
  pub count : length readers ≡ boards
  pub taken : (k : ℕ) (d : ReaderState) → k < boards → slice_index_or readers k d ≡ new_reader k place
  pub left : (k : ℕ) (d : Vec ReaderState) → k < boards
      → (slice_index_or rows k d).items ≡ new_readers k (place - 1)
  pub rest : (k : ℕ) (d : Vec ReaderState) → boards ≤ k → k < length rows
      → (slice_index_or rows k d).items ≡ new_readers k place

last_same : {X : Type 0} (xs ys : List X) (x y : X) → xs ++ x ∷ [] ≡ ys ++ y ∷ [] → x ≡ y
last_same [] [] x y is = cc is
last_same [] (b ∷ ys) x y is = absurd (omega (arith, ap length is, length-append ys (y ∷ [])))
last_same (a ∷ xs) [] x y is = absurd (omega (arith, ap length is, length-append xs (x ∷ [])))
last_same (a ∷ xs) (b ∷ ys) x y is = last_same xs ys x y (cc is)

-- the last of some readers, and the others
pub last_seat : (board place : ℕ) (left : List ReaderState) (last : ReaderState) → 0 < place
    → left ++ last ∷ [] ≡ new_readers board place
    → (last ≡ new_reader board place) × (left ≡ new_readers board (place - 1))
last_seat board place left last some is =
    let before = place - 1 in
    let next : before + 1 ≡ place = omega (arith, some) in
    let more : new_readers board before ++ new_reader board place ∷ [] ≡ new_readers board place =
    ap (λ k. new_readers board before ++ new_reader board k ∷ []) (sym next)
    ∙ (readers_more board before ∙ ap (new_readers board) next) in
    let same : last ≡ new_reader board place =
    last_same left (new_readers board before) last (new_reader board place) (is ∙ sym more) in (
      same,
      append_cancel_right left (new_readers board before) (new_reader board place ∷ [])
          (ap (λ r. left ++ r ∷ []) (sym same) ∙ (is ∙ sym more)),
    )

-- readers that have seen nothing
pub none_seen : (readers : List ReaderState)
    → ((k : ℕ) (d : ReaderState) → k < length readers → (slice_index_or readers k d).events ≡ [])
    → fronts_of readers ≡ replicate (length readers) []
none_seen [] all = refl
none_seen (r ∷ rs) all =
    ap (λ (es : List Event). es ∷ fronts_of rs) (all 0 r (omega arith))
    ∙ ap (λ (rest : List (List Event)). [] ∷ rest)
    (none_seen rs (λ k d less. all (suc k) d (omega (arith, less))))

taken_at : (place board : ℕ) (rows : List (Vec ReaderState)) (readers : List ReaderState)
    (last : ReaderState) → AreTaken place board rows readers → last ≡ new_reader board place
    → (k : ℕ) (d : ReaderState) → k < board + 1 → (b : Bool) → (k == board) ≡ b
    → slice_index_or (readers ++ last ∷ []) k d ≡ new_reader k place
taken_at place board rows readers last had is k d less true at =
    let same : k ≡ board = grind (arith, nat_tests, at) in
    let there : k ≡ length readers = same ∙ sym had.count in
    ap (λ (j : ℕ). slice_index_or (readers ++ last ∷ []) j d) there
    ∙ (get_or-append_seam readers last [] d ∙ (is ∙ ap (λ (j : ℕ). new_reader j place) (sym same)))
taken_at place board rows readers last had is k d less false at =
    let before : k < board = grind (arith, nat_tests, at, less) in
    let inside : k < length readers = omega (arith, before, had.count) in
    get_or_append_left readers (last ∷ []) d k inside ∙ had.taken k d before

left_at : (place board : ℕ) (rows : List (Vec ReaderState)) (readers : List ReaderState)
    (left : Vec ReaderState) → AreTaken place board rows readers → board < length rows
    → left.items ≡ new_readers board (place - 1) → (k : ℕ) (d : Vec ReaderState) → k < board + 1
    → (b : Bool) → (k == board) ≡ b
    → (slice_index_or (slice_set rows board left) k d).items ≡ new_readers k (place - 1)
left_at place board rows readers left had inside is k d less true at =
    let same : k ≡ board = grind (arith, nat_tests, at) in
    ap (λ (j : ℕ). (slice_index_or (slice_set rows board left) j d).items) same
    ∙ (ap (λ (v : Vec ReaderState). v.items) (get_or-set_same rows board left d inside)
    ∙ (is ∙ ap (λ (j : ℕ). new_readers j (place - 1)) (sym same)))
left_at place board rows readers left had inside is k d less false at =
    let before : k < board = grind (arith, nat_tests, at, less) in
    let apart : k ≢ board = λ same. absurd (omega (arith, before, same)) in
    ap (λ (v : Vec ReaderState). v.items) (get_or-set_other rows board k left d apart)
    ∙ had.left k d before

-- one more was taken
pub taken_more : (place board : ℕ) (rows : List (Vec ReaderState)) (readers : List ReaderState)
    (left : Vec ReaderState) (last : ReaderState) → AreTaken place board rows readers
    → board < length rows → last ≡ new_reader board place → left.items ≡ new_readers board (place - 1)
    → AreTaken place (board + 1) (slice_set rows board left) (readers ++ last ∷ [])
taken_more place board rows readers left last had inside last_is left_is = record {
  count = omega (arith, length-append readers (last ∷ []), had.count);
  taken = λ k d less. taken_at place board rows readers last had last_is k d less (k == board) refl;
  left = λ k d less. left_at place board rows readers left had inside left_is k d less (k == board) refl;
  rest = λ k d from less.
      let apart : k ≢ board = λ same. absurd (omega (arith, from, same)) in
      ap (λ (v : Vec ReaderState). v.items) (get_or-set_other rows board k left d apart)
      ∙ had.rest k d (omega (arith, from)) (omega (arith, less, length-set rows board left));
}
