use Rattle.std.proofs.Common.{◌≡◌, ◌==◌, ℕ, ◌+◌, ◌<◌, ◌≤◌, suc, Bool, true, false, cond, ◌⊎◌, inl, inr, List, [], ◌∷◌, ◌++◌, length, map, Option, Some, None, IfSome, slice_index_or, Result, Ok, Err, refl, sym, ap, ◌∙◌, subst, append_assoc, append-nil, arith}
use Rattle.std.specs.Io.BufRead.{drop_through, take_through}
use Rattle.std.specs.Io.KnownBytes.{Appends, Keeps}
use Rattle.std.specs.List.{onto_first}
use Rattle.std.proofs.KnownBytes.{Appends-kept, Appends-nil, Appends-trans}
use Rattle.std.proofs.lemmas.List.Splits.{slice_split-cons_no, slice_split-cons_yes}
use Rattle.mq_cli.specs.declared.fault.RunFault.{RunFault}
use Rattle.mq_cli.specs.declared.fault.RunFault.TheVariants.{Size, Read, Write, Memory}
use Rattle.mq_cli.specs.declared.limits.TheConstants.{TYPED_LIMIT}
use Rattle.mq_cli.specs.Lines.{lines_of, parts_of, without_return}
use Rattle.mq_cli.specs.Prompt.{WritesAnswer, AnswersAll, AnswersNext, IsLineFault, IsPromptFault, answer_of, answers_from, first_line_of}
use Rattle.mq_cli.specs.Serial.{AppendsPrefix, RunsLine, Writes}
use Rattle.mq_cli.specs.Session.{SessionState}
use Rattle.mq_cli.proofs.MainLemmas.{prefix_behind, prefix_more}
use Rattle.mq_cli.proofs.Runs.{prefix_kept, writes_prefix}

-- the bytes through the first LF are the first line of a text, and what follows them the others
pub record Through (xs : List ℕ) : Type 0 where
  pub first : List ℕ
  pub others : List (List ℕ)
  pub whole : parts_of 10 xs ≡ first ∷ others
  pub none : List (List ℕ)
  pub front : parts_of 10 (take_through 10 xs) ≡ first ∷ none
  pub left : (others ≡ parts_of 10 (drop_through 10 xs)) ⊎ ((others ≡ []) × (drop_through 10 xs ≡ []))

through_one : (x : ℕ) (xs : List ℕ) (b : Bool) → (x == 10) ≡ b → Through xs → Through (x ∷ xs)
through_one x xs true e t = record {
  first = [];
  others = parts_of 10 xs;
  whole = slice_split-cons_yes (λ b. b == 10) x xs e;
  none = [] ∷ [];
  front = ap (λ c. parts_of 10 (cond c (x ∷ []) (x ∷ take_through 10 xs))) e ∙ slice_split-cons_yes (λ b. b == 10) x [] e;
  left = inl (ap (λ c. parts_of 10 (cond c xs (drop_through 10 xs))) (sym e));
}
through_one x xs false e t = record {
  first = x ∷ t.first;
  others = t.others;
  whole = slice_split-cons_no (λ b. b == 10) x xs e ∙ ap (onto_first x) t.whole;
  none = t.none;
  front = ap (λ c. parts_of 10 (cond c (x ∷ []) (x ∷ take_through 10 xs))) e
      ∙ slice_split-cons_no (λ b. b == 10) x (take_through 10 xs) e ∙ ap (onto_first x) t.front;
  left = subst (λ (l : List ℕ). (t.others ≡ parts_of 10 l) ⊎ ((t.others ≡ []) × (l ≡ [])))
      (ap (λ c. cond c xs (drop_through 10 xs)) (sym e)) t.left;
}

pub through : (xs : List ℕ) → Through xs
through [] = record { first = []; others = []; whole = refl; none = []; front = refl; left = inr (refl, refl) }
through (x ∷ xs) = through_one x xs (x == 10) refl (through xs)

-- the first line of a text, as it is read
pub first_line_is : (xs : List ℕ) → first_line_of xs ≡ without_return (through xs).first
first_line_is xs = ap (λ (ps : List (List ℕ)). slice_index_or (map without_return ps) 0 []) (through xs).whole

-- the answers to a text are that to its first line, and those to what follows
pub answers_line : (n : ℕ) (s : SessionState) (xs : List ℕ) → answers_from n s (lines_of xs)
    ≡ (answer_of n s (first_line_of xs)).0 ++ answers_from (n + 1) (answer_of n s (first_line_of xs)).1 (lines_of (drop_through 10 xs))
unfolding answers_from
answers_line n s xs =
    let t = through xs in
    at t.first t.others t.whole t.left
  where
    at : (first : List ℕ) (others : List (List ℕ)) → parts_of 10 xs ≡ first ∷ others
        → (others ≡ parts_of 10 (drop_through 10 xs)) ⊎ ((others ≡ []) × (drop_through 10 xs ≡ []))
        → answers_from n s (lines_of xs)
        ≡ (answer_of n s (first_line_of xs)).0 ++ answers_from (n + 1) (answer_of n s (first_line_of xs)).1 (lines_of (drop_through 10 xs))
    at first others whole (inl more) = rw (whole, more) refl
    at first others whole (inr end) = rw (whole, end.0, end.1) refl

-- a text has a line more than what follows the first, or nothing follows
line_less : (xs : List ℕ) → (length (lines_of xs) ≡ suc (length (lines_of (drop_through 10 xs)))) ⊎ ((drop_through 10 xs ≡ []) × (length (lines_of xs) ≡ 1))
line_less xs =
    let t = through xs in
    at t.first t.others t.whole t.left
  where
    at : (first : List ℕ) (others : List (List ℕ)) → parts_of 10 xs ≡ first ∷ others
        → (others ≡ parts_of 10 (drop_through 10 xs)) ⊎ ((others ≡ []) × (drop_through 10 xs ≡ []))
        → (length (lines_of xs) ≡ suc (length (lines_of (drop_through 10 xs)))) ⊎ ((drop_through 10 xs ≡ []) × (length (lines_of xs) ≡ 1))
    at first others whole (inl more) = inl (rw (whole, more) refl)
    at first others whole (inr end) = inr (end.1, rw (whole, end.0) refl)

-- before line n of so many, this is left: the others, or nothing
abbrev pub AreLeft : List ℕ → ℕ → ℕ → Type 0
AreLeft rest lines n = (n + length (lines_of rest) ≤ lines + 1) ⊎ ((rest ≡ []) × (n ≤ lines + 1))

-- a line that was read is one less
lines_left : (xs : List ℕ) (lines n : ℕ) → 0 < length xs → AreLeft xs lines n → AreLeft (drop_through 10 xs) lines (n + 1)
lines_left xs lines n some (inr none) = absurd (omega (arith, some, ap length none.0))
lines_left xs lines n some (inl left) = less (line_less xs)
  where
    less : (length (lines_of xs) ≡ suc (length (lines_of (drop_through 10 xs)))) ⊎ ((drop_through 10 xs ≡ []) × (length (lines_of xs) ≡ 1))
        → AreLeft (drop_through 10 xs) lines (n + 1)
    less (inl more) = inl (omega (arith, left, more))
    less (inr end) = inr (end.0, omega (arith, left, end.1))

-- as many lines were read as there are, at most
few_read : (rest : List ℕ) (lines n : ℕ) → AreLeft rest lines n → n ≤ lines + 1
few_read rest lines n (inl left) = omega (arith, left)
few_read rest lines n (inr none) = none.1

-- a reader that returned a byte had one left
pub some_read : (read : Option (List ℕ)) (before items : List ℕ) (count : ℕ) → before ≡ []
    → IfSome read (λ xs. items ≡ before ++ take_through 10 xs) → length items ≡ count → 0 < count
    → IfSome read (λ xs. 0 < length xs)
some_read None before items count empty given long some = tt
some_read (Some []) before items count empty given long some =
    absurd (omega (arith, some, long, ap length given, ap (λ (l : List ℕ). length (l ++ [])) empty))
some_read (Some (x ∷ xs)) before items count empty given long some = omega arith

-- a fault of one line is one of the run
line_fault : (typed : Option (List ℕ)) (fault : RunFault) → IsLineFault fault → IsPromptFault typed fault
line_fault typed Read is = is
line_fault typed Write is = is
line_fault typed Memory is = is
line_fault typed _ is = absurd is

-- what was answered stands before what is answered to the text that is left, of so many lines
pub record SoFarAnswered (left old now : Option (List ℕ)) (all : List ℕ) (lines n : ℕ) (s : SessionState) : Type 0 where
  pub rest : List ℕ
  pub left_is : left ≡ Some rest
  pub few : AreLeft rest lines n
  pub text : List ℕ
  pub all_is : all ≡ text ++ answers_from n s (lines_of rest)
  pub taken : Appends old now text

pub nothing_answered : (now : Option (List ℕ)) (rest : List ℕ) (s : SessionState) → SoFarAnswered (Some rest) now now (answers_from 1 s (lines_of rest)) (length (lines_of rest)) 1 s
nothing_answered now rest s = record { rest = rest; left_is = refl; few = inl (omega arith); text = []; all_is = refl; taken = Appends-nil now }

-- a line that was answered is one line less
pub one_answered : (read left old now new : Option (List ℕ)) (all : List ℕ) (lines n : ℕ) (s t : SessionState) → SoFarAnswered read old now all lines n s
    → AnswersNext read left now new n s t (Ok true) → SoFarAnswered left old new all lines (n + 1) t
one_answered read left old now new all lines n s t so next =
    let step = subst (λ (r : Option (List ℕ)). AnswersNext r left now new n s t (Ok true)) so.left_is next in
    let turn = answer_of n s (first_line_of so.rest) in record {
      rest = drop_through 10 so.rest;
      left_is = step.1;
      few = lines_left so.rest lines n step.0 so.few;
      text = so.text ++ turn.0;
      all_is = so.all_is ∙ ap (λ (l : List ℕ). so.text ++ l) (answers_line n s so.rest)
          ∙ sym (append_assoc so.text turn.0 (answers_from (n + 1) turn.1 (lines_of (drop_through 10 so.rest))))
          ∙ ap (λ (u : SessionState). (so.text ++ turn.0) ++ answers_from (n + 1) u (lines_of (drop_through 10 so.rest))) (sym step.2);
      taken = Appends-trans old now new so.text turn.0 so.taken step.3;
    }

-- a prefix of an answer is a prefix of all answers
pub front_answered : (read left old now new : Option (List ℕ)) (all : List ℕ) (lines n : ℕ) (s t : SessionState) (e : RunFault) → SoFarAnswered read old now all lines n s
    → AnswersNext read left now new n s t (Err e) → AppendsPrefix old new all
front_answered read left old now new all lines n s t e so next =
    let front = (subst (λ (r : Option (List ℕ)). AnswersNext r left now new n s t (Err e)) so.left_is next).1 in
    let turn = answer_of n s (first_line_of so.rest) in
    let others = answers_from (n + 1) turn.1 (lines_of (drop_through 10 so.rest)) in
    subst (AppendsPrefix old new) (sym (so.all_is ∙ ap (λ (l : List ℕ). so.text ++ l) (answers_line n s so.rest)))
    (prefix_behind old now new so.text (turn.0 ++ others) so.taken (prefix_more now new turn.0 others front))

-- where nothing is left all is answered
pub all_answered : (read left old now new : Option (List ℕ)) (all : List ℕ) (lines n : ℕ) (s t : SessionState) → SoFarAnswered read old now all lines n s
    → AnswersNext read left now new n s t (Ok false) → (left ≡ Some []) × Appends old new all
unfolding answers_from
all_answered read left old now new all lines n s t so next =
    let end = subst (λ (r : Option (List ℕ)). AnswersNext r left now new n s t (Ok false)) so.left_is next in
    let whole : all ≡ so.text = so.all_is ∙ ap (λ (l : List ℕ). so.text ++ answers_from n s (lines_of l)) end.0 ∙ append-nil so.text in
    (end.1, subst (λ (l : List ℕ). Appends old new l) (ap (λ (l : List ℕ). l ++ []) (sym whole) ∙ append-nil all) (Appends-trans old now new so.text [] so.taken end.2))

-- a call that was made is answered by its reply
pub answered_call : (old new : Option (List ℕ)) (n : ℕ) (t : SessionState) (turn : List ℕ × SessionState) (outcome : Result (Unit {0}) RunFault)
    → RunsLine old new n (Ok turn) t outcome → WritesAnswer old new turn t outcome
answered_call old new n t turn (Ok _) ran = ran
answered_call old new n t turn (Err Write) ran = (tt, ran)
answered_call old new n t turn (Err Memory) ran = (tt, ran)
answered_call old new n t turn _ ran = absurd ran

-- and a line that is not well formed by its name
pub answered_fault : (old new : Option (List ℕ)) (text : List ℕ) (s : SessionState) (outcome : Result (Unit {0}) RunFault)
    → Writes old new text outcome → WritesAnswer old new (text, s) s outcome
answered_fault old new text s (Ok _) wrote = (refl, wrote)
answered_fault old new text s (Err fault) wrote = (tt, wrote)

-- the line that is answered is the first of what was to be read
pub line_read : (read : Option (List ℕ)) (before items line typed trimmed : List ℕ) (others : List (List ℕ)) → before ≡ []
    → IfSome read (λ xs. items ≡ before ++ take_through 10 xs) → line ≡ items → parts_of 10 line ≡ typed ∷ others → trimmed ≡ without_return typed
    → IfSome read (λ xs. trimmed ≡ first_line_of xs)
line_read None before items line typed trimmed others empty given whole split cut = tt
line_read (Some xs) before items line typed trimmed others empty given whole split cut =
    let t = through xs in
    let read : line ≡ take_through 10 xs = whole ∙ given ∙ ap (λ (l : List ℕ). l ++ take_through 10 xs) empty in
    let same : typed ∷ others ≡ t.first ∷ t.none = sym split ∙ ap (parts_of 10) read ∙ t.front in
    cut ∙ ap (λ (ps : List (List ℕ)). without_return (slice_index_or ps 0 [])) same ∙ sym (first_line_is xs)

-- of an answer that was not written whole a prefix was
pub next_failed : (read old new : Option (List ℕ)) (n : ℕ) (s t : SessionState) (line : List ℕ) (outcome : Result (Unit {0}) RunFault)
    → IfSome read (λ xs. line ≡ first_line_of xs)
    → WritesAnswer old new (answer_of n s line) t outcome
    → IfSome read (λ xs. AppendsPrefix old new (answer_of n s (first_line_of xs)).0)
next_failed None old new n s t line outcome same answered = tt
next_failed (Some xs) old new n s t line outcome same answered =
    subst (λ (l : List ℕ). AppendsPrefix old new (answer_of n s l).0) same (writes_prefix old new (answer_of n s line).0 outcome answered.1)

writes_fault : (old new : Option (List ℕ)) (text : List ℕ) (fault : RunFault) → Writes old new text (Err fault) → IsLineFault fault
writes_fault old new text Write wrote = tt
writes_fault old new text Memory wrote = tt
writes_fault old new text _ wrote = absurd wrote

-- and is a fault of such a run
pub next_refused : (read old new : Option (List ℕ)) (n : ℕ) (s t : SessionState) (line : List ℕ) (fault : RunFault)
    → IfSome read (λ xs. line ≡ first_line_of xs) → WritesAnswer old new (answer_of n s line) t (Err fault)
    → IsLineFault fault × IfSome read (λ xs. AppendsPrefix old new (answer_of n s (first_line_of xs)).0)
next_refused read old new n s t line fault same answered =
    (writes_fault old new (answer_of n s line).0 fault answered.1, next_failed read old new n s t line (Err fault) same answered)

-- and a flush that fails keeps it so
pub next_unflushed : (read old now new : Option (List ℕ)) (n : ℕ) (s t : SessionState)
    (line : List ℕ)
    → IfSome read (λ xs. line ≡ first_line_of xs) → WritesAnswer old now (answer_of n s line) t (Ok tt) → Keeps now new
    → IfSome read (λ xs. AppendsPrefix old new (answer_of n s (first_line_of xs)).0)
next_unflushed None old now new n s t line same answered kept = tt
next_unflushed (Some xs) old now new n s t line same answered kept =
    prefix_kept old now new (answer_of n s (first_line_of xs)).0 (next_failed (Some xs) old now n s t line (Ok tt) same answered) kept

-- one that was written and flushed is the answer to the line
pub next_answered : (read left old now new : Option (List ℕ)) (n : ℕ) (s t : SessionState)
    (line : List ℕ)
    → IfSome read (λ xs. line ≡ first_line_of xs) → IfSome read (λ xs. 0 < length xs) → IfSome read (λ xs. left ≡ Some (drop_through 10 xs))
    → WritesAnswer old now (answer_of n s line) t (Ok tt) → Keeps now new → AnswersNext read left old new n s t (Ok true)
next_answered None left old now new n s t line same some rest answered kept = tt
next_answered (Some xs) left old now new n s t line same some rest answered kept = (
  some,
  rest,
  answered.0 ∙ ap (λ (l : List ℕ). (answer_of n s l).1) same,
  Appends-kept old now new (answer_of n s (first_line_of xs)).0
      (subst (λ (l : List ℕ). Appends old now (answer_of n s l).0) same answered.1) kept,
)

-- the same of a text that may not be known, of which so much was answered
abbrev pub IsAnsweredUpTo : (typed left old now : Option (List ℕ)) → SessionState → ℕ → SessionState
    → Type 0
IsAnsweredUpTo typed left old now first n s = IfSome typed (λ text. SoFarAnswered left old now (answers_from 1 first (lines_of text)) (length (lines_of text)) n s)

pub none_yet : (typed now : Option (List ℕ)) (first : SessionState) → IsAnsweredUpTo typed typed now now first 1 first
none_yet None now first = tt
none_yet (Some text) now first = nothing_answered now text first

pub one_more : (typed read left old now new : Option (List ℕ)) (first : SessionState) (n : ℕ) (s t : SessionState) (b : Bool) → b ≡ true
    → IsAnsweredUpTo typed read old now first n s → AnswersNext read left now new n s t (Ok b) → IsAnsweredUpTo typed left old new first (n + 1) t
one_more None read left old now new first n s t b is so next = tt
one_more (Some text) read left old now new first n s t b is so next =
    one_answered read left old now new (answers_from 1 first (lines_of text)) (length (lines_of text)) n s t so (subst (λ (a : Bool). AnswersNext read left now new n s t (Ok a)) is next)

-- what the lines are answered from the first on
abbrev pub all_answers : SessionState → List ℕ → List ℕ
all_answers first text = answers_from 1 first (lines_of text)

pub none_more : (typed read left old now new : Option (List ℕ)) (first : SessionState) (n : ℕ) (s t : SessionState) (b : Bool) → b ≡ false
    → IsAnsweredUpTo typed read old now first n s → AnswersNext read left now new n s t (Ok b)
    → AnswersAll (all_answers first) typed left old new (Ok tt)
none_more None read left old now new first n s t b is so next = tt
none_more (Some text) read left old now new first n s t b is so next =
    all_answered read left old now new (answers_from 1 first (lines_of text)) (length (lines_of text)) n s t so (subst (λ (a : Bool). AnswersNext read left now new n s t (Ok a)) is next)

pub one_failed : (typed read left old now new : Option (List ℕ)) (first : SessionState) (n : ℕ) (s t : SessionState) (e : RunFault) → IsAnsweredUpTo typed read old now first n s
    → AnswersNext read left now new n s t (Err e) → AnswersAll (all_answers first) typed left old new (Err e)
one_failed None read left old now new first n s t e so next = (line_fault None e next.0, tt)
one_failed (Some text) read left old now new first n s t e so next =
    (line_fault (Some text) e next.0, front_answered read left old now new (answers_from 1 first (lines_of text)) (length (lines_of text)) n s t e so next)

-- where as many lines were read as can be counted, there are as many
pub some_left : (typed left old now : Option (List ℕ)) (first : SessionState) (n : ℕ) (s : SessionState) → TYPED_LIMIT ≤ n → IsAnsweredUpTo typed left old now first n s
    → AnswersAll (all_answers first) typed left old now (Err Size)
some_left None left old now first n s past so = (tt, tt)
some_left (Some text) left old now first n s past so = (omega (arith, past, few_read so.rest (length (lines_of text)) n so.few), (so.text, (answers_from n s (lines_of so.rest), so.all_is), so.taken))
