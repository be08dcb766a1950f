use Rattle.std.proofs.Common.{◌≡◌, ℕ, ◌+◌, ◌^◌, ◌<◌, ◌≤◌, true, false, List, [], ◌∷◌, length, Option, None, Some, Result, Ok, Err, codes, refl, ap, ◌∙◌, arith, lit≤}
use Rattle.std.specs.Fmt.{decimal, signed_decimal}
use Rattle.std.specs.List.{list_all}
use Rattle.std.specs.Str.{bytes_eq}
use Rattle.std.proofs.lemmas.Bool.{cond-true, cond-false, eqb-true, lt-ltb, ltb-true, ne_eqb, eqb-false}
use Rattle.std.proofs.lemmas.Slice.Eq.{bytes_eq-Decides}
use Rattle.mq_cli.specs.declared.limits.TheConstants.{MAX_MESSAGES, MAX_WITHIN, MAX_WORKERS}
use Rattle.mq_cli.specs.declared.fault.Cause.{Cause}
use Rattle.mq_cli.specs.declared.fault.Cause.TheVariants.{Words}
use Rattle.mq_cli.specs.declared.threads.step.Step.TheVariants.{Put, Take, Remove}
use Rattle.mq_cli.specs.declared.threads.script.MainCall.TheVariants.{Get, Set}
use Rattle.mq_cli.specs.declared.threads.script.ThreadsLine.{ThreadsLine}
use Rattle.mq_cli.specs.declared.threads.script.ThreadsLine.TheVariants.{Worker, Main, Section}
use Rattle.mq_cli.specs.Commands.{AskedCall, get, set, get_asked, set_asked, is_filled, ok_map}
use Rattle.mq_cli.specs.Laws.{Spells}
use Rattle.mq_cli.specs.Lines.{line_of, words_of}
use Rattle.mq_cli.specs.Numbers.{number_of, under}
use Rattle.mq_cli.specs.ThreadsLaws.{within_words, CanWait, Says, ThreadsReadBack, ThreadsSpelledOneWay}
use Rattle.mq_cli.specs.ThreadsScript.{main_call, asked, main_of, within_of, with_end, put_of, take_of, drop_of, section_of, worker_of, part_of, line_said}
use Rattle.mq_cli.proofs.NumberLemmas.{number_of-decimal, number_of-Some}
use Rattle.mq_cli.proofs.SpellingLemmas.{AreWords, bind_last, bind_ok, changed, chosen, decimal_word, from_ok, got, integer_of-Some, integer_of-signed_decimal, key_again, name_word, needed, reading-Ok, reads_line, rejoined, signed_word, under-Some, under-decimal}

-- a line of the main part, whose words are filled
in_main : (n : ℕ) (name : List ℕ) (words : List (List ℕ)) → bytes_eq name (codes "worker") ≡ false → list_all is_filled (name ∷ words) ≡ true
    → line_said 0 n (name ∷ words) ≡ main_of n name words
in_main n name words other filled = cond-true _ _ _ filled ∙ cond-false _ _ _ other

-- the words for the end of a step's waits are read back
within_again : (within : Option ℕ) → CanWait within → AreWords (within_words within) × (length (within_words within) ≤ 2) × (within_of (within_words within) ≡ Ok within)
within_again None can = (tt, lit≤ tt, refl)
within_again (Some span) can = (
  (name_word (codes "within") refl, (decimal_word span (omega (arith, can)), tt)),
  lit≤ tt,
  rw (under-decimal (MAX_WITHIN + 1) span (lit≤ tt) (omega (arith, can))) refl,
)

-- what can stand in line n, by its own number
pub threads_read_back : ThreadsReadBack
threads_read_back sections n Worker can =
    let is : worker_of sections [] ≡ Ok Worker = cond-true _ _ _ (lt-ltb sections MAX_WORKERS can) in
    ap (ok_map Some) is
threads_read_back sections n (Main (Get key flags moment)) can =
    let x : ThreadsLine = Main (Get key flags n) in
    let again = key_again (line_said 0 n) x key flags.create flags.exclusive can.2 (λ words filled is. in_main n (codes "get") words refl filled ∙ ap (asked n) is) in
    rw (can.0, can.1) again
threads_read_back sections n (Main (Set id qbytes moment)) can =
    let again = reads_line (line_said 0 n) (codes "set") (decimal id ∷ decimal qbytes ∷ []) (Main (Set id qbytes n))
    (name_word (codes "set") refl, (decimal_word id (omega (arith, can.2.0)), (decimal_word qbytes can.2.1, tt))) (lit≤ tt) refl
    (λ filled. rw (filled, under-decimal (2 ^ 32) id (lit≤ tt) can.2.0, number_of-decimal qbytes can.2.1) refl) in
    rw (can.0, can.1) again
threads_read_back sections n (Section (Put id z count len within moment)) can =
    let some = ne_eqb sections 0 (λ e. omega (arith, can.0, e)) in
    let ids = under-decimal (2 ^ 32) id (lit≤ tt) can.2 in
    let types = integer_of-signed_decimal z can.3 in
    let counts = under-decimal (MAX_MESSAGES + 1) count (lit≤ tt) (omega (arith, can.4)) in
    let end = within_again within can.6 in
    let again = reads_line (line_said sections n) (codes "put") (decimal id ∷ signed_decimal z ∷ decimal count ∷ decimal len ∷ within_words within)
    (Section (Put id z count len within n))
    (name_word (codes "put") refl, (decimal_word id (omega (arith, can.2)), (signed_word z can.3, (decimal_word count (omega (arith, can.4)), (decimal_word len can.5, end.0)))))
    (omega (arith, end.1)) refl
    (λ filled. rw (filled, some, end.2, ids, types, counts, number_of-decimal len can.5) refl) in
    rw (can.1) again
threads_read_back sections n (Section (Take id z count within moment)) can =
    let some = ne_eqb sections 0 (λ e. omega (arith, can.0, e)) in
    let ids = under-decimal (2 ^ 32) id (lit≤ tt) can.2 in
    let types = integer_of-signed_decimal z can.3 in
    let counts = under-decimal (MAX_MESSAGES + 1) count (lit≤ tt) (omega (arith, can.4)) in
    let end = within_again within can.5 in
    let again = reads_line (line_said sections n) (codes "take") (decimal id ∷ signed_decimal z ∷ decimal count ∷ within_words within) (Section (Take id z count within n))
    (name_word (codes "take") refl, (decimal_word id (omega (arith, can.2)), (signed_word z can.3, (decimal_word count (omega (arith, can.4)), end.0))))
    (omega (arith, end.1)) refl
    (λ filled. rw (filled, some, end.2, ids, types, counts) refl) in
    rw (can.1) again
threads_read_back sections n (Section (Remove id moment)) can =
    let some = ne_eqb sections 0 (λ e. omega (arith, can.0, e)) in
    let again = reads_line (line_said sections n) (codes "rm") (decimal id ∷ []) (Section (Remove id n))
    (name_word (codes "rm") refl, (decimal_word id (omega (arith, can.2)), tt)) (lit≤ tt) refl
    (λ filled. rw (filled, some, under-decimal (2 ^ 32) id (lit≤ tt) can.2) refl) in
    rw (can.1) again

-- a section begins by its name alone
worked : (sections n : ℕ) (text : List ℕ) (words : List (List ℕ)) (line : ThreadsLine) → text ≡ line_of (codes "worker" ∷ words) → worker_of sections words ≡ Ok line → Says sections n text line
worked sections n text [] line is e =
    let found = needed _ _ _ _ e in
    from_ok (Says sections n text) Worker line found.1 (is, ltb-true _ _ found.0)
worked sections n text (word ∷ words) line is e = absurd (cc e)

-- a call of the main part is spelled as in a serial script
called : (n : ℕ) (text : List ℕ) (call : AskedCall) (line : ThreadsLine) → Spells text call → main_call n call ≡ Ok line → Says 0 n text line
called n text (get key flags) line spelled e = from_ok (Says 0 n text) (Main (Get key flags n)) line e (spelled.0, (refl, refl, spelled.1))
called n text (set id qbytes) line spelled e = from_ok (Says 0 n text) (Main (Set id qbytes n)) line e (spelled.0, (refl, refl, spelled.1))
called n text _ line spelled e = absurd (cc e)

-- what was asked, before it was a call of the main part
asked_ok : (n : ℕ) (text : List ℕ) (r : Result AskedCall Cause) (line : ThreadsLine) → ((call : AskedCall) → r ≡ Ok call → Spells text call) → asked n r ≡ Ok line → Says 0 n text line
asked_ok n text (Ok call) line spells e = called n text call line (spells call refl) e
asked_ok n text (Err cause) line spells e = absurd (cc e)

-- the main part has no other lines
mains : (n : ℕ) (text name : List ℕ) (words : List (List ℕ)) (line : ThreadsLine) → words_of text ≡ name ∷ words → main_of n name words ≡ Ok line → Says 0 n text line
mains n text name words line are e =
    chosen _ _ _ _ e
    (λ is_get gets. asked_ok n text (get_asked words) line (λ call read. got text words call (rejoined text name (codes "get") words are is_get) read) gets)
    (λ not_get rest.
    let sets = needed _ _ _ _ rest in
    asked_ok n text (set_asked words) line (λ call read. changed text words call (rejoined text name (codes "set") words are sets.0) read) sets.1)

-- the end of a step's waits is read from its words alone
ended : (words : List (List ℕ)) (within : Option ℕ) → within_of words ≡ Ok within → (words ≡ within_words within) × CanWait within
ended [] within e = from_ok (λ w. ([] ≡ within_words w) × CanWait w) None within e (refl, tt)
ended (word ∷ span ∷ []) within e =
    let named = needed _ _ _ _ e in
    bind_last (under (MAX_WITHIN + 1) (number_of span)) Some (λ w. (word ∷ span ∷ [] ≡ within_words w) × CanWait w) within named.1 (λ s read.
    let spelled = under-Some (MAX_WITHIN + 1) span s read in
    let is = (bytes_eq-Decides word (codes "within")).0 named.0 in
    (cc (is, spelled.0), omega (arith, spelled.1)))
ended _ within e = absurd (cc e)

-- and it was read where its step is said
end_read : {P : Type 0} (r : Result (Option ℕ) Cause) (step : Option ℕ → Result ThreadsLine Cause) (line : ThreadsLine) → with_end r step ≡ Ok line
    → ((w : Option ℕ) → r ≡ Ok w → step w ≡ Ok line → P) → P
end_read (Ok w) step line e then = then w refl e
end_read (Err cause) step line e then = absurd (cc e)

-- put is read from its spelling alone
puts : (sections n : ℕ) (text : List ℕ) (words : List (List ℕ)) (line : ThreadsLine) → 0 < sections → text ≡ line_of (codes "put" ∷ words) → put_of n words ≡ Ok line → Says sections n text line
puts sections n text (id ∷ mtype ∷ count ∷ len ∷ words) line some is e =
    end_read (within_of words) _ line e (λ w read_end numbered.
    bind_ok _ _ line numbered (λ i read_id typed.
    bind_ok _ _ line typed (λ z read_type counted.
    bind_ok _ _ line counted (λ c read_count sized.
    bind_last (number_of len) (λ l. Section (Put i z c l w n)) (Says sections n text) line sized (λ l read_len.
    let spelled_id = under-Some (2 ^ 32) id i read_id in
    let spelled_type = integer_of-Some mtype z read_type in
    let spelled_count = under-Some (MAX_MESSAGES + 1) count c read_count in
    let spelled_len = number_of-Some len l read_len in
    let spelled_end = ended words w read_end in (
      cc (is, spelled_id.0, spelled_type.0, spelled_count.0, spelled_len.0, spelled_end.0),
      (some, refl, spelled_id.1, spelled_type.1, omega (arith, spelled_count.1), spelled_len.1, spelled_end.1),
    ))))))
puts sections n text _ line some is e = absurd (cc e)

-- and take
takes : (sections n : ℕ) (text : List ℕ) (words : List (List ℕ)) (line : ThreadsLine) → 0 < sections → text ≡ line_of (codes "take" ∷ words) → take_of n words ≡ Ok line → Says sections n text line
takes sections n text (id ∷ mtype ∷ count ∷ words) line some is e =
    end_read (within_of words) _ line e (λ w read_end numbered.
    bind_ok _ _ line numbered (λ i read_id typed.
    bind_ok _ _ line typed (λ z read_type counted.
    bind_last (under (MAX_MESSAGES + 1) (number_of count)) (λ c. Section (Take i z c w n)) (Says sections n text) line counted (λ c read_count.
    let spelled_id = under-Some (2 ^ 32) id i read_id in
    let spelled_type = integer_of-Some mtype z read_type in
    let spelled_count = under-Some (MAX_MESSAGES + 1) count c read_count in
    let spelled_end = ended words w read_end in (
      cc (is, spelled_id.0, spelled_type.0, spelled_count.0, spelled_end.0),
      (some, refl, spelled_id.1, spelled_type.1, omega (arith, spelled_count.1), spelled_end.1),
    )))))
takes sections n text _ line some is e = absurd (cc e)

-- and rm
drops : (sections n : ℕ) (text : List ℕ) (words : List (List ℕ)) (line : ThreadsLine) → 0 < sections → text ≡ line_of (codes "rm" ∷ words) → drop_of n words ≡ Ok line → Says sections n text line
drops sections n text (id ∷ []) line some is e =
    bind_last (under (2 ^ 32) (number_of id)) (λ i. Section (Remove i n)) (Says sections n text) line e (λ i read.
    let spelled = under-Some (2 ^ 32) id i read in
    (cc (is, spelled.0), (some, refl, spelled.1)))
drops sections n text _ line some is e = absurd (cc e)

-- a section has no other lines
stepped : (sections n : ℕ) (text name : List ℕ) (words : List (List ℕ)) (line : ThreadsLine) → 0 < sections → words_of text ≡ name ∷ words → section_of n name words ≡ Ok line → Says sections n text line
stepped sections n text name words line some are e =
    chosen _ _ _ _ e
    (λ is_put sends. puts sections n text words line some (rejoined text name (codes "put") words are is_put) sends)
    (λ not_put rest. chosen _ _ _ _ rest
    (λ is_take receives. takes sections n text words line some (rejoined text name (codes "take") words are is_take) receives)
    (λ not_take others.
    let last = needed _ _ _ _ others in
    drops sections n text words line some (rejoined text name (codes "rm") words are last.0) last.1))

-- the words of a line say it in the one way
lined : (sections n : ℕ) (text : List ℕ) (words : List (List ℕ)) (line : ThreadsLine) → words_of text ≡ words → line_said sections n words ≡ Ok line → Says sections n text line
lined sections n text [] line are e = absurd (cc e)
lined sections n text (name ∷ words) line are e =
    let filled = needed (list_all is_filled (name ∷ words)) (part_of sections n name words) Words line e in
    chosen _ _ _ _ filled.1
    (λ is_worker begins. worked sections n text words line (rejoined text name (codes "worker") words are is_worker) begins)
    (λ not_worker rest. chosen _ _ _ _ rest
    (λ none main. let is = eqb-true sections 0 none in rw is (mains n text name words line are main))
    (λ some step. let is = eqb-false sections 0 some in stepped sections n text name words line (omega (arith, is)) are step))

pub threads_spelled_one_way : ThreadsSpelledOneWay
threads_spelled_one_way sections n text line e =
    let is = reading-Ok (line_said sections n) text line e in
    lined sections n text (words_of text) line refl is.said
