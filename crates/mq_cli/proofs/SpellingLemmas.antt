use Rattle.std.proofs.Common.{◌≡◌, ℕ, ℤ, pos, negsuc, ◌+◌, ◌-◌, ◌^◌, ◌<◌, ◌≤◌, ◌==◌, ◌&&◌, ◌||◌, nat_le, nat_lt, ◌*◌, Bool, true, false, cond, List, [], ◌∷◌, ◌++◌, length, get_or, drop, suc, Option, Some, None, Result, Ok, Err, codes, refl, sym, ap, subst, ◌∙◌, arith, lit<, lit≤, length-append}
use Rattle.std.specs.Fmt.{decimal, signed_decimal}
use Rattle.std.specs.Int.{w32, w64}
use Rattle.std.specs.Int.RustNames.{FitsSigned}
use Rattle.std.specs.List.{All, list_all, list_any, join_with_byte}
use Rattle.std.specs.Option.{option_and_then, option_map}
use Rattle.std.specs.Str.{bytes_eq}
use Rattle.std.specs.Str.Parse.{AllDigits}
use Rattle.std.proofs.lemmas.Bool.{and_from, and_parts, cond-true, cond-false, eqb-true, le-leb, le-ltb, leb-true, lt-ltb, ltb-true, ltb-false, ne_eqb, not-false, not_from_true}
use Rattle.std.proofs.lemmas.Fmt.{decimal_nonempty, digits_decimal, length-decimal-le}
use Rattle.std.proofs.lemmas.List.Folds.{list_all-append}
use Rattle.std.proofs.lemmas.List.Splits.{join_with_byte-slice_split, slice_split_at, slice_split_none}
use Rattle.std.proofs.lemmas.List.Sums.{AllPass-from_list_all}
use Rattle.std.proofs.lemmas.Option.{cond_some, option_and_then_some}
use Rattle.std.proofs.lemmas.Slice.Eq.{bytes_eq-Decides}
use Rattle.std.proofs.lemmas.Str.Parse.{digit_from_value, not_in_digits}
use Rattle.mq_table.specs.declared.limits.TheConstants.{MAX_SLOTS}
use Rattle.mq_calls.specs.declared.limits.TheConstants.{MAX_SEATS}
use Rattle.mq_calls.specs.declared.results.GetFlags.{GetFlags}
use Rattle.mq_cli.specs.declared.limits.TheConstants.{LINE_LIMIT}
use Rattle.mq_cli.specs.declared.fault.Cause.{Cause}
use Rattle.mq_cli.specs.declared.fault.Cause.TheVariants.{Words}
use Rattle.mq_cli.specs.Commands.{AskedCall, sit, show, get, snd, rcv, set, rm, stat, cut, ipcs, info, AskedText, plain, letters, Flags, ok_map, ◌>>=◌, worded, is_filled, is_plain, is_text, text_asked, flags_asked, seat_asked, arena_asked, get_flags_asked, get_asked, set_asked, remove_asked, stat_asked, cutting_asked, ipcs_asked, listing_asked, info_asked, send_asked, receive_asked, command_asked, is_skipped, speaks, spoken, reading_by}
use Rattle.mq_cli.specs.declared.listing.Listing.{Listing}
use Rattle.mq_cli.specs.declared.listing.Listing.TheVariants.{Limits, Queues, Table}
use Rattle.mq_cli.specs.Laws.{flag_words, get_flag_words, listing_words, spelling, text_spelling, CanBeSpelled, Spells, ReadsBack, SpelledOneWay}
use Rattle.mq_cli.specs.Lines.{is_printable, line_of, words_of}
use Rattle.mq_cli.specs.Numbers.{number_of, integer_of, is_key, key_of, under, above_zero, below_zero}
use Rattle.mq_trace.specs.declared.ipcs.Keys.TheVariants.{Decimal, Hexadecimal}
use Rattle.mq_cli.proofs.NumberLemmas.{number_of-decimal, number_of-Some, numerals}

-- a byte of a word: printable, and no space
abbrev pub is_word_byte : ℕ → Bool
is_word_byte b = nat_le 33 b && nat_le b 126

-- the words that a command is made of have bytes, no space among them, and are no longer than `*` and a number
pub record IsWord (word : List ℕ) : Type 0 where
  pub filled : is_filled word ≡ true
  bytes : list_all is_word_byte word ≡ true
  short : length word ≤ 21

-- each of these is a word
abbrev pub AreWords : List (List ℕ) → Type 0
AreWords [] = Unit {0}
AreWords (word ∷ words) = IsWord word × AreWords words

-- the digits are bytes of a word
word_digits : (ds : List ℕ) → AllDigits 10 ds → list_all is_word_byte ds ≡ true
word_digits [] h = refl
word_digits (d ∷ ds) h =
    let range = digit_from_value d h.0 in
    and_from _ _ (and_from _ _ (le-leb 33 d (omega (arith, range))) (le-leb d 126 (omega (arith, range)))) (word_digits ds h.1)

-- a number is a word
pub decimal_word : (n : ℕ) → n < 2 ^ 64 → IsWord (decimal n)
decimal_word n fits = record {
  filled = lt-ltb 0 _ (decimal_nonempty n fits);
  bytes = word_digits (decimal n) (digits_decimal numerals n fits);
  short = let few : length (decimal n) ≤ 20 = length-decimal-le 20 n (lit< tt) (omega arith) fits in omega arith;
}

-- and so is one with a sign
pub signed_word : (z : ℤ) → FitsSigned w64 z → IsWord (signed_decimal z)
signed_word (pos n) fits = decimal_word n (omega (arith, fits.sfits))
signed_word (negsuc n) fits =
    let most : suc n < 2 ^ 64 = omega (arith, fits.sfits) in
    let digits : length (decimal (suc n)) ≤ 19 = length-decimal-le 19 (suc n) (lit< tt) (omega (arith, fits.sfits)) most in
    record {
      filled = lt-ltb 0 _ (omega arith);
      bytes = (decimal_word (suc n) most).bytes;
      short = omega arith;
    }

-- and a name that passes the tests
pub name_word : (name : List ℕ) → (is_filled name && list_all is_word_byte name && nat_le (length name) 20) ≡ true → IsWord name
name_word name h =
    let tests = and_parts (is_filled name && list_all is_word_byte name) (nat_le (length name) 20) h in
    let front = and_parts (is_filled name) (list_all is_word_byte name) tests.0 in
    record { filled = front.0; bytes = front.1; short = let few : length name ≤ 20 = leb-true _ _ tests.1 in omega arith }

-- the range of a word's bytes
word_byte : (b : ℕ) → is_word_byte b ≡ true → (33 ≤ b) × (b ≤ 126)
word_byte b h =
    let tests = and_parts (nat_le 33 b) (nat_le b 126) h in
    (leb-true 33 b tests.0, leb-true b 126 tests.1)

-- a word has no space
no_space : (word : List ℕ) → list_all is_word_byte word ≡ true → All (λ b. (b == 32) ≡ false) word
no_space word h k d within =
    let range = word_byte (get_or word k d) (AllPass-from_list_all is_word_byte word h k d within) in
    ne_eqb _ _ (λ e. omega (arith, range.0))

-- and is printable
word_printable : (word : List ℕ) → list_all is_word_byte word ≡ true → list_all is_printable word ≡ true
word_printable [] h = refl
word_printable (b ∷ word) h =
    let parts = and_parts (is_word_byte b) (list_all is_word_byte word) h in
    let range = word_byte b parts.0 in
    and_from _ _ (and_from _ _ (le-leb 32 b (omega (arith, range.0))) (le-leb b 126 range.1)) (word_printable word parts.1)

-- behind a word and a space the other words stand
words_behind : (word rest : List ℕ) → IsWord word → words_of (word ++ 32 ∷ rest) ≡ word ∷ words_of rest
words_behind word rest is = slice_split_at (λ b. b == 32) word 32 rest (no_space word is.bytes) refl

-- a line of words has just them
words_of_line : (word : List ℕ) (words : List (List ℕ)) → AreWords (word ∷ words) → words_of (line_of (word ∷ words)) ≡ word ∷ words
words_of_line word [] are = slice_split_none (λ b. b == 32) word (no_space word are.0.bytes)
words_of_line word (next ∷ words) are =
    words_behind word (line_of (next ∷ words)) are.0 ∙ ap (λ rest. word ∷ rest) (words_of_line next words are.1)

-- each word is filled
pub all_filled : (words : List (List ℕ)) → AreWords words → list_all is_filled words ≡ true
all_filled [] are = refl
all_filled (word ∷ words) are = and_from _ _ are.0.filled (all_filled words are.1)

-- such words make a short line
short_line : (word : List ℕ) (words : List (List ℕ)) → AreWords (word ∷ words) → length (line_of (word ∷ words)) ≤ 21 + 22 * length words
short_line word [] are = omega (arith, are.0.short)
short_line word (next ∷ words) are =
    omega (arith, length-append word (32 ∷ line_of (next ∷ words)), are.0.short, short_line next words are.1)

-- a word and what stands behind it are printable where that is
printable_behind : (word rest : List ℕ) → IsWord word → list_all is_printable rest ≡ true → list_all is_printable (word ++ 32 ∷ rest) ≡ true
printable_behind word rest is h = list_all-append is_printable word (32 ∷ rest) ∙ and_from _ _ (word_printable word is.bytes) h

printable_line : (word : List ℕ) (words : List (List ℕ)) → AreWords (word ∷ words) → list_all is_printable (line_of (word ∷ words)) ≡ true
printable_line word [] are = word_printable word are.0.bytes
printable_line word (next ∷ words) are = printable_behind word (line_of (next ∷ words)) are.0 (printable_line next words are.1)

-- what stands behind a part of a printable text is printable
printable_rest : (part rest : List ℕ) → list_all is_printable (part ++ 32 ∷ rest) ≡ true → list_all is_printable rest ≡ true
printable_rest part rest h = (and_parts _ _ (sym (list_all-append is_printable part (32 ∷ rest)) ∙ h)).1

-- the first byte of a text that begins with it
first_byte : (text : List ℕ) (b : ℕ) → 0 < b → (get_or text 0 0 == b) ≡ true → text ≡ b ∷ drop 1 text
first_byte [] b above e = let is = eqb-true _ _ e in absurd (omega arith)
first_byte (c ∷ text) b above e = ap (λ x. x ∷ text) (eqb-true c b e)

-- a number below a limit is read from its spelling
pub under-decimal : (limit n : ℕ) → limit ≤ 2 ^ 64 → n < limit → under limit (number_of (decimal n)) ≡ Some n
under-decimal limit n most below = rw (number_of-decimal n (omega arith)) (cond-true _ _ _ (lt-ltb n limit below))

-- and from nothing else
pub under-Some : (limit : ℕ) (word : List ℕ) (n : ℕ) → under limit (number_of word) ≡ Some n → (word ≡ decimal n) × (n < limit)
under-Some limit word n e = option_and_then_some _ _ n e (λ m read below.
    let is = cond_some _ _ _ below in
    let spelled = number_of-Some word m read in
    (spelled.0 ∙ ap decimal is.1, omega (arith, ltb-true _ _ is.0, is.1)))

-- a number with a sign is read from its spelling
pub integer_of-signed_decimal : (z : ℤ) → FitsSigned w64 z → integer_of (signed_decimal z) ≡ Some z
unfolding integer_of
integer_of-signed_decimal (pos n) fits =
    let plain = not_in_digits numerals (decimal n) 45 (digits_decimal numerals n (omega (arith, fits.sfits))) (λ range. omega (arith, range)) 0 (decimal_nonempty n (omega (arith, fits.sfits))) in
    cond-false _ _ _ (ne_eqb _ _ plain) ∙ ap (option_map pos) (under-decimal (2 ^ 63) n (lit≤ tt) fits.sfits)
integer_of-signed_decimal (negsuc n) fits =
    ap (option_and_then below_zero) (number_of-decimal (suc n) (omega (arith, fits.sfits)))
    ∙ cond-true _ _ _ (and_from _ _ (le-leb 1 (suc n) (omega arith)) (le-leb (suc n) (2 ^ 63) (omega (arith, fits.sfits))))
    ∙ ap (λ m. Some (negsuc m)) (omega arith)

-- what follows from each outcome of a test
pub chosen : {T P : Type 0} (b : Bool) (x y z : T) → cond b x y ≡ z → (b ≡ true → x ≡ z → P) → (b ≡ false → y ≡ z → P) → P
chosen true x y z e holds fails = holds refl e
chosen false x y z e holds fails = fails refl e

-- what an option was before it was mapped
mapped : {A B : Type 0} (f : A → B) (o : Option A) (y : B) → option_map f o ≡ Some y → (x : A) × (o ≡ Some x) × (f x ≡ y)
mapped f None y e = absurd (cc e)
mapped f (Some x) y e = (x, refl, cc e)

-- a word with `-` before it spells a number below zero
below_zero_read : (word : List ℕ) (n : ℕ) (z : ℤ) → word ≡ 45 ∷ drop 1 word → number_of (drop 1 word) ≡ Some n → below_zero n ≡ Some z → (word ≡ signed_decimal z) × FitsSigned w64 z
below_zero_read word n z sign read below =
    let is = cond_some _ _ _ below in
    let tests = and_parts (nat_le 1 n) (nat_le n (2 ^ 63)) is.0 in
    let least = leb-true 1 n tests.0 in
    let most = leb-true n (2 ^ 63) tests.1 in
    let again : n ≡ suc (n - 1) = omega (arith, least) in
    let P : ℤ → Type 0 = λ y. (word ≡ signed_decimal y) × FitsSigned w64 y in
    subst P is.1 (sign ∙ ap (λ ds. 45 ∷ ds) ((number_of-Some _ n read).0 ∙ ap decimal again), record { sfits = omega (arith, least, most) })

-- any other spells a number that is not below zero
natural_read : (word : List ℕ) (z : ℤ) → option_map pos (under (2 ^ 63) (number_of word)) ≡ Some z → (word ≡ signed_decimal z) × FitsSigned w64 z
natural_read word z e =
    let read = mapped pos _ z e in
    let spelled = under-Some (2 ^ 63) word read.0 read.1 in
    let P : ℤ → Type 0 = λ y. (word ≡ signed_decimal y) × FitsSigned w64 y in
    subst P read.2 (spelled.0, record { sfits = spelled.1 })

-- it is read from nothing else
pub integer_of-Some : (word : List ℕ) (z : ℤ) → integer_of word ≡ Some z → (word ≡ signed_decimal z) × FitsSigned w64 z
unfolding integer_of
integer_of-Some word z e =
    chosen _ _ _ _ e
    (λ minus below. option_and_then_some below_zero _ z below (λ n read is. below_zero_read word n z (first_byte word 45 (lit< tt) minus) read is))
    (λ plain natural. natural_read word z natural)

-- what is so of what was read
pub from_ok : {A : Type 0} (P : A → Type 0) (x y : A) → ◌≡◌ {A = Result A Cause} (Ok x) (Ok y) → P x → P y
from_ok P x y e so =
    let same : x ≡ y = cc e in
    subst P same so

-- what follows from a step that did not fail
pub bind_ok : {A B P : Type 0} (o : Option A) (f : A → Result B Cause) (y : B) → (o >>= f) ≡ Ok y → ((x : A) → o ≡ Some x → f x ≡ Ok y → P) → P
bind_ok None f y e then = absurd (cc e)
bind_ok (Some x) f y e then = then x refl e

-- and what from the last
pub bind_last : {A B : Type 0} (o : Option A) (f : A → B) (P : B → Type 0) (y : B) → (o >>= λ x. Ok (f x)) ≡ Ok y → ((x : A) → o ≡ Some x → P (f x)) → P y
bind_last None f P y e then = absurd (cc e)
bind_last (Some x) f P y e then = from_ok P (f x) y e (then x refl)

-- a test that was needed held
pub needed : {A : Type 0} (b : Bool) (x : Result A Cause) (cause : Cause) (y : A) → cond b x (Err cause) ≡ Ok y → (b ≡ true) × (x ≡ Ok y)
needed true x cause y e = (refl, e)
needed false x cause y e = absurd (cc e)

-- a test that was ruled out failed
pub ruled_out : {A : Type 0} (b : Bool) (x : Result A Cause) (cause : Cause) (y : A) → cond b (Err cause) x ≡ Ok y → (b ≡ false) × (x ≡ Ok y)
ruled_out true x cause y e = absurd (cc e)
ruled_out false x cause y e = (refl, e)

-- what a result was before it was mapped
pub mapped_ok : {A B : Type 0} (f : A → B) (r : Result A Cause) (y : B) → ok_map f r ≡ Ok y → (x : A) × (r ≡ Ok x) × (f x ≡ y)
mapped_ok f (Ok x) y e = (x, refl, cc e)
mapped_ok f (Err cause) y e = absurd (cc e)

-- a line that says something is short and printable, and its words say it
pub record IsSaid {A : Type 0} (say : List (List ℕ) → Result A Cause) (line : List ℕ) (x : A) : Type 0 where
  pub short : length line ≤ LINE_LIMIT
  pub printable : list_all is_printable line ≡ true
  pub said : say (words_of line) ≡ Ok x

spoken_some : {A : Type 0} (s : Result Bool Cause) (said : Result A Cause) (x : A) → spoken s said ≡ Ok (Some x) → (s ≡ Ok true) × (said ≡ Ok x)
spoken_some (Ok true) said x e = let is = mapped_ok Some said (Some x) e in (refl, cc (is.1, is.2))
spoken_some _ said x e = absurd (cc e)

-- what is known of a line that says something
pub reading-Ok : {A : Type 0} (say : List (List ℕ) → Result A Cause) (line : List ℕ) (x : A) → reading_by say line ≡ Ok (Some x) → IsSaid say line x
reading-Ok say line x e =
    let told = spoken_some (speaks line) (say (words_of line)) x e in
    let length_test = ruled_out _ _ _ _ told.0 in
    let byte_test = ruled_out _ _ _ _ length_test.1 in
    record { short = ltb-false _ _ length_test.0; printable = not-false _ byte_test.0; said = told.1 }

-- the words of a line, put together again, with the command's name
pub rejoined : (line name text : List ℕ) (words : List (List ℕ)) → words_of line ≡ name ∷ words → bytes_eq name text ≡ true → line ≡ line_of (text ∷ words)
rejoined line name text words e named =
    sym (join_with_byte-slice_split 32 line) ∙ ap line_of (e ∙ ap (λ word. word ∷ words) ((bytes_eq-Decides name text).0 named))

-- a seat's number is read from its spelling
above_zero-decimal : (n : ℕ) → 1 ≤ n → n ≤ MAX_SEATS → above_zero (under (MAX_SEATS + 1) (number_of (decimal n))) ≡ Some n
above_zero-decimal n least most =
    rw (under-decimal (MAX_SEATS + 1) n (lit≤ tt) (omega arith)) (cond-true _ _ _ (lt-ltb 0 n (omega arith)))

-- and from nothing else
pub above_zero-Some : (word : List ℕ) (n : ℕ) → above_zero (under (MAX_SEATS + 1) (number_of word)) ≡ Some n → (word ≡ decimal n) × (1 ≤ n) × (n ≤ MAX_SEATS)
above_zero-Some word n e = option_and_then_some _ _ n e (λ m read above.
    let is = cond_some _ _ _ above in
    let spelled = under-Some (MAX_SEATS + 1) word m read in
    let least = ltb-true 0 m is.0 in
    (spelled.0 ∙ ap decimal is.1, omega (arith, least, is.1), omega (arith, spelled.1, is.1)))

-- seat is read from its spelling alone
seated : (line : List ℕ) (words : List (List ℕ)) (call : AskedCall) → line ≡ line_of (codes "seat" ∷ words) → seat_asked words ≡ Ok call → Spells line call
seated line (word ∷ []) call is e =
    bind_last (above_zero (under (MAX_SEATS + 1) (number_of word))) sit (Spells line) call e (λ n read.
    let spelled = above_zero-Some word n read in
    (cc (is, spelled.0), (spelled.1, spelled.2)))
seated line _ call is e = absurd (cc e)

-- arena is read from its spelling alone
listed : (line : List ℕ) (words : List (List ℕ)) (call : AskedCall) → line ≡ line_of (codes "arena" ∷ words) → arena_asked words ≡ Ok call → Spells line call
listed line [] call is e = from_ok (Spells line) show call e (is, tt)
listed line (word ∷ words) call is e = absurd (cc e)

-- and set
pub changed : (line : List ℕ) (words : List (List ℕ)) (call : AskedCall) → line ≡ line_of (codes "set" ∷ words) → set_asked words ≡ Ok call → Spells line call
changed line (id ∷ qbytes ∷ []) call is e =
    bind_ok _ _ call e (λ i read_id told.
    bind_last (number_of qbytes) (set i) (Spells line) call told (λ q read_qbytes.
    let spelled_id = under-Some (2 ^ 32) id i read_id in
    let spelled_qbytes = number_of-Some qbytes q read_qbytes in
    (cc (is, spelled_id.0, spelled_qbytes.0), (spelled_id.1, spelled_qbytes.1))))
changed line _ call is e = absurd (cc e)

-- and rm, stat and cut, which ask by one number below a limit
numbered : (line name word : List ℕ) (limit : ℕ) (of : ℕ → AskedCall) (call : AskedCall) → line ≡ line_of (name ∷ word ∷ []) → (under limit (number_of word) >>= λ i. Ok (of i)) ≡ Ok call
    → ((i : ℕ) → i < limit → Spells (line_of (name ∷ decimal i ∷ [])) (of i)) → Spells line call
numbered line name word limit of call is e spells =
    bind_last (under limit (number_of word)) of (Spells line) call e (λ i read.
    let spelled = under-Some limit word i read in
    let so = spells i spelled.1 in
    (cc (is, spelled.0, so.0), so.1))

removed : (line : List ℕ) (words : List (List ℕ)) (call : AskedCall) → line ≡ line_of (codes "rm" ∷ words) → remove_asked words ≡ Ok call → Spells line call
removed line (id ∷ []) call is e = numbered line (codes "rm") id (2 ^ 32) rm call is e (λ i below. (refl, below))
removed line _ call is e = absurd (cc e)

asked : (line : List ℕ) (words : List (List ℕ)) (call : AskedCall) → line ≡ line_of (codes "stat" ∷ words) → stat_asked words ≡ Ok call → Spells line call
asked line (id ∷ []) call is e = numbered line (codes "stat") id (2 ^ 32) stat call is e (λ i below. (refl, below))
asked line _ call is e = absurd (cc e)

severed : (line : List ℕ) (words : List (List ℕ)) (call : AskedCall) → line ≡ line_of (codes "cut" ∷ words) → cutting_asked words ≡ Ok call → Spells line call
severed line (slot ∷ []) call is e = numbered line (codes "cut") slot MAX_SLOTS cut call is e (λ i below. (refl, below))
severed line _ call is e = absurd (cc e)

-- what follows from words that say something
pub worded_ok : {A B P : Type 0} (o : Option A) (f : A → Result B Cause) (y : B) → worded o f ≡ Ok y → ((x : A) → o ≡ Some x → f x ≡ Ok y → P) → P
worded_ok None f y e then = absurd (cc e)
worded_ok (Some x) f y e then = then x refl e

-- the value of an option
some_is : {A : Type 0} (x y : A) → Some x ≡ Some y → x ≡ y
some_is x y e = cc e

-- a word that passes one of three tests is the word for its flags
one_of_three : {F : Type 0} (words_for : F → List (List ℕ)) (word a b c : List ℕ) (x y z flags : F) → words_for x ≡ a ∷ [] → words_for y ≡ b ∷ [] → words_for z ≡ c ∷ []
    → cond (bytes_eq word a) (Some x) (cond (bytes_eq word b) (Some y) (cond (bytes_eq word c) (Some z) None)) ≡ Some flags → word ∷ [] ≡ words_for flags
one_of_three words_for word a b c x y z flags for_x for_y for_z e =
    chosen _ _ _ _ e
    (λ (is : bytes_eq word a ≡ true) (found : Some x ≡ Some flags). cc (for_x, (bytes_eq-Decides word a).0 is, found))
    (λ not_a others. chosen _ _ _ _ others
    (λ (is : bytes_eq word b ≡ true) (found : Some y ≡ Some flags). cc (for_y, (bytes_eq-Decides word b).0 is, found))
    (λ not_b last. chosen _ _ _ _ last
    (λ (is : bytes_eq word c ≡ true) (found : Some z ≡ Some flags). cc (for_z, (bytes_eq-Decides word c).0 is, found))
    (λ not_c none. absurd (cc none))))

-- flags are read from their word alone
pub flags_of-Some : (words : List (List ℕ)) (flags : Flags) → flags_asked words ≡ Some flags → words ≡ flag_words flags.except flags.noerror
flags_of-Some [] flags e = subst (λ (f : Flags). [] ≡ flag_words f.except f.noerror) (some_is _ _ e) refl
flags_of-Some (word ∷ []) flags e =
    one_of_three (λ (f : Flags). flag_words f.except f.noerror) word (codes "e") (codes "n") (codes "en") _ _ _ flags refl refl refl e
flags_of-Some (word ∷ more ∷ words) flags e = absurd (cc e)

-- the same of the flags of get
pub get_flags_of-Some : (words : List (List ℕ)) (flags : GetFlags) → get_flags_asked words ≡ Some flags → words ≡ get_flag_words flags.create flags.exclusive
get_flags_of-Some [] flags e = subst (λ (f : GetFlags). [] ≡ get_flag_words f.create f.exclusive) (some_is _ _ e) refl
get_flags_of-Some (word ∷ []) flags e =
    one_of_three (λ (f : GetFlags). get_flag_words f.create f.exclusive) word (codes "c") (codes "x") (codes "cx") _ _ _ flags refl refl refl e
get_flags_of-Some (word ∷ more ∷ words) flags e = absurd (cc e)

-- an i32 is a key, and an i64
pub key_fits : (z : ℤ) → FitsSigned w32 z → (is_key z ≡ true) × FitsSigned w64 z
key_fits (pos n) fits = (lt-ltb n (2 ^ 31) (omega (arith, fits.sfits)), record { sfits = omega (arith, fits.sfits) })
key_fits (negsuc n) fits = (lt-ltb n (2 ^ 31) (omega (arith, fits.sfits)), record { sfits = omega (arith, fits.sfits) })

-- and no other number is a key
key_is : (z : ℤ) → is_key z ≡ true → FitsSigned w32 z
key_is (pos n) h = let below = ltb-true n (2 ^ 31) h in record { sfits = omega (arith, below) }
key_is (negsuc n) h = let below = ltb-true n (2 ^ 31) h in record { sfits = omega (arith, below) }

-- a key is read from its spelling
key_of-signed_decimal : (z : ℤ) → FitsSigned w32 z → key_of (signed_decimal z) ≡ Some z
key_of-signed_decimal z fits =
    let is = key_fits z fits in
    rw (integer_of-signed_decimal z is.1) (cond-true _ _ _ is.0)

-- and from nothing else
pub key_of-Some : (word : List ℕ) (z : ℤ) → key_of word ≡ Some z → (word ≡ signed_decimal z) × FitsSigned w32 z
key_of-Some word z e = option_and_then_some _ (integer_of word) z e (λ m read kept.
    let is = cond_some _ _ _ kept in
    let spelled = integer_of-Some word m read in
    let P : ℤ → Type 0 = λ y. (word ≡ signed_decimal y) × FitsSigned w32 y in
    subst P is.1 (spelled.0, key_is m is.0))

-- and get
pub got : (line : List ℕ) (words : List (List ℕ)) (call : AskedCall) → line ≡ line_of (codes "get" ∷ words) → get_asked words ≡ Ok call → Spells line call
got line (key ∷ words) call is e =
    worded_ok (get_flags_asked words) _ call e (λ flags read_flags keyed.
    bind_last (key_of key) (λ k. get k flags) (Spells line) call keyed (λ k read.
    let spelled = key_of-Some key k read in
    (cc (is, spelled.0, get_flags_of-Some words flags read_flags), spelled.1)))
got line [] call is e = absurd (cc e)

-- a listing is read from its options alone
pub listing_of-Some : (words : List (List ℕ)) (listing : Listing) → listing_asked words ≡ Some listing → words ≡ listing_words listing
listing_of-Some [] listing e = subst (λ (l : Listing). [] ≡ listing_words l) (some_is Table listing e) refl
listing_of-Some (option ∷ []) listing e =
    chosen _ _ _ _ e
    (λ (is : bytes_eq option (codes "-q") ≡ true) (found : Some (Queues Decimal) ≡ Some listing).
    subst (λ (l : Listing). option ∷ [] ≡ listing_words l) (some_is (Queues Decimal) listing found) (ap (λ word. word ∷ []) ((bytes_eq-Decides option (codes "-q")).0 is)))
    (λ not_q others. chosen _ _ _ _ others
    (λ (is : bytes_eq option (codes "-l") ≡ true) (found : Some Limits ≡ Some listing).
    subst (λ (l : Listing). option ∷ [] ≡ listing_words l) (some_is Limits listing found) (ap (λ word. word ∷ []) ((bytes_eq-Decides option (codes "-l")).0 is)))
    (λ not_l none. absurd (cc none)))
listing_of-Some (option ∷ keys ∷ []) listing e =
    chosen _ _ _ _ e
    (λ (is : (bytes_eq option (codes "-q") && bytes_eq keys (codes "x")) ≡ true) (found : Some (Queues Hexadecimal) ≡ Some listing).
    let both = and_parts (bytes_eq option (codes "-q")) (bytes_eq keys (codes "x")) is in
    let first : option ≡ codes "-q" = (bytes_eq-Decides option (codes "-q")).0 both.0 in
    let second : keys ≡ codes "x" = (bytes_eq-Decides keys (codes "x")).0 both.1 in
    subst (λ (l : Listing). option ∷ keys ∷ [] ≡ listing_words l) (some_is (Queues Hexadecimal) listing found) (rw (first, second) refl))
    (λ others none. absurd (cc none))
listing_of-Some (option ∷ keys ∷ more ∷ words) listing e = absurd (cc e)

-- and ipcs
reported : (line : List ℕ) (words : List (List ℕ)) (call : AskedCall) → line ≡ line_of (codes "ipcs" ∷ words) → ipcs_asked words ≡ Ok call → Spells line call
reported line words call is e =
    worded_ok (listing_asked words) (λ listing. Ok (ipcs listing)) call e (λ listing read told.
    from_ok (Spells line) (ipcs listing) call told (is ∙ ap (λ options. line_of (codes "ipcs" ∷ options)) (listing_of-Some words listing read), tt))

-- and info
informed : (line : List ℕ) (words : List (List ℕ)) (call : AskedCall) → line ≡ line_of (codes "info" ∷ words) → info_asked words ≡ Ok call → Spells line call
informed line [] call is e = from_ok (Spells line) info call e (is, tt)
informed line (word ∷ words) call is e = absurd (cc e)

-- and rcv
received : (line : List ℕ) (words : List (List ℕ)) (call : AskedCall) → line ≡ line_of (codes "rcv" ∷ words) → receive_asked words ≡ Ok call → Spells line call
received line (id ∷ size ∷ mtype ∷ words) call is e =
    worded_ok (flags_asked words) _ call e (λ flags read_flags numbers.
    bind_ok _ _ call numbers (λ i read_id sized.
    bind_ok _ _ call sized (λ s read_size typed.
    bind_last (integer_of mtype) (λ z. rcv i s z flags.except flags.noerror) (Spells line) call typed (λ z read_type.
    let spelled_id = under-Some (2 ^ 32) id i read_id in
    let spelled_size = number_of-Some size s read_size in
    let spelled_type = integer_of-Some mtype z read_type in
    let spelled_flags = flags_of-Some words flags read_flags in
    (cc (is, spelled_id.0, spelled_size.0, spelled_type.0, spelled_flags), (spelled_id.1, spelled_size.1, spelled_type.1))))))
received line _ call is e = absurd (cc e)

-- a word, and behind it parts that are not empty
joined_behind : (word : List ℕ) (parts : List (List ℕ)) (b : ℕ) (text : List ℕ) → join_with_byte 32 parts ≡ b ∷ text → join_with_byte 32 (word ∷ parts) ≡ word ++ 32 ∷ (b ∷ text)
joined_behind word [] b text e = absurd (cc e)
joined_behind word (part ∷ parts) b text e = ap (λ rest. word ++ 32 ∷ rest) e

-- a number of letters is within u64
abbrev LettersFit : AskedText → Type 0
LettersFit (plain bytes) = Unit {0}
LettersFit (letters count) = count < 2 ^ 64

-- what is no plain text begins with a star
star_first : (a b c : Bool) → (a || (b && c)) ≡ true → a ≡ false → b ≡ true
star_first true b c e other = absurd (cc other)
star_first false true c e other = refl
star_first false false c e other = absurd (cc e)

-- a text and what it says: it begins as a text, and a number of letters is in its range
record IsSpelled (text : List ℕ) (t : AskedText) : Type 0 where
  same : text ≡ text_spelling t
  fits : LettersFit t

-- a text is read from its spelling alone
text_of-Some : (text : List ℕ) (t : AskedText) → is_text text ≡ true → text_asked text ≡ Some t → IsSpelled text t
text_of-Some text t begins e =
    chosen (is_plain text) (Some (plain (drop 1 text))) (option_map letters (number_of (drop 1 text))) (Some t) e
    (λ equals bytes.
    let same : plain (drop 1 text) ≡ t = some_is _ _ bytes in
    subst (IsSpelled text) same (record { same = first_byte text 61 (lit< tt) equals; fits = tt }))
    (λ other number.
    let read = mapped letters (number_of (drop 1 text)) t number in
    let spelled = number_of-Some (drop 1 text) read.0 read.1 in
    let star = first_byte text 42 (lit< tt) (star_first (is_plain text) _ _ begins other) in
    subst (IsSpelled text) read.2 (record { same = star ∙ ap (λ ds. 42 ∷ ds) spelled.0; fits = spelled.1 }))

-- the parts of the line of snd behind its type, put together, are its text
sent_line : (name id mtype : List ℕ) (parts : List (List ℕ)) (t : AskedText) → line_of parts ≡ text_spelling t
    → line_of (name ∷ id ∷ mtype ∷ parts) ≡ line_of (name ∷ id ∷ mtype ∷ text_spelling t ∷ [])
sent_line name id mtype parts (plain bytes) text = ap (λ rest. name ++ 32 ∷ (id ++ 32 ∷ rest)) (joined_behind mtype parts 61 bytes text)
sent_line name id mtype parts (letters count) text = ap (λ rest. name ++ 32 ∷ (id ++ 32 ∷ rest)) (joined_behind mtype parts 42 (decimal count) text)

-- a short and printable line of snd asks for a call that can be spelled
sent_can : (id : ℕ) (z : ℤ) (t : AskedText) → id < 2 ^ 32 → FitsSigned w64 z → LettersFit t → length (spelling (snd id z t)) ≤ LINE_LIMIT
    → list_all is_printable (spelling (snd id z t)) ≡ true → CanBeSpelled (snd id z t)
sent_can id z (plain bytes) id_fits z_fits fits short printable =
    (id_fits, z_fits, printable_rest (signed_decimal z) (61 ∷ bytes) (printable_rest (decimal id) (signed_decimal z ++ 32 ∷ 61 ∷ bytes) printable), short)
sent_can id z (letters count) id_fits z_fits fits short printable = (id_fits, z_fits, fits)

-- and snd
sent : (line : List ℕ) (words : List (List ℕ)) (call : AskedCall) → line ≡ line_of (codes "snd" ∷ words) → length line ≤ LINE_LIMIT → list_all is_printable line ≡ true → send_asked words ≡ Ok call → Spells line call
sent line (id ∷ mtype ∷ parts) call is short printable e =
    let tests = needed (is_filled id && is_filled mtype && is_text (line_of parts)) (under (2 ^ 32) (number_of id) >>= λ i. integer_of mtype >>= λ z. text_asked (line_of parts) >>= λ t. Ok (snd i z t)) Words call e in
    let begins = (and_parts (is_filled id && is_filled mtype) (is_text (line_of parts)) tests.0).1 in
    bind_ok _ _ call tests.1 (λ i read_id typed.
    bind_ok (integer_of mtype) (λ z. text_asked (line_of parts) >>= λ t. Ok (snd i z t)) call typed (λ z read_type told.
    bind_last (text_asked (line_of parts)) (snd i z) (Spells line) call told (λ t read_text.
    let spelled_id = under-Some (2 ^ 32) id i read_id in
    let spelled_type = integer_of-Some mtype z read_type in
    let spelled_text = text_of-Some (line_of parts) t begins read_text in
    let behind = sent_line (codes "snd") id mtype parts t spelled_text.same in
    let line_is : line ≡ spelling (snd i z t) = cc (is, behind, spelled_id.0, spelled_type.0) in
    (line_is, sent_can i z t spelled_id.1 spelled_type.1 spelled_text.fits (rw line_is at short) (rw line_is at printable)))))
sent line _ call is short printable e = absurd (cc e)

-- the command that a line's words are is spelled by the line
commanded : (line : List ℕ) (words : List (List ℕ)) (call : AskedCall) → words_of line ≡ words → length line ≤ LINE_LIMIT → list_all is_printable line ≡ true → command_asked words ≡ Ok call → Spells line call
commanded line [] call are short printable e = absurd (cc e)
commanded line (name ∷ words) call are short printable e =
    chosen _ _ _ _ e
    (λ is_snd sends. sent line words call (rejoined line name (codes "snd") words are is_snd) short printable sends)
    (λ not_snd others.
    let filled = ruled_out _ _ _ _ others in
    chosen _ _ _ _ filled.1
    (λ is_rcv receives. received line words call (rejoined line name (codes "rcv") words are is_rcv) receives)
    (λ not_rcv more. chosen _ _ _ _ more
    (λ is_seat sits. seated line words call (rejoined line name (codes "seat") words are is_seat) sits)
    (λ not_seat rest. chosen _ _ _ _ rest
    (λ is_arena asks. listed line words call (rejoined line name (codes "arena") words are is_arena) asks)
    (λ not_arena rest. chosen _ _ _ _ rest
    (λ is_get gets. got line words call (rejoined line name (codes "get") words are is_get) gets)
    (λ not_get rest. chosen _ _ _ _ rest
    (λ is_set sets. changed line words call (rejoined line name (codes "set") words are is_set) sets)
    (λ not_set rest. chosen _ _ _ _ rest
    (λ is_rm removes. removed line words call (rejoined line name (codes "rm") words are is_rm) removes)
    (λ not_rm rest. chosen _ _ _ _ rest
    (λ is_stat asks. asked line words call (rejoined line name (codes "stat") words are is_stat) asks)
    (λ not_stat rest. chosen _ _ _ _ rest
    (λ is_cut cuts. severed line words call (rejoined line name (codes "cut") words are is_cut) cuts)
    (λ not_cut rest. chosen _ _ _ _ rest
    (λ is_ipcs reports. reported line words call (rejoined line name (codes "ipcs") words are is_ipcs) reports)
    (λ not_ipcs others.
    let last = needed _ _ _ _ others in
    informed line words call (rejoined line name (codes "info") words are last.0) last.1))))))))))

-- a call is read from its spelling alone
pub spelled_one_way : SpelledOneWay
spelled_one_way line call e =
    let is = reading-Ok command_asked line call e in
    commanded line (words_of line) call refl is.short is.printable is.said

-- a line that begins with a letter is not skipped
not_skipped : (line : List ℕ) → nat_lt 35 (get_or line 0 0) ≡ true → is_skipped line ≡ false
not_skipped [] letter = absurd (cc letter)
not_skipped (b ∷ line) letter =
    let above = ltb-true 35 b letter in
    rw (ne_eqb (length (b ∷ line)) 0 (λ e. omega arith), ne_eqb b 35 (λ e. omega arith)) refl

-- a short and printable line is read as its words are
reads : {A : Type 0} (say : List (List ℕ) → Result A Cause) (line : List ℕ) (words : List (List ℕ)) (x : A) → length line ≤ LINE_LIMIT → list_all is_printable line ≡ true
    → nat_lt 35 (get_or line 0 0) ≡ true → words_of line ≡ words → say words ≡ Ok x → reading_by say line ≡ Ok (Some x)
reads say line words x short printable letter are said =
    rw (le-ltb LINE_LIMIT (length line) short, printable, not_skipped line letter, are, said) refl

-- the same of a line of a few words, none of which is empty
pub reads_line : {A : Type 0} (say : List (List ℕ) → Result A Cause) (word : List ℕ) (words : List (List ℕ)) (x : A) → AreWords (word ∷ words) → length words ≤ 100
    → nat_lt 35 (get_or (line_of (word ∷ words)) 0 0) ≡ true → (list_all is_filled (word ∷ words) ≡ true → say (word ∷ words) ≡ Ok x)
    → reading_by say (line_of (word ∷ words)) ≡ Ok (Some x)
reads_line say word words x are few letter said =
    reads say (line_of (word ∷ words)) (word ∷ words) x (omega (arith, short_line word words are, few)) (printable_line word words are) letter
    (words_of_line word words are) (said (all_filled (word ∷ words) are))

-- what the words of get say, whatever more is said of them
abbrev GetSays : {A : Type 0} → (List (List ℕ) → Result A Cause) → AskedCall → A → Type 0
GetSays say call x = (words : List (List ℕ)) → list_all is_filled words ≡ true → get_asked words ≡ Ok call → say (codes "get" ∷ words) ≡ Ok x

-- the words for flags are read back
pub flags_again : (except noerror : Bool) → AreWords (flag_words except noerror) × (length (flag_words except noerror) ≤ 1)
    × (flags_asked (flag_words except noerror) ≡ Some (record { except = except; noerror = noerror }))
flags_again false false = (tt, lit≤ tt, refl)
flags_again true false = ((name_word (codes "e") refl, tt), lit≤ tt, refl)
flags_again false true = ((name_word (codes "n") refl, tt), lit≤ tt, refl)
flags_again true true = ((name_word (codes "en") refl, tt), lit≤ tt, refl)

pub get_flags_again : (create exclusive : Bool) → AreWords (get_flag_words create exclusive) × (length (get_flag_words create exclusive) ≤ 1)
    × (get_flags_asked (get_flag_words create exclusive) ≡ Some (record { create = create; exclusive = exclusive }))
get_flags_again false false = (tt, lit≤ tt, refl)
get_flags_again true false = ((name_word (codes "c") refl, tt), lit≤ tt, refl)
get_flags_again false true = ((name_word (codes "x") refl, tt), lit≤ tt, refl)
get_flags_again true true = ((name_word (codes "cx") refl, tt), lit≤ tt, refl)

-- get is read back, whatever more is said of its words
pub key_again : {A : Type 0} (say : List (List ℕ) → Result A Cause) (x : A) (key : ℤ) (create exclusive : Bool) → FitsSigned w32 key
    → GetSays say (get key (record { create = create; exclusive = exclusive })) x → reading_by say (spelling (get key (record { create = create; exclusive = exclusive }))) ≡ Ok (Some x)
key_again say x key create exclusive fits says =
    let flags = get_flags_again create exclusive in
    let words = signed_decimal key ∷ get_flag_words create exclusive in
    reads_line say (codes "get") words x (name_word (codes "get") refl, (signed_word key (key_fits key fits).1, flags.0)) (omega (arith, flags.1)) refl
    (λ filled. says words filled (rw (flags.2, key_of-signed_decimal key fits) refl))

-- the words of snd are read back
send_again : (id mtype : List ℕ) (parts : List (List ℕ)) (text : List ℕ) (t : AskedText) (i : ℕ) (z : ℤ) → is_filled id ≡ true → is_filled mtype ≡ true → line_of parts ≡ text
    → is_text text ≡ true → text_asked text ≡ Some t → under (2 ^ 32) (number_of id) ≡ Some i → integer_of mtype ≡ Some z → send_asked (id ∷ mtype ∷ parts) ≡ Ok (snd i z t)
send_again id mtype parts text t i z filled typed joined begins read read_id read_type =
    rw (filled, typed, joined, begins, read_id, read_type, read) refl

-- no space is among the bytes of a word
spaceless : (word : List ℕ) → list_all is_word_byte word ≡ true → list_any (λ b. b == 32) word ≡ false
spaceless [] h = refl
spaceless (b ∷ word) h =
    let parts = and_parts (is_word_byte b) (list_all is_word_byte word) h in
    let range = word_byte b parts.0 in
    rw (ne_eqb b 32 (λ e. omega (arith, range.0)), spaceless word parts.1) refl

-- a number of letters is a word
letters_word : (count : ℕ) → count < 2 ^ 64 → IsWord (42 ∷ decimal count)
letters_word count fits =
    let word = decimal_word count fits in
    record {
      filled = lt-ltb 0 _ (omega arith);
      bytes = word.bytes;
      short = let few : length (decimal count) ≤ 20 = length-decimal-le 20 count (lit< tt) (omega arith) fits in omega arith;
    }

-- each call that can be spelled is read back
pub reads_back : ReadsBack
reads_back (sit number) can =
    reads_line command_asked (codes "seat") (decimal number ∷ []) (sit number) (name_word (codes "seat") refl, (decimal_word number (omega (arith, can.1)), tt)) (lit≤ tt) refl
    (λ filled. rw (filled, above_zero-decimal number can.0 can.1) refl)
reads_back show can = refl
reads_back (get key flags) can =
    key_again command_asked (get key flags) key flags.create flags.exclusive can (λ words filled is. cond-false _ _ _ (not_from_true _ filled) ∙ is)
reads_back (snd id mtype (plain bytes)) can =
    let id_word = decimal_word id (omega (arith, can.0)) in
    let type_word = signed_word mtype can.1 in
    let behind = signed_decimal mtype ++ 32 ∷ 61 ∷ bytes in
    reads command_asked (spelling (snd id mtype (plain bytes))) (codes "snd" ∷ decimal id ∷ signed_decimal mtype ∷ words_of (61 ∷ bytes)) (snd id mtype (plain bytes)) can.3
    (printable_behind (decimal id) behind id_word (printable_behind (signed_decimal mtype) (61 ∷ bytes) type_word can.2)) refl
    (rw (words_behind (decimal id) behind id_word, words_behind (signed_decimal mtype) (61 ∷ bytes) type_word) refl)
    (send_again (decimal id) (signed_decimal mtype) (words_of (61 ∷ bytes)) (61 ∷ bytes) (plain bytes) id mtype id_word.filled type_word.filled
    (join_with_byte-slice_split 32 (61 ∷ bytes)) refl refl (under-decimal (2 ^ 32) id (lit≤ tt) can.0) (integer_of-signed_decimal mtype can.1))
reads_back (snd id mtype (letters count)) can =
    let id_word = decimal_word id (omega (arith, can.0)) in
    let type_word = signed_word mtype can.1 in
    let word = letters_word count can.2 in
    reads_line command_asked (codes "snd") (decimal id ∷ signed_decimal mtype ∷ (42 ∷ decimal count) ∷ []) (snd id mtype (letters count))
    (name_word (codes "snd") refl, (id_word, (type_word, (word, tt)))) (lit≤ tt) refl
    (λ filled. send_again (decimal id) (signed_decimal mtype) ((42 ∷ decimal count) ∷ []) (42 ∷ decimal count) (letters count) id mtype id_word.filled type_word.filled
    refl (rw (spaceless (42 ∷ decimal count) word.bytes) refl) (ap (option_map letters) (number_of-decimal count can.2))
    (under-decimal (2 ^ 32) id (lit≤ tt) can.0) (integer_of-signed_decimal mtype can.1))
reads_back (rcv id size mtype except noerror) can =
    let flags = flags_again except noerror in
    reads_line command_asked (codes "rcv") (decimal id ∷ decimal size ∷ signed_decimal mtype ∷ flag_words except noerror) (rcv id size mtype except noerror)
    (name_word (codes "rcv") refl, (decimal_word id (omega (arith, can.0)), (decimal_word size can.1, (signed_word mtype can.2, flags.0)))) (omega (arith, flags.1)) refl
    (λ filled. rw (filled, flags.2, under-decimal (2 ^ 32) id (lit≤ tt) can.0, number_of-decimal size can.1, integer_of-signed_decimal mtype can.2) refl)
reads_back (set id qbytes) can =
    reads_line command_asked (codes "set") (decimal id ∷ decimal qbytes ∷ []) (set id qbytes)
    (name_word (codes "set") refl, (decimal_word id (omega (arith, can.0)), (decimal_word qbytes can.1, tt))) (lit≤ tt) refl
    (λ filled. rw (filled, under-decimal (2 ^ 32) id (lit≤ tt) can.0, number_of-decimal qbytes can.1) refl)
reads_back (rm id) can =
    reads_line command_asked (codes "rm") (decimal id ∷ []) (rm id) (name_word (codes "rm") refl, (decimal_word id (omega (arith, can)), tt)) (lit≤ tt) refl
    (λ filled. rw (filled, under-decimal (2 ^ 32) id (lit≤ tt) can) refl)
reads_back (stat id) can =
    reads_line command_asked (codes "stat") (decimal id ∷ []) (stat id) (name_word (codes "stat") refl, (decimal_word id (omega (arith, can)), tt)) (lit≤ tt) refl
    (λ filled. rw (filled, under-decimal (2 ^ 32) id (lit≤ tt) can) refl)
reads_back (cut slot) can =
    reads_line command_asked (codes "cut") (decimal slot ∷ []) (cut slot) (name_word (codes "cut") refl, (decimal_word slot (omega (arith, can)), tt)) (lit≤ tt) refl
    (λ filled. rw (filled, under-decimal MAX_SLOTS slot (lit≤ tt) can) refl)
reads_back (ipcs Table) can = refl
reads_back (ipcs (Queues Decimal)) can = refl
reads_back (ipcs (Queues Hexadecimal)) can = refl
reads_back (ipcs Limits) can = refl
reads_back info can = refl
