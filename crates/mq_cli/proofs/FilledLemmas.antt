use Rattle.std.proofs.Common.{◌≡◌, ℕ, ℤ, ◌+◌, ◌^◌, ◌≤◌, Bool, true, false, cond, List, [], ◌∷◌, Some, Result, Ok, Err, codes, refl, arith, lit≤}
use Rattle.std.specs.List.{list_all}
use Rattle.std.specs.Str.{bytes_eq}
use Rattle.mq_table.specs.declared.limits.TheConstants.{MAX_SLOTS}
use Rattle.mq_calls.specs.declared.limits.TheConstants.{MAX_SEATS}
use Rattle.mq_cli.specs.declared.fault.Cause.{Cause}
use Rattle.mq_cli.specs.declared.fault.Cause.TheVariants.{Words}
use Rattle.mq_cli.specs.Commands.{AskedCall, sit, get, rcv, set, rm, stat, cut, ipcs, is_filled, flags_asked, seat_asked, arena_asked, get_flags_asked, get_asked, set_asked, remove_asked, stat_asked, cutting_asked, ipcs_asked, listing_asked, info_asked, receive_asked, command_asked, command_named}
use Rattle.mq_cli.specs.declared.listing.Listing.{Listing}
use Rattle.mq_cli.specs.declared.listing.Listing.TheVariants.{Limits, Queues, Table}
use Rattle.mq_cli.specs.Laws.{flag_words, get_flag_words, listing_words}
use Rattle.mq_cli.specs.Numbers.{number_of, integer_of, key_of, under, above_zero}
use Rattle.mq_trace.specs.declared.ipcs.Keys.TheVariants.{Decimal, Hexadecimal}
use Rattle.mq_cli.proofs.NumberLemmas.{number_of-Some}
use Rattle.mq_cli.proofs.SpellingLemmas.{above_zero-Some, all_filled, bind_ok, decimal_word, flags_again, flags_of-Some, get_flags_again, get_flags_of-Some, integer_of-Some, key_fits, key_of-Some, listing_of-Some, signed_word, under-Some, worded_ok}

-- a word that spells a number is filled
number_filled : (word : List ℕ) (n : ℕ) → number_of word ≡ Some n → is_filled word ≡ true
number_filled word n e = let is = number_of-Some word n e in rw is.0 (decimal_word n is.1).filled

below_filled : (limit : ℕ) (word : List ℕ) (n : ℕ) → limit ≤ 2 ^ 64 → under limit (number_of word) ≡ Some n → is_filled word ≡ true
below_filled limit word n most e = let is = under-Some limit word n e in rw is.0 (decimal_word n (omega (arith, is.1))).filled

seat_filled : (word : List ℕ) (n : ℕ) → above_zero (under (MAX_SEATS + 1) (number_of word)) ≡ Some n → is_filled word ≡ true
seat_filled word n e = let is = above_zero-Some word n e in rw is.0 (decimal_word n (omega (arith, is.2))).filled

integer_filled : (word : List ℕ) (z : ℤ) → integer_of word ≡ Some z → is_filled word ≡ true
integer_filled word z e = let is = integer_of-Some word z e in rw is.0 (signed_word z is.1).filled

key_filled : (word : List ℕ) (z : ℤ) → key_of word ≡ Some z → is_filled word ≡ true
key_filled word z e = let is = key_of-Some word z e in rw is.0 (signed_word z (key_fits z is.1).1).filled

-- so the words of a command that is read are filled
receive_filled : (words : List (List ℕ)) (call : AskedCall) → receive_asked words ≡ Ok call → list_all is_filled words ≡ true
receive_filled (id ∷ size ∷ mtype ∷ words) call e =
    worded_ok (flags_asked words) _ call e (λ flags read_flags numbers.
    bind_ok _ _ call numbers (λ i read_id sized.
    bind_ok _ _ call sized (λ s read_size typed.
    bind_ok (integer_of mtype) (λ z. Ok (rcv i s z flags.except flags.noerror)) call typed (λ z read_type done.
    rw (below_filled (2 ^ 32) id i (lit≤ tt) read_id, number_filled size s read_size, integer_filled mtype z read_type, flags_of-Some words flags read_flags)
    (all_filled (flag_words flags.except flags.noerror) (flags_again flags.except flags.noerror).0)))))
receive_filled _ call e = absurd (cc e)

get_filled : (words : List (List ℕ)) (call : AskedCall) → get_asked words ≡ Ok call → list_all is_filled words ≡ true
get_filled [] call e = refl
get_filled (key ∷ words) call e =
    worded_ok (get_flags_asked words) _ call e (λ flags read_flags keyed.
    bind_ok (key_of key) (λ k. Ok (get k flags)) call keyed (λ k read done.
    rw (key_filled key k read, get_flags_of-Some words flags read_flags) (all_filled (get_flag_words flags.create flags.exclusive) (get_flags_again flags.create flags.exclusive).0)))

seat_of_filled : (words : List (List ℕ)) (call : AskedCall) → seat_asked words ≡ Ok call → list_all is_filled words ≡ true
seat_of_filled (word ∷ []) call e = bind_ok (above_zero (under (MAX_SEATS + 1) (number_of word))) (λ n. Ok (sit n)) call e (λ n read done. rw (seat_filled word n read) refl)
seat_of_filled _ call e = absurd (cc e)

arena_filled : (words : List (List ℕ)) (call : AskedCall) → arena_asked words ≡ Ok call → list_all is_filled words ≡ true
arena_filled [] call e = refl
arena_filled (word ∷ words) call e = absurd (cc e)

set_filled : (words : List (List ℕ)) (call : AskedCall) → set_asked words ≡ Ok call → list_all is_filled words ≡ true
set_filled (id ∷ qbytes ∷ []) call e =
    bind_ok _ _ call e (λ i read_id told.
    bind_ok (number_of qbytes) (λ q. Ok (set i q)) call told (λ q read_qbytes done. rw (below_filled (2 ^ 32) id i (lit≤ tt) read_id, number_filled qbytes q read_qbytes) refl))
set_filled _ call e = absurd (cc e)

remove_filled : (words : List (List ℕ)) (call : AskedCall) → remove_asked words ≡ Ok call → list_all is_filled words ≡ true
remove_filled (id ∷ []) call e = bind_ok (under (2 ^ 32) (number_of id)) (λ i. Ok (rm i)) call e (λ i read done. rw (below_filled (2 ^ 32) id i (lit≤ tt) read) refl)
remove_filled _ call e = absurd (cc e)

stat_filled : (words : List (List ℕ)) (call : AskedCall) → stat_asked words ≡ Ok call → list_all is_filled words ≡ true
stat_filled (id ∷ []) call e = bind_ok (under (2 ^ 32) (number_of id)) (λ i. Ok (stat i)) call e (λ i read done. rw (below_filled (2 ^ 32) id i (lit≤ tt) read) refl)
stat_filled _ call e = absurd (cc e)

cut_filled : (words : List (List ℕ)) (call : AskedCall) → cutting_asked words ≡ Ok call → list_all is_filled words ≡ true
cut_filled (slot ∷ []) call e = bind_ok (under MAX_SLOTS (number_of slot)) (λ k. Ok (cut k)) call e (λ k read done. rw (below_filled MAX_SLOTS slot k (lit≤ tt) read) refl)
cut_filled _ call e = absurd (cc e)

options_filled : (listing : Listing) → list_all is_filled (listing_words listing) ≡ true
options_filled Table = refl
options_filled (Queues Decimal) = refl
options_filled (Queues Hexadecimal) = refl
options_filled Limits = refl

ipcs_filled : (words : List (List ℕ)) (call : AskedCall) → ipcs_asked words ≡ Ok call → list_all is_filled words ≡ true
ipcs_filled words call e =
    worded_ok (listing_asked words) (λ listing. Ok (ipcs listing)) call e (λ listing read done.
    rw (listing_of-Some words listing read) (options_filled listing))

info_filled : (words : List (List ℕ)) (call : AskedCall) → info_asked words ≡ Ok call → list_all is_filled words ≡ true
info_filled [] call e = refl
info_filled (word ∷ words) call e = absurd (cc e)

either : {P : Type 0} (b : Bool) {x y z : Result AskedCall Cause} → (x ≡ z → P) → (y ≡ z → P) → cond b x y ≡ z → P
either true one other e = one e
either false one other e = other e

named_filled : (name : List ℕ) (words : List (List ℕ)) (call : AskedCall) → command_named name words ≡ Ok call → list_all is_filled words ≡ true
named_filled name words call e =
    either (bytes_eq name (codes "rcv")) (receive_filled words call)
    (either (bytes_eq name (codes "seat")) (seat_of_filled words call)
    (either (bytes_eq name (codes "arena")) (arena_filled words call)
    (either (bytes_eq name (codes "get")) (get_filled words call)
    (either (bytes_eq name (codes "set")) (set_filled words call)
    (either (bytes_eq name (codes "rm")) (remove_filled words call)
    (either (bytes_eq name (codes "stat")) (stat_filled words call)
    (either (bytes_eq name (codes "cut")) (cut_filled words call)
    (either (bytes_eq name (codes "ipcs")) (ipcs_filled words call)
    (either (bytes_eq name (codes "info")) (info_filled words call)
    (λ (none : Err Words ≡ Ok call). absurd (cc none)))))))))))
    e

-- a command without a text that is read is the line's
pub named_read : (name : List ℕ) (words : List (List ℕ)) (call : AskedCall) → bytes_eq name (codes "snd") ≡ false → command_named name words ≡ Ok call
    → command_asked (name ∷ words) ≡ Ok call
named_read name words call other e = rw (other, named_filled name words call e) e
