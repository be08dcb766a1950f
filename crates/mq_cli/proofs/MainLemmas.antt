-- What the main part of a threads script has written.
use Rattle.std.proofs.Common.{◌≡◌, ◌≢◌, Some, ℕ, ◌+◌, ◌<◌, List, [], ◌∷◌, ◌++◌, length, take, Option, refl, rules, sym, ap, ◌∙◌, subst, append_assoc, append-nil, add-one}
use Rattle.std.proofs.Math.ListN.{get_or}
use Rattle.std.proofs.Math.Seq.{take-suc}
use Rattle.std.proofs.lemmas.Grind.{flat_map-append}
use Rattle.std.specs.Io.KnownBytes.{Appends, Keeps}
use Rattle.std.proofs.KnownBytes.{Appends-kept, Appends-nil, Appends-trans}
use Rattle.mq_calls.specs.declared.errno.Errno.{Errno}
use Rattle.mq_calls.specs.declared.errno.Errno.TheVariants.{ENOMEM}
use Rattle.mq_system.specs.Seat.{SeatState}
use Rattle.mq_cli.specs.declared.threads.script.MainCall.{MainCall}
use Rattle.mq_cli.specs.MainPart.{AreReplies, IsReply, Replies, WroteAll, WroteSome, lines_replied}
use Rattle.mq_cli.specs.Serial.{AppendsPrefix}
use Rattle.mq_cli.specs.Transcript.{Reply, output, refused, refusal_in}

-- one reply more
pub one_more : (slots last_seq : ℕ) (calls : List MainCall) (replies : List Reply) (call : MainCall) (reply : Reply) (old mid new : SeatState)
    → AreReplies slots last_seq calls replies old mid → IsReply slots last_seq call reply mid new → AreReplies slots last_seq (calls ++ call ∷ []) (replies ++ reply ∷ []) old new
one_more slots last_seq [] [] call reply old mid new are is =
    let so : IsReply slots last_seq call reply old new = subst (λ (q : SeatState). IsReply slots last_seq call reply q new) are is in
    (new, so, refl)
one_more slots last_seq (a ∷ calls) (b ∷ replies) call reply old mid new are is =
    (are.0, are.1, one_more slots last_seq calls replies call reply are.0 mid new are.2 is)
one_more slots last_seq _ _ call reply old mid new are is = absurd are

-- no call, and nothing written
pub wrote_nothing : (slots last_seq : ℕ) (seat : SeatState) (now : Option (List ℕ)) → WroteAll slots last_seq [] seat seat now now
wrote_nothing slots last_seq seat now = record { replies = []; are = refl; wrote = Appends-nil now }

lines_more : (replies : List Reply) (reply : Reply) → lines_replied (replies ++ reply ∷ []) ≡ lines_replied replies ++ output reply
lines_more replies reply = flat_map-append output replies (reply ∷ []) ∙ ap (λ l. lines_replied replies ++ l) (append-nil (output reply))

-- one reply more was written
pub wrote_more : (slots last_seq : ℕ) (calls : List MainCall) (call : MainCall) (line : List ℕ) (told : Option Errno) (old mid new : SeatState) (had then has : Option (List ℕ))
    → WroteAll slots last_seq calls old mid had then → Replies slots last_seq call [] line mid new told → Appends then has line → WroteAll slots last_seq (calls ++ call ∷ []) old new had has
wrote_more slots last_seq calls call line told old mid new had then has so reply taken = record {
  replies = so.replies ++ reply.0 ∷ [];
  are = one_more slots last_seq calls so.replies call reply.0 old mid new so.are reply.1;
  wrote = subst (Appends had has) (ap (λ l. lines_replied so.replies ++ l) reply.2 ∙ sym (lines_more so.replies reply.0)) (Appends-trans had then has (lines_replied so.replies) line so.wrote taken);
}

-- what is behind a text that was written is the end of a prefix
pub prefix_behind : (old mid new : Option (List ℕ)) (text more : List ℕ) → Appends old mid text → AppendsPrefix mid new more → AppendsPrefix old new (text ++ more)
prefix_behind old mid new text more taken part = (
  text ++ part.0,
  (part.1.0, ap (λ l. text ++ l) part.1.1 ∙ sym (append_assoc text part.0 part.1.0)),
  Appends-trans old mid new text part.0 taken part.2,
)

-- a prefix of a text is one of all that begins with the text
pub prefix_more : (old new : Option (List ℕ)) (text more : List ℕ) → AppendsPrefix old new text → AppendsPrefix old new (text ++ more)
prefix_more old new text more part =
    (part.0, (part.1.0 ++ more, ap (λ l. l ++ more) part.1.1 ∙ append_assoc part.0 part.1.0 more), part.2)

-- a whole text is a prefix of itself
pub all_prefix : (old new : Option (List ℕ)) (text : List ℕ) → Appends old new text → AppendsPrefix old new text
all_prefix old new text taken = (text, ([], sym (append-nil text)), taken)

-- the calls before some others have all their replies
pub wrote_first : (slots last_seq : ℕ) (first rest calls : List MainCall) (old mid : SeatState) (had has : Option (List ℕ)) → calls ≡ first ++ rest
    → WroteAll slots last_seq first old mid had has → WroteSome slots last_seq calls old had has
wrote_first slots last_seq first rest calls old mid had has is so =
    record { first = first; rest = rest; cut = is; replies = so.replies; mid = mid; are = so.are; wrote = all_prefix had has (lines_replied so.replies) so.wrote }

-- and the last of them a prefix of its own
pub wrote_part : (slots last_seq : ℕ) (first : List MainCall) (call : MainCall) (rest calls : List MainCall) (line : List ℕ) (told : Option Errno) (old mid new : SeatState) (had then has : Option (List ℕ))
    → calls ≡ (first ++ call ∷ []) ++ rest → WroteAll slots last_seq first old mid had then → Replies slots last_seq call [] line mid new told → AppendsPrefix then has line
    → WroteSome slots last_seq calls old had has
wrote_part slots last_seq first call rest calls line told old mid new had then has is so reply part =
    let are = one_more slots last_seq first so.replies call reply.0 old mid new so.are reply.1 in
    let lines = ap (λ l. lines_replied so.replies ++ l) reply.2 ∙ sym (lines_more so.replies reply.0) in
    let wrote = subst (AppendsPrefix had has) lines (prefix_behind had then has (lines_replied so.replies) line so.wrote part) in
    search (rules, is, are, wrote)

-- one element more
pub taken_more : {A : Type 0} (xs : List A) (k : ℕ) (x : A) → k < length xs → x ≡ get_or xs k x → take (k + 1) xs ≡ take k xs ++ x ∷ []
taken_more xs k x within is = rw add-one (take-suc xs k x within ∙ ap (λ y. take k xs ++ y ∷ []) (sym is))

-- the same by what a read past the end would find
pub taken_from : {A : Type 0} (xs : List A) (k : ℕ) (d : A) → k < length xs → take (k + 1) xs ≡ take k xs ++ get_or xs k d ∷ []
taken_from xs k d within = rw add-one (take-suc xs k d within)

-- what is written stays where nothing more is
pub all_kept : (slots last_seq : ℕ) (calls : List MainCall) (old new : SeatState) (had then has : Option (List ℕ)) → WroteAll slots last_seq calls old new had then → Keeps then has
    → WroteAll slots last_seq calls old new had has
all_kept slots last_seq calls old new had then has so kept =
    record { replies = so.replies; are = so.are; wrote = Appends-kept had then has (lines_replied so.replies) so.wrote kept }

pub some_kept : (slots last_seq : ℕ) (calls : List MainCall) (old : SeatState) (had then has : Option (List ℕ)) → WroteSome slots last_seq calls old had then → Keeps then has
    → WroteSome slots last_seq calls old had has
some_kept slots last_seq calls old had then has so kept =
    let part : AppendsPrefix had has (lines_replied so.replies) = (so.wrote.0, so.wrote.1, Appends-kept had then has so.wrote.0 so.wrote.2 kept) in
    search (rules, so.cut, so.are, part)

-- the reply of a call was written
pub replied : (slots last_seq : ℕ) (call : MainCall) (held holds : List ℕ) (old new : SeatState) (reply : Reply)
    → IsReply slots last_seq call reply old new → holds ≡ held ++ output reply → Replies slots last_seq call held holds old new (refusal_in reply)
replied slots last_seq call held holds old new reply is line = (reply, is, line, refl)

-- the same of a refusal, which is not that memory ran out
pub refused_so : (slots last_seq : ℕ) (call : MainCall) (held holds : List ℕ) (old new : SeatState) (errno : Errno)
    → (errno ≢ ENOMEM → IsReply slots last_seq call (refused errno) old new) → holds ≡ held ++ output (refused errno) → errno ≢ ENOMEM
    → Replies slots last_seq call held holds old new (Some errno)
refused_so slots last_seq call held holds old new errno is line memory = (refused errno, is memory, line, refl)
