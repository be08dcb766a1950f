-- What a whole run of a threads script has written.
use Rattle.std.proofs.Common.{◌≡◌, ◌⊎◌, inl, inr, ℕ, ◌-◌, ◌<◌, ◌^◌, zero, suc, List, [], ◌∷◌, ◌++◌, map, Option, IfSome, Result, Ok, Err, refl, rules, sym, ap, ◌∙◌, subst, append-nil, arith, take}
use Rattle.std.specs.Global.{Vec}
use Rattle.std.specs.List.{AllZip}
use Rattle.std.specs.Io.KnownBytes.{Keeps}
use Rattle.std.proofs.KnownBytes.{Appends-kept, Appends-trans, Consumes-whole, Keeps-refl, Keeps-trans}
use Rattle.mq_calls.specs.declared.close.ClosedSlot.{ClosedSlot}
use Rattle.mq_calls.specs.declared.config.Config.{Config}
use Rattle.mq_system.specs.Seat.{SeatState, fresh_seat}
use Rattle.mq_system.specs.Started.{AreFresh}
use Rattle.mq_cli.specs.declared.fault.RunFault.{RunFault}
use Rattle.mq_cli.specs.declared.fault.RunFault.TheVariants.{Script, Size, Read, Write, Memory, Thread}
use Rattle.mq_cli.specs.declared.threads.outcome.Outcome.{Outcome}
use Rattle.mq_cli.specs.declared.threads.step.Step.{Step}
use Rattle.mq_cli.specs.Closing.{closing}
use Rattle.mq_cli.specs.Input.{HasRead, IsUnread}
use Rattle.mq_cli.specs.MainPart.{RanMain, WroteAll, WroteSome, lines_replied}
use Rattle.mq_cli.specs.Plans.{IsCarriedOut}
use Rattle.mq_cli.specs.Serial.{AppendsPrefix, Writes}
use Rattle.mq_cli.specs.Threads.{AreClosed, AreDone, Flushes, IsMakingFault, IsTold, IsWholeRun, RanParts, RanWorkers, TellsWanted, TellsEnd, WroteMain, WrotePart, WroteWhole, main_seat}
use Rattle.mq_cli.specs.declared.threads.script.ThreadsScript.{ThreadsScript}
use Rattle.mq_cli.specs.ThreadsParsed.{Parses, wanted_seen}
use Rattle.mq_cli.specs.ThreadsRun.{RanThreads, RanWanted}
use Rattle.mq_cli.specs.ThreadsScript.{Wanted, wanted_of}
use Rattle.mq_cli.proofs.InputLemmas.{reads_few}
use Rattle.mq_cli.proofs.MainLemmas.{all_kept, prefix_behind, some_kept, wrote_first, wrote_nothing}
use Rattle.mq_cli.proofs.Runs.{prefix_kept, writes_prefix}

-- the same of sections and of the vectors that hold them
pub done_seen : (sections : List (Vec Step)) (outcomes : List Outcome) → AllZip (λ (plan : Vec Step) outcome. IsCarriedOut plan.items outcome) sections outcomes
    → AreDone (map (λ (v : Vec Step). v.items) sections) outcomes
done_seen [] [] done = tt
done_seen (s ∷ sections) (o ∷ outcomes) done = (done.0, done_seen sections outcomes done.1)
done_seen _ _ done = absurd done

-- all calls of the main part are some of them
pub all_some : (slots last_seq : ℕ) (wanted : Wanted) (main now : SeatState) (old new : Option (List ℕ)) → WroteAll slots last_seq wanted.calls main now old new
    → WroteSome slots last_seq wanted.calls main old new
all_some slots last_seq wanted main now old new so = wrote_first slots last_seq wanted.calls [] wanted.calls main now old new (sym (append-nil wanted.calls)) so

-- workers that were not run
pub not_run : (slots last_seq : ℕ) (wanted : Wanted) (main now : SeatState) (old new : Option (List ℕ)) (fault : RunFault) → WroteAll slots last_seq wanted.calls main now old new
    → IsMakingFault fault → RanParts slots last_seq wanted main now old new (Err fault)
not_run slots last_seq wanted main now old new Memory so making = all_some slots last_seq wanted main now old new so
not_run slots last_seq wanted main now old new Thread so making = so
not_run slots last_seq wanted main now old new _ so making = absurd making

-- a main part that was not done to its end
pub main_failed : (slots last_seq : ℕ) (wanted : Wanted) (main now : SeatState) (old new : Option (List ℕ)) (fault : RunFault)
    → RanMain slots last_seq wanted.calls main now old new (Err fault) → RanParts slots last_seq wanted main now old new (Err fault)
main_failed slots last_seq wanted main now old new Write ran = ran
main_failed slots last_seq wanted main now old new Memory ran = ran
main_failed slots last_seq wanted main now old new _ ran = absurd ran

-- the workers, behind a main part that was
pub sections_ran : (slots last_seq : ℕ) (script : ThreadsScript) (main now : SeatState) (old mid new : Option (List ℕ)) (r : Result (Vec Outcome) RunFault)
    → WroteAll slots last_seq script.calls.items main now old mid → Keeps mid new
    → RanWorkers script.sections.items r → RanParts slots last_seq (wanted_seen script) main now old new r
sections_ran slots last_seq script main now old mid new (Ok outcomes) so kept done =
    (all_kept slots last_seq script.calls.items main now old mid new so kept, done_seen script.sections.items outcomes.items done)
sections_ran slots last_seq script main now old mid new (Err e) so kept fault =
    not_run slots last_seq (wanted_seen script) main now old new e (all_kept slots last_seq script.calls.items main now old mid new so kept) fault

-- a flush that failed
pub flush_failed : (slots last_seq : ℕ) (script : ThreadsScript) (main now : SeatState) (old mid new : Option (List ℕ))
    → WroteAll slots last_seq script.calls.items main now old mid → Keeps mid new → RanParts slots last_seq (wanted_seen script) main now old new (Err Write)
flush_failed slots last_seq script main now old mid new so kept =
    all_some slots last_seq (wanted_seen script) main now old new (all_kept slots last_seq script.calls.items main now old mid new so kept)

-- a run that never began
pub never_begun : (config : Config) (wanted : Wanted) (now : Option (List ℕ)) → WrotePart config wanted now now
never_begun config wanted now =
    let main = main_seat config in
    inl (wrote_first config.slots config.last_seq [] wanted.calls wanted.calls main main now now refl (wrote_nothing config.slots config.last_seq main now))

-- the first seat of a system that was just created is that of the main part
pub first_seat : (config : Config) (slots : ℕ) (seats : List SeatState) (main : SeatState) (others : List SeatState) → slots ≡ config.slots → seats ≡ main ∷ others → AreFresh slots seats
    → main ≡ main_seat config
first_seat config slots seats main others same is fresh =
    let all : AreFresh slots (main ∷ others) = subst (AreFresh slots) is fresh in
    all 0 main (omega arith) ∙ ap (λ (n : ℕ). fresh_seat n 1) same

-- some of a list, with its first
pub first_taken : (n : ℕ) (x : SeatState) (xs : List SeatState) → 0 < n → take n (x ∷ xs) ≡ x ∷ take (n - 1) xs
first_taken zero x xs some = absurd (omega arith)
first_taken (suc n) x xs some = ap (λ (m : ℕ). x ∷ take m xs) (omega arith)

-- what the parts of a run wrote and returned, of a system that was just created
abbrev pub RanFrom : Config → Wanted → SeatState → Option (List ℕ) → Option (List ℕ) → Result (Vec Outcome) RunFault → Type 0
RanFrom config wanted now old new r = RanParts config.slots config.last_seq wanted (main_seat config) now old new r

-- a run that ended before its workers had
part_stays : (config : Config) (wanted : Wanted) (now : SeatState) (old mid new : Option (List ℕ)) (fault : RunFault) → RanFrom config wanted now old mid (Err fault) → Keeps mid new
    → RanWanted config wanted old new (Err fault)
part_stays config wanted now old mid new Write ran kept = inl (some_kept config.slots config.last_seq wanted.calls (main_seat config) old mid new ran kept)
part_stays config wanted now old mid new Memory ran kept = inl (some_kept config.slots config.last_seq wanted.calls (main_seat config) old mid new ran kept)
part_stays config wanted now old mid new Thread ran kept = (now, all_kept config.slots config.last_seq wanted.calls (main_seat config) now old mid new ran kept)
part_stays config wanted now old mid new _ ran kept = absurd ran

-- the same where the last flush failed
part_cut : (config : Config) (wanted : Wanted) (now : SeatState) (old mid new : Option (List ℕ)) (fault : RunFault) → RanFrom config wanted now old mid (Err fault) → Keeps mid new
    → WrotePart config wanted old new
part_cut config wanted now old mid new Write ran kept = inl (some_kept config.slots config.last_seq wanted.calls (main_seat config) old mid new ran kept)
part_cut config wanted now old mid new Memory ran kept = inl (some_kept config.slots config.last_seq wanted.calls (main_seat config) old mid new ran kept)
part_cut config wanted now old mid new Thread ran kept =
    let main = main_seat config in
    inl (all_some config.slots config.last_seq wanted main now old new (all_kept config.slots config.last_seq wanted.calls main now old mid new ran kept))
part_cut config wanted now old mid new _ ran kept = absurd ran

-- all replies of the main part, as it ended
abbrev WroteFrom : Config → Wanted → SeatState → Option (List ℕ) → Option (List ℕ) → Type 0
WroteFrom config wanted now old new = WroteAll config.slots config.last_seq wanted.calls (main_seat config) now old new

-- the text of a whole run
whole : (config : Config) (wanted : Wanted) (now : SeatState) (old mid : Option (List ℕ)) (told : List ℕ) (so : WroteFrom config wanted now old mid)
    → IsTold config wanted.sections now told → IsWholeRun config wanted (lines_replied so.replies ++ told)
whole config wanted now old mid told so ending = record { replies = so.replies; main = now; told = told; replied = so.are; ending = ending; text_is = refl }

end_kept : (mid end new : Option (List ℕ)) (told : List ℕ) (r : Result (Unit {0}) RunFault) → Writes mid end told r → Keeps end new → Writes mid new told r
end_kept mid end new told (Ok _) wrote kept = Appends-kept mid end new told wrote kept
end_kept mid end new told (Err Write) wrote kept = prefix_kept mid end new told wrote kept
end_kept mid end new told (Err Memory) wrote kept = prefix_kept mid end new told wrote kept
end_kept mid end new told _ wrote kept = absurd wrote

-- a run whose workers have ended, and a prefix of what it prints at the end
whole_cut : (config : Config) (wanted : Wanted) (now : SeatState) (old mid new : Option (List ℕ)) (told : List ℕ) → WroteFrom config wanted now old mid
    → IsTold config wanted.sections now told → AppendsPrefix mid new told → WrotePart config wanted old new
whole_cut config wanted now old mid new told so ending part =
    let text = lines_replied so.replies in
    inr (text ++ told, whole config wanted now old mid told so ending, prefix_behind old mid new text told so.wrote part)

whole_stays : (config : Config) (wanted : Wanted) (now : SeatState) (old mid new : Option (List ℕ)) (told : List ℕ) (r : Result (Unit {0}) RunFault)
    → WroteFrom config wanted now old mid → IsTold config wanted.sections now told → Writes mid new told r → RanWanted config wanted old new r
whole_stays config wanted now old mid new told (Ok _) so ending wrote =
    let text = lines_replied so.replies in
    (text ++ told, whole config wanted now old mid told so ending, Appends-trans old mid new text told so.wrote wrote)
whole_stays config wanted now old mid new told (Err Write) so ending wrote = whole_cut config wanted now old mid new told so ending wrote
whole_stays config wanted now old mid new told (Err Memory) so ending wrote = whole_cut config wanted now old mid new told so ending wrote
whole_stays config wanted now old mid new told _ so ending wrote = absurd wrote

told_of : (config : Config) (wanted : Wanted) (now : SeatState) (outcomes : List Outcome) (slots : List ClosedSlot) (free : ℕ) → AreDone wanted.sections outcomes
    → AreClosed config now slots → IsTold config wanted.sections now (closing outcomes slots (2 ^ config.height) free)
told_of config wanted now outcomes slots free done are =
    record { outcomes = outcomes; slots = slots; free = free; done = done; closed = are; text_is = refl }

-- a run, from what its parts wrote, what was printed at the end and the last flush
run_by : (config : Config) (wanted : Wanted) (now : SeatState) (old mid end new : Option (List ℕ)) (ran : Result (Vec Outcome) RunFault) (slots : List ClosedSlot) (pages free : ℕ)
    (told result : Result (Unit {0}) RunFault) → RanFrom config wanted now old mid ran → AreClosed config now slots → pages ≡ 2 ^ config.height
    → TellsEnd mid end slots pages free ran told → Keeps end new → (result ≡ told) ⊎ (result ≡ Err Write) → RanWanted config wanted old new result
run_by config wanted now old mid end new (Ok outcomes) slots pages free told result parts are paged tells kept (inl same) =
    let text = closing outcomes.items slots (2 ^ config.height) free in
    let wrote : Writes mid end text told = subst (λ (p : ℕ). Writes mid end (closing outcomes.items slots p free) told) paged tells in
    subst (RanWanted config wanted old new) (sym same)
    (whole_stays config wanted now old mid new text told parts.0 (told_of config wanted now outcomes.items slots free parts.1 are) (end_kept mid end new text told wrote kept))
run_by config wanted now old mid end new (Ok outcomes) slots pages free told result parts are paged tells kept (inr failed) =
    let text = closing outcomes.items slots (2 ^ config.height) free in
    let wrote : Writes mid end text told = subst (λ (p : ℕ). Writes mid end (closing outcomes.items slots p free) told) paged tells in
    subst (RanWanted config wanted old new) (sym failed)
    (whole_cut config wanted now old mid new text parts.0 (told_of config wanted now outcomes.items slots free parts.1 are) (writes_prefix mid new text told (end_kept mid end new text told wrote kept)))
run_by config wanted now old mid end new (Err fault) slots pages free told result parts are paged tells kept (inl same) =
    let stays : Keeps mid new = Keeps-trans mid end new tells.1 kept in
    subst (RanWanted config wanted old new) (sym (same ∙ tells.0)) (part_stays config wanted now old mid new fault parts stays)
run_by config wanted now old mid end new (Err fault) slots pages free told result parts are paged tells kept (inr failed) =
    let stays : Keeps mid new = Keeps-trans mid end new tells.1 kept in
    subst (RanWanted config wanted old new) (sym failed) (part_cut config wanted now old mid new fault parts stays)

pub run_is : (config : Config) (wanted : Wanted) (now : SeatState) (old mid end new : Option (List ℕ)) (ran : Result (Vec Outcome) RunFault) (slots : List ClosedSlot) (pages free : ℕ)
    (told result : Result (Unit {0}) RunFault) → RanFrom config wanted now old mid ran → AreClosed config now slots → pages ≡ 2 ^ config.height
    → TellsEnd mid end slots pages free ran told → Flushes end new told result → RanWanted config wanted old new result
run_is config wanted now old mid end new ran slots pages free told result parts are paged tells flushed =
    run_by config wanted now old mid end new ran slots pages free told result parts are paged tells flushed.0 flushed.1

-- a run whose script was not read
pub unread_tells : (config : Config) (script left now : Option (List ℕ)) (fault : RunFault) → IsUnread script left fault → RanThreads config script left now now (Err fault)
unread_tells config script left now Size unread = record { reads = unread; writes = Keeps-refl now }
unread_tells config script left now Read unread = record { reads = unread; writes = Keeps-refl now }
unread_tells config script left now Memory unread = record { reads = unread; writes = inl (Keeps-refl now) }
unread_tells config script left now _ unread = absurd unread

-- or is not well formed
pub unparsed_tells : (config : Config) (script left : Option (List ℕ)) (all : Vec ℕ) (text : List ℕ) (now : Option (List ℕ)) (fault : RunFault) → HasRead script left all
    → text ≡ all.items → Parses (wanted_of text) (Err fault) → RanThreads config script left now now (Err fault)
unparsed_tells config script left all text now (Script line cause) read same parsed =
    let told = subst (λ (t : List ℕ). wanted_of t ≡ Err (line, cause)) same parsed in
    let whole = Consumes-whole script left all.items (λ s. wanted_of s ≡ Err (line, cause)) read.whole read.end told in
    search (rules, reads_few script left all read, Keeps-refl now, whole)
unparsed_tells config script left all text now Memory read same parsed = record { reads = reads_few script left all read; writes = inl (Keeps-refl now) }
unparsed_tells config script left all text now _ read same parsed = absurd parsed

-- or for whose system memory ran out
pub unmade_tells : (config : Config) (script left : Option (List ℕ)) (all : Vec ℕ) (now : Option (List ℕ)) → HasRead script left all
    → RanThreads config script left now now (Err Memory)
unmade_tells config script left all now read = record { reads = reads_few script left all read; writes = inl (Keeps-refl now) }

-- what is so of what the bytes that were read ask for is so of the script, where that is known
tells : (So : Wanted → Type 0) (wanted : Wanted) (script left : Option (List ℕ)) (all : Vec ℕ) (text : List ℕ) → HasRead script left all → text ≡ all.items
    → wanted_of text ≡ Ok wanted → So wanted → IfSome script (TellsWanted So)
tells So wanted script left all text read same is so =
    Consumes-whole script left all.items (TellsWanted So) read.whole read.end (wanted, subst (λ (t : List ℕ). wanted_of t ≡ Ok wanted) same is, so)

-- a run whose script was read and is well formed
pub wanted_tells : (config : Config) (script left : Option (List ℕ)) (all : Vec ℕ) (text : List ℕ) (wanted : Wanted) (old new : Option (List ℕ))
    (r : Result (Unit {0}) RunFault) → HasRead script left all → text ≡ all.items → wanted_of text ≡ Ok wanted → RanWanted config wanted old new r
    → RanThreads config script left old new r
wanted_tells config script left all text wanted old new (Ok done) read same is ran =
    search (rules, reads_few script left all read, read.end, tells (λ w. WroteWhole config w old new) wanted script left all text read same is ran)
wanted_tells config script left all text wanted old new (Err Thread) read same is ran =
    search (rules, reads_few script left all read, tells (λ w. WroteMain config w old new) wanted script left all text read same is ran)
wanted_tells config script left all text wanted old new (Err Write) read same is ran =
    search (rules, reads_few script left all read, tells (λ w. WrotePart config w old new) wanted script left all text read same is ran)
wanted_tells config script left all text wanted old new (Err Memory) read same is ran =
    search (rules, reads_few script left all read, tells (λ w. WrotePart config w old new) wanted script left all text read same is ran)
wanted_tells config script left all text wanted old new _ read same is ran = absurd ran
