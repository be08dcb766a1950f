-- The numbers of a call.
use Rattle.std.specs.Prelude.{ℕ, ◌==◌, ◌%◌, ◌^◌, not, if◌then◌else◌, List, [], ◌∷◌, slice_index}
use Rattle.std.specs.Int.{cast_signed, cast_unsigned, from_bool, w32, w64}
use Rattle.mq_face.specs.declared.call.Call.{Call}
use Rattle.mq_face.specs.declared.call.CallKind.{CallKind}
use Rattle.mq_face.specs.declared.call.CallKind.TheVariants.{Get, Send, Receive, Control, Unknown}

-- which call has this number
abbrev pub kind_of : ℕ → CallKind
kind_of n =
    if n == 1 then Get
    else (if n == 2 then Send
    else (if n == 3 then Receive else (if n == 4 then Control else Unknown)))

-- and its number
abbrev pub kind_number : CallKind → ℕ
kind_number Get = 1
kind_number Send = 2
kind_number Receive = 3
kind_number Control = 4
kind_number Unknown = 0

-- the call of these numbers: of those that are narrower in C, the low half
abbrev pub call_of : List ℕ → Call
call_of numbers = record {
  kind = kind_of (slice_index numbers 0);
  number = cast_signed w32 (slice_index numbers 1 % 2 ^ 32);
  flags = slice_index numbers 2 % 2 ^ 32;
  mtype = cast_signed w64 (slice_index numbers 3);
  size = slice_index numbers 4;
  moment = slice_index numbers 5;
  waited = not (slice_index numbers 6 == 0);
  buffer = not (slice_index numbers 7 == 0);
}

-- the numbers of a call
abbrev pub numbers_of : Call → List ℕ
numbers_of call =
    kind_number call.kind ∷ cast_unsigned w32 call.number ∷ call.flags
    ∷ cast_unsigned w64 call.mtype ∷ call.size ∷ call.moment
    ∷ from_bool call.waited ∷ from_bool call.buffer ∷ []
