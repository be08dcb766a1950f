-- Pending messages, each at its place: the index of its send in the log of its queue.
use Rattle.std.specs.Prelude.{ℕ, ℤ, Option, not, ◌==◌, List, length, map, filter, find}
use Rattle.std.specs.Option.{option_map}
use Rattle.mq_message.specs.declared.message.Message.{Message}
use Rattle.mq_message.specs.declared.header.Header.{Header}

-- the pending messages with their places, in the order of sending, and the type for which room was
-- prepared, if there is one
pub record Listed (B : Type 0) : Type 0 where
  pub messages : List (ℕ × Message B)
  pub prepared : Option ℤ

-- the message at a place, if one is pending there
abbrev pub message_at : {X : Type 0} → ℕ → List (ℕ × X) → Option X
message_at place messages = option_map (λ m. m.1) (find (λ m. m.0 == place) messages)

-- the messages but the one at this place
abbrev pub without : {X : Type 0} → ℕ → List (ℕ × X) → List (ℕ × X)
without place messages = filter (λ m. not (m.0 == place)) messages

-- the header of a pending message
abbrev pub header_of : {B : Type 0} → (B → List ℕ) → ℕ × Message B → Header
header_of bytes m = record {
  place = m.0;
  seat = m.1.sender;
  tag = m.1.tag;
  mtype = m.1.mtype;
  length = length (bytes m.1.body);
}

-- the headers of the pending messages, in their order
abbrev pub headers_of : {B : Type 0} → (B → List ℕ) → List (ℕ × Message B) → List Header
headers_of bytes messages = map (header_of bytes) messages
