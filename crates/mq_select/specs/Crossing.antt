-- Messages that move from one form of a list to another.
use Rattle.std.specs.Prelude.{◌≡◌, ℕ, List, []}
use Rattle.std.specs.VecDeque.{deque_capacity}
use Rattle.std.specs.declared.collections.VecDeque.{VecDeque}
use Rattle.mq_message.specs.declared.message.Message.{Message}
use Rattle.mq_message.specs.Waiting.{Listed}

-- the messages of a list have all moved to others, which are these then, in the room that they had
pub record HaveMoved {B Z : Type 0} (all : List (ℕ × Message B)) (left : Listed B)
    (old new : VecDeque (ℕ × Message B) Z) : Type 0 where
  pub none : left.messages ≡ []
  pub moved : new.items ≡ all
  pub capacity : deque_capacity new ≡ deque_capacity old
