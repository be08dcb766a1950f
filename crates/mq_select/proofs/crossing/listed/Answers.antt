use Rattle.mq_select.proofs.crossing.listed.Goals as goal

pub from_parts-requires-clause-rising : goal.from_parts-requires-clause-rising
from_parts-requires-clause-rising g c =
    rw (c.go_back.ensures.moved, c.in-Ok.ensures.items) c.places_rise.ensures
