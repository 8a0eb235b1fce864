-- `whole::visit_framed` meets its contract: what framing has told, or the visit.
use Rattle.visit.specs.Said.{said_visited}
use Rattle.whole.proofs.FramedLaws.{visits_closed, visits_document}
use Rattle.whole.proofs.visit_framed.Goals as goal

pub returns-in-Closed : goal.returns-in-Closed
unfolding said_visited
returns-in-Closed c =
    let h = c.tell.ensures in
    let k = rw c.in-Closed.is at h in
    visits_closed _ _ _ c.requires _ k.0 k.1 k.2 k.3

pub returns-in-Opens : goal.returns-in-Opens
unfolding said_visited
returns-in-Opens c =
    let h = c.tell.ensures in
    let k = rw c.in-Opens.is at h in
    visits_document _ _ _ c.requires _ k.0 _ k.1
