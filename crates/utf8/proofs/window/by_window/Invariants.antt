-- `utf8::window::by_window` goes round: the bytes before j are judged, and the last three say what is left.
use Rattle.utf8.proofs.WindowLaws.{Turned}
use Rattle.utf8.proofs.window.by_window.Given as goal

abbrev pub invariant-loop-j : goal.invariant-loop-j
invariant-loop-j l = Turned l.s l.any l.j
