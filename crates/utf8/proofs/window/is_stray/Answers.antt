-- `utf8::window::is_stray` meets its contract: its tests are the definition's.
use mathlib.Core.Path.{refl}
use Rattle.utf8.specs.Window.{stray}
use Rattle.utf8.proofs.window.is_stray.Goals as goal

pub returns : goal.returns
unfolding stray
returns c = refl
