-- `raw::pattern_options` meets its contract: the pattern lies within the part, and its zero too.
use mathlib.Core.Path.{sym}
use native.Mathlib.Omega.{arith}
use Rattle.laws.proofs.CstringLaws.{cstring_inside}
use Rattle.raw.proofs.pattern_options.Goals as goal

pub overflow_add-o : goal.overflow_add-o
overflow_add-o c = omega (arith, cstring_inside _ _ _ (sym c.in_ok-pattern.ensures))

pub slice_bounds-read_cstring_with_max_len-count : goal.slice_bounds-read_cstring_with_max_len-count
slice_bounds-read_cstring_with_max_len-count c = omega (arith, cstring_inside _ _ _ (sym c.in_ok-pattern.ensures))

pub slice_bounds-read_cstring_with_max_len-start : goal.slice_bounds-read_cstring_with_max_len-start
slice_bounds-read_cstring_with_max_len-start c = omega (arith, cstring_inside _ _ _ (sym c.in_ok-pattern.ensures))
