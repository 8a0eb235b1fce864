-- `iter::element_at` meets its contract: the key and its zero lie within the slice.
use Rattle.std.proofs.Common.{sym, arith}
use Rattle.laws.proofs.CstringLaws.{cstring_inside}
use Rattle.iter.proofs.element_at.Goals as goal

pub overflow_add-offset : goal.overflow_add-offset
overflow_add-offset c = omega (arith, cstring_inside _ _ _ (sym c.in_ok-key.ensures))

pub overflow_add-offset-2 : goal.overflow_add-offset-2
overflow_add-offset-2 c = omega (arith, cstring_inside _ _ _ (sym c.in_ok-key.ensures))

pub slice_bounds-value_len-count : goal.slice_bounds-value_len-count
slice_bounds-value_len-count c = omega (arith, cstring_inside _ _ _ (sym c.in_ok-key.ensures))

pub slice_bounds-value_len-start : goal.slice_bounds-value_len-start
slice_bounds-value_len-start c = omega (arith, cstring_inside _ _ _ (sym c.in_ok-key.ensures))
