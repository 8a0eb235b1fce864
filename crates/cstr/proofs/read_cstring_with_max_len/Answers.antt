-- `cstr::read_cstring_with_max_len` meets its contract: plain bytes up to a zero are a text as they stand.
use native.Mathlib.Omega.{arith}
use Rattle.bson.specs.Cstring.{cstring_under}
use Rattle.cstr.proofs.Plain.{plain_found, plain_none}
use Rattle.cstr.proofs.read_cstring_with_max_len.Goals as goal

pub returns-then-v-i-eq0 : goal.returns-then-v-i-eq0
unfolding cstring_under
returns-then-v-i-eq0 c =
    rw (← c.cut-v.ensures) (plain_found _ _ c.plain_end-i.ensures (omega arith) c.if-v-i-eq0.true _)

pub returns-then-i-v : goal.returns-then-i-v
unfolding cstring_under
returns-then-i-v c =
    rw (← c.cut-v.ensures, ← c.missing.ensures) c.read_mixed.ensures

pub returns : goal.returns
unfolding cstring_under
returns c =
    rw (← c.cut-v.ensures, ← c.missing-2.ensures) (plain_none _ _ c.plain_end-i.ensures (omega arith) _)
