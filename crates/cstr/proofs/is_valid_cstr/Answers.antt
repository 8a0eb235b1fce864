-- `cstr::is_valid_cstr` meets its contract: plain bytes are a key as they stand.
use Rattle.cstr.proofs.Plain.{plain_valid}
use Rattle.cstr.proofs.is_valid_cstr.Goals as goal

pub returns-then-is_plain : goal.returns-then-is_plain
returns-then-is_plain c = plain_valid _ _ c.is_plain.ensures c.if-is_plain.true
