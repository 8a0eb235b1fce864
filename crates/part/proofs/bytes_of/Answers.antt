-- `part::bytes_of` meets its contract: the rest from the offset on, and of it so many bytes.
use Prim.Native.Nat.{◌≤◌}
use mathlib.Core.Path.{sym}
use lib.ListN.{length, drop, drop_of_length-le, length-drop}
use lib.Seq.{take-nil, take_all}
use native.Mathlib.Omega.{arith}
use Rattle.bson.specs.Bytes.{bytes}
use Rattle.laws.proofs.Common.{rest_part}
use Rattle.part.proofs.bytes_of.Goals as goal

pub returns-then-s-offset : goal.returns-then-s-offset
unfolding bytes
returns-then-s-offset c =
    let a = c.args in
    let h : length a.s.now ≤ a.part.offset = omega arith in
    rw (drop_of_length-le a.s.now h) (sym (take-nil a.part.size))

pub returns-then-rest-size : goal.returns-then-rest-size
unfolding bytes
returns-then-rest-size c =
    let a = c.args in
    rw rest_part
    (sym (take_all a.part.size (drop a.part.offset a.s.now) (omega (arith, length-drop a.part.offset a.s.now))))

pub returns : goal.returns
unfolding bytes
returns c = rw rest_part
