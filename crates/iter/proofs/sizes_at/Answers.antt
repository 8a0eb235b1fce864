-- `iter::sizes_at` meets its contract: an admitted document has five bytes or more.
use Rattle.std.proofs.Common.{◌≡◌, rules, arith}
use Rattle.bson.specs.Answer.{gives}
use Rattle.bson.specs.Step.{admitted}
use Rattle.laws.proofs.StepLaws.{admitted_says}
use Rattle.iter.proofs.sizes_at.Goals as goal

pub overflow_sub-terminator : goal.overflow_sub-terminator
overflow_sub-terminator c =
    let a : admitted c.args.s.now ≡ gives c.in_ok-map_err.field-0 = search rules in
    omega (arith, admitted_says _ _ a)
