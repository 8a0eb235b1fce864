-- `report::put_report` meets its contract: header, element lines and verdict, or header and 20.
use mathlib.Core.Path.{ap, ◌∙◌}
use Rattle.std.proofs.Common.{rules}
use Rattle.bson.specs.Output.{Output}
use Rattle.bson.specs.Report.{header}
use native.Mathlib.Omega.{arith}
use Rattle.output.proofs.Left.{left_there}
use Rattle.report.proofs.Fits.{report_printed}
use Rattle.report.proofs.Along.{lines_from, report_put, report_long, report_within}
use Rattle.laws.proofs.OutputLaws.{then_put}
use Rattle.report.proofs.put_report.Goals as goal

pub returns-then-s-le65535 : goal.returns-then-s-le65535
unfolding header
returns-then-s-le65535 c =
    let e = c.put_elements.ensures.0 ∙ ap (λ (o : Output). lines_from o c.args.s.now 4) c.put_text.ensures.0 in
    let v = c.put_verdict.ensures in
    let k = c.check.ensures in
    let r = report_put _ _ _ _ _ c.if-s-le65535.true e k v.output_after.0 in
    record {
      result_after = left_there r (search rules);
      upper_bound = report_within _ _ _ _ (left_there r (search rules));
      out_after = report_printed _ (λ _. rw (← k) v.verdict_len_bound) _ _ _ (left_there r (search rules));
    }

pub returns : goal.returns
unfolding header
returns c =
    let l = c.if-s-le65535.false in
    let r = report_long _ _ _ l (then_put _ c.put_text.ensures.0 (rw c.at.ensures at c.put_refused.ensures.0)) in
    record {
      result_after = left_there r (search rules);
      upper_bound = report_within _ _ _ _ (left_there r (search rules));
      out_after = report_printed _ (λ h. absurd (omega (arith, h))) _ _ _ (left_there r (search rules));
    }
