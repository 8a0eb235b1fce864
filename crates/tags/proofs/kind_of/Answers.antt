-- `tags::kind_of` meets its contract: above 13 by the two rows there, else the rows from i on answer for the table.
use mathlib.Core.Path.{refl}
use native.Mathlib.Omega.{arith}
use Rattle.bson.specs.Tags.{tags}
use Rattle.tags.proofs.Table.{table, is_min_key, is_max_key, is_neither, first_row, this_row, next_row}
use Rattle.tags.proofs.kind_of.Goals as goal

pub returns-then-min_key-tag : goal.returns-then-min_key-tag
returns-then-min_key-tag c =
    is_min_key _ c.ranges.tag.fits c.if-tag-gt-DECIMAL128.true c.if-min_key-tag.true

pub returns-then-max_key-tag : goal.returns-then-max_key-tag
returns-then-max_key-tag c =
    is_max_key _ c.ranges.tag.fits c.if-tag-gt-DECIMAL128.true c.if-min_key-tag.false c.if-max_key-tag.true

pub returns-then-tag-gt-DECIMAL128 : goal.returns-then-tag-gt-DECIMAL128
returns-then-tag-gt-DECIMAL128 c =
    is_neither _ c.ranges.tag.fits c.if-tag-gt-DECIMAL128.true c.if-min_key-tag.false c.if-max_key-tag.false

pub loop-row-init : goal.loop-row-init
unfolding table tags
loop-row-init c = first_row refl c.ranges.tag.fits c.if-tag-gt-DECIMAL128.false

pub returns-then-row-tag : goal.returns-then-row-tag
returns-then-row-tag c = this_row c.loop-row.invariant _ (omega arith) c.if-row-tag.true

pub loop-row-preserved : goal.loop-row-preserved
loop-row-preserved c = next_row c.loop-row.invariant _ (omega arith) c.if-row-tag.false
