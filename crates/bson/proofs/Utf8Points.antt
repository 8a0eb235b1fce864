-- The rows of RFC 3629 have the characters that RULES.md, module 1, names, and no others at their ends.
use mathlib.Core.Path.{refl}
use Rattle.bson.specs.Utf8.{rows, utf8}
use Rattle.bson.specs.Decided.{Hold}
use Rattle.bson.specs.Utf8Points.{utf8_points}

pub utf8_points_hold : Hold utf8_points
unfolding rows utf8 utf8_points
utf8_points_hold = refl
