-- What the cases of a value say on paper (RULES.md, "Values").
use Rattle.bson.specs.Value.{leaf, boolean, int32, int64, date_time, double, timestamp, object_id, decimal128, string, code, symbol}
use Rattle.bson.specs.Value.{null, undefined, min_key, max_key, db_pointer, binary, regex, document, array, code_with_scope}
use Rattle.bson.specs.Value as paper
use Rattle.part.specs.Said.{said_part}
use Rattle.value.specs.declared.Value.{Value}
use Rattle.value.specs.declared.Value.TheVariants as is

abbrev pub said_value : Value → paper.Value
said_value (is.Double bits) = leaf (double bits)
said_value (is.String p) = leaf (string (said_part p))
said_value (is.Document p) = document (said_part p)
said_value (is.Array p) = array (said_part p)
said_value (is.Binary subtype p) = leaf (binary subtype (said_part p))
said_value is.Undefined = leaf undefined
said_value (is.ObjectId p) = leaf (object_id (said_part p))
said_value (is.Boolean b) = leaf (boolean b)
said_value (is.DateTime n) = leaf (date_time n)
said_value is.Null = leaf null
said_value (is.RegularExpression p o) = leaf (regex (said_part p) (said_part o))
said_value (is.DbPointer p i) = leaf (db_pointer (said_part p) (said_part i))
said_value (is.JavaScriptCode p) = leaf (code (said_part p))
said_value (is.Symbol p) = leaf (symbol (said_part p))
said_value (is.JavaScriptCodeWithScope p c) = code_with_scope (said_part c) (said_part p)
said_value (is.Int32 n) = leaf (int32 n)
said_value (is.Timestamp i n) = leaf (timestamp i n)
said_value (is.Int64 n) = leaf (int64 n)
said_value (is.Decimal128 p) = leaf (decimal128 (said_part p))
said_value is.MinKey = leaf min_key
said_value is.MaxKey = leaf max_key
