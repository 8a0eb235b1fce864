-- What a call leaves of an output (RULES.md, "What every answer is bound to").
use Rattle.std.specs.Prelude.{ℕ, ◌≡◌, List}
use Rattle.bson.specs.Output as paper
use Rattle.output.specs.declared.Output.{Output}

-- an output of the code as one of the definition
abbrev pub held : Output → paper.Output
held o = paper.output o.buffer.now o.used

-- it holds this, in the buffer that was lent
abbrev pub Holds : Output → Output → paper.Output → Type 0
Holds before after o = (held after ≡ o) × (after.buffer.ghost_name ≡ before.buffer.ghost_name)

-- a text is put
abbrev pub Puts : Output → Output → List ℕ → Type 0
Puts before after text = Holds before after (paper.put_text (held before) text)
