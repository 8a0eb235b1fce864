-- What framing has told of a value, where the check needs not read it (RULES.md, "The whole check").
use Rattle.std.specs.Prelude.{ℕ, ◌≤◌, ◌≡◌, cond}
use Rattle.bson.specs.Answer.{gives}
use Rattle.bson.specs.Level.{Level}
use Rattle.bson.specs.Tags.{fixed, sized_of}
use Rattle.whole.specs.declared.Framed.{Framed}
use Rattle.whole.specs.declared.Framed.TheVariants.{Closed, Opens, Unread}

-- what each case says of the level and the tag: a fixed size other than a boolean's, or the tag of a document or an array
abbrev pub FramedSays : Framed → Level → ℕ → Type 0
FramedSays Closed l tag = (l.depth ≤ 200) × (n : ℕ) × (sized_of tag ≡ gives (fixed n)) × (n ≡ 1 → ⊥)
FramedSays (Opens array) l tag = (l.depth ≤ 200) × (tag ≡ cond array 4 3)
FramedSays Unread l tag = record {}
