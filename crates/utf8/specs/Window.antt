-- Window: which bytes may not stand behind the three before them (RULES.md, module 1).
use Rattle.std.specs.Prelude.{ℕ, Bool, not, ◌&&◌, ◌||◌, eqb, ltb}
use Rattle.std.specs.Bool.{beq}

-- a byte that a row has behind its first
abbrev pub is_tail : ℕ → Bool
is_tail b = ltb 0x7F b && ltb b 0xC0

-- whether one of the last three bytes, p the nearest, begins a row that has not ended
abbrev pub asked : ℕ → ℕ → ℕ → Bool
asked p q o = ltb 0xBF p || (ltb 0xDF q || ltb 0xEF o)

-- whether b stands wrong where a tail is asked for or not, and where the byte before it is E0, ED, F0 or F4
abbrev pub stray_behind : Bool → Bool → Bool → Bool → Bool → ℕ → Bool
stray_behind due e0 ed f0 f4 b =
    not (beq (is_tail b) due)
    || (((e0 && ltb b 0xA0) || (ed && not (ltb b 0xA0)))
    || (((f0 && ltb b 0x90) || (f4 && not (ltb b 0x90))) || (eqb b 0xC0 || (eqb b 0xC1 || ltb 0xF4 b))))

-- whether b may not stand behind p, q and o
unfoldable pub stray : ℕ → ℕ → ℕ → ℕ → Bool
stray b p q o = stray_behind (asked p q o) (eqb p 0xE0) (eqb p 0xED) (eqb p 0xF0) (eqb p 0xF4) b
