-- The writer's refusals and bytes, each by a state, a buffer and a call that show it (RULES.md, "Writer and joining", and the points of
-- DECISIONS.md).
use Rattle.std.specs.Prelude.{ℕ, zero, suc, ◌+◌, ◌*◌, List, [], ◌∷◌, true, negsuc, take, replicate}
use Rattle.bson.specs.Grammar.{document, array}
use Rattle.bson.specs.Value.{boolean, int32, double, timestamp, string, null, binary, regex}
use Rattle.bson.specs.Writer.{State, fresh, used, Call, open_top, close, append, open_nest, Desk, desk, performed}

-- ---- states and buffers

-- a buffer before it is written to
abbrev pub blank : ℕ → List ℕ
blank size = replicate size 0xEE

-- the state when the top is open, and when it is closed again
abbrev pub top : State
top = 4 ∷ 1 ∷ 0 ∷ 0xFFFF_FFFF ∷ []

abbrev pub shut : State
shut = 5 ∷ 0 ∷ 0 ∷ 0xFFFF_FFFF ∷ []

-- a document in the top that starts here and is of this mark, so many bytes used
abbrev pub in_top : ℕ → ℕ → ℕ → State
in_top used start mark = used ∷ 2 ∷ 0 ∷ 0xFFFF_FFFF ∷ start ∷ mark ∷ []

-- the words of so many documents, one within the other under empty keys, the first at this offset
abbrev pub starts : ℕ → ℕ → State
starts zero offset = []
starts (suc n) offset = offset ∷ 0xFFFF_FFFF ∷ starts n (offset + 6)

-- n documents open within the top
abbrev pub nested : ℕ → State
nested n = (6 * n + 4) ∷ suc n ∷ starts (suc n) 0

abbrev pub zero_key : List ℕ
zero_key = 0x61 ∷ 0 ∷ []

-- ---- refusals

-- the number that a call returns, by its state and its room, and what was settled
abbrev pub point : Call → State → ℕ → ℕ → ℕ × ℕ
point call state size number = ((performed call state (blank size)).number, number)

-- 18, for each state that cannot be, and each call out of turn
unfoldable pub out_of_turn : List (ℕ × ℕ)
out_of_turn =
    point (append [] null) fresh 99 18
    ∷ point close fresh 99 18
    ∷ point open_top top 99 18
    ∷ point open_top shut 99 18
    ∷ point (append [] null) shut 99 18
    -- used bytes and a zero for each open document past the room
    ∷ point close top 5 0
    ∷ point close top 4 18
    -- bytes used before the top
    ∷ point open_top (1 ∷ 0 ∷ []) 99 18
    -- first start not 0
    ∷ point close (8 ∷ 1 ∷ 4 ∷ 0xFFFF_FFFF ∷ []) 99 18
    -- starts with four used bytes each
    ∷ point close (in_top 8 4 0) 99 0
    ∷ point close (in_top 8 3 0) 99 18
    ∷ point close (in_top 7 4 0) 99 18
    -- an array's count, and a mark that is no kind
    ∷ point close (in_top 8 4 8) 99 0
    ∷ point close (in_top 8 4 9) 99 18
    ∷ point close (in_top 8 4 0xFFFF_FFFF) 99 0
    ∷ point close (in_top 8 4 0xFFFF_FFFE) 99 18
    ∷ point close (in_top 8 4 0x8000_0000) 99 18
    ∷ []

-- 13 for a value at depth 201; it comes before 15
unfoldable pub too_deep : List (ℕ × ℕ)
too_deep =
    point (append [] null) (nested 200) 2000 0
    ∷ point (append [] null) (nested 201) 2000 13
    ∷ point (open_nest array []) (nested 201) 2000 13
    ∷ point (append zero_key null) (nested 201) 2000 13
    ∷ point close (nested 201) 2000 0
    ∷ point close (nested 202) 2000 18
    ∷ []

-- 15, before 14; in an array the key is not looked at
unfoldable pub not_in_order : List (ℕ × ℕ)
not_in_order =
    point (append zero_key null) top 5 15
    ∷ point (append (0xFF ∷ []) null) top 99 15
    ∷ point (append (0xFF ∷ 0 ∷ []) null) (in_top 8 4 0) 99 0
    ∷ point (append [] (string (0xFF ∷ []))) top 99 15
    ∷ point (append [] (string (0 ∷ []))) top 99 0
    ∷ point (append [] (regex zero_key [])) top 99 15
    ∷ point (append [] (regex [] zero_key)) top 99 15
    ∷ point (open_nest document zero_key) top 99 15
    ∷ []

-- 14: "null under an empty key needs room 7; room 6 is 14"; an opened document needs its zero too, and closing never meets 14
unfoldable pub no_room : List (ℕ × ℕ)
no_room =
    point (append [] null) top 7 0
    ∷ point (append [] null) top 6 14
    ∷ point open_top fresh 5 0
    ∷ point open_top fresh 4 14
    ∷ point (open_nest document []) top 12 0
    ∷ point (open_nest document []) top 11 14
    -- the key of the eleventh element has two digits
    ∷ point (append [] null) (in_top 30 4 10) 36 0
    ∷ point (append [] null) (in_top 30 4 10) 35 14
    ∷ []

-- ---- the bytes that are written

-- calls one after the other, and the used bytes that they leave
abbrev pub calls : List Call → Desk → Desk
calls [] d = d
calls (c ∷ cs) d = calls cs (performed c d.state d.buffer).left

-- from nothing used and nothing open; two documents need six words
abbrev pub wrote : List Call → List ℕ
wrote cs = let d = calls cs (desk (replicate 6 0) (blank 20)) in take (used d.state) d.buffer

-- what is written: the length 5 at first, the true one when closed, and the types where bytes could lie otherwise
unfoldable pub written_points : List (List ℕ × List ℕ)
written_points =
    (wrote (open_top ∷ close ∷ []), 0x05 ∷ 0 ∷ 0 ∷ 0 ∷ 0 ∷ [])
    ∷ (wrote (open_top ∷ open_nest document [] ∷ []), 0x05 ∷ 0 ∷ 0 ∷ 0 ∷ 0x03 ∷ 0 ∷ 0x05 ∷ 0 ∷ 0 ∷ 0 ∷ [])
    ∷ (
      wrote (open_top ∷ append [] (binary 2 (0xAA ∷ [])) ∷ []),
      0x05 ∷ 0 ∷ 0 ∷ 0 ∷ 0x05 ∷ 0 ∷ 0x05 ∷ 0 ∷ 0 ∷ 0 ∷ 0x02 ∷ 0x01 ∷ 0 ∷ 0 ∷ 0 ∷ 0xAA ∷ [],
    )
    ∷ (wrote (open_top ∷ append [] (int32 (negsuc 1)) ∷ []), 0x05 ∷ 0 ∷ 0 ∷ 0 ∷ 0x10 ∷ 0 ∷ 0xFE ∷ 0xFF ∷ 0xFF ∷ 0xFF ∷ [])
    ∷ (wrote (open_top ∷ append [] (timestamp 1 2) ∷ []), 0x05 ∷ 0 ∷ 0 ∷ 0 ∷ 0x11 ∷ 0 ∷ 0x01 ∷ 0 ∷ 0 ∷ 0 ∷ 0x02 ∷ 0 ∷ 0 ∷ 0 ∷ [])
    ∷ (
      wrote (open_top ∷ append [] (double 0x3FF0_0000_0000_0000) ∷ []),
      0x05 ∷ 0 ∷ 0 ∷ 0 ∷ 0x01 ∷ 0 ∷ 0 ∷ 0 ∷ 0 ∷ 0 ∷ 0 ∷ 0 ∷ 0xF0 ∷ 0x3F ∷ [],
    )
    ∷ (wrote (open_top ∷ append [] (string (0x61 ∷ [])) ∷ []), 0x05 ∷ 0 ∷ 0 ∷ 0 ∷ 0x02 ∷ 0 ∷ 0x02 ∷ 0 ∷ 0 ∷ 0 ∷ 0x61 ∷ 0 ∷ [])
    ∷ (wrote (open_top ∷ append [] (regex (0x61 ∷ []) (0x69 ∷ [])) ∷ []), 0x05 ∷ 0 ∷ 0 ∷ 0 ∷ 0x0B ∷ 0 ∷ 0x61 ∷ 0 ∷ 0x69 ∷ 0 ∷ [])
    ∷ (
      wrote (open_top ∷ open_nest array [] ∷ append zero_key null ∷ append zero_key (boolean true) ∷ close ∷ close ∷ []),
      0x13 ∷ 0 ∷ 0 ∷ 0 ∷ 0x04 ∷ 0 ∷ 0x0C ∷ 0 ∷ 0 ∷ 0 ∷ 0x0A ∷ 0x30 ∷ 0 ∷ 0x08 ∷ 0x31 ∷ 0 ∷ 0x01 ∷ 0 ∷ 0 ∷ [],
    )
    ∷ []
