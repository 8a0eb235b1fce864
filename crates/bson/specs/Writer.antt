-- The bounded writer: what each call answers, and the state and the buffer that it leaves (RULES.md, "Writer and joining").
use Rattle.std.specs.Prelude.{ℕ, zero, suc, ◌+◌, ◌-◌, ◌*◌, List, [], ◌∷◌, Bool, true, false, cond, ◌&&◌, leb, ltb, eqb, length, get_or, set, replicate}
use Rattle.bson.specs.Answer.{Answer, gives, refuses, then, unless}
use Rattle.bson.specs.Bytes.{natural}
use Rattle.bson.specs.Cstring.{valid_cstr}
use Rattle.bson.specs.Decimal.{decimal}
use Rattle.bson.specs.Output.{put}
use Rattle.bson.specs.Grammar.{bytes32, Item, row, Embedded, document, array, embedded, nest_tag, element_bytes}

-- ---- the state

-- a state is 406 words: how many bytes are used, how many documents are open, and two words for each that is, outermost first
abbrev pub State : Type 0
State = List ℕ

-- "begun fresh": nothing used, nothing open
unfoldable pub fresh : State
fresh = replicate 406 0

abbrev pub used : State → ℕ
used w = get_or w 0 0

abbrev pub depth : State → ℕ
depth w = get_or w 1 0

-- the first word of an open document is where it starts
abbrev pub start_at : ℕ → ℕ
start_at i = 2 + 2 * i

abbrev pub start : State → ℕ → ℕ
start w i = get_or w (start_at i) 0

-- the second is its mark, which tells its kind
abbrev pub mark_at : ℕ → ℕ
mark_at i = 3 + 2 * i

abbrev pub mark : State → ℕ → ℕ
mark w i = get_or w (mark_at i) 0

-- ---- the kinds of open documents

-- what an open document is; an array has so many elements
pub data Kind : Type 0 where
  in_document : Kind
  in_array : (count : ℕ) → Kind

-- all ones: a document; a number below 2³¹: an array of so many elements; anything else is none of the kinds, 18
unfoldable pub kind_of : ℕ → Answer Kind
kind_of m = cond (natural m) (gives (in_array m)) (unless (eqb m 0xFFFF_FFFF) 18 (gives in_document))

-- what is given passes a test
abbrev pub passes : {A : Type 0} → (A → Bool) → Answer A → Bool
passes test (gives a) = test a
passes test (refuses n p) = false

abbrev pub mark_of : Embedded → ℕ
mark_of document = 0xFFFF_FFFF
mark_of array = 0

-- ---- states that can be

-- "an array's count above the used bytes" is impossible
unfoldable pub kind_holds : ℕ → Kind → Bool
kind_holds used in_document = true
kind_holds used (in_array count) = leb count used

-- an open document whose bytes end here: its start has "four used bytes", and its kind is one that can be
unfoldable pub stands : State → ℕ → ℕ → Bool
stands w i end = leb (start w i + 4) end && passes (kind_holds (used w)) (kind_of (mark w i))

-- the open documents from the innermost out: "starts [..] ascending", the first at 0, and no "bytes used before the top"
unfoldable pub stand : State → ℕ → ℕ → Bool
stand w zero end = eqb end 0
stand w (suc i) end = stands w i end && stand w i (start w i)

-- "the smaller of buffer length and 2,147,483,647"
unfoldable pub room : ℕ → ℕ
room size = cond (leb size 2147483647) size 2147483647

-- no "impossible state": 202 open at most, the used bytes "and a zero for each open document" within the room
unfoldable pub possible : State → ℕ → Bool
possible w space =
    leb (depth w) 202
    && (leb (used w + depth w) space
    && stand w (depth w) (used w))

-- ---- the desk

-- the state and the buffer that a call is given, or leaves
pub record Desk : Type 0 where
  pub state : State
  pub buffer : List ℕ

abbrev pub desk : State → List ℕ → Desk
desk state buffer = record { state = state; buffer = buffer }

abbrev pub room_of : Desk → ℕ
room_of d = room (length d.buffer)

-- "nothing open [..] or an impossible state" 18; else the kind of the innermost
unfoldable pub innermost : State → ℕ → Answer Kind
innermost w space =
    unless (possible w space) 18
    (unless (ltb 0 (depth w)) 18
    (kind_of (mark w (depth w - 1))))

-- ---- an element behind the used bytes

-- how deep the next value lies: "top values have depth 0; inside documents and arrays one more"
abbrev pub next_depth : State → ℕ
next_depth w = depth w - 1

-- "inside an array it makes the keys itself, 0, 1, 2 on in decimal"
unfoldable pub key_in : Kind → List ℕ → List ℕ
key_in in_document key = key
key_in (in_array count) key = decimal count

-- "and a given key is not looked at"
unfoldable pub key_passes : Kind → List ℕ → Bool
key_passes in_document key = valid_cstr key
key_passes (in_array count) key = true

-- an element more, of so many bytes
unfoldable pub grown : Kind → State → ℕ → State
grown in_document w n = set w 0 (used w + n)
grown (in_array count) w n = set (set w 0 (used w + n)) (mark_at (depth w - 1)) (count + 1)

-- an element with a value of so many bytes, `more` documents then open besides: "order: 18, 13, 15, 14", the last "exactly when the bytes
-- used, the new bytes", which are its tag, its key, a zero and its value, "and one zero for each document then open exceed" the room; what
-- is given is the kind of the innermost
unfoldable pub room_for : State → ℕ → ℕ → List ℕ → Bool → ℕ → Answer Kind
room_for w space more key good size =
    then (innermost w space) λ kind.
    let new = 2 + length (key_in kind key) + size in
    unless (leb (next_depth w) 200) 13
    (unless (key_passes kind key && good) 15
    (unless (leb (used w + new + (depth w + more)) space) 14
    (gives kind)))

-- an element behind the used bytes
unfoldable pub appended : Desk → ℕ → ℕ → List ℕ → Bool → List ℕ → Answer Desk
appended d more tag key good value =
    then (room_for d.state (room_of d) more key good (length value)) λ kind.
    let w = d.state in
    let new = element_bytes tag (key_in kind key) value in
    gives (desk (grown kind w (length new)) (put d.buffer (used w) new))

-- ---- opening and closing

-- one document more is open, whose length is the last four bytes
unfoldable pub pushed : State → ℕ → State
pushed w mark = set (set (set w (start_at (depth w)) (used w - 4)) (mark_at (depth w)) mark) 1 (depth w + 1)

-- "opening writes 5 as the length"
unfoldable pub opened_in : Desk → Embedded → List ℕ → Answer Desk
opened_in d n key =
    then (appended d 1 (nest_tag (embedded n)) key true (bytes32 5)) λ e.
    gives (desk (pushed e.state (mark_of n)) e.buffer)

-- the top: "top opened twice" 18; its four bytes and its zero 14
unfoldable pub opened_top : Desk → Answer Desk
opened_top d =
    unless (possible d.state (room_of d) && eqb (depth d.state) 0) 18
    (unless (leb 5 (room_of d)) 14
    (gives (desk (pushed (set d.state 0 4) (mark_of document)) (put d.buffer 0 (bytes32 5)))))

-- one document fewer is open, and its zero is used
abbrev pub popped : State → State
popped w = set (set w 0 (used w + 1)) 1 (depth w - 1)

-- "closing ends the innermost with its zero and the true length"
unfoldable pub closed : Desk → Answer Desk
closed d =
    then (innermost d.state (room_of d)) λ kind.
    let w = d.state in
    let at = start w (depth w - 1) in
    gives (desk (popped w) (put (put d.buffer (used w) (0 ∷ [])) at (bytes32 (used w + 1 - at))))

-- ---- the calls

pub data Call : Type 0 where
  open_top close : Call
  append : (key : List ℕ) → Item → Call
  open_nest : Embedded → (key : List ℕ) → Call

unfoldable pub answer : Call → Desk → Answer Desk
answer open_top d = opened_top d
answer close d = closed d
answer (append key v) d = appended d 0 (row v).tag key (row v).good (row v).value
answer (open_nest n key) d = opened_in d n key

-- the number that a call returns, 0 for none, and what it leaves: "a refused call changes no byte of a lent buffer and no writer state"
pub record Written : Type 0 where
  pub number : ℕ
  pub left : Desk

abbrev pub written : ℕ → State → List ℕ → Written
written number state buffer = record { number = number; left = desk state buffer }

abbrev pub leaves : Desk → Answer Desk → Written
leaves d (gives e) = record { number = 0; left = e }
leaves d (refuses n p) = record { number = n; left = d }

unfoldable pub performed : Call → State → List ℕ → Written
performed c state buffer = leaves (desk state buffer) (answer c (desk state buffer))
