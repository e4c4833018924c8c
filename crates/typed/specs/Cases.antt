-- Sheets to try (02, requests 1 and 2), as one table: what they make, and what they are refused with. Texts are quoted, with \n for a line feed.
-- Assumes nothing.
use Rattle.std.specs.Prelude.{◌≡◌, List, [], ◌∷◌, ◌++◌, ℕ, suc, length, replicate}
use Prim.Native.Char.{code}
use Prim.Native.String.{String}
use Rattle.rules.specs.Calls.{refuse, succeed}
use Rattle.typed.specs.Calls.{from_text, to_text}

-- the bytes of a quoted text
unfoldable pub bytes : String → List ℕ
bytes String.[] = []
bytes (String.◌∷◌ c s) = code c ∷ bytes s

pub data Case : Type 0 where
  -- the text makes these words, in room for one more
  makes : (text : String) (words : List ℕ) → Case
  -- the text is refused with this number and count, even where there is no room
  refuses : (text : String) (number count : ℕ) → Case
  -- the text is refused with 19 in so much room
  cramped : (text : String) (room : ℕ) → Case
  -- the words are written so, in room for one byte more
  writes : (words : List ℕ) (text : String) → Case
  -- the words are refused with this number and this place, even where there is no room
  unwritten : (words : List ℕ) (number place : ℕ) → Case
  -- the words are refused with 19 in so much room
  tight : (words : List ℕ) (room : ℕ) → Case

-- what is lent has 7 in each place: a refusal leaves all of it, and what is made leaves what is past it
abbrev pub CaseHolds : Case → Type 0
CaseHolds (makes t ws) = from_text (bytes t) (replicate (suc (length ws)) 7) ≡ succeed (length ws) (ws ++ (7 ∷ []))
CaseHolds (refuses t n c) = from_text (bytes t) [] ≡ refuse n c []
CaseHolds (cramped t m) = from_text (bytes t) (replicate m 7) ≡ refuse 19 0 (replicate m 7)
CaseHolds (writes ws t) = to_text ws (replicate (suc (length (bytes t))) 7) ≡ succeed (length (bytes t)) (bytes t ++ (7 ∷ []))
CaseHolds (unwritten ws n k) = to_text ws [] ≡ refuse n k []
CaseHolds (tight ws m) = to_text ws (replicate m 7) ≡ refuse 19 0 (replicate m 7)

-- each of these cases holds
infixr 5 ◌also◌
pub data AllHold : List Case → Type 0 where
  done : AllHold []
  ◌also◌ : {c : Case} {cs : List Case} → CaseHolds c → AllHold cs → AllHold (c ∷ cs)

abbrev pub cases : List Case
cases =
    -- each word of an expression
    makes "boards 2\n0 same 1\n" (2 ∷ 1 ∷ 0 ∷ 6 ∷ 10 ∷ 10 ∷ 0 ∷ 1 ∷ 1 ∷ 0 ∷ [])
    ∷ makes "boards 2\n0 above 1\n1 below 0\n0 side 1\n" (2 ∷ 3 ∷ 0 ∷ 6 ∷ 18 ∷ 18 ∷ 0 ∷ 1 ∷ 1 ∷ 1 ∷ 1 ∷ 0 ∷ 1 ∷ 2 ∷ 0 ∷ 1 ∷ 1 ∷ 3 ∷ [])
    ∷ makes "boards 2\n0 same or above 1\n" (2 ∷ 1 ∷ 0 ∷ 6 ∷ 12 ∷ 12 ∷ 0 ∷ 1 ∷ 3 ∷ 4 ∷ 0 ∷ 1 ∷ [])
    ∷ makes "boards 2\n0 same and above 1\n" (2 ∷ 1 ∷ 0 ∷ 6 ∷ 12 ∷ 12 ∷ 0 ∷ 1 ∷ 3 ∷ 5 ∷ 0 ∷ 1 ∷ [])
    ∷ makes "boards 2\n0 not same 1\n0 inv above 1\n" (2 ∷ 2 ∷ 0 ∷ 6 ∷ 16 ∷ 16 ∷ 0 ∷ 1 ∷ 2 ∷ 6 ∷ 0 ∷ 0 ∷ 1 ∷ 2 ∷ 7 ∷ 1 ∷ [])
    -- `not` and `inv` bind tightest, then `and`, then `or`
    ∷ makes "boards 2\n0 same or above and below 1\n" (2 ∷ 1 ∷ 0 ∷ 6 ∷ 14 ∷ 14 ∷ 0 ∷ 1 ∷ 5 ∷ 4 ∷ 0 ∷ 5 ∷ 1 ∷ 2 ∷ [])
    ∷ makes "boards 2\n0 same and above or below 1\n" (2 ∷ 1 ∷ 0 ∷ 6 ∷ 14 ∷ 14 ∷ 0 ∷ 1 ∷ 5 ∷ 4 ∷ 5 ∷ 0 ∷ 1 ∷ 2 ∷ [])
    ∷ makes "boards 2\n0 not same and above 1\n" (2 ∷ 1 ∷ 0 ∷ 6 ∷ 13 ∷ 13 ∷ 0 ∷ 1 ∷ 4 ∷ 5 ∷ 6 ∷ 0 ∷ 1 ∷ [])
    ∷ makes "boards 2\n0 not same or above 1\n" (2 ∷ 1 ∷ 0 ∷ 6 ∷ 13 ∷ 13 ∷ 0 ∷ 1 ∷ 4 ∷ 4 ∷ 6 ∷ 0 ∷ 1 ∷ [])
    ∷ makes "boards 2\n0 not inv above 1\n0 inv not above 1\n" (2 ∷ 2 ∷ 0 ∷ 6 ∷ 18 ∷ 18 ∷ 0 ∷ 1 ∷ 3 ∷ 6 ∷ 7 ∷ 1 ∷ 0 ∷ 1 ∷ 3 ∷ 7 ∷ 6 ∷ 1 ∷ [])
    -- joined from the left
    ∷ makes "boards 2\n0 same or above or side 1\n" (2 ∷ 1 ∷ 0 ∷ 6 ∷ 14 ∷ 14 ∷ 0 ∷ 1 ∷ 5 ∷ 4 ∷ 4 ∷ 0 ∷ 1 ∷ 3 ∷ [])
    ∷ makes "boards 2\n0 same and above and side 1\n" (2 ∷ 1 ∷ 0 ∷ 6 ∷ 14 ∷ 14 ∷ 0 ∷ 1 ∷ 5 ∷ 5 ∷ 5 ∷ 0 ∷ 1 ∷ 3 ∷ [])
    -- parentheses, needed or not
    ∷ makes "boards 2\n0 same or ( above or side ) 1\n" (2 ∷ 1 ∷ 0 ∷ 6 ∷ 14 ∷ 14 ∷ 0 ∷ 1 ∷ 5 ∷ 4 ∷ 0 ∷ 4 ∷ 1 ∷ 3 ∷ [])
    ∷ makes "boards 2\n0 ( same or above ) and side 1\n" (2 ∷ 1 ∷ 0 ∷ 6 ∷ 14 ∷ 14 ∷ 0 ∷ 1 ∷ 5 ∷ 5 ∷ 4 ∷ 0 ∷ 1 ∷ 3 ∷ [])
    ∷ makes "boards 2\n0 not ( same or above ) 1\n" (2 ∷ 1 ∷ 0 ∷ 6 ∷ 13 ∷ 13 ∷ 0 ∷ 1 ∷ 4 ∷ 6 ∷ 4 ∷ 0 ∷ 1 ∷ [])
    ∷ makes "boards 2\n0 ((same)) or (((above))) 1\n" (2 ∷ 1 ∷ 0 ∷ 6 ∷ 12 ∷ 12 ∷ 0 ∷ 1 ∷ 3 ∷ 4 ∷ 0 ∷ 1 ∷ [])
    -- "at or above" is two words, and a panel's ways may be none
    ∷ makes "boards 3\n0 : 5 ( 1 2 )\n" (3 ∷ 0 ∷ 1 ∷ 6 ∷ 6 ∷ 11 ∷ 0 ∷ 5 ∷ 2 ∷ 1 ∷ 2 ∷ [])
    ∷ makes "boards 1\n0 : 5 ( )\n" (1 ∷ 0 ∷ 1 ∷ 6 ∷ 6 ∷ 9 ∷ 0 ∷ 5 ∷ 0 ∷ [])
    -- the two sorts may be mixed; each keeps its order
    ∷ makes "boards 3\n0 : 5 ( 1 )\n1 same 2\n2 : 6 ( )\n0 above 1\n" (3 ∷ 2 ∷ 2 ∷ 6 ∷ 14 ∷ 21 ∷ 1 ∷ 2 ∷ 1 ∷ 0 ∷ 0 ∷ 1 ∷ 1 ∷ 1 ∷ 0 ∷ 5 ∷ 1 ∷ 1 ∷ 2 ∷ 6 ∷ 0 ∷ [])
    -- blanks, none where there is a colon or a parenthesis, and the last line feed
    ∷ makes "  boards   2\n 0  above 1   \n" (2 ∷ 1 ∷ 0 ∷ 6 ∷ 10 ∷ 10 ∷ 0 ∷ 1 ∷ 1 ∷ 1 ∷ [])
    ∷ makes "boards 2\n0 not(same)1\n0:7(1)" (2 ∷ 1 ∷ 1 ∷ 6 ∷ 11 ∷ 15 ∷ 0 ∷ 1 ∷ 2 ∷ 6 ∷ 0 ∷ 0 ∷ 7 ∷ 1 ∷ 1 ∷ [])
    ∷ makes "boards 16" (16 ∷ 0 ∷ 0 ∷ 6 ∷ 6 ∷ 6 ∷ [])
    -- numbers
    ∷ makes "boards 1\n0 : 65535 ( )\n" (1 ∷ 0 ∷ 1 ∷ 6 ∷ 6 ∷ 9 ∷ 0 ∷ 65535 ∷ 0 ∷ [])
    ∷ makes "boards 1\n0 : 0 ( )\n" (1 ∷ 0 ∷ 1 ∷ 6 ∷ 6 ∷ 9 ∷ 0 ∷ 0 ∷ 0 ∷ [])
    ∷ refuses "boards 1\n0 : 65536 ( )\n" 20 2
    ∷ refuses "boards 1\n0 : 99999999999999999999 ( )\n" 20 2
    ∷ refuses "boards 01\n" 20 1
    ∷ refuses "boards 1\n0 : 00 ( )\n" 20 2
    ∷ refuses "boards +1\n" 20 1
    -- 20, with the line, wherever it is
    ∷ refuses "" 20 1
    ∷ refuses "\n" 20 1
    ∷ refuses "boards\n" 20 1
    ∷ refuses "boards 2 2\n" 20 1
    ∷ refuses "boards3\n" 20 1
    ∷ refuses "0 above 1\n" 20 1
    ∷ refuses "boards 2\n\n0 above 1\n" 20 2
    ∷ refuses "boards 2\n0 above 1\n   \n" 20 3
    ∷ refuses "boards 2\n0 at or above 1\n" 20 2
    ∷ refuses "boards 2\n0 or above 1\n" 20 2
    ∷ refuses "boards 2\n0 same above 1\n" 20 2
    ∷ refuses "boards 2\n0 ( same 1\n" 20 2
    ∷ refuses "boards 2\n0 same ) 1\n" 20 2
    ∷ refuses "boards 2\n0 ( ) 1\n" 20 2
    ∷ refuses "boards 2\n0 above 1 1\n" 20 2
    ∷ refuses "boards 2\n0same 1\n" 20 2
    ∷ refuses "boards 2\n0\tabove 1\n" 20 2
    ∷ refuses "boards 2\r\n" 20 1
    ∷ refuses "boards 2\n0 : 5 ( 1\n" 20 2
    ∷ refuses "boards 2\n0 : 5 ( above )\n" 20 2
    ∷ refuses "boards 2\nboards 2\n" 20 2
    ∷ refuses "boards 99\n7 : 1 ( 1 1 1 1 1 1 1 1 1 )\n8 above 9\nx\n" 20 4
    -- then 1, 3 and 4 on the words made, relation lines first
    ∷ refuses "boards 0\n" 1 0
    ∷ refuses "boards 17\n0 above 99\n" 1 0
    ∷ refuses "boards 1\n0 : 1 ( )\n0 : 1 ( )\n0 : 1 ( )\n0 : 1 ( )\n0 : 1 ( )\n0 : 1 ( )\n0 : 1 ( )\n0 : 1 ( )\n0 : 1 ( )\n0 : 1 ( )\n0 : 1 ( )\n0 : 1 ( )\n0 : 1 ( )\n0 : 1 ( )\n0 : 1 ( )\n0 : 1 ( )\n0 : 1 ( )\n" 1 2
    ∷ refuses "boards 2\n0 not not not not not not not not not not not not not not not same 1\n" 3 8
    ∷ refuses "boards 9\n0 : 1 ( 1 2 3 4 5 6 7 8 1 )\n" 3 8
    ∷ refuses "boards 2\n0 above 2\n" 4 7
    ∷ refuses "boards 2\n0 : 1 ( 2 )\n" 4 9
    ∷ refuses "boards 2\n0 : 1 ( 1 1 1 1 1 1 1 1 1 )\n0 above 2\n" 4 7
    ∷ makes "boards 2\n0 not not not not not not not not not not not not not not same 1\n" (2 ∷ 1 ∷ 0 ∷ 6 ∷ 24 ∷ 24 ∷ 0 ∷ 1 ∷ 15 ∷ 6 ∷ 6 ∷ 6 ∷ 6 ∷ 6 ∷ 6 ∷ 6 ∷ 6 ∷ 6 ∷ 6 ∷ 6 ∷ 6 ∷ 6 ∷ 6 ∷ 0 ∷ [])
    -- then 11, where a kind line has the code of an earlier one and another number of ways; after 20, 3 and 4 in later lines
    ∷ refuses "boards 2\n0 : 7 ( 1 )\n1 : 7 ( 0 0 )\n" 11 12
    ∷ refuses "boards 2\n0 : 7 ( 1 )\n0 above 1\n1 : 7 ( 0 0 )\n" 11 16
    ∷ makes "boards 2\n0 : 7 ( 1 )\n1 : 8 ( 0 0 )\n" (2 ∷ 0 ∷ 2 ∷ 6 ∷ 6 ∷ 15 ∷ 0 ∷ 7 ∷ 1 ∷ 1 ∷ 1 ∷ 8 ∷ 2 ∷ 0 ∷ 0 ∷ [])
    ∷ refuses "boards 2\n0 : 7 ( 1 )\n1 : 7 ( 0 0 )\nx\n" 20 4
    ∷ refuses "boards 2\n0 : 7 ( 1 )\n1 : 7 ( 1 1 1 1 1 1 1 1 1 )\n" 3 12
    ∷ refuses "boards 2\n0 : 7 ( 1 )\n1 : 7 ( 0 0 )\n0 : 8 ( 2 )\n" 4 18
    -- a refusal is told at its place in the words made (request 3): those of relation lines come first, wherever they are typed; boards before the lines
    ∷ refuses "boards 2\n0 : 7 ( 2 )\n0 above 1\n" 4 13
    ∷ refuses "boards 2\n0 : 7 ( 1 1 )\n2 : 8 ( )\n0 above 1\n0 side 1\n" 4 19
    ∷ refuses "boards 2\n0 : 7 ( 1 )\n0 above 1\n0 not not not not not not not not not not not not not not not same 1\n" 3 12
    ∷ refuses "boards 17\n0 : 1 ( )\n0 : 1 ( )\n0 : 1 ( )\n0 : 1 ( )\n0 : 1 ( )\n0 : 1 ( )\n0 : 1 ( )\n0 : 1 ( )\n0 : 1 ( )\n0 : 1 ( )\n0 : 1 ( )\n0 : 1 ( )\n0 : 1 ( )\n0 : 1 ( )\n0 : 1 ( )\n0 : 1 ( )\n0 : 1 ( )\n" 1 0
    -- then 19
    ∷ cramped "boards 1" 5
    ∷ cramped "boards 1" 0
    -- the writer: relation lines first, one blank, a line feed after each line
    ∷ writes (1 ∷ 0 ∷ 0 ∷ 6 ∷ 6 ∷ 6 ∷ []) "boards 1\n"
    ∷ writes (3 ∷ 1 ∷ 2 ∷ 6 ∷ 12 ∷ 20 ∷ 1 ∷ 2 ∷ 3 ∷ 4 ∷ 0 ∷ 1 ∷ 0 ∷ 65535 ∷ 2 ∷ 1 ∷ 2 ∷ 2 ∷ 0 ∷ 0 ∷ []) "boards 3\n1 same or above 2\n0 : 65535 ( 1 2 )\n2 : 0 ( )\n"
    -- a left operand in parentheses where it binds looser, a right one where it binds looser or as tightly; under `not` and `inv` only `or` and `and`
    ∷ writes (2 ∷ 2 ∷ 0 ∷ 6 ∷ 22 ∷ 22 ∷ 0 ∷ 1 ∷ 5 ∷ 4 ∷ 4 ∷ 0 ∷ 1 ∷ 3 ∷ 0 ∷ 1 ∷ 5 ∷ 4 ∷ 0 ∷ 4 ∷ 1 ∷ 3 ∷ []) "boards 2\n0 same or above or side 1\n0 same or ( above or side ) 1\n"
    ∷ writes (2 ∷ 2 ∷ 0 ∷ 6 ∷ 22 ∷ 22 ∷ 0 ∷ 1 ∷ 5 ∷ 5 ∷ 5 ∷ 0 ∷ 1 ∷ 3 ∷ 0 ∷ 1 ∷ 5 ∷ 5 ∷ 0 ∷ 5 ∷ 1 ∷ 3 ∷ []) "boards 2\n0 same and above and side 1\n0 same and ( above and side ) 1\n"
    ∷ writes (2 ∷ 2 ∷ 0 ∷ 6 ∷ 22 ∷ 22 ∷ 0 ∷ 1 ∷ 5 ∷ 5 ∷ 4 ∷ 0 ∷ 1 ∷ 3 ∷ 0 ∷ 1 ∷ 5 ∷ 5 ∷ 0 ∷ 4 ∷ 1 ∷ 3 ∷ []) "boards 2\n0 ( same or above ) and side 1\n0 same and ( above or side ) 1\n"
    ∷ writes (2 ∷ 2 ∷ 0 ∷ 6 ∷ 22 ∷ 22 ∷ 0 ∷ 1 ∷ 5 ∷ 4 ∷ 5 ∷ 0 ∷ 1 ∷ 3 ∷ 0 ∷ 1 ∷ 5 ∷ 4 ∷ 0 ∷ 5 ∷ 1 ∷ 3 ∷ []) "boards 2\n0 same and above or side 1\n0 same or above and side 1\n"
    ∷ writes (2 ∷ 4 ∷ 0 ∷ 6 ∷ 35 ∷ 35 ∷ 0 ∷ 1 ∷ 4 ∷ 6 ∷ 4 ∷ 0 ∷ 1 ∷ 0 ∷ 1 ∷ 4 ∷ 7 ∷ 5 ∷ 0 ∷ 1 ∷ 0 ∷ 1 ∷ 4 ∷ 6 ∷ 7 ∷ 6 ∷ 1 ∷ 0 ∷ 1 ∷ 5 ∷ 4 ∷ 6 ∷ 0 ∷ 7 ∷ 1 ∷ []) "boards 2\n0 not ( same or above ) 1\n0 inv ( same and above ) 1\n0 not inv not above 1\n0 not same or inv above 1\n"
    -- the writer's refusals: 1 to 5, then 11, then 19
    ∷ unwritten (2 ∷ 0 ∷ 0 ∷ 6 ∷ 6 ∷ []) 1 5
    ∷ unwritten (2 ∷ 0 ∷ 0 ∷ 6 ∷ 6 ∷ 7 ∷ []) 2 5
    ∷ unwritten (2 ∷ 1 ∷ 0 ∷ 6 ∷ 8 ∷ 8 ∷ 0 ∷ 1 ∷ []) 3 8
    ∷ unwritten (2 ∷ 1 ∷ 0 ∷ 6 ∷ 10 ∷ 10 ∷ 0 ∷ 2 ∷ 1 ∷ 0 ∷ []) 4 7
    ∷ unwritten (2 ∷ 1 ∷ 0 ∷ 6 ∷ 10 ∷ 10 ∷ 0 ∷ 1 ∷ 1 ∷ 8 ∷ []) 5 9
    ∷ unwritten (2 ∷ 0 ∷ 2 ∷ 6 ∷ 6 ∷ 15 ∷ 0 ∷ 7 ∷ 1 ∷ 1 ∷ 1 ∷ 7 ∷ 2 ∷ 0 ∷ 0 ∷ []) 11 12
    ∷ tight (1 ∷ 0 ∷ 0 ∷ 6 ∷ 6 ∷ 6 ∷ []) 8
    ∷ tight (1 ∷ 0 ∷ 0 ∷ 6 ∷ 6 ∷ 6 ∷ []) 0
    ∷ []
