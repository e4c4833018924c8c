-- The sites to try that 01 marks P, as one table, with a few more behind them.
-- Assumes nothing.
use Rattle.std.specs.Prelude.{◌≡◌, List, [], ◌∷◌, ◌++◌, ℕ, ◌*◌, length, replicate}
use Rattle.rules.specs.Relations.{same, above, below, side, compose}
use Rattle.rules.specs.Expressions.{value, expression}
use Rattle.rules.specs.Descriptions.{KindLine, first_disagreeing, describe}
use Rattle.rules.specs.Tables.{filled}
use Rattle.rules.specs.Search.{plain_order}
use Rattle.rules.specs.Calls.{refuse, succeed, reading, opening, close, searching, check}

pub data Case : Type 0 where
  -- sets x and y compose to z
  composes : (x y z : ℕ) → Case
  -- an expression means the set x
  means : (words : List ℕ) (x : ℕ) → Case
  -- the reader answers this number, 0 or the refusal, with this place
  answers : (words : List ℕ) (number place : ℕ) → Case
  -- of these kind lines, line n is the first that disagrees with an earlier one
  disagrees_first : (lines : List KindLine) (n : ℕ) → Case
  -- opening, closing, searching with this budget and checking refuse this description and table with this number and this place, and leave the table
  refuses : (words table : List ℕ) (budget number place : ℕ) → Case
  -- closing, searching with this budget and checking refuse this table with 6 and leave it, since a cell is no set
  refuses_contents : (v : ℕ) (lines kinds : List (List ℕ)) (table : List ℕ) (budget : ℕ) → Case
  -- opening over these old contents strikes so many relations and leaves this table
  opens : (v : ℕ) (lines kinds : List (List ℕ)) (old : List ℕ) (struck : ℕ) (table : List ℕ) → Case
  -- opening over these old contents is contradictory and leaves them
  clashes : (v : ℕ) (lines kinds : List (List ℕ)) (old : List ℕ) → Case
  -- closing this table strikes so many relations and leaves that table
  closes : (v : ℕ) (lines kinds : List (List ℕ)) (lent : List ℕ) (struck : ℕ) (table : List ℕ) → Case
  -- closing this table is contradictory and leaves it
  clashes_in : (v : ℕ) (lines kinds : List (List ℕ)) (lent : List ℕ) → Case
  -- the search in the full table finds this after so many tries, with just this budget
  finds : (v : ℕ) (lines kinds : List (List ℕ)) (tries : ℕ) (table : List ℕ) → Case
  -- the search in the full table finds nothing, after so many tries, with just this budget
  exhausts : (v : ℕ) (lines kinds : List (List ℕ)) (tries : ℕ) → Case
  -- the search in the full table runs out of this budget
  runs_out : (v : ℕ) (lines kinds : List (List ℕ)) (budget : ℕ) → Case
  -- the check accepts this table
  accepts : (v : ℕ) (lines kinds : List (List ℕ)) (table : List ℕ) → Case
  -- the check rejects this table
  rejects : (v : ℕ) (lines kinds : List (List ℕ)) (table : List ℕ) → Case

abbrev pub CaseHolds : Case → Type 0
CaseHolds (composes x y z) = compose x y ≡ z
CaseHolds (means ws x) = expression ws ≡ value x []
CaseHolds (answers ws n k) = reading ws ≡ refuse n k tt
CaseHolds (disagrees_first ks n) = first_disagreeing [] ks ≡ n
CaseHolds (refuses ws t b n k) = opening ws t ∷ close ws t ∷ searching plain_order ws t b ∷ check ws t ∷ [] ≡ replicate 4 (refuse n k t)
CaseHolds (refuses_contents v ls ks t b) =
    let ws = describe v ls ks in close ws t ∷ searching plain_order ws t b ∷ check ws t ∷ [] ≡ replicate 3 (refuse 6 0 t)
CaseHolds (opens v ls ks t n u) = opening (describe v ls ks) t ≡ succeed n u
CaseHolds (clashes v ls ks t) = opening (describe v ls ks) t ≡ refuse 7 0 t
CaseHolds (closes v ls ks t n u) = close (describe v ls ks) t ≡ succeed n u
CaseHolds (clashes_in v ls ks t) = close (describe v ls ks) t ≡ refuse 7 0 t
CaseHolds (finds v ls ks n u) = searching plain_order (describe v ls ks) (filled v) n ≡ succeed n u
CaseHolds (exhausts v ls ks n) = searching plain_order (describe v ls ks) (filled v) n ≡ refuse 8 n (filled v)
CaseHolds (runs_out v ls ks b) = searching plain_order (describe v ls ks) (filled v) b ≡ refuse 9 b (filled v)
CaseHolds (accepts v ls ks u) = check (describe v ls ks) u ≡ succeed 0 u
CaseHolds (rejects v ls ks u) = check (describe v ls ks) u ≡ refuse 10 0 u

-- each of these cases holds
infixr 5 ◌also◌
pub data AllHold : List Case → Type 0 where
  done : AllHold []
  ◌also◌ : {c : Case} {cs : List Case} → CaseHolds c → AllHold cs → AllHold (c ∷ cs)

-- relation lines: one relation, either of two, "at or above", "not below"; and kind lines, of any code and of code 7
abbrev pub is : ℕ → ℕ → ℕ → List ℕ
is p r q = p ∷ q ∷ 1 ∷ r ∷ []

abbrev pub either : ℕ → ℕ → ℕ → ℕ → List ℕ
either p r s q = p ∷ q ∷ 3 ∷ 4 ∷ r ∷ s ∷ []

abbrev pub at_or_above : ℕ → ℕ → List ℕ
at_or_above p q = either p same above q

abbrev pub not_below : ℕ → ℕ → List ℕ
not_below p q = p ∷ q ∷ 2 ∷ 6 ∷ below ∷ []

abbrev pub feeds_as : ℕ → ℕ → List ℕ → List ℕ
feeds_as code p ways = p ∷ code ∷ length ways ∷ ways

abbrev pub feeds : ℕ → List ℕ → List ℕ
feeds p ways = feeds_as 7 p ways

-- a kind line of this code with so many ways, all of them board 0
abbrev pub panel_of : ℕ → ℕ → KindLine
panel_of code n = record { p = 0; code = code; ways = replicate n 0 }

-- old contents of a table of v boards, of which no cell is a set
abbrev pub stale : ℕ → List ℕ
stale v = replicate (v * v) 200

abbrev pub cases : List Case
cases =
    -- sets 2 and 4 compose to 7; 8 and 2 to 8; 3 and 3 to 3; 0 and 15 to 0
    composes 2 4 7
    ∷ composes 8 2 8
    ∷ composes 3 3 3
    ∷ composes 0 15 0
    -- expression 6 4 1 2 is 9; 7 4 0 1 is 5; 5 0 1 is 0
    ∷ means (6 ∷ 4 ∷ 1 ∷ 2 ∷ []) 9
    ∷ means (7 ∷ 4 ∷ 0 ∷ 1 ∷ []) 5
    ∷ means (5 ∷ 0 ∷ 1 ∷ []) 0
    -- expression 4 0 is refused with 5; so is 0 0
    ∷ answers (describe 1 ((0 ∷ 0 ∷ 2 ∷ 4 ∷ 0 ∷ []) ∷ []) []) 5 11
    ∷ answers (describe 1 ((0 ∷ 0 ∷ 2 ∷ 0 ∷ 0 ∷ []) ∷ []) []) 5 10
    -- V = 1, no lines: opening strikes 3; arrangement after 0 tries
    ∷ opens 1 [] [] (stale 1) 3 (1 ∷ [])
    ∷ finds 1 [] [] 0 (1 ∷ [])
    -- V = 2, no lines: opening strikes 6; 1 try; 0 = 1
    ∷ opens 2 [] [] (stale 2) 6 (1 ∷ 15 ∷ 15 ∷ 1 ∷ [])
    ∷ finds 2 [] [] 1 (1 ∷ 1 ∷ 1 ∷ 1 ∷ [])
    -- V = 2, 0 at or above 1: opening strikes 10; 1 try. Budget 0 gives 9, budget 1 gives 0 = 1
    ∷ opens 2 (at_or_above 0 1 ∷ []) [] (stale 2) 10 (1 ∷ 3 ∷ 5 ∷ 1 ∷ [])
    ∷ runs_out 2 (at_or_above 0 1 ∷ []) [] 0
    ∷ finds 2 (at_or_above 0 1 ∷ []) [] 1 (1 ∷ 1 ∷ 1 ∷ 1 ∷ [])
    -- the same with 1 at or above 0 as well: opening strikes 12; 0 tries; 0 = 1
    ∷ opens 2 (at_or_above 0 1 ∷ at_or_above 1 0 ∷ []) [] (stale 2) 12 (1 ∷ 1 ∷ 1 ∷ 1 ∷ [])
    ∷ finds 2 (at_or_above 0 1 ∷ at_or_above 1 0 ∷ []) [] 0 (1 ∷ 1 ∷ 1 ∷ 1 ∷ [])
    -- V = 3, 0 above 2, 1 above 2: cell (0, 1) opens to 7. With 0 side 1 added: contradictory
    ∷ opens 3 (is 0 above 2 ∷ is 1 above 2 ∷ []) [] (stale 3) 23 (1 ∷ 7 ∷ 2 ∷ 7 ∷ 1 ∷ 2 ∷ 4 ∷ 4 ∷ 1 ∷ [])
    ∷ clashes 3 (is 0 above 2 ∷ is 1 above 2 ∷ is 0 side 1 ∷ []) [] (stale 3)
    ∷ exhausts 3 (is 0 above 2 ∷ is 1 above 2 ∷ is 0 side 1 ∷ []) [] 0
    -- 0 has ways 1 and 1: contradictory
    ∷ clashes 2 [] (feeds 0 (1 ∷ 1 ∷ []) ∷ []) (stale 2)
    ∷ exhausts 2 [] (feeds 0 (1 ∷ 1 ∷ []) ∷ []) 0
    -- 0 has no ways, 0 above 1: contradictory
    ∷ clashes 2 (is 0 above 1 ∷ []) (feeds 0 [] ∷ []) (stale 2)
    ∷ exhausts 2 (is 0 above 1 ∷ []) (feeds 0 [] ∷ []) 0
    -- V = 4, 0 has ways 1 and 2, 0 above 3, 1 side 3: cell (2, 3) opens to 3; 1 try; 2 = 3
    ∷ opens 4 (is 0 above 3 ∷ is 1 side 3 ∷ []) (feeds 0 (1 ∷ 2 ∷ []) ∷ []) (stale 4) 46
    (1 ∷ 2 ∷ 2 ∷ 2 ∷ 4 ∷ 1 ∷ 8 ∷ 8 ∷ 4 ∷ 8 ∷ 1 ∷ 3 ∷ 4 ∷ 8 ∷ 5 ∷ 1 ∷ [])
    ∷ finds 4 (is 0 above 3 ∷ is 1 side 3 ∷ []) (feeds 0 (1 ∷ 2 ∷ []) ∷ []) 1
    (1 ∷ 2 ∷ 2 ∷ 2 ∷ 4 ∷ 1 ∷ 8 ∷ 8 ∷ 4 ∷ 8 ∷ 1 ∷ 1 ∷ 4 ∷ 8 ∷ 1 ∷ 1 ∷ [])
    -- V = 4, 0 has way 1, 2 has way 3, same code, 1 = 3: opens to 0 = 2 with no try
    ∷ opens 4 (is 1 same 3 ∷ []) (feeds 0 (1 ∷ []) ∷ feeds 2 (3 ∷ []) ∷ []) (stale 4) 48
    (1 ∷ 2 ∷ 1 ∷ 2 ∷ 4 ∷ 1 ∷ 4 ∷ 1 ∷ 1 ∷ 2 ∷ 1 ∷ 2 ∷ 4 ∷ 1 ∷ 4 ∷ 1 ∷ [])
    ∷ finds 4 (is 1 same 3 ∷ []) (feeds 0 (1 ∷ []) ∷ feeds 2 (3 ∷ []) ∷ []) 0
    (1 ∷ 2 ∷ 1 ∷ 2 ∷ 4 ∷ 1 ∷ 4 ∷ 1 ∷ 1 ∷ 2 ∷ 1 ∷ 2 ∷ 4 ∷ 1 ∷ 4 ∷ 1 ∷ [])
    -- Not marked P. Two boards that are each beside a third may be one board: 0 side 2, 1 side 2
    ∷ opens 3 (is 0 side 2 ∷ is 1 side 2 ∷ []) [] (stale 3) 21 (1 ∷ 15 ∷ 8 ∷ 15 ∷ 1 ∷ 8 ∷ 8 ∷ 8 ∷ 1 ∷ [])
    -- a panel's ways are all of its ways: 0 has way 1, and 2 cannot be below 0 and beside 1
    ∷ clashes 3 (is 0 above 2 ∷ is 1 side 2 ∷ []) (feeds 0 (1 ∷ []) ∷ []) (stale 3)
    ∷ exhausts 3 (is 0 above 2 ∷ is 1 side 2 ∷ []) (feeds 0 (1 ∷ []) ∷ []) 0
    -- the check accepts 0 = 1 for "0 at or above 1", and rejects it for "0 above 1"; it rejects a table that is not single
    ∷ accepts 2 (at_or_above 0 1 ∷ []) [] (1 ∷ 1 ∷ 1 ∷ 1 ∷ [])
    ∷ rejects 2 (is 0 above 1 ∷ []) [] (1 ∷ 1 ∷ 1 ∷ 1 ∷ [])
    ∷ rejects 2 [] [] (1 ∷ 15 ∷ 15 ∷ 1 ∷ [])
    -- 16 boards are taken, 17 refused with 1, and so are five words
    ∷ answers (describe 16 [] []) 0 0
    ∷ answers (describe 17 [] []) 1 0
    ∷ answers (1 ∷ 0 ∷ 0 ∷ 6 ∷ 6 ∷ []) 1 5
    -- a word more than the total is refused with 2
    ∷ answers (1 ∷ 0 ∷ 0 ∷ 6 ∷ 6 ∷ 6 ∷ 0 ∷ []) 2 5
    -- 15 words of an expression are taken, 16 refused with 3; 8 ways taken, 9 refused with 3
    ∷ answers (describe 1 ((0 ∷ 0 ∷ 15 ∷ (replicate 14 6 ++ (0 ∷ []))) ∷ []) []) 0 0
    ∷ answers (describe 1 ((0 ∷ 0 ∷ 16 ∷ (replicate 15 6 ++ (0 ∷ []))) ∷ []) []) 3 8
    ∷ answers (describe 1 [] (feeds 0 (replicate 8 0) ∷ [])) 0 0
    ∷ answers (describe 1 [] (feeds 0 (replicate 9 0) ∷ [])) 3 8
    -- words left over are refused with 3, and a board number equal to V with 4; within a line 3 comes before 4, and 4 before 5
    ∷ answers (1 ∷ 0 ∷ 0 ∷ 6 ∷ 7 ∷ 7 ∷ 0 ∷ []) 3 6
    ∷ answers (describe 2 (is 0 same 2 ∷ []) []) 4 7
    ∷ answers (describe 1 ((1 ∷ 0 ∷ 0 ∷ []) ∷ []) []) 3 8
    ∷ answers (describe 1 ((1 ∷ 0 ∷ 1 ∷ 8 ∷ []) ∷ []) []) 4 6
    -- the first faulty line decides: a 5 in line 0 comes before a 3 in line 1
    ∷ answers (describe 1 ((0 ∷ 0 ∷ 1 ∷ 8 ∷ []) ∷ (0 ∷ 0 ∷ 0 ∷ []) ∷ []) []) 5 9
    -- One kind code means one number of ways (02, request 2). Two lines of one code with 1 and 2 ways are refused with 11, as are those with none and 1
    ∷ answers (describe 2 [] (feeds 0 (1 ∷ []) ∷ feeds 1 (0 ∷ 0 ∷ []) ∷ [])) 11 12
    ∷ answers (describe 2 [] (feeds 0 [] ∷ feeds 1 (0 ∷ []) ∷ [])) 11 11
    -- of two codes they are good, and so are two of one code with as many ways, other ones or the same
    ∷ answers (describe 2 [] (feeds 0 (1 ∷ []) ∷ feeds_as 8 1 (0 ∷ 0 ∷ []) ∷ [])) 0 0
    ∷ answers (describe 2 [] (feeds 0 (1 ∷ []) ∷ feeds 1 (0 ∷ []) ∷ [])) 0 0
    -- a line of another code may stand between the two
    ∷ answers (describe 2 [] (feeds 0 (1 ∷ []) ∷ feeds_as 8 0 (1 ∷ []) ∷ feeds 1 (0 ∷ 0 ∷ []) ∷ [])) 11 16
    -- the first line that disagrees counts: line 1 of 1, 2 and 3 ways, line 2 of 1, 1 and 2, line 2 where line 1 has another code; of 1 and 1 there is none
    ∷ disagrees_first (panel_of 7 1 ∷ panel_of 7 2 ∷ panel_of 7 3 ∷ []) 1
    ∷ disagrees_first (panel_of 7 1 ∷ panel_of 7 1 ∷ panel_of 7 2 ∷ []) 2
    ∷ disagrees_first (panel_of 7 1 ∷ panel_of 8 2 ∷ panel_of 7 2 ∷ []) 2
    ∷ disagrees_first (panel_of 7 1 ∷ panel_of 7 1 ∷ []) 2
    -- 11 comes after 1 and 2,
    ∷ answers (describe 17 [] (feeds 0 (1 ∷ []) ∷ feeds 1 (0 ∷ 0 ∷ []) ∷ [])) 1 0
    ∷ answers (describe 2 [] (feeds 0 (1 ∷ []) ∷ feeds 1 (0 ∷ 0 ∷ []) ∷ []) ++ (0 ∷ [])) 2 5
    -- after a 3, a 4 or a 5 in a relation line, after a 3 or a 4 in a later kind line, and after words left over
    ∷ answers (describe 2 ((0 ∷ 0 ∷ 0 ∷ []) ∷ []) (feeds 0 (1 ∷ []) ∷ feeds 1 (0 ∷ 0 ∷ []) ∷ [])) 3 8
    ∷ answers (describe 2 (is 0 same 2 ∷ []) (feeds 0 (1 ∷ []) ∷ feeds 1 (0 ∷ 0 ∷ []) ∷ [])) 4 7
    ∷ answers (describe 2 ((0 ∷ 0 ∷ 1 ∷ 8 ∷ []) ∷ []) (feeds 0 (1 ∷ []) ∷ feeds 1 (0 ∷ 0 ∷ []) ∷ [])) 5 9
    ∷ answers (describe 2 [] (feeds 0 (1 ∷ []) ∷ feeds 1 (0 ∷ 0 ∷ []) ∷ feeds_as 8 0 (replicate 9 1) ∷ [])) 3 17
    ∷ answers (describe 2 [] (feeds 0 (1 ∷ []) ∷ feeds 1 (0 ∷ 0 ∷ []) ∷ feeds_as 8 2 [] ∷ [])) 4 15
    ∷ answers (2 ∷ 0 ∷ 2 ∷ 6 ∷ 6 ∷ 16 ∷ 0 ∷ 7 ∷ 1 ∷ 1 ∷ 1 ∷ 7 ∷ 2 ∷ 0 ∷ 0 ∷ 0 ∷ []) 3 15
    -- and before 6, and so before all that follows it
    ∷ refuses (describe 2 [] (feeds 0 (1 ∷ []) ∷ feeds 1 (0 ∷ 0 ∷ []) ∷ [])) (15 ∷ []) 0 11 12
    ∷ refuses (describe 2 [] (feeds 0 (1 ∷ []) ∷ feeds 1 (0 ∷ 0 ∷ []) ∷ [])) (filled 2) 0 11 12
    -- a table of one cell for two boards is refused with 6 where no line disagrees
    ∷ refuses (describe 2 [] (feeds 0 (1 ∷ []) ∷ feeds 1 (0 ∷ []) ∷ [])) (15 ∷ []) 0 6 0
    -- A refusal says where (02, request 3). 1: after the words where they are too few, else at the number that is out of range, the first of several
    ∷ answers [] 1 0
    ∷ answers (1 ∷ []) 1 1
    ∷ answers (0 ∷ 0 ∷ 0 ∷ 6 ∷ 6 ∷ 6 ∷ []) 1 0
    ∷ answers (1 ∷ 129 ∷ 0 ∷ 6 ∷ 6 ∷ 6 ∷ []) 1 1
    ∷ answers (1 ∷ 0 ∷ 17 ∷ 6 ∷ 6 ∷ 6 ∷ []) 1 2
    ∷ answers (17 ∷ 129 ∷ 17 ∷ 5 ∷ 5 ∷ 5 ∷ []) 1 0
    -- 2: at the relation offset, at a kind offset below 6 or above the total, at the total; at the first of several
    ∷ answers (1 ∷ 0 ∷ 0 ∷ 7 ∷ 6 ∷ 6 ∷ []) 2 3
    ∷ answers (1 ∷ 0 ∷ 0 ∷ 6 ∷ 5 ∷ 6 ∷ []) 2 4
    ∷ answers (1 ∷ 0 ∷ 0 ∷ 6 ∷ 7 ∷ 6 ∷ []) 2 4
    ∷ answers (1 ∷ 0 ∷ 0 ∷ 6 ∷ 6 ∷ 7 ∷ []) 2 5
    ∷ answers (1 ∷ 0 ∷ 0 ∷ 5 ∷ 5 ∷ 5 ∷ []) 2 3
    -- 3: at the section's end where it has no word for a line, one, or two; also where kind lines stand behind it, and in a second line
    ∷ answers (1 ∷ 1 ∷ 0 ∷ 6 ∷ 6 ∷ 6 ∷ []) 3 6
    ∷ answers (1 ∷ 1 ∷ 0 ∷ 6 ∷ 7 ∷ 7 ∷ 0 ∷ []) 3 7
    ∷ answers (1 ∷ 1 ∷ 0 ∷ 6 ∷ 8 ∷ 8 ∷ 0 ∷ 0 ∷ []) 3 8
    ∷ answers (1 ∷ 1 ∷ 1 ∷ 6 ∷ 8 ∷ 11 ∷ 0 ∷ 0 ∷ 0 ∷ 7 ∷ 0 ∷ []) 3 8
    ∷ answers (1 ∷ 2 ∷ 0 ∷ 6 ∷ 11 ∷ 11 ∷ 0 ∷ 0 ∷ 1 ∷ 0 ∷ 0 ∷ []) 3 11
    ∷ answers (1 ∷ 0 ∷ 1 ∷ 6 ∷ 6 ∷ 6 ∷ []) 3 6
    ∷ answers (1 ∷ 0 ∷ 1 ∷ 6 ∷ 6 ∷ 8 ∷ 0 ∷ 7 ∷ []) 3 8
    -- at a length or a number of ways out of range, even if the line runs past its section too; at the section's end if that is all
    ∷ answers (1 ∷ 1 ∷ 0 ∷ 6 ∷ 9 ∷ 9 ∷ 0 ∷ 0 ∷ 16 ∷ []) 3 8
    ∷ answers (1 ∷ 0 ∷ 1 ∷ 6 ∷ 6 ∷ 9 ∷ 0 ∷ 7 ∷ 9 ∷ []) 3 8
    ∷ answers (1 ∷ 1 ∷ 1 ∷ 6 ∷ 10 ∷ 13 ∷ 0 ∷ 0 ∷ 2 ∷ 6 ∷ 0 ∷ 7 ∷ 0 ∷ []) 3 10
    ∷ answers (1 ∷ 0 ∷ 1 ∷ 6 ∷ 6 ∷ 10 ∷ 0 ∷ 7 ∷ 2 ∷ 0 ∷ []) 3 10
    -- at the first word left over, after relation lines and after kind lines
    ∷ answers (1 ∷ 1 ∷ 0 ∷ 6 ∷ 12 ∷ 12 ∷ 0 ∷ 0 ∷ 1 ∷ 0 ∷ 5 ∷ 5 ∷ []) 3 10
    ∷ answers (1 ∷ 0 ∷ 1 ∷ 6 ∷ 6 ∷ 10 ∷ 0 ∷ 7 ∷ 0 ∷ 9 ∷ []) 3 9
    -- 4: at p, or else at q; at the panel, or else at the first of its ways that is no board; in a second line, and behind a relation line
    ∷ answers (describe 2 (is 2 same 2 ∷ []) []) 4 6
    ∷ answers (describe 2 (is 0 same 1 ∷ is 0 same 2 ∷ []) []) 4 11
    ∷ answers (describe 2 [] (feeds 2 (2 ∷ []) ∷ [])) 4 6
    ∷ answers (describe 2 [] (feeds 0 (2 ∷ 1 ∷ 2 ∷ []) ∷ [])) 4 9
    ∷ answers (describe 2 [] (feeds 0 (1 ∷ 1 ∷ 2 ∷ []) ∷ [])) 4 11
    ∷ answers (describe 2 (is 0 same 1 ∷ []) (feeds 0 (1 ∷ 2 ∷ []) ∷ [])) 4 14
    -- 5: at a code above 7, in the middle and at the end; at the first word left over, whatever it is
    ∷ answers (describe 1 ((0 ∷ 0 ∷ 3 ∷ 4 ∷ 8 ∷ 0 ∷ []) ∷ []) []) 5 10
    ∷ answers (describe 1 ((0 ∷ 0 ∷ 3 ∷ 4 ∷ 0 ∷ 8 ∷ []) ∷ []) []) 5 11
    ∷ answers (describe 1 ((0 ∷ 0 ∷ 3 ∷ 0 ∷ 1 ∷ 2 ∷ []) ∷ []) []) 5 10
    ∷ answers (describe 1 ((0 ∷ 0 ∷ 2 ∷ 0 ∷ 9 ∷ []) ∷ []) []) 5 10
    -- just after the expression where words are missing: of one word, of 15, and of a line that is not the last
    ∷ answers (describe 1 ((0 ∷ 0 ∷ 1 ∷ 6 ∷ []) ∷ []) []) 5 10
    ∷ answers (describe 1 ((0 ∷ 0 ∷ 15 ∷ replicate 15 6) ∷ []) []) 5 24
    ∷ answers (describe 1 ((0 ∷ 0 ∷ 2 ∷ 4 ∷ 0 ∷ []) ∷ is 0 same 0 ∷ []) []) 5 11
    -- 11: at the number of ways, behind a relation line
    ∷ answers (describe 2 (is 0 same 1 ∷ []) (feeds 0 (1 ∷ []) ∷ feeds 1 (0 ∷ 0 ∷ []) ∷ [])) 11 16
    -- every call says where, also if its table is no table
    ∷ refuses (describe 2 (is 0 same 2 ∷ []) []) (16 ∷ []) 0 4 7
    ∷ refuses (describe 2 ((0 ∷ 1 ∷ 2 ∷ 4 ∷ 0 ∷ []) ∷ is 0 same 1 ∷ []) []) (filled 2) 0 5 11
    -- Make a table and close it in a single call (02, request 4). Opening gives one table over any old contents: empty cells, cells that are no sets, a tree
    ∷ opens 2 [] [] (0 ∷ 0 ∷ 0 ∷ 0 ∷ []) 6 (1 ∷ 15 ∷ 15 ∷ 1 ∷ [])
    ∷ opens 2 [] [] (0 ∷ 255 ∷ 15 ∷ 16 ∷ []) 6 (1 ∷ 15 ∷ 15 ∷ 1 ∷ [])
    ∷ opens 2 (at_or_above 0 1 ∷ []) [] (1 ∷ 2 ∷ 4 ∷ 1 ∷ []) 10 (1 ∷ 3 ∷ 5 ∷ 1 ∷ [])
    ∷ opens 2 (at_or_above 0 1 ∷ []) [] (filled 2) 10 (1 ∷ 3 ∷ 5 ∷ 1 ∷ [])
    -- closing strikes from what the cells hold, is contradictory for an empty one, and refuses with 6 what is no set, as search and check do
    ∷ closes 2 (at_or_above 0 1 ∷ []) [] (filled 2) 10 (1 ∷ 3 ∷ 5 ∷ 1 ∷ [])
    ∷ closes 2 (at_or_above 0 1 ∷ []) [] (1 ∷ 2 ∷ 4 ∷ 1 ∷ []) 0 (1 ∷ 2 ∷ 4 ∷ 1 ∷ [])
    ∷ clashes_in 2 [] [] (1 ∷ 0 ∷ 15 ∷ 1 ∷ [])
    ∷ refuses_contents 2 [] [] (0 ∷ 255 ∷ 15 ∷ 16 ∷ []) 0
    -- in stages: closing again what was opened with one line strikes nothing, and closing it with the other line too strikes 2
    ∷ closes 2 (at_or_above 0 1 ∷ []) [] (1 ∷ 3 ∷ 5 ∷ 1 ∷ []) 0 (1 ∷ 3 ∷ 5 ∷ 1 ∷ [])
    ∷ closes 2 (at_or_above 0 1 ∷ at_or_above 1 0 ∷ []) [] (1 ∷ 3 ∷ 5 ∷ 1 ∷ []) 2 (1 ∷ 1 ∷ 1 ∷ 1 ∷ [])
    -- a contradiction leaves old contents, whatever they are
    ∷ clashes 2 (is 0 above 1 ∷ is 1 above 0 ∷ []) [] (0 ∷ 255 ∷ 15 ∷ 16 ∷ [])
    ∷ clashes 2 (is 0 above 1 ∷ is 1 above 0 ∷ []) [] (1 ∷ 1 ∷ 1 ∷ 1 ∷ [])
    -- 6 for a cell too few or too many, and for none, comes after 1 to 5 and before 7
    ∷ refuses (describe 2 [] []) (15 ∷ 15 ∷ 15 ∷ []) 0 6 0
    ∷ refuses (describe 2 [] []) (15 ∷ 15 ∷ 15 ∷ 15 ∷ 15 ∷ []) 0 6 0
    ∷ refuses (describe 17 [] []) [] 0 1 0
    ∷ refuses (describe 2 (is 0 same 2 ∷ []) []) [] 0 4 7
    ∷ refuses (describe 2 (is 0 above 1 ∷ is 1 above 0 ∷ []) []) [] 0 6 0
    ∷ []

-- Larger sites, which take longer to compute.
abbrev pub larger : List Case
larger =
    -- panels that are one board have the same ways: 0 has ways 1 and 2, 3 has ways 4 and 5, same code, 0 = 3
    opens 6 (is 0 same 3 ∷ []) (feeds 0 (1 ∷ 2 ∷ []) ∷ feeds 3 (4 ∷ 5 ∷ []) ∷ []) (stale 6) 108
    (1 ∷ 2 ∷ 2 ∷ 1 ∷ 2 ∷ 2 ∷ 4 ∷ 1 ∷ 8 ∷ 4 ∷ 1 ∷ 8 ∷ 4 ∷ 8 ∷ 1 ∷ 4 ∷ 8 ∷ 1
    ∷ 1 ∷ 2 ∷ 2 ∷ 1 ∷ 2 ∷ 2 ∷ 4 ∷ 1 ∷ 8 ∷ 4 ∷ 1 ∷ 8 ∷ 4 ∷ 8 ∷ 1 ∷ 4 ∷ 8 ∷ 1 ∷ [])
    -- and panels with a pair of ways that is not one board are not one board: 1 side 4
    ∷ opens 6 (is 1 side 4 ∷ []) (feeds 0 (1 ∷ 2 ∷ []) ∷ feeds 3 (4 ∷ 5 ∷ []) ∷ []) (stale 6) 70
    (1 ∷ 2 ∷ 2 ∷ 14 ∷ 10 ∷ 15 ∷ 4 ∷ 1 ∷ 8 ∷ 12 ∷ 8 ∷ 15 ∷ 4 ∷ 8 ∷ 1 ∷ 15 ∷ 15 ∷ 15
    ∷ 14 ∷ 10 ∷ 15 ∷ 1 ∷ 2 ∷ 2 ∷ 12 ∷ 8 ∷ 15 ∷ 4 ∷ 1 ∷ 8 ∷ 15 ∷ 15 ∷ 15 ∷ 4 ∷ 8 ∷ 1 ∷ [])
    -- no arrangement, as only the tries show
    ∷ exhausts 5
    (either 0 above below 3 ∷ either 1 same side 2 ∷ either 1 below side 3 ∷ either 1 above below 4 ∷ either 2 above side 3
    ∷ either 2 above below 4 ∷ not_below 3 4 ∷ [])
    (feeds 0 (4 ∷ []) ∷ []) 3
    -- an arrangement after tries that failed: what they struck comes back
    ∷ finds 5 (either 1 below side 3 ∷ not_below 1 4 ∷ either 2 above below 3 ∷ either 2 above below 4 ∷ either 3 below side 4 ∷ []) [] 5
    (1 ∷ 1 ∷ 4 ∷ 4 ∷ 8 ∷ 1 ∷ 1 ∷ 4 ∷ 4 ∷ 8 ∷ 2 ∷ 2 ∷ 1 ∷ 2 ∷ 2 ∷ 2 ∷ 2 ∷ 4 ∷ 1 ∷ 8 ∷ 8 ∷ 8 ∷ 4 ∷ 8 ∷ 1 ∷ [])
    ∷ []
