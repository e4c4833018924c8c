-- The entry points, each known by its promise alone: what it may answer, and leave of what it is lent; and what a refusal is. Assumes nothing.
use Rattle.std.specs.Prelude.{◌≡◌, List, ℕ}
use Rattle.rules.specs.Calls.{reading, opening, close, searching, check}
use Rattle.typed.specs.Calls.{from_text, to_text}
use Rattle.answers.specs.Answers.{Answer, outcome}

-- reading the words ws may answer a
abbrev pub Reads : List ℕ → Answer → Type 0
Reads ws a = outcome a tt ≡ reading ws

-- opening the lent table t under the description ws may answer a and leave w
abbrev pub Opening : List ℕ → List ℕ → Answer → List ℕ → Type 0
Opening ws t a w = outcome a w ≡ opening ws t

-- closing the lent table t under the description ws may answer a and leave w
abbrev pub Closing : List ℕ → List ℕ → Answer → List ℕ → Type 0
Closing ws t a w = outcome a w ≡ close ws t

-- the search in this order of relations, with the budget b, may answer a and leave w of the lent table t
abbrev pub Searching : List ℕ → List ℕ → List ℕ → ℕ → Answer → List ℕ → Type 0
Searching ord ws t b a w = outcome a w ≡ searching ord ws t b

-- the check may answer a of the lent table t, which it leaves as it came
abbrev pub Checking : List ℕ → List ℕ → Answer → Type 0
Checking ws t a = outcome a t ≡ check ws t

-- reading the text may answer a and leave w of the lent room
abbrev pub ReadingText : List ℕ → List ℕ → Answer → List ℕ → Type 0
ReadingText text room a w = outcome a w ≡ from_text text room

-- writing the words ws as a text may answer a and leave w of the lent room
abbrev pub WritingText : List ℕ → List ℕ → Answer → List ℕ → Type 0
WritingText ws room a w = outcome a w ≡ to_text ws room

-- a call that is lent the description ws and the table t, and looks at what the table holds, may answer a and leave w
pub data Call (ws t : List ℕ) (a : Answer) (w : List ℕ) : Type 0 where
  closes : Closing ws t a w → Call ws t a w
  searches : (ord : List ℕ) (b : ℕ) → Searching ord ws t b a w → Call ws t a w
  checks : Checking ws t a → w ≡ t → Call ws t a w

-- a call that is lent the description ws and the table t may answer a and leave w
pub data AnyCall (ws t : List ℕ) (a : Answer) (w : List ℕ) : Type 0 where
  opens : Opening ws t a w → AnyCall ws t a w
  calls : Call ws t a w → AnyCall ws t a w

-- refused with this number and this count, the table as it came
pub record Refuses (n k : ℕ) (t : List ℕ) (a : Answer) (w : List ℕ) : Type 0 where
  pub number : a.number ≡ n
  pub count : a.count ≡ k
  pub table : w ≡ t
