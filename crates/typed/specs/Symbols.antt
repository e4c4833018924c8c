-- The symbols of a typed line (02, request 1), and how its bytes, in ASCII, spell them.
-- Assumes nothing.
use Rattle.std.specs.Prelude.{Bool, true, false, ◌&&◌, ◌||◌, List, [], ◌∷◌, ◌++◌, ℕ, zero, suc, ◌+◌, ◌-◌, ◌*◌, T, nat_le, nat_lt, nat_eq, length, slice_index_or, drop}
use Rattle.puts.specs.Decimals.{decimal}

-- `word k` is the word for code k of an expression; a run of bytes that is neither a word nor a number is unknown.
pub data Symbol : Type 0 where
  boards colon left_paren right_paren unknown : Symbol
  word : ℕ → Symbol
  number : ℕ → Symbol

-- the symbol is this mark or word
abbrev pub is_boards : Symbol → Bool
is_boards boards = true
is_boards colon = false
is_boards left_paren = false
is_boards right_paren = false
is_boards unknown = false
is_boards (word k) = false
is_boards (number n) = false

abbrev pub is_colon : Symbol → Bool
is_colon boards = false
is_colon colon = true
is_colon left_paren = false
is_colon right_paren = false
is_colon unknown = false
is_colon (word k) = false
is_colon (number n) = false

abbrev pub is_left : Symbol → Bool
is_left boards = false
is_left colon = false
is_left left_paren = true
is_left right_paren = false
is_left unknown = false
is_left (word k) = false
is_left (number n) = false

abbrev pub is_right : Symbol → Bool
is_right boards = false
is_right colon = false
is_right left_paren = false
is_right right_paren = true
is_right unknown = false
is_right (word k) = false
is_right (number n) = false

-- what comes of the number, or what else there is
abbrev pub if_number : {X : Type 0} → Symbol → (ℕ → X) → X → X
if_number boards f x = x
if_number colon f x = x
if_number left_paren f x = x
if_number right_paren f x = x
if_number unknown f x = x
if_number (word k) f x = x
if_number (number n) f x = f n

-- the word `boards`
abbrev pub boards_word : List ℕ
boards_word = 98 ∷ 111 ∷ 97 ∷ 114 ∷ 100 ∷ 115 ∷ []

-- the words for the codes of an expression, in their order: same, above, below, side, or, and, not, inv
unfoldable pub words : List (List ℕ)
words =
    (115 ∷ 97 ∷ 109 ∷ 101 ∷ []) ∷ (97 ∷ 98 ∷ 111 ∷ 118 ∷ 101 ∷ []) ∷ (98 ∷ 101 ∷ 108 ∷ 111 ∷ 119 ∷ []) ∷ (115 ∷ 105 ∷ 100 ∷ 101 ∷ [])
    ∷ (111 ∷ 114 ∷ []) ∷ (97 ∷ 110 ∷ 100 ∷ []) ∷ (110 ∷ 111 ∷ 116 ∷ []) ∷ (105 ∷ 110 ∷ 118 ∷ []) ∷ []

-- the largest number that a symbol is
abbrev pub most_number : ℕ
most_number = 65535

-- the bytes of a symbol: numbers are decimal digits, no leading zero
unfoldable pub spelling : Symbol → List ℕ
spelling boards = boards_word
spelling colon = 58 ∷ []
spelling left_paren = 40 ∷ []
spelling right_paren = 41 ∷ []
spelling unknown = []
spelling (word k) = slice_index_or words k []
spelling (number n) = decimal n

abbrev pub blank : ℕ
blank = 32

-- a word or a number ends before a blank, a colon or a parenthesis
unfoldable pub parts : ℕ → Bool
parts b = nat_eq b blank || nat_eq b 58 || nat_eq b 40 || nat_eq b 41

-- ---- how a line spells symbols, as people see it

-- the symbols that there are
unfoldable pub known : Symbol → Bool
known boards = true
known colon = true
known left_paren = true
known right_paren = true
known unknown = false
known (word k) = nat_lt k (length words)
known (number n) = nat_le n most_number

-- the bytes that come next end a word or a number
abbrev pub ended : List ℕ → Bool
ended [] = true
ended (b ∷ bs) = parts b

-- a word or a number stands apart from the bytes after it; colon and parentheses need not
unfoldable pub apart : Symbol → List ℕ → Bool
apart boards bs = ended bs
apart colon bs = true
apart left_paren bs = true
apart right_paren bs = true
apart unknown bs = ended bs
apart (word k) bs = ended bs
apart (number n) bs = ended bs

-- the bytes spell these symbols, with any blanks before, between and after them
pub data Spelled : List ℕ → List Symbol → Type 0 where
  nothing : Spelled [] []
  space : {bs : List ℕ} {ss : List Symbol} → Spelled bs ss → Spelled (blank ∷ bs) ss
  symbol : {bs : List ℕ} {ss : List Symbol} (s : Symbol) → T (known s) → T (apart s bs) → Spelled bs ss → Spelled (spelling s ++ bs) (s ∷ ss)

-- ---- how the symbols of a line are found

-- the bytes up to where a word or a number ends
unfoldable pub run : List ℕ → List ℕ
run [] = []
run (b ∷ bs) = elim (parts b) [ true ↦ [] | false ↦ b ∷ run bs ]

unfoldable pub equal_bytes : List ℕ → List ℕ → Bool
equal_bytes [] [] = true
equal_bytes [] (b ∷ bs) = false
equal_bytes (a ∷ xs) [] = false
equal_bytes (a ∷ xs) (b ∷ bs) = nat_eq a b && equal_bytes xs bs

-- the number that digits make, after n
unfoldable pub value : ℕ → List ℕ → ℕ
value n [] = n
value n (b ∷ bs) = value (10 * n + (b - 48)) bs

-- the number that a run of bytes spells, if it spells one that is not too large
unfoldable pub number_of : List ℕ → Symbol
number_of r = let n = value 0 r in elim (nat_le n most_number && equal_bytes (decimal n) r) [ true ↦ number n | false ↦ unknown ]

-- the word that a run of bytes spells, of those from code k on, or the number
unfoldable pub word_of : ℕ → List (List ℕ) → List ℕ → Symbol
word_of k [] r = number_of r
word_of k (w ∷ ws) r = elim (equal_bytes w r) [ true ↦ word k | false ↦ word_of (suc k) ws r ]

unfoldable pub symbol_of : List ℕ → Symbol
symbol_of r = elim (equal_bytes boards_word r) [ true ↦ boards | false ↦ word_of 0 words r ]

-- the first symbol of some bytes, with the bytes after it, unless they are blanks alone
pub data Front : Type 0 where
  blanks : Front
  front : Symbol → List ℕ → Front

-- a colon or a parenthesis, or the word or number that begins here
unfoldable pub first : ℕ → List ℕ → Front
first b bs =
    elim (nat_eq b 58) [
      | true ↦ front colon bs
      | false ↦ elim (nat_eq b 40) [
        | true ↦ front left_paren bs
        | false ↦ elim (nat_eq b 41) [
          | true ↦ front right_paren bs
          | false ↦ let r = run (b ∷ bs) in front (symbol_of r) (drop (length r) (b ∷ bs))
        ]
      ]
    ]

unfoldable pub front_of : List ℕ → Front
front_of [] = blanks
front_of (b ∷ bs) = elim (nat_eq b blank) [ true ↦ front_of bs | false ↦ first b bs ]

-- the symbols of a line, at most n of them
unfoldable pub symbols_in : ℕ → List ℕ → List Symbol
symbols_in zero bs = []
symbols_in (suc n) bs = elim (front_of bs) [ blanks ↦ [] | front s rest ↦ s ∷ symbols_in n rest ]

-- the symbols of a line: it has no more of them than bytes
unfoldable pub symbols : List ℕ → List Symbol
symbols bs = symbols_in (length bs) bs
