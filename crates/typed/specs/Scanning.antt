-- How the symbols of a line are read (02, request 1): the function that the code computes, and that is shown to agree with the grammar. It goes over a
-- line once, with a count of open parentheses and whether an operand is expected, and keeps each word with the depth at which it stands; of these the
-- expression is built, by the word that binds loosest.
-- Assumes nothing.
use Rattle.std.specs.Prelude.{Bool, true, false, not, ◌&&◌, ◌||◌, List, [], ◌∷◌, ◌++◌, ℕ, zero, suc, nat_le, nat_lt, nat_eq, length, slice_index_or, take, drop}
use Rattle.typed.specs.Symbols.{Symbol, boards, colon, left_paren, right_paren, unknown, word, number}

-- ---- words at their depth

-- a word of an expression, by its code, and how many parentheses stand open around it
pub record Item : Type 0 where
  pub code : ℕ
  pub depth : ℕ

-- how tightly the words bind, in the order of the codes: `or` loosest, then `and`, then all others
unfoldable pub tightness : List ℕ
tightness = 2 ∷ 2 ∷ 2 ∷ 2 ∷ 0 ∷ 1 ∷ 2 ∷ 2 ∷ []

abbrev pub level : ℕ → ℕ
level k = slice_index_or tightness k 2

-- the word joins two operands
abbrev pub joins : ℕ → Bool
joins k = nat_lt (level k) 2

-- the word names a relation, and is an operand by itself
abbrev pub names : ℕ → Bool
names k = nat_lt k 4

-- the word x binds looser than y, which stands before it: at a lesser depth, or at the same one where it joins two operands and binds no tighter
unfoldable pub outranks : Item → Item → Bool
outranks x y = nat_lt x.depth y.depth || (nat_eq x.depth y.depth && (joins x.code && nat_le (level x.code) (level y.code)))

-- the place of the word that binds loosest, of one at a place and those from place i on
unfoldable pub chief_from : ℕ → Item → ℕ → List Item → ℕ
chief_from at best i [] = at
chief_from at best i (x ∷ xs) = elim (outranks x best) [ true ↦ chief_from i x (suc i) xs | false ↦ chief_from at best (suc i) xs ]

abbrev pub chief : List Item → ℕ
chief [] = 0
chief (x ∷ xs) = chief_from 0 x 1 xs

abbrev pub code_at : List Item → ℕ → ℕ
code_at xs i = (slice_index_or xs i (record { code = 0; depth = 0 })).code

-- the words in prefix order, at most n of them: the loosest, then those before it, then those after it
unfoldable pub prefixed_in : ℕ → List Item → List ℕ
prefixed_in zero xs = []
prefixed_in (suc n) [] = []
prefixed_in (suc n) (x ∷ xs) =
    let all = x ∷ xs in
    let i = chief all in
    code_at all i ∷ (prefixed_in n (take i all) ++ prefixed_in n (drop (suc i) all))

unfoldable pub prefixed : List Item → List ℕ
prefixed xs = prefixed_in (length xs) xs

-- ---- an expression and the board after it

-- the words of an expression and the board after it, unless the line is malformed
pub data Scanned : Type 0 where
  malformed : Scanned
  scanned : List Item → ℕ → Scanned

abbrev pub preceded : List Item → Scanned → Scanned
preceded xs malformed = malformed
preceded xs (scanned ys q) = scanned (xs ++ ys) q

-- a word may stand where an operand is expected, or where none is
abbrev pub fits : Bool → ℕ → Bool
fits true k = not (joins k)
fits false k = joins k

-- the board after the expression ends the line
abbrev pub last_board : Bool → ℕ → List Symbol → Scanned
last_board b q [] = elim b [ true ↦ scanned [] q | false ↦ malformed ]
last_board b q (s ∷ ss) = malformed

-- the rest of a line, with so many parentheses open, where an operand is expected or not
unfoldable pub scan : ℕ → Bool → List Symbol → Scanned
scan d e [] = malformed
scan d e (boards ∷ ss) = malformed
scan d e (colon ∷ ss) = malformed
scan d e (unknown ∷ ss) = malformed
scan d e (left_paren ∷ ss) = elim e [ true ↦ scan (suc d) true ss | false ↦ malformed ]
scan zero e (right_paren ∷ ss) = malformed
scan (suc d) e (right_paren ∷ ss) = elim e [ true ↦ malformed | false ↦ scan d false ss ]
scan d e (word k ∷ ss) = elim (fits e k) [ true ↦ preceded (record { code = k; depth = d } ∷ []) (scan d (not (names k)) ss) | false ↦ malformed ]
scan d e (number q ∷ ss) = last_board (nat_eq d 0 && not e) q ss
