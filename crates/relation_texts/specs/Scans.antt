-- What stands in the code of a line that is gone over: the words so far with their depths, and what a symbol does. Assumes nothing.
use Rattle.std.specs.Prelude.{◌≡◌, Option, Some, None, if◌then◌else◌, Bool, true, false, not, ◌&&◌, List, [], ◌∷◌, ◌++◌, ℕ, suc, ◌+◌, ◌-◌, ◌≤◌, min, nat_lt, nat_le, length, take}
use Rattle.std.proofs.lemmas.List.Edits.{sets}
use Rattle.rules.specs.Descriptions.{most_expression_words}
use Rattle.typed.specs.Symbols.{Symbol, boards, colon, left_paren, right_paren, unknown, word, number}
use Rattle.typed.specs.Scanning.{Item, prefixed, names, fits, Scanned, malformed, scanned}
use Rattle.relation_texts.specs.declared.State.{State}
use Rattle.relation_texts.specs.declared.Expression.{Expression}

-- the word that a symbol adds at a depth
abbrev pub item_of : Symbol → ℕ → List Item
item_of boards d = []
item_of colon d = []
item_of left_paren d = []
item_of right_paren d = []
item_of unknown d = []
item_of (word k) d = record { code = k; depth = d } ∷ []
item_of (number n) d = []

-- whether a symbol may stand with so many parentheses open, where an operand is expected or not
abbrev pub allowed : Symbol → ℕ → Bool → Bool
allowed boards d e = false
allowed colon d e = false
allowed left_paren d e = e
allowed right_paren d e = not e && nat_lt 0 d
allowed unknown d e = false
allowed (word k) d e = fits e k
allowed (number n) d e = false

-- how many parentheses are open after it
abbrev pub deeper : Symbol → ℕ → ℕ
deeper boards d = d
deeper colon d = d
deeper left_paren d = d + 1
deeper right_paren d = d - 1
deeper unknown d = d
deeper (word k) d = d
deeper (number n) d = d

-- whether an operand is expected after it
abbrev pub expects : Symbol → Bool
expects boards = false
expects colon = false
expects left_paren = true
expects right_paren = false
expects unknown = false
expects (word k) = not (names k)
expects (number n) = false

-- how many parentheses are open after a symbol, and whether an operand is expected then, if it may stand there
abbrev pub after : Symbol → State → Option State
after s x = (if allowed s x.depth x.expected then Some (record { depth = deeper s x.depth; expected = expects s }) else None)

-- the board after the expression ends the line, or not
abbrev pub ended : Bool → ℕ → Scanned
ended true q = scanned [] q
ended false q = malformed

-- the words so far are kept, as long as they are not too many, and counted up to one too many
pub record Holds (xs : List Item) (e : Expression) : Type 0 where
  pub room : length e.items ≡ most_expression_words
  pub count : e.count ≡ min (length xs) (suc most_expression_words)
  pub words : length xs ≤ most_expression_words → take e.count e.items ≡ xs

-- no words are kept
abbrev pub Nothing : Expression → Type 0
Nothing e = Holds [] e

-- a word is kept after those so far
abbrev pub Keeps : Item → Expression → Expression → Type 0
Keeps x e f = (xs : List Item) → Holds xs e → Holds (xs ++ (x ∷ [])) f

-- what the line came to: the words kept, and the board after them
abbrev pub Held : Scanned → Expression → Option ℕ → Type 0
Held malformed e o = o ≡ None
Held (scanned xs q) e None = ⊥
Held (scanned xs q) e (Some b) = (b ≡ q) × Holds xs e

-- the words after the first three: none where they are too many
abbrev pub kept : Bool → Expression → List ℕ
kept true e = prefixed (take e.count e.items)
kept false e = []

-- the words of a relation line stand from a place on
pub record PutRelation (e : Expression) (before : List ℕ) (at first second : ℕ) (after : List ℕ) (next : ℕ) : Type 0 where
  pub words : after ≡ sets before at (first ∷ second ∷ e.count ∷ kept (nat_le e.count most_expression_words) e)
  pub place : next ≡ at + (3 + length (kept (nat_le e.count most_expression_words) e))
