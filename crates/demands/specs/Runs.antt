-- Runs of calls in stages, over any calls: all closing, or the first opening. What each may answer and leave is all that is known of it. Assumes nothing.
use Rattle.std.specs.Prelude.{◌≡◌, Bool, false, ◌||◌, List, [], ◌∷◌, ℕ, nat_eq}
use Rattle.rules.specs.Descriptions.{Sheet, good, read}
use Rattle.answers.specs.Answers.{Answer}

-- What a call that is lent the description ws and the table t may answer, a, and leave of the table, w.
abbrev pub TableCall : Type 1
TableCall = (ws t : List ℕ) (a : Answer) (w : List ℕ) → Type 0

-- a good description, and what it means
pub record Stage : Type 0 where
  pub words : List ℕ
  pub sheet : Sheet
  pub means : read words ≡ good sheet

abbrev pub sheets : List Stage → List Sheet
sheets [] = []
sheets (g ∷ gs) = g.sheet ∷ sheets gs

-- the call was refused with 7
abbrev pub contradictory : Answer → Bool
contradictory a = nat_eq a.number 7

-- a call under the description g, and then what follows, takes t to w; c says whether some call was refused with 7
abbrev pub Then : TableCall → (List ℕ → List ℕ → Bool → Type 0) → Stage → List ℕ → List ℕ → Bool → Type 0
Then Calls follows g t w c =
    (a : Answer) × (u : List ℕ) × (d : Bool) × Calls g.words t a u × follows u w d × (c ≡ (contradictory a || d))

-- calls under each description in turn take t to w; c says whether some call was refused with 7
unfoldable pub Called : TableCall → List Stage → List ℕ → List ℕ → Bool → Type 0
Called Closes [] t w c = (w ≡ t) × (c ≡ false)
Called Closes (g ∷ gs) t w c = Then Closes (Called Closes gs) g t w c

-- so do calls of which the first opens the table, and the others close it
abbrev pub Opened : TableCall → TableCall → Stage → List Stage → List ℕ → List ℕ → Bool → Type 0
Opened Opens Closes g gs t w c = Then Opens (Called Closes gs) g t w c
