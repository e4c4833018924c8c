-- What the places of refusals promise (02, request 3), of any reader of words.
-- Assumes nothing.
use Rattle.std.specs.Prelude.{◌≡◌, List, ℕ, ◌≤◌, length, take}
use Rattle.rules.specs.Descriptions.{Reading, good, refused}

-- the same words before the place k, and as many in all
pub record SameBefore (k : ℕ) (ws us : List ℕ) : Type 0 where
  pub many : length us ≡ length ws
  pub same : take k us ≡ take k ws

-- what is read is not refused before the place k with n, or with a number that is looked for before n
abbrev pub NotBefore : {X : Type 0} → ℕ → ℕ → Reading X → Type 0
NotBefore n k (good x) = Unit {0}
NotBefore n k (refused m j) = m ≤ n → k ≤ j

-- A place is never past the words, and no word before it breaks the rule: whatever words stand from the place on, none is refused before it. Of a header and of
-- all that has one, this is said of words with the same total, which the kind offset is compared with.
pub record Placing {X : Type 0} (total : List ℕ → ℕ) (reads : List ℕ → Reading X) : Type 0 where
  pub within : (ws : List ℕ) (n k : ℕ) → reads ws ≡ refused n k → k ≤ length ws
  pub before : (ws us : List ℕ) (n k : ℕ) → reads ws ≡ refused n k → SameBefore k ws us → total us ≡ total ws → NotBefore n k (reads us)
