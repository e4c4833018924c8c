-- What a try, a run of tries and the whole search ask for and come to. Assumes nothing.
use Rattle.std.specs.Prelude.{◌≡◌, List, ℕ, ◌≤◌, ◌<◌, Option, Some, None, length}
use Rattle.rules.specs.Descriptions.{most_boards, Sheet}
use Rattle.rules.specs.Closing.{closing}
use Rattle.rules.specs.Search.{Order, End, found, none, later, ended, ran_out, cap}
use Rattle.moves.specs.Moves.{Marks, Mutual}
use Rattle.headers.specs.declared.Header.{Header}
use Rattle.closing.specs.Closes.{Under, Told, Listing}
use Rattle.choosing.specs.declared.pairs.Pair.{Pair}
use Rattle.choosing.specs.declared.Next.{Next}
use Rattle.choosing.specs.declared.Next.TheVariants.{Try, Found, Spent}
use Rattle.choosing.specs.declared.Ended.{Ended}
use Rattle.choosing.specs.declared.Ended.TheVariants.{Arranged, Nowhere, RanOut}
use Rattle.choosing.specs.Pairs.{IsPair}
use Rattle.choosing.specs.Choices.{PairSets, Back, LastOpen, Standing, Restored}
use Rattle.choosing.specs.Standings.{ahead, Whole, Due, due}

-- a try has failed at this pair
pub record Failed (v : ℕ) (ord first : List ℕ) (at : Pair) (cs u l : List ℕ) : Type 0 where
  pub fit : Mutual v first
  pub order : Order ord
  pub pair : IsPair v at
  pub within : at.q < v
  pub sets : PairSets v cs
  pub cells : length u ≡ length first
  pub list : length l ≡ most_boards
  pub standing : (n : ℕ) → n ≤ at.index → Standing v ord cs first n

-- what going back from a failed try comes to, with the cells made anew
abbrev pub retreats : ℕ → List ℕ → List ℕ → Pair → List ℕ → List ℕ → List ℕ → List ℕ → Option Pair → Type 0
retreats v ord first at cs ds w l (Some to) = Back v ord cs at.index ds to × Restored v ord ds first to.index w l
retreats v ord first at cs ds w l None = LastOpen v ord cs at.index ds None

-- where a try is due, the list has what was narrowed since the cells were closed
abbrev pub relists : Sheet → List ℕ → List ℕ → Next → Type 0
relists s u l (Try at) = Listing s l u
relists s u l Found = Unit {0}
relists s u l Spent = Unit {0}

-- a try is to be made
pub record Trying (h : Header) (ws xs ord first : List ℕ) (at : Pair) (cs u l : List ℕ) : Type 0 where
  pub told : Told h ws xs
  pub listing : Under ws (λ s. Listing s l u)
  pub order : Order ord
  pub due : Under ws (λ s. Due s ord first cs u at)

-- a try was made: what was to come is one try, and what comes then
pub record Tried (s : Sheet) (ord first : List ℕ) (at : Pair) (cs ds w : List ℕ) (next : Next) : Type 0 where
  pub due : due s ord first ds w next
  pub ahead : ahead (closing s) ord s.boards first cs w (Try at) ≡ later 1 (ahead (closing s) ord s.boards first ds w next)

-- tries are to be made from the first table on
pub record Choosing (h : Header) (ws xs ord first cs u l : List ℕ) : Type 0 where
  pub told : Told h ws xs
  pub list : Marks h.boards l
  pub order : Order ord
  pub sets : PairSets h.boards cs
  pub whole : Under ws (λ s. Whole s first)
  pub cells : u ≡ first

-- how a search within the budget b ended, with the cells w, where the rule comes to e
abbrev pub ends : End → ℕ → List ℕ → Ended → Type 0
ends e b w (Arranged n) = cap b e ≡ ended (found n w)
ends e b w (Nowhere n) = cap b e ≡ ended (none n)
ends e b w RanOut = cap b e ≡ ran_out b
