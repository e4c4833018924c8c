-- What a closing by the list of pairs comes to. Assumes nothing.
use Rattle.std.specs.Prelude.{◌≡◌, Result, Ok, Err, List, ◌++◌, ℕ, ◌<◌, slice_index}
use Rattle.rules.specs.Descriptions.{KindLine}
use Rattle.rules.specs.Tables.{Inside}
use Rattle.rules.specs.Closing.{Rule, rules2, rules3, rules6, rules7}
use Rattle.passes.specs.Passes.{Filled, Idles, Kept, Clash}
use Rattle.kinds.specs.Sections.{WithKinds}
use Rattle.by_board.specs.declared.KindLines.{KindLines}
use Rattle.moves.specs.declared.Emptied.{Emptied}
use Rattle.moves.specs.Visits.{Visited}
use Rattle.moves.specs.Moves.{Marks, Mutual, Lost, FedFor, MatchedFor, Owed}
use Rattle.sweeps.specs.Sweeps.{ThroughBoth}

-- rules 2, 6, 7 and 3, whose bounds depend on the table
abbrev pub rules_again : ℕ → List KindLine → List Rule
rules_again v ks = rules2 v ++ (rules6 v ks ++ (rules7 v ks ++ rules3 v))

-- what the rules leave of t, when they strike nothing more
pub record Settled (v : ℕ) (rs : List Rule) (t w : List ℕ) (n : ℕ) : Type 0 where
  pub kept : Kept v rs t 0 w n
  pub filled : Filled w
  pub idle : Idles v rs w

-- what a closing comes to: a settled table, or a clash
abbrev pub after_rounds : ℕ → List Rule → List ℕ → List ℕ → Result ℕ Emptied → Type 0
after_rounds v rs t w (Ok n) = Settled v rs t w n
after_rounds v rs t w (Err _) = Clash v rs t

-- nothing is on the list
abbrev pub Cleared : ℕ → List ℕ → Type 0
Cleared v m = (p : ℕ) → p < v → slice_index m p ≡ 0

-- rules 2, 6, 7 and 3 strike nothing in x
abbrev pub Again : ℕ → List KindLine → List ℕ → Type 0
Again v ks x = Idles v (rules_again v ks) x

-- work at kind lines that tells whether it was left at an empty cell, and loses no table in which these rules strike nothing
abbrev pub AgainOf : KindLines → (List KindLine → List ℕ → List ℕ → Type 0) → List ℕ → List ℕ → List ℕ → List ℕ → Result (Unit {0}) Emptied → Type 0
AgainOf l P t m w n r = Visited (Again l.boards) l.boards l.count l.words.now P t m w n r

-- each rule that reads the pair (p, q), from either side, is tended: of the kind lines, and with the boards
pub record LinesSeen (v : ℕ) (ks : List KindLine) (p q : ℕ) (m t : List ℕ) : Type 0 where
  pub fed : FedFor v ks p q m t
  pub fed' : FedFor v ks q p m t
  pub matched : MatchedFor v ks p q m t

pub record Seen (v : ℕ) (ks : List KindLine) (p q : ℕ) (m t : List ℕ) : Type 0 where
  pub through : ThroughBoth v p q m t
  pub lines : LinesSeen v ks p q m t

-- what is owed under the kind lines in the words
abbrev pub Owing : ℕ → ℕ → List ℕ → List ℕ → List ℕ → Type 0
Owing v count ws m t = WithKinds v count ws (λ ks. Owed v ks m t)

-- the rules strike nothing in what they left of t, and nothing is on the list
pub record Drained (v : ℕ) (ks : List KindLine) (t w n : List ℕ) : Type 0 where
  pub fit : Mutual v w
  pub inside : Inside w t
  pub keeps : (x : List ℕ) → Again v ks x → Inside x t → Inside x w
  pub list : Marks v n
  pub cleared : Cleared v n
  pub idle : Again v ks w

-- what a closing by the list comes to: nothing is left to do, or an empty cell was met
abbrev pub drained : ℕ → List KindLine → List ℕ → List ℕ → List ℕ → Result (Unit {0}) Emptied → Type 0
drained v ks t w n (Ok _) = Drained v ks t w n
drained v ks t w n (Err _) = Lost (Again v ks) v t
