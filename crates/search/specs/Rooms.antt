-- The room that a search works in, and what it answers when its tries have ended. Assumes nothing.
use Rattle.std.specs.Prelude.{◌≡◌, List, ℕ, length, replicate}
use Rattle.rules.specs.Descriptions.{most_boards}
use Rattle.rules.specs.Search.{Order}
use Rattle.rules.specs.Calls.{Outcome, refuse, succeed}
use Rattle.headers.specs.declared.Header.{Header}
use Rattle.closing.specs.Closes.{Admitted}
use Rattle.choosing.specs.declared.Ended.{Ended}
use Rattle.choosing.specs.declared.Ended.TheVariants.{Arranged, Nowhere, RanOut}
use Rattle.choosing.specs.Choices.{PairSets}

-- a table that was admitted, an order, and room for a search of it
pub record Roomy (h : Header) (ws ord t first cs u l : List ℕ) : Type 0 where
  pub admitted : Admitted h ws t
  pub order : Order ord
  pub start : length first ≡ length t
  pub sets : PairSets h.boards cs
  pub cells : length u ≡ length t
  pub list : l ≡ replicate most_boards 0

-- the outcome where the tries within the budget b ended so, with the cells w
abbrev pub concluded : List ℕ → ℕ → List ℕ → Ended → Outcome (List ℕ)
concluded t b w (Arranged n) = succeed n w
concluded t b w (Nowhere n) = refuse 8 n t
concluded t b w RanOut = refuse 9 b t
