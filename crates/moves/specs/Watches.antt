-- Which cells a rule reads. Rule 7 is watched by parts, each of which reads one cell. Assumes nothing.
use Rattle.std.specs.Prelude.{◌≡◌, ◌&&◌, ◌⊎◌, List, ℕ, ◌<◌}
use Rattle.rules.specs.Relations.{same, E, has, complement, compose}
use Rattle.rules.specs.Descriptions.{KindLine}
use Rattle.rules.specs.Tables.{cell}
use Rattle.rules.specs.Arrangements.{way, width}
use Rattle.rules.specs.Closing.{unless, agree, bound6, bound6', bound7', Rule}

-- a rule, and the cells that its bound reads
pub record Watch : Type 1 where
  pub rule : Rule
  pub Reads : ℕ → ℕ → Type 0

-- The one law of what is read: in two tables with the same cells there, the bound is the same.
abbrev pub Honest : ℕ → Watch → Type 0
Honest v x = (t u : List ℕ) → ((a b : ℕ) → x.Reads a b → cell v t a b ≡ cell v u a b) → x.rule.bound t ≡ x.rule.bound u

-- the pair (a, b) is the pair (p, q)
abbrev pub Is : ℕ → ℕ → ℕ → ℕ → Type 0
Is p q a b = (a ≡ p) × (b ≡ q)

-- rule 3: (p, r) by way of q
abbrev pub through : ℕ → ℕ → ℕ → ℕ → Watch
through v p q r =
    record { rule = record { row = p; column = r; bound = λ t. compose (cell v t p q) (cell v t q r) }; Reads = λ a b. Is p q a b ⊎ Is q r a b }

-- rule 6: a panel towards z, by its ways; and a way towards z, by its panel and the other ways
abbrev pub feeds : ℕ → KindLine → ℕ → Watch
feeds v k z =
    record {
      rule = record { row = k.p; column = z; bound = λ t. bound6 v t k z };
      Reads = λ a b. (i : ℕ) × (i < width k) × Is (way k i) z a b;
    }

abbrev pub feeds' : ℕ → KindLine → ℕ → ℕ → Watch
feeds' v k i z =
    record {
      rule = record { row = way k i; column = z; bound = λ t. bound6' v t k i z };
      Reads = λ a b. Is k.p z a b ⊎ ((j : ℕ) × (j < width k) × ((i ≡ j → ⊥) × Is (way k j) z a b));
    }

-- rule 7: two panels whose codes or numbers of ways differ, whatever the table
abbrev pub apart : ℕ → KindLine → KindLine → Watch
apart v k l =
    record { rule = record { row = k.p; column = l.p; bound = λ t. unless (agree k l) (complement E) }; Reads = λ a b. ⊥ }

-- rule 7: two panels, by their ways in place i; and their ways in place i, by the panels
abbrev pub matches : ℕ → KindLine → KindLine → ℕ → Watch
matches v k l i =
    record {
      rule =
          record {
            row = k.p;
            column = l.p;
            bound = λ t. unless (agree k l && has (cell v t (way k i) (way l i)) same) (complement E);
          };
      Reads = λ a b. Is (way k i) (way l i) a b;
    }

abbrev pub matches' : ℕ → KindLine → KindLine → ℕ → Watch
matches' v k l i =
    record {
      rule = record { row = way k i; column = way l i; bound = λ t. bound7' v t k l };
      Reads = λ a b. Is k.p l.p a b;
    }
