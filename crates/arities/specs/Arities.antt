-- Kind lines that are compared by their places in the words of a section. Assumes nothing.
use Rattle.std.specs.Prelude.{◌≡◌, Bool, not, ◌&&◌, List, [], Option, Some, None, ℕ, ◌-◌, ◌≤◌, ◌<◌, nat_eq, length, take}
use Rattle.rules.specs.Descriptions as descriptions
use Rattle.kinds.specs.declared.KindLine.{KindLine}
use Rattle.kinds.specs.Sections.{HasKinds, WithKinds}

-- two lines have one code and different numbers of ways
abbrev pub differ : KindLine → KindLine → Bool
differ k l = nat_eq k.code l.code && not (nat_eq (k.end - k.first) (l.end - l.first))

-- the ways of the line stand in the words
abbrev pub WithinWords : List ℕ → KindLine → Type 0
WithinWords ws k = (k.first ≤ k.end) × (k.end ≤ length ws)

-- at least n kind lines, on boards below some number, fill the words
abbrev pub SomeFirst : ℕ → List ℕ → Type 0
SomeFirst n ws = (v count : ℕ) × (n ≤ count) × HasKinds v count ws

-- P holds of the first n kind lines of those that fill the words
abbrev pub WithFirst : ℕ → List ℕ → (List descriptions.KindLine → Type 0) → Type 0
WithFirst n ws P = (v count : ℕ) → n ≤ count → WithKinds v count ws (λ ks. P (take n ks))

-- `count` kind lines, on boards below some number, fill the words
abbrev pub SomeFill : ℕ → List ℕ → Type 0
SomeFill count ws = (v : ℕ) × HasKinds v count ws

-- P holds of the kind lines that fill the words
abbrev pub WithAll : ℕ → List ℕ → (List descriptions.KindLine → Type 0) → Type 0
WithAll count ws P = (v : ℕ) → WithKinds v count ws P

-- Where the first of the kind lines begins that disagrees with an earlier one, if one does.
abbrev pub FirstTold : List descriptions.KindLine → Option ℕ → Type 0
FirstTold ks (Some at) =
    (descriptions.first_disagreeing [] ks < length ks) × (at ≡ descriptions.kind_words (take (descriptions.first_disagreeing [] ks) ks))
FirstTold ks None = descriptions.first_disagreeing [] ks ≡ length ks
