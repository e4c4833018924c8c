-- What is put into a text from a writer's place on. Assumes nothing.
use Rattle.std.specs.Prelude.{◌≡◌, List, ℕ, ◌+◌, ◌≤◌, length}
use Rattle.std.proofs.lemmas.List.Edits.{sets}
use Rattle.puts.specs.declared.Writer.{Writer}

-- there is room in the writer's text for these bytes, from its place on
pub record HasRoom (w : Writer) (xs : List ℕ) : Type 0 where
  pub room : w.at + length xs ≤ length w.text.now

-- the text t with these bytes from a place on
unfoldable pub placed : List ℕ → ℕ → List ℕ → List ℕ
placed t at xs = sets t at xs

-- these bytes are put into the writer's text from its place on, and it goes on after them in the same text
pub record Put (w : Writer) (xs : List ℕ) (v : Writer) : Type 0 where
  pub text : v.text.now ≡ placed w.text.now w.at xs
  pub next : v.at ≡ w.at + length xs
  pub same : v.text.ghost_name ≡ w.text.ghost_name

-- what a writer tells: its text and its place
abbrev pub told : Writer → List ℕ × ℕ
told w = (w.text.now, w.at)
