-- A text has one meaning, and what is scanned of it is that meaning: words, and symbols, write one expression at most. Assumes nothing.
use mathlib.Core.Path.{◌≡◌, refl, ap}
use mathlib.Core.Bool.{true}
use mathlib.Core.List.{List, [], ◌∷◌, ◌++◌, append_assoc, append-nil}
use Prim.Native.Nat.{ℕ, zero, suc, ◌≤◌, ◌<◌}
use native.Mathlib.Nat.{le_refl}
use native.Mathlib.Omega.{arith}
use lib.Dec.{T}
use lib.ListN.{length, length-append}
use Rattle.rules.specs.Relations.{each_of}
use Rattle.rules.specs.Expressions.{Phrase, only_e, only_a, only_b, only_s, union_of, intersection_of, complement_of, inverse_of, written}
use Rattle.typed.specs.Symbols.{Symbol, number, known}
use Rattle.typed.specs.Grammar.{Writes}
use Rattle.typed.specs.Scanning.{Item, prefixed, scanned, scan}
use Rattle.typed.specs.Writing.{nodes, parsed, follow, parse, phrase_in, phrase_of}
use Rattle.phrases.proofs.Scans.{writes_scan}
use Rattle.phrases.proofs.Readings.{scan_writes}

-- ---- words write one expression

written_some : (e : Phrase) → 0 < length (written e)
unfolding written
written_some only_e = omega arith
written_some only_a = omega arith
written_some only_b = omega arith
written_some only_s = omega arith
written_some (union_of a b) = omega arith
written_some (intersection_of a b) = omega arith
written_some (complement_of a) = omega arith
written_some (inverse_of a) = omega arith

-- an expression is read off the front of its words
pub parse_written : (n : ℕ) (e : Phrase) (rest : List ℕ) → length (written e) ≤ n → parse n (written e ++ rest) ≡ parsed e rest
unfolding parse nodes follow written
parse_written zero e rest h = let z : ⊥ = omega (arith, written_some e) in absurd z
parse_written (suc n) only_e rest h = refl
parse_written (suc n) only_a rest h = refl
parse_written (suc n) only_b rest h = refl
parse_written (suc n) only_s rest h = refl
parse_written (suc n) (union_of a b) rest h =
    let l = length-append (written a) (written b) in
    rw (append_assoc, parse_written n a (written b ++ rest) (omega arith), parse_written n b rest (omega arith))
parse_written (suc n) (intersection_of a b) rest h =
    let l = length-append (written a) (written b) in
    rw (append_assoc, parse_written n a (written b ++ rest) (omega arith), parse_written n b rest (omega arith))
parse_written (suc n) (complement_of a) rest h = rw (parse_written n a rest (omega arith))
parse_written (suc n) (inverse_of a) rest h = rw (parse_written n a rest (omega arith))

-- the words that an expression writes are read as it
pub phrase_of_written : (e : Phrase) → phrase_of (written e) ≡ e
unfolding phrase_of
phrase_of_written e =
    let p = parse_written (length (written e)) e [] (le_refl (length (written e))) in
    ap phrase_in (rw append-nil at p)

-- words write at most one expression
pub written_one : (e f : Phrase) → written e ≡ written f → e ≡ f
written_one e f p = cc (phrase_of_written e, phrase_of_written f)

-- ---- symbols write one expression

-- symbols write at most one expression: a text has one meaning
pub writes_one : {s : List Symbol} {e f : Phrase} → Writes 0 s e → Writes 0 s f → e ≡ f
writes_one {e} {f} v w =
    let (xs, p, a, l) = writes_scan v 0 in
    let (ys, q, b, m) = writes_scan w 0 in
    written_one e f (cc)

-- the symbols write an expression with the board q after it, and what is scanned of them is its words, in prefix order
pub record Meant (ss : List Symbol) (xs : List Item) (q : ℕ) : Type 0 where
  pub symbols : List Symbol
  pub phrase : Phrase
  pub ends : ss ≡ symbols ++ (number q ∷ [])
  pub writes : Writes 0 symbols phrase
  pub prefix : prefixed xs ≡ written phrase

-- known symbols are scanned as what they write
pub reads_exactly : (ss : List Symbol) → T (each_of known ss) → (xs : List Item) (q : ℕ) → scan 0 true ss ≡ scanned xs q → Meant ss xs q
reads_exactly ss k xs q p =
    let (s, e, ends, w) = scan_writes ss k xs q p in
    let (ys, r, prefix, l) = writes_scan w q in
    record { symbols = s; phrase = e; ends = ends; writes = w; prefix = cc }
