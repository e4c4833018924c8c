-- Without a pair of the writer's parentheses another expression is read. Assumes nothing.
use mathlib.Core.Path.{◌≡◌, refl, sym, ap, ◌∙◌, subst}
use mathlib.Core.Bool.{Bool, true, false, not}
use mathlib.Core.Logic.{⊎_elim}
use mathlib.Core.List.Memᴰ
use mathlib.Core.List.{List, [], ◌∷◌, ◌++◌, append_assoc, Memᴰ}
use Prim.Native.Nat.{ℕ, zero, suc}
use native.Mathlib.Omega.{arith}
use lib.Dec.{T}
use lib.ListN.{length, take, length-append}
use lib.Seq.{take_at}
use Rattle.rules.specs.Expressions.{Phrase}
use Rattle.rules.specs.Relations.{each_of}
use Rattle.rules.proofs.Tests.{clash}
use Rattle.rules.proofs.Members.{each_of_out, each_of_in}
use Rattle.typed.specs.Symbols.{Symbol, boards, colon, left_paren, right_paren, unknown, word, number, known}
use Rattle.typed.specs.Grammar.{Writes}
use Rattle.typed.specs.Scanning.{Item, names, fits, Scanned, malformed, scanned, preceded, scan}
use Rattle.typed.specs.Writing.{typing}
use Rattle.phrases.proofs.Scans.{writes_scan}
use Rattle.phrases.proofs.Readings.{scan_writes}
use Rattle.parens.specs.Pairs.{Balanced, none, other, pair}
use Rattle.parens.proofs.Typing.{typing_writes, typing_known, known_append}
use Rattle.parens.proofs.Needed.{needed}

-- ---- steps over a line

-- a symbol that may stand there leads from one state to another: open parentheses, and whether an operand is expected
data Step : ℕ → Bool → Symbol → ℕ → Bool → Type 0 where
  opens : {d : ℕ} → Step d true left_paren (suc d) true
  closes : {d : ℕ} → Step (suc d) false right_paren d false
  says : {d : ℕ} {e : Bool} (k : ℕ) → fits e k ≡ true → Step d e (word k) d (not (names k))

-- the rest of a line is read
record Rest (d : ℕ) (e : Bool) (ss : List Symbol) (q : ℕ) : Type 0 where
  items : List Item
  reads : scan d e ss ≡ scanned items q

-- symbols that lead from one state to another
data Run : ℕ → Bool → List Symbol → ℕ → Bool → Type 0 where
  stay : {d : ℕ} {e : Bool} → Run d e [] d e
  go : {d c b : ℕ} {e f g : Bool} {s : Symbol} {ss : List Symbol} → Step d e s c f → Run c f ss b g → Run d e (s ∷ ss) b g

by_test : Bool → Scanned → Scanned
by_test b r = elim b [ true ↦ r | false ↦ malformed ]

step_reads : {d c : ℕ} {e f : Bool} {s : Symbol} (ss : List Symbol) (q : ℕ) → Step d e s c f → Rest c f ss q → Rest d e (s ∷ ss) q
unfolding scan by_test
step_reads ss q opens r = record { items = r.items; reads = r.reads }
step_reads ss q closes r = record { items = r.items; reads = r.reads }
step_reads {d} ss q (says k h) r =
    record {
      items = record { code = k; depth = d } ∷ r.items;
      reads =
          ap (λ (b : Bool). by_test b (preceded (record { code = k; depth = d } ∷ []) (scan d (not (names k)) ss))) h
          ∙ ap (preceded (record { code = k; depth = d } ∷ [])) r.reads;
    }

run_reads : {d c : ℕ} {e f : Bool} {b : List Symbol} (ss : List Symbol) (q : ℕ) → Run d e b c f → Rest c f ss q → Rest d e (b ++ ss) q
run_reads ss q stay r = r
run_reads ss q (go {ss = b} t u) r = step_reads (b ++ ss) q t (run_reads ss q u r)

-- a symbol before others that is read leads on
record Stepped (d : ℕ) (e : Bool) (s : Symbol) (ss : List Symbol) (q : ℕ) : Type 0 where
  depth : ℕ
  expected : Bool
  step : Step d e s depth expected
  rest : Rest depth expected ss q

read_step : (d : ℕ) (e : Bool) (s t : Symbol) (ss : List Symbol) (q : ℕ) → Rest d e (s ∷ t ∷ ss) q → Stepped d e s (t ∷ ss) q
unfolding scan by_test
read_step d e boards t ss q r = clash (cc r.reads)
read_step d e colon t ss q r = clash (cc r.reads)
read_step d e unknown t ss q r = clash (cc r.reads)
read_step d true left_paren t ss q r = record { depth = suc d; expected = true; step = opens; rest = record { items = r.items; reads = r.reads } }
read_step d false left_paren t ss q r = clash (cc r.reads)
read_step zero e right_paren t ss q r = clash (cc r.reads)
read_step (suc d) true right_paren t ss q r = clash (cc r.reads)
read_step (suc d) false right_paren t ss q r = record { depth = d; expected = false; step = closes; rest = record { items = r.items; reads = r.reads } }
read_step d e (number n) t ss q r = clash (cc r.reads)
read_step d e (word k) t ss q r = go (fits e k) refl r.reads
  where
    left : Scanned
    left = scan d (not (names k)) (t ∷ ss)

    after : (x : Scanned) → left ≡ x → preceded (record { code = k; depth = d } ∷ []) x ≡ scanned r.items q → Rest d (not (names k)) (t ∷ ss) q
    after malformed h i = clash (cc)
    after (scanned xs p) h i = let z : p ≡ q = cc in record { items = xs; reads = h ∙ ap (scanned xs) z }

    go : (b : Bool) → fits e k ≡ b → by_test b (preceded (record { code = k; depth = d } ∷ []) left) ≡ scanned r.items q → Stepped d e (word k) (t ∷ ss) q
    go true h i = record { depth = d; expected = not (names k); step = says k h; rest = after left refl i }
    go false h i = clash (cc)

-- ---- runs of symbols

record Ran (d : ℕ) (e : Bool) (b ss : List Symbol) (q : ℕ) : Type 0 where
  depth : ℕ
  expected : Bool
  run : Run d e b depth expected
  rest : Rest depth expected ss q

read_run : (d : ℕ) (e : Bool) (b : List Symbol) (t : Symbol) (ss : List Symbol) (q : ℕ) → Rest d e (b ++ (t ∷ ss)) q → Ran d e b (t ∷ ss) q
read_run d e [] t ss q r = record { depth = d; expected = e; run = stay; rest = r }
read_run d e (s ∷ []) t ss q r =
    let x = read_step d e s t ss q r in
    record { depth = x.depth; expected = x.expected; run = go x.step stay; rest = x.rest }
read_run d e (s ∷ u ∷ b) t ss q r =
    let x = read_step d e s u (b ++ (t ∷ ss)) q r in
    let y = read_run x.depth x.expected (u ∷ b) t ss q x.rest in
    record { depth = y.depth; expected = y.expected; run = go x.step y.run; rest = y.rest }

run_append : {d c b : ℕ} {e f g : Bool} {ss : List Symbol} (ts : List Symbol) → Run d e ss c f → Run c f ts b g → Run d e (ss ++ ts) b g
run_append ts stay u = u
run_append ts (go t v) u = go t (run_append ts v u)

-- a run over two lists, in two parts
record Parts (d : ℕ) (e : Bool) (ss ts : List Symbol) (b : ℕ) (g : Bool) : Type 0 where
  depth : ℕ
  expected : Bool
  front : Run d e ss depth expected
  back : Run depth expected ts b g

run_split : {d b : ℕ} {e g : Bool} (ss ts : List Symbol) → Run d e (ss ++ ts) b g → Parts d e ss ts b g
run_split {d} {b} {e} {g} [] ts u = record { depth = d; expected = e; front = stay; back = u }
run_split (s ∷ ss) ts (go t u) = let p = run_split ss ts u in record { depth = p.depth; expected = p.expected; front = go t p.front; back = p.back }

-- over symbols whose parentheses match, a run ends as deep as it began, and goes as well one less deep
record Shifted (d : ℕ) (e : Bool) (b : List Symbol) (c : ℕ) (f : Bool) : Type 0 where
  level : c ≡ suc d
  run : Run d e b d f

pair_shift : (ss ts : List Symbol) (d c : ℕ) (f : Bool) → ((x : ℕ) (g : Bool) → Run (suc (suc d)) true ss x g → Shifted (suc d) true ss x g)
    → (Run (suc d) false ts c f → Shifted d false ts c f) → Run (suc (suc d)) true (ss ++ (right_paren ∷ ts)) c f
    → Shifted d true (left_paren ∷ (ss ++ (right_paren ∷ ts))) c f
pair_shift ss ts d c f front back u = let p = run_split ss (right_paren ∷ ts) u in closing p.depth p.expected (front p.depth p.expected p.front) p.back
  where
    closing : (x : ℕ) (g : Bool) → Shifted (suc d) true ss x g → Run x g (right_paren ∷ ts) c f → Shifted d true (left_paren ∷ (ss ++ (right_paren ∷ ts))) c f
    closing x g s (go {c = y} closes v) =
        let z : y ≡ suc d = omega (arith, s.level) in
        let t = back (subst (λ (j : ℕ). Run j false ts c f) z v) in
        record { level = t.level; run = go opens (run_append (right_paren ∷ ts) s.run (go closes t.run)) }

shift : {b : List Symbol} → Balanced b → {d c : ℕ} {e f : Bool} → Run (suc d) e b c f → Shifted d e b c f
shift none stay = record { level = refl; run = stay }
shift (other l r n) (go opens u) = clash (cc)
shift (other l r n) (go closes u) = clash (cc)
shift (other l r n) (go (says k h) u) = let s = shift n u in record { level = s.level; run = go (says k h) s.run }
shift (pair {ss = ss} {ts = ts} m n) {d} {c} {f = f} (go opens u) = pair_shift ss ts d c f (λ x g r. shift m r) (λ r. shift n r) u

-- ---- a pair taken away

open_step : (d : ℕ) (e : Bool) (ss : List Symbol) (q : ℕ) → Rest d e (left_paren ∷ ss) q → (e ≡ true) × Rest (suc d) true ss q
unfolding scan
open_step d true ss q r = (refl, record { items = r.items; reads = r.reads })
open_step d false ss q r = clash (cc r.reads)

close_step : (d : ℕ) (e : Bool) (ss : List Symbol) (q : ℕ) → Rest d e (right_paren ∷ ss) q → (e ≡ false) × ((y : ℕ) × (d ≡ suc y) × Rest y false ss q)
unfolding scan
close_step zero e ss q r = clash (cc r.reads)
close_step (suc d) true ss q r = clash (cc r.reads)
close_step (suc d) false ss q r = (refl, (d, refl, record { items = r.items; reads = r.reads }))

-- a line that is read is read without a pair of its parentheses too
unparen : (a b c : List Symbol) (q : ℕ) → Balanced b → Rest 0 true (a ++ (left_paren ∷ (b ++ (right_paren ∷ (c ++ (number q ∷ [])))))) q
    → Rest 0 true (a ++ (b ++ (c ++ (number q ∷ [])))) q
unparen a b c q m r =
    let end = c ++ (number q ∷ []) in
    let x = read_run 0 true a left_paren (b ++ (right_paren ∷ end)) q r in
    let o = open_step x.depth x.expected (b ++ (right_paren ∷ end)) q x.rest in
    let y = read_run (suc x.depth) true b right_paren end q o.1 in
    let k = close_step y.depth y.expected end q y.rest in
    let s = shift m y.run in
    let z : k.1.0 ≡ x.depth = omega (arith, s.level, k.1.1) in
    let rest : Rest x.depth false end q = subst (λ (j : ℕ). Rest j false end q) z k.1.2 in
    let inner : Run x.depth true b x.depth false = subst (λ (f : Bool). Run x.depth true b x.depth f) k.0 s.run in
    let outer : Run 0 true a x.depth true = subst (λ (f : Bool). Run 0 true a x.depth f) o.0 x.run in
    run_reads (b ++ end) q outer (run_reads end q inner rest)

-- the symbols without the pair are known too
without_known : (a b c : List Symbol) → T (each_of known (a ++ (left_paren ∷ (b ++ (right_paren ∷ c))))) → T (each_of known (a ++ (b ++ c)))
without_known a b c t =
    let h = each_of_out known (a ++ (left_paren ∷ (b ++ (right_paren ∷ c)))) t in
    each_of_in known (a ++ (b ++ c))
    (λ x m. ⊎_elim (λ (i : Memᴰ x a). h x (Memᴰ.append_left (left_paren ∷ (b ++ (right_paren ∷ c))) i))
    (λ (i : Memᴰ x (b ++ c)). h x (Memᴰ.append_right a (Memᴰ.tail (⊎_elim (λ (j : Memᴰ x b). Memᴰ.append_left (right_paren ∷ c) j) (λ (j : Memᴰ x c). Memᴰ.append_right b (Memᴰ.tail j)) (Memᴰ.append_cases b i)))))
    (Memᴰ.append_cases a m))

-- symbols before the last are the same where all are
before_last : (xs ys : List Symbol) (s : Symbol) → xs ++ (s ∷ []) ≡ ys ++ (s ∷ []) → xs ≡ ys
before_last xs ys s e =
    let l : length xs ≡ length ys = omega (arith, ap length e, length-append xs (s ∷ []), length-append ys (s ∷ [])) in
    sym (take_at xs (s ∷ []) (length xs) refl) ∙ ap (take (length xs)) e ∙ take_at ys (s ∷ []) (length xs) (sym l)

-- take one pair of the writer's parentheses away, and another expression is read
pub another : (e : Phrase) (a b c : List Symbol) → Balanced b → typing 0 e ≡ a ++ (left_paren ∷ (b ++ (right_paren ∷ c)))
    → (f : Phrase) × Writes 0 (a ++ (b ++ c)) f × (f ≡ e → ⊥)
unfolding known
another e a b c m h =
    let end = number 0 ∷ [] in
    let w = writes_scan (typing_writes 0 (omega arith) e) 0 in
    let parts : typing 0 e ++ end ≡ a ++ (left_paren ∷ (b ++ (right_paren ∷ (c ++ end)))) =
    ap (λ (ss : List Symbol). ss ++ end) h ∙ append_assoc a (left_paren ∷ (b ++ (right_paren ∷ c))) end
    ∙ ap (λ (ss : List Symbol). a ++ (left_paren ∷ ss)) (append_assoc b (right_paren ∷ c) end) in
    let whole : Rest 0 true (a ++ (left_paren ∷ (b ++ (right_paren ∷ (c ++ end))))) 0 =
    record { items = w.0; reads = ap (scan 0 true) (sym parts) ∙ w.1 } in
    let less = unparen a b c 0 m whole in
    let joined : (a ++ (b ++ c)) ++ end ≡ a ++ (b ++ (c ++ end)) = append_assoc a (b ++ c) end ∙ ap (λ (ss : List Symbol). a ++ ss) (append_assoc b c end) in
    let k : T (each_of known ((a ++ (b ++ c)) ++ end)) =
    known_append (a ++ (b ++ c)) end (without_known a b c (subst (λ (ss : List Symbol). T (each_of known ss)) h (typing_known 0 e))) tt in
    let r = scan_writes ((a ++ (b ++ c)) ++ end) k less.items 0 (ap (scan 0 true) joined ∙ less.reads) in
    let same : r.0 ≡ a ++ (b ++ c) = before_last r.0 (a ++ (b ++ c)) (number 0) (sym r.2) in
    let writes : Writes 0 (a ++ (b ++ c)) r.1 = subst (λ (ss : List Symbol). Writes 0 ss r.1) same r.3 in
    (r.1, writes, λ z. needed e a b c h (subst (Writes 0 (a ++ (b ++ c))) z writes))
