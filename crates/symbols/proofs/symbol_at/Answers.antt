-- `symbol_at` meets its contract, by the byte that its symbol begins with. Assumes nothing.
use mathlib.Core.Path.{◌≡◌, sym, ap, ◌∙◌}
use Prim.Native.Nat.{◌+◌}
use native.Mathlib.Omega.{arith}
use Rattle.std.specs.Prelude.{Some}
use Rattle.std.proofs.Common.{rules}
use Rattle.symbols.specs.declared.Symbol.{Symbol}
use Rattle.symbols.specs.declared.Symbol.TheVariants.{Colon, LeftParen, RightParen}
use Rattle.symbols.proofs.Fronts.{past_blanks, run_ends, token_none, token_colon, token_left, token_right, token_run}
use Rattle.symbols.proofs.symbol_at.Goals as goal

pub returns-in-None : goal.returns-in-None
returns-in-None c =
    let s = past_blanks _ _ _ c.requires c.blanks.ensures.counted in
    token_none _ _ _ s (omega (arith, s.inside, c.in-None.ensures.lookup.3))

pub returns-in-Some-eq58 : goal.returns-in-Some-eq58
returns-in-Some-eq58 c =
    let line = c.args.line.now in
    let s = past_blanks line c.args.at c.blanks.result c.requires c.blanks.ensures.counted in
    let l = c.in-Some-eq58.ensures.lookup.3 in
    let e : c.single.result ≡ record { symbol = Some Colon; next = c.args.at + c.blanks.result + 1 } = search rules in
    e ∙ token_colon _ _ _ s l.0 (sym (l.1 0) ∙ c.in-Some-eq58.field-0-test)

pub returns-in-Some-eq40 : goal.returns-in-Some-eq40
returns-in-Some-eq40 c =
    let line = c.args.line.now in
    let s = past_blanks line c.args.at c.blanks.result c.requires c.blanks.ensures.counted in
    let l = c.in-Some-eq40.ensures.lookup.3 in
    let e : c.single-in-Some-eq40.result ≡ record { symbol = Some LeftParen; next = c.args.at + c.blanks.result + 1 } = search rules in
    e ∙ token_left _ _ _ s l.0 (sym (l.1 0) ∙ c.in-Some-eq40.field-0-test)

pub returns-in-Some-eq41 : goal.returns-in-Some-eq41
returns-in-Some-eq41 c =
    let line = c.args.line.now in
    let s = past_blanks line c.args.at c.blanks.result c.requires c.blanks.ensures.counted in
    let l = c.in-Some-eq41.ensures.lookup.3 in
    let e : c.single-in-Some-eq41.result ≡ record { symbol = Some RightParen; next = c.args.at + c.blanks.result + 1 } = search rules in
    e ∙ token_right _ _ _ s l.0 (sym (l.1 0) ∙ c.in-Some-eq41.field-0-test)

pub returns-in-Some : goal.returns-in-Some
returns-in-Some c =
    let line = c.args.line.now in
    let s = past_blanks line c.args.at c.blanks.result c.requires c.blanks.ensures.counted in
    let l = c.in-Some.ensures.lookup.3 in
    let colon : c.in-Some.field-0.now ≡ 58 → ⊥ = search rules in
    let left : c.in-Some.field-0.now ≡ 40 → ⊥ = search rules in
    let right : c.in-Some.field-0.now ≡ 41 → ⊥ = search rules in
    let e = run_ends line _ l.0 c.run_length.result (s.solid l.0) (λ q. colon (l.1 0 ∙ q)) (λ q. left (l.1 0 ∙ q)) (λ q. right (l.1 0 ∙ q))
    c.run_length.ensures.counted in
    ap (λ (s : Symbol). record { symbol = Some s; next = c.args.at + c.blanks.result + 1 + c.run_length.result }) c.symbol_of.ensures
    ∙ token_run _ _ _ s l.0 (λ q. colon (l.1 0 ∙ q)) (λ q. left (l.1 0 ∙ q)) (λ q. right (l.1 0 ∙ q)) _ e
