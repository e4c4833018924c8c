-- `outranks` meets its contract: by the depths where they differ, else by what the two words join. Assumes nothing.
use mathlib.Core.Path.{◌≡◌, ap₂, ◌∙◌}
use Rattle.std.proofs.Common.{rules}
use Rattle.typed.specs.Scanning.{outranks}
use Rattle.prefixes.proofs.Levels.{outranks_apart, outranks_or, outranks_and, outranks_other}
use Rattle.prefixes.proofs.Item.outranks.Goals as goal

pub returns-then-self-earlier : goal.returns-then-self-earlier
returns-then-self-earlier c = outranks_apart _ _ c.if-self-earlier.true ∙ ap₂ outranks c.self.view_is c.earlier.view_is

pub returns-in-4 : goal.returns-in-4
returns-in-4 c = outranks_or _ _ c.if-self-earlier.false c.in-4.is ∙ ap₂ outranks c.self.view_is c.earlier.view_is

pub returns-in-5 : goal.returns-in-5
returns-in-5 c = outranks_and _ _ c.if-self-earlier.false c.in-5.is ∙ ap₂ outranks c.self.view_is c.earlier.view_is

pub returns-in_default : goal.returns-in_default
returns-in_default c =
    let no_or : c.self.inside.code ≡ 4 → ⊥ = search rules in
    let no_and : c.self.inside.code ≡ 5 → ⊥ = search rules in
    outranks_other _ _ c.if-self-earlier.false no_or no_and ∙ ap₂ outranks c.self.view_is c.earlier.view_is
