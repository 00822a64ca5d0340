-- No number past the bodies has a maker: the makers that an outline holds are all.
use Rattle.std.proofs.Common.{◌≡◌, refl, sym, ◌∙◌, ℕ, ◌+◌, ◌≤◌, length, arith, inl, inr}
use Rattle.std.specs.Prelude.{None, Some, Option}
use Rattle.std.proofs.lemmas.Bool.{cases_lt}
use Rattle.std.proofs.lemmas.List.{get_or_past}
use Rattle.std.proofs.lemmas.List.Elements.{All-get_or}
use Rattle.std.proofs.lemmas.Option.{get_or_from_slice_get, slice_get_within}
use Rattle.rite_code.specs.Code.{Program, IsWhole}
use Rattle.code_outline.specs.Laws.{IsWithin}
use Rattle.code_outline.specs.Makers.{maker_of}
use Rattle.code_outline.specs.Outlined.{Outlines}
use Rattle.code_outline.specs.declared.layout.Outline.{Outline}
use Rattle.code_outline.specs.declared.maker.Maker.{Maker}
use Rattle.code_outline.proofs.Kept.{nests}
use Rattle.code_verifier.specs.Known.{KnowsMakers}

unmade : (p : Program) (j : ℕ) (found : Option Maker) → IsWhole p → length p.bodies ≤ j → found ≡ maker_of p j
    → None ≡ maker_of p j
unmade p j None whole past e = e
unmade p j (Some m) whole past e =
    let made = (nests p).makers j m (sym e) in
    let within = All-get_or (IsWithin (m.body + 1) (length p.bodies)) made.body.children made.index j
    (slice_get_within made.body.children made.index j made.child)
    ((nests p).children whole m.body made.body made.number) in
    let same = get_or_from_slice_get made.body.children made.index j j made.child in
    absurd (omega (arith, within.1, same))

pub makers_known : (p : Program) (o : Outline) → IsWhole p → Outlines p o → KnowsMakers p o
makers_known p o whole laid j =
    elim (cases_lt j (length p.bodies)) [
      | inl lt ↦ laid.makers j lt
      | inr le ↦ get_or_past o.makers j None (omega (arith, laid.count)) ∙ unmade p j (maker_of p j) whole le refl
    ]
