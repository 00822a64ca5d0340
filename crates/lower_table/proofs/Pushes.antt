-- Lists of forms that grow.
use Rattle.std.proofs.Common.{◌≡◌, ℕ, true, List, [], ◌∷◌, ◌++◌, refl, ap, sym, ◌∙◌, if◌then◌else◌}
use Rattle.std.proofs.lemmas.List.{drop_all, drop_more}
use Rattle.parser_tree.specs.Node.{Node}
use Rattle.ir_core.specs.CoreForm as form
use Rattle.ir_core.specs.CoreForm.{Forms, none, more, one}
use Rattle.ir_core.specs.View.{Core, core_view}
use Rattle.ir_core.specs.Forms.{append}
use Rattle.ir_core.specs.Parts.{cores}
use Rattle.ir_core.proofs.Lists.{cores-push, cores-append, forms-end}
use Rattle.lower_table.specs.Parts.{is_tree}
use Rattle.lower_table.specs.Lowering.{Passed, patterned, store}
use Rattle.lower_table.proofs.Counts.{count-map}

pub append-assoc : (fs gs hs : Forms) → append (append fs gs) hs ≡ append fs (append gs hs)
append-assoc none gs hs = refl
append-assoc (more f fs) gs hs = ap (more f) (append-assoc fs gs hs)

pub pattern-pushed : (p : Passed) (k : ℕ) (n : Node) (old new : List Core) (c : Core) → is_tree n ≡ true
    → new ≡ old ++ c ∷ [] → core_view c ≡ store p 0 n (form.local (form.pattern k))
    → cores new ≡ append (cores old) (patterned p k n)
pattern-pushed p k n old new c whole pushed is =
    let shown : patterned p k n ≡ one (core_view c) =
    ap (λ t. if t then one (store p 0 n (form.local (form.pattern k))) else none) whole ∙ ap one (sym is) in
    ap cores pushed ∙ (cores-push old c ∙ ap (append (cores old)) (sym shown))

pub ruleset pushes = (append-assoc, forms-end, drop_more, drop_all)

pub ruleset appends = (append-assoc, forms-end, cores-push, cores-append, count-map)
