-- The defaults of parameters, which a method without an end holds.
use Rattle.std.proofs.Common.{◌≡◌, ℕ, List, [], ◌∷◌, ◌++◌, length, refl, ap, sym, ◌∙◌, map, arith, append_assoc, append-nil, subst, Vec}
use Rattle.std.proofs.lemmas.List.{map-append}
use Rattle.std.specs.declared.alloc.Global.{Global}
use Rattle.rb_syntax.specs.declared.outside.Outside.{Outside}
use Rattle.parser_tree.specs.Node as node
use Rattle.parser_tree.specs.Node.{Node, nodes}
use Rattle.parser_tree.specs.Parts.{optional_node}
use Rattle.parser_tree.specs.View.{form_view, Tree, view}
use Rattle.parser_tree.specs.declared.tree.TreeForm as form
use Rattle.parser_tree.specs.declared.tree.OptionalParameter.{OptionalParameter}
use Rattle.parser_tree.proofs.Views.{view-Outside}
use Rattle.parser_forms.specs.Definitions.{defaults}

-- a default behind others
pub put_default : (xs : List Tree) (p : OptionalParameter Tree) (ps : List (OptionalParameter Tree))
    → map view (xs ++ p.value ∷ []) ++ defaults (map optional_node ps) ≡ map view xs
    ++ defaults (map optional_node (p ∷ ps))
put_default [] p ps = refl
put_default (x ∷ xs) p ps = ap (λ ns. view x ∷ ns) (put_default xs p ps)

pub put_turn : (xs ys : List Tree) (p : OptionalParameter Tree) (left next : List (OptionalParameter Tree))
    (whole : List Node) → left ≡ p ∷ next → ys ≡ xs ++ p.value ∷ []
    → map view xs ++ defaults (map optional_node left) ≡ whole → map view ys
    ++ defaults (map optional_node next) ≡ whole
put_turn xs ys p left next whole steps pushed before =
    ap (λ l. map view l ++ defaults (map optional_node next)) pushed
    ∙ (put_default xs p next ∙ subst (λ l. map view xs ++ defaults (map optional_node l) ≡ whole) steps before)

put_end : (xs : List Node) (left : List (OptionalParameter Tree)) → length left ≡ 0 → xs
    ++ defaults (map optional_node left) ≡ xs
put_end xs [] none = append-nil xs
put_end xs (p ∷ ps) none = absurd (omega arith)

-- nothing is left
pub put_all : (xs : List Node) (left : List (OptionalParameter Tree)) (whole : List Node) → length left ≡ 0 → xs
    ++ defaults (map optional_node left) ≡ whole → xs ≡ whole
put_all xs left whole none before = sym (put_end xs left none) ∙ before

-- the parts of a method without an end
pub endless_view : (o : Outside) (at : ℕ) (v : Vec Tree Global) (xs : List Tree) (ns ms : List Node) (t : Tree)
    → v.items ≡ xs ++ t ∷ [] → map view xs ≡ ns ++ ms
    → form_view (form.Outside o at v) ≡ node.outside o at (nodes (ns ++ (ms ++ view t ∷ [])))
endless_view o at v xs ns ms t last before =
    view-Outside o at v ∙ ap (λ ns. node.outside o at (nodes ns))
    (ap (map view) last ∙ (map-append view xs (t ∷ [])
    ∙ (ap (λ ys. ys ++ view t ∷ []) before ∙ append_assoc ns ms (view t ∷ []))))

pub ruleset default_parts = endless_view
