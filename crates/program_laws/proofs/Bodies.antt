-- Bodies of definitions: the defaults come first, and a pattern has a parameter of its own.
use Rattle.std.proofs.Common.{◌≡◌, ℕ, true, ◌&&◌, List, ◌∷◌, refl, sym, subst}
use Rattle.std.proofs.lemmas.Bool.{and_parts, false≢true}
use Rattle.parser_tree.specs.Node as node
use Rattle.parser_tree.specs.Node.{Node, Nodes}
use Rattle.ir_core.specs.CoreForm as form
use Rattle.ir_core.specs.CoreForm.{Local, CoreForm, Forms, one}
use Rattle.ir_core.specs.Forms.{append, after}
use Rattle.ir_core.specs.Program.{Around, is_form, are_forms, is_set, is_bound, begin_with, has_defaults}
use Rattle.lower_table.specs.Parts as parts
use Rattle.lower_table.specs.Parts.{is_tree, optional_locals, parameter_local, parameter_locals}
use Rattle.lower_table.specs.Lowering.{Passed, core, core_all}
use Rattle.program_laws.specs.Fits.{is_optional, are_optional}
use Rattle.program_laws.proofs.Both.{both}
use Rattle.program_laws.proofs.Bound.{same_text, is_head}
use Rattle.program_laws.proofs.Lists.{append_fit, after_fits}

default_set : (p : Passed) (n : Node) → is_optional n ≡ true
    → is_set (form.named (parts.optional_name n)) (core p 0 n) ≡ true
default_set p (node.optional_parameter x e) h = same_text x
default_set p n h = absurd (false≢true h)

defaults_begin : (p : Passed) (o : Nodes) (gs hs : Forms) → are_optional o ≡ true
    → begin_with (optional_locals o) (append (append (core_all p 0 o) gs) hs) ≡ true
defaults_begin p node.none gs hs h = refl
defaults_begin p (node.more n ns) gs hs h =
    let q = and_parts (is_optional n) (are_optional ns) h in
    both (default_set p n q.0) (defaults_begin p ns gs hs q.1)

defaults_hold : (p : Passed) (o : Nodes) (gs : Forms) (f : CoreForm) → are_optional o ≡ true
    → has_defaults (optional_locals o) (after (append (core_all p 0 o) gs) f) ≡ true
defaults_hold p node.none gs f h = refl
defaults_hold p (node.more n ns) gs f h = defaults_begin p (node.more n ns) gs (one f) h

-- the body of a definition, by its defaults, what is assigned behind them, and its statements
pub body_fits : (a : Around) (p : Passed) (o : Nodes) (gs : Forms) (f : CoreForm) → are_optional o ≡ true
    → are_forms a (core_all p 0 o) ≡ true → are_forms a gs ≡ true → is_form a f ≡ true
    → (has_defaults (optional_locals o) (after (append (core_all p 0 o) gs) f)
    && is_form a (after (append (core_all p 0 o) gs) f)) ≡ true
body_fits a p o gs f ho hd hg hf =
    both (defaults_hold p o gs f ho)
    (after_fits a (append (core_all p 0 o) gs) f (append_fit a (core_all p 0 o) gs hd hg) hf)

pattern_place : (k : ℕ) (n : Node) → is_tree n ≡ true → parameter_local k n ≡ form.pattern k
pattern_place k (node.name_parameter x) h = absurd (false≢true h)
pattern_place k n h = refl

-- the parameter of a pattern is bound
pub pattern_bound : (k : ℕ) (n : Node) (ls : List Local) → is_tree n ≡ true
    → is_bound (form.pattern k) (parameter_local k n ∷ ls) ≡ true
pattern_bound k n ls h =
    subst (λ (l : Local). is_bound (form.pattern k) (l ∷ ls) ≡ true) (sym (pattern_place k n h))
    (is_head (form.pattern k) ls)
