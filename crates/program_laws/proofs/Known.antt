-- The names that are known in a tree are locals that its core binds.
use Rattle.std.proofs.Common.{◌≡◌, ℕ, ◌+◌, List, [], ◌∷◌, ◌++◌, true, ⊎_elim, ◌⊎◌, inl, inr, bytes_eq, Option, Some, None}
use Rattle.std.proofs.lemmas.Bool.{false≢true}
use Rattle.text_set.specs.Sets.{is_among}
use Rattle.parser_tree.specs.declared.tree.RestParameter.{RestParameter}
use Rattle.parser_tree.specs.declared.tree.RestParameter.TheVariants.{Absent, Unnamed, Named}
use Rattle.parser_tree.specs.Node as node
use Rattle.parser_tree.specs.Node.{Name, Node, Nodes}
use Rattle.parser_checks.specs.Doubled.{rest_bound, block_bound}
use Rattle.ir_core.specs.CoreForm as form
use Rattle.ir_core.specs.CoreForm.{Local}
use Rattle.ir_core.specs.Program.{is_bound, all_parameters}
use Rattle.lower_table.specs.Lowering.{locals_of}
use Rattle.lower_table.specs.Parts as parts
use Rattle.lower_table.specs.Parts.{count, parameters, parameter_local, parameter_locals, optional_locals, rest_of, block_of}
use Rattle.program_laws.specs.Fits.{required_name, required_names, optional_name, optional_names, names_within}
use Rattle.program_laws.proofs.Both.{if_first, if_second, if_either}
use Rattle.program_laws.proofs.Bound.{within_left, within_right}

-- each of the names is bound
abbrev pub Carries : List Name → List Local → Type 0
Carries xs ls = (x : Name) → is_among x xs ≡ true → is_bound (form.named x) ls ≡ true

pub among_either : (x : Name) (xs ys : List Name) → is_among x (xs ++ ys) ≡ true
    → (is_among x xs ≡ true) ⊎ (is_among x ys ≡ true)
among_either x [] ys h = inr h
among_either x (z ∷ xs) ys h =
    ⊎_elim (λ e. inl (if_first (bytes_eq x z) (is_among x xs) e))
    (λ k. ⊎_elim (λ l. inl (if_second (bytes_eq x z) (is_among x xs) l)) (λ r. inr r) (among_either x xs ys k))
    (if_either (bytes_eq x z) (is_among x (xs ++ ys)) h)

pub carries_both : (xs ys : List Name) (ls ms : List Local) → Carries xs ls → Carries ys ms
    → Carries (xs ++ ys) (ls ++ ms)
carries_both xs ys ls ms f g x h =
    ⊎_elim (λ k. within_left ls ms (form.named x) (f x k)) (λ k. within_right ls ms (form.named x) (g x k))
    (among_either x xs ys h)

carries_none : (ls : List Local) → Carries [] ls
carries_none ls x h = absurd (cc)

carries_one : (y : Name) → Carries (y ∷ []) (form.named y ∷ [])
carries_one y x h = h

pub carries_variables : (ls : List Name) → Carries ls (locals_of ls)
carries_variables [] x h = absurd (cc)
carries_variables (y ∷ ls) x h =
    ⊎_elim (λ e. if_first (bytes_eq x y) (is_bound (form.named x) (locals_of ls)) e)
    (λ k. if_second (bytes_eq x y) (is_bound (form.named x) (locals_of ls)) (carries_variables ls x k))
    (if_either (bytes_eq x y) (is_among x ls) h)

carries_parameter : (k : ℕ) (n : Node) → Carries (required_name n) (parameter_local k n ∷ [])
carries_parameter k (node.name_parameter y) = carries_one y
carries_parameter k n = carries_none (parameter_local k n ∷ [])

carries_required : (k : ℕ) (ns : Nodes) → Carries (required_names ns) (parameter_locals k ns)
carries_required k node.none = carries_none []
carries_required k (node.more n ns) =
    carries_both (required_name n) (required_names ns) (parameter_local k n ∷ []) (parameter_locals (k + 1) ns)
    (carries_parameter k n) (carries_required (k + 1) ns)

carries_default : (n : Node) → Carries (optional_name n) (form.named (parts.optional_name n) ∷ [])
carries_default (node.optional_parameter y e) = carries_one y
carries_default n = carries_none (form.named (parts.optional_name n) ∷ [])

carries_optional : (ns : Nodes) → Carries (optional_names ns) (optional_locals ns)
carries_optional node.none = carries_none []
carries_optional (node.more n ns) =
    carries_both (optional_name n) (optional_names ns) (form.named (parts.optional_name n) ∷ []) (optional_locals ns)
    (carries_default n) (carries_optional ns)

carries_rest : (r : RestParameter) → Carries (rest_bound r) (rest_of r)
carries_rest Absent = carries_none []
carries_rest Unnamed = carries_none (form.rest ∷ [])
carries_rest (Named x) = carries_one x

carries_block : (b : Option Name) → Carries (block_bound b) (block_of b)
carries_block None = carries_none []
carries_block (Some x) = carries_one x

-- a list with nothing behind it
pub carries_end : (xs : List Name) (ls : List Local) → Carries xs ls → Carries (xs ++ []) ls
carries_end xs ls f x h = ⊎_elim (λ k. f x k) (λ k. absurd (false≢true k)) (among_either x xs [] h)

-- what a definition binds
pub carries_within : (r o : Nodes) (rest : RestParameter) (q : Nodes) (b : Option Name) (ls : List Name)
    → Carries (names_within r o rest q b ls) (all_parameters (parameters r o rest q b) ++ locals_of ls)
carries_within r o rest q b ls =
    let xs1 = required_names r in
    let ls1 = parameter_locals 0 r in
    let xs2 = xs1 ++ optional_names o in
    let ls2 = ls1 ++ optional_locals o in
    let xs3 = xs2 ++ rest_bound rest in
    let ls3 = ls2 ++ rest_of rest in
    let xs4 = xs3 ++ required_names q in
    let ls4 = ls3 ++ parameter_locals (count r) q in
    let xs5 = xs4 ++ block_bound b in
    let ls5 = ls4 ++ block_of b in
    let defaults = carries_both xs1 (optional_names o) ls1 (optional_locals o) (carries_required 0 r)
    (carries_optional o) in
    let others = carries_both xs2 (rest_bound rest) ls2 (rest_of rest) defaults (carries_rest rest) in
    let post = carries_both xs3 (required_names q) ls3 (parameter_locals (count r) q) others
    (carries_required (count r) q) in
    let block = carries_both xs4 (block_bound b) ls4 (block_of b) post (carries_block b) in
    carries_both xs5 ls ls5 (locals_of ls) block (carries_variables ls)
