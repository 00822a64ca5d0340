-- Lists of forms that stand where they may.
use Rattle.std.proofs.Common.{◌≡◌, ℕ, Bool, true, false, List, [], ◌∷◌, map, codes, Some, refl}
use Rattle.std.proofs.lemmas.Bool.{and_parts}
use Rattle.parser_tree.specs.Node as node
use Rattle.parser_tree.specs.Node.{Node, Nodes}
use Rattle.ir_core.specs.CoreForm as form
use Rattle.ir_core.specs.CoreForm.{Name, CoreForm, Maybe, absent, there, Forms, none, more, one, forms, Items, no_items, plain, splat}
use Rattle.ir_core.specs.Forms.{append, append_items, item_if, first_or, sequence, after, send_form}
use Rattle.ir_core.specs.Program.{Around, is_form, are_forms, are_items, may_be}
use Rattle.ir_builder.specs.Forms.{any_of, asked, plain_items, local_number}
use Rattle.lower_table.specs.Parts.{is_tree}
use Rattle.lower_table.specs.Lowering.{asked_by, value_of, single_of, piece_form, target_form, asks_only, pattern_of}
use Rattle.program_laws.proofs.Both.{both, either, chosen}

module _ (a : Around) where
  split : (f : CoreForm) (fs : Forms) → are_forms a (more f fs) ≡ true → (is_form a f ≡ true) × (are_forms a fs ≡ true)
  split f fs h = and_parts (is_form a f) (are_forms a fs) h

  pub append_fit : (fs gs : Forms) → are_forms a fs ≡ true → are_forms a gs ≡ true → are_forms a (append fs gs) ≡ true
  append_fit none gs h k = k
  append_fit (more f fs) gs h k = let p = split f fs h in both p.0 (append_fit fs gs p.1 k)

  pub sequence_fits : (fs : Forms) → are_forms a fs ≡ true → is_form a (sequence fs) ≡ true
  sequence_fits none h = refl
  sequence_fits (more f none) h = (split f none h).0
  sequence_fits (more f (more g gs)) h = h

  pub after_fits : (gs : Forms) (f : CoreForm) → are_forms a gs ≡ true → is_form a f ≡ true
      → is_form a (after gs f) ≡ true
  after_fits none f h k = k
  after_fits (more g gs) f h k = let p = split g gs h in both p.0 (append_fit gs (one f) p.1 (both k refl))

  pub first_fits : (fs : Forms) → are_forms a fs ≡ true → is_form a (first_or form.nil fs) ≡ true
  first_fits none h = refl
  first_fits (more f fs) h = (split f fs h).0

  pub any_fits : (fs : Forms) → are_forms a fs ≡ true → is_form a (any_of fs) ≡ true
  any_fits none h = refl
  any_fits (more f none) h = (split f none h).0
  any_fits (more f (more g gs)) h = let p = split f (more g gs) h in both p.0 (any_fits (more g gs) p.1)

  asked_fit : (s : CoreForm) (fs : Forms) → is_form a s ≡ true → are_forms a fs ≡ true → are_forms a (asked s fs) ≡ true
  asked_fit s none k h = refl
  asked_fit s (more f fs) k h =
      let p = split f fs h in
      both (both p.0 (both (both k refl) refl)) (asked_fit s fs k p.1)

  -- the tests of a case on its subject
  pub subject_fits : (d : ℕ) (fs : Forms) → are_forms a fs ≡ true → are_forms a (asked_by (Some d) fs) ≡ true
  subject_fits d fs h = asked_fit (local_number d) fs refl h

  pub words_fit : (xs : List Name) → are_items a (plain_items (map form.str xs)) ≡ true
  words_fit [] = refl
  words_fit (x ∷ xs) = words_fit xs

  pub symbols_fit : (xs : List Name) → are_items a (plain_items (map form.sym xs)) ≡ true
  symbols_fit [] = refl
  symbols_fit (x ∷ xs) = symbols_fit xs

  pub undefs_fit : (xs : List Name) → are_forms a (forms (map form.undef_form xs)) ≡ true
  undefs_fit [] = refl
  undefs_fit (x ∷ xs) = undefs_fit xs

  pub item_fits : (t : Bool) (f : CoreForm) (is : Items) → is_form a f ≡ true → are_items a is ≡ true
      → are_items a (item_if t f is) ≡ true
  item_fits true f is h k = both h k
  item_fits false f is h k = both h k

  pub append_items_fit : (is js : Items) → are_items a is ≡ true → are_items a js ≡ true
      → are_items a (append_items is js) ≡ true
  append_items_fit no_items js h k = k
  append_items_fit (plain f is) js h k =
      let p = and_parts (is_form a f) (are_items a is) h in
      both p.0 (append_items_fit is js p.1 k)
  append_items_fit (splat f is) js h k =
      let p = and_parts (is_form a f) (are_items a is) h in
      both p.0 (append_items_fit is js p.1 k)

  -- nothing, one value, or an Array
  pub value_fits : (ns : Nodes) (only : CoreForm) (is : Items) → is_form a only ≡ true → are_items a is ≡ true
      → is_form a (value_of ns only is) ≡ true
  value_fits node.none only is h k = refl
  value_fits (node.more n node.none) only is h k = h
  value_fits (node.more n (node.more m ns)) only is h k = k

  pub single_fits : (n : Node) (f : CoreForm) → is_form a f ≡ true → is_form a (single_of n f) ≡ true
  single_fits n f h = either (λ g. is_form a g ≡ true) (is_tree n) f (form.array (splat f no_items)) h (both h refl)

  pub piece_fits : (n : Node) (f : CoreForm) → is_form a f ≡ true → is_form a (piece_form n f) ≡ true
  piece_fits n f h =
      either (λ g. is_form a g ≡ true) (is_tree n) (send_form f (codes "to_s") no_items) f (both h refl) h

  pub target_fits : (fs : Forms) → are_forms a fs ≡ true → may_be a (target_form fs) ≡ true
  target_fits none h = refl
  target_fits (more f fs) h = (split f fs h).0

  pub only_fits : (fs : Forms) → are_forms a fs ≡ true → is_form a (asks_only fs) ≡ true
  only_fits none h = refl
  only_fits (more f none) h = (split f none h).0
  only_fits (more f (more g gs)) h = refl

  -- the assignment of a parameter, if it is a pattern
  pub pattern_fits : (n : Node) (f : CoreForm) → (is_tree n ≡ true → is_form a f ≡ true)
      → are_forms a (pattern_of n f) ≡ true
  pattern_fits n f h = chosen (λ fs. are_forms a fs ≡ true) (is_tree n) (one f) none (λ e. both (h e) refl) refl
