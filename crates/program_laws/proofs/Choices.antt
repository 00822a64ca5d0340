-- Forms of which one part is there or not.
use Rattle.std.proofs.Common.{◌≡◌, Bool, true, false, if◌then◌else◌, refl}
use Rattle.parser_tree.specs.Node as node
use Rattle.parser_tree.specs.Node.{Node, Nodes}
use Rattle.ir_core.specs.CoreForm.{Name, CoreForm, Body, Maybe, absent, there, Items}
use Rattle.ir_core.specs.Forms.{loop_test}
use Rattle.ir_core.specs.Program.{Around, is_form, are_items, may_be, is_receiver, is_method}
use Rattle.lower_table.specs.Lowering.{Passed, receiver_of, scope_form, defined_call, super_of, defined_on}
use Rattle.program_laws.proofs.Both.{both, either}
use Rattle.program_laws.proofs.Passing.{are_own, passed_fit}

module _ (a : Around) where
  pub either_fits : (c : Bool) (x y : CoreForm) → is_form a x ≡ true → is_form a y ≡ true
      → is_form a (if c then x else y) ≡ true
  either_fits c x y h k = either (λ f. is_form a f ≡ true) c x y h k

  pub loop_test_fits : (until : Bool) (t : CoreForm) → is_form a t ≡ true → is_form a (loop_test until t) ≡ true
  loop_test_fits true t h = both (both h refl) refl
  loop_test_fits false t h = h

  pub receiver_fits : (r : Maybe) (arguments blocks : Nodes) → may_be a r ≡ true
      → is_receiver a (receiver_of r arguments blocks) ≡ true
  receiver_fits (there r) arguments blocks h = h
  receiver_fits absent (node.more n ns) blocks h = refl
  receiver_fits absent node.none (node.more n ns) h = refl
  receiver_fits absent node.none node.none h = refl

  pub scope_fits : (n : Node) (f : CoreForm) → is_form a f ≡ true → may_be a (scope_form n f) ≡ true
  scope_fits node.innermost f h = refl
  scope_fits node.top f h = refl
  scope_fits n f h = h

  pub defined_call_fits : (x : Name) (r : Maybe) → may_be a r ≡ true → is_form a (defined_call x r) ≡ true
  defined_call_fits x absent h = refl
  defined_call_fits x (there r) h = both h refl

  pub defined_on_fits : (r : Maybe) (x : Name) (b : Body) → may_be a r ≡ true → is_method b ≡ true
      → is_form a (defined_on r x b) ≡ true
  defined_on_fits absent x b h k = k
  defined_on_fits (there r) x b h k = both h k

  -- the items of a `super`: those that are given, else what it passes by itself
  pub super_fits : (xs : Passed) (arguments : Nodes) (is : Items) → are_own xs a.method ≡ true → are_items a is ≡ true
      → are_items a (super_of xs arguments is) ≡ true
  super_fits xs node.none is own h = passed_fit a xs own
  super_fits xs (node.more n ns) is own h = h
