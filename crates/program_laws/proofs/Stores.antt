-- Assignments that stand where they may.
use Rattle.std.proofs.Common.{◌≡◌, ℕ, ◌+◌, ◌==◌, ◌++◌, true, codes, refl}
use Rattle.parser_tree.specs.declared.operator.AssignmentOperator.{AssignmentOperator}
use Rattle.parser_tree.specs.declared.operator.AssignmentOperator.TheVariants as assignment
use Rattle.parser_tree.specs.Node as node
use Rattle.parser_tree.specs.Node.{Node, Nodes}
use Rattle.ir_core.specs.CoreForm as form
use Rattle.ir_core.specs.CoreForm.{Name, CoreForm, Maybe, absent, there, Forms, none, one, Items, no_items, one_item}
use Rattle.ir_core.specs.Forms.{append, send_form}
use Rattle.ir_core.specs.Program.{Around, is_form, are_forms, are_items, may_be}
use Rattle.ir_builder.specs.Forms.{local_number, keep, stored, last_elements}
use Rattle.lower_table.specs.Parts.{is_tree, count, target_locals}
use Rattle.lower_table.specs.Lowering.{operated, kept, index_call, index_store, attribute_store, attribute_set, attribute_operated, index_set, index_operated, scoped_operated, tail_kept, group_of}
use Rattle.program_laws.proofs.Both.{both, either}
use Rattle.program_laws.proofs.Bound.{Within, is_head, within_tail}
use Rattle.program_laws.proofs.Lists.{append_fit, append_items_fit, item_fits}

-- what each of some targets is assigned stands there
abbrev pub Values : Around → (ℕ → CoreForm) → ℕ → Nodes → Type 0
Values a v k node.none = Unit {0}
Values a v k (node.more n ns) = (is_form a (v k) ≡ true) × Values a v (k + 1) ns

module _ (a : Around) where
  pub each_value : (v : ℕ → CoreForm) (k : ℕ) (ns : Nodes) → ((j : ℕ) → is_form a (v j) ≡ true) → Values a v k ns
  each_value v k node.none h = tt
  each_value v k (node.more n ns) h = (h k, each_value v (k + 1) ns h)

  -- the parameters of the block of a `for`
  pub parameter_values : (k : ℕ) (ns : Nodes) → Within (target_locals k ns) a.known
      → Values a (λ j. form.local (form.pattern j)) k ns
  parameter_values k node.none w = tt
  parameter_values k (node.more n ns) w = (
    w (form.pattern k) (is_head (form.pattern k) (target_locals (k + 1) ns)),
    parameter_values (k + 1) ns (λ x h. w x (within_tail (form.pattern k) (target_locals (k + 1) ns) x h)),
  )

  kept_fit : (k : ℕ) (ns : Nodes) → are_items a (kept k ns) ≡ true
  kept_fit k node.none = refl
  kept_fit k (node.more n ns) =
      item_fits a (is_tree n) (local_number k) (kept (k + 1) ns) refl (kept_fit (k + 1) ns)

  stored_fit : (r : ℕ) (x : Name) (is : Items) (k : ℕ) (v : CoreForm) → are_items a is ≡ true → is_form a v ≡ true
      → are_forms a (stored r x is k v) ≡ true
  stored_fit r x is k v h hv =
      both hv (both (both (append_items_fit a is (one_item (local_number k)) h refl) refl) refl)

  pub operated_fits : (o : AssignmentOperator) (read guarded : CoreForm) (store : CoreForm → CoreForm) (v : CoreForm)
      → is_form a read ≡ true → is_form a guarded ≡ true
      → ((f : CoreForm) → is_form a f ≡ true → is_form a (store f) ≡ true) → is_form a v ≡ true
      → is_form a (operated o read guarded store v) ≡ true
  operated_fits (assignment.Operation o) read guarded store v hr hg hs hv = hs _ (both hr (both (both hv refl) refl))
  operated_fits assignment.And read guarded store v hr hg hs hv = both hr (hs v hv)
  operated_fits assignment.Or read guarded store v hr hg hs hv = both hg (hs v hv)

  attribute_store_fits : (d : ℕ) (x : Name) (v : CoreForm) → is_form a v ≡ true
      → are_forms a (attribute_store d x v) ≡ true
  attribute_store_fits d x v hv = stored_fit d (x ++ codes "=") no_items (d + 1) v refl hv

  index_store_fits : (d : ℕ) (is : Nodes) (v : CoreForm) → is_form a v ≡ true → are_forms a (index_store d is v) ≡ true
  index_store_fits d is v hv =
      stored_fit d (codes "[]=") (kept (d + 1) is) (d + 1 + count is) v (kept_fit (d + 1) is) hv

  pub attribute_set_fits : (d : ℕ) (x : Name) (r : Maybe) (v : CoreForm) → may_be a r ≡ true → is_form a v ≡ true
      → is_form a (attribute_set d x r v) ≡ true
  attribute_set_fits d x absent v h hv = hv
  attribute_set_fits d x (there r) v h hv = both h (attribute_store_fits d x v hv)

  pub attribute_operated_fits : (d : ℕ) (x : Name) (r : Maybe) (o : AssignmentOperator) (v : CoreForm)
      → may_be a r ≡ true → is_form a v ≡ true → is_form a (attribute_operated d x r o v) ≡ true
  attribute_operated_fits d x absent o v h hv = hv
  attribute_operated_fits d x (there r) o v h hv =
      let read = send_form (local_number d) x no_items in
      both h (both (operated_fits o read read (λ f. form.seq (attribute_store d x f)) v refl refl
      (λ f hf. attribute_store_fits d x f hf) hv) refl)

  pub index_set_fits : (d : ℕ) (e : CoreForm) (is : Nodes) (ks : Forms) (v : CoreForm) → is_form a e ≡ true
      → are_forms a ks ≡ true → is_form a v ≡ true → is_form a (index_set d e is ks v) ≡ true
  index_set_fits d e is ks v he hk hv = both he (append_fit a ks (index_store d is v) hk (index_store_fits d is v hv))

  index_call_fits : (d : ℕ) (is : Nodes) → is_form a (index_call d is) ≡ true
  index_call_fits d is = both (kept_fit (d + 1) is) refl

  pub index_operated_fits : (d : ℕ) (e : CoreForm) (is : Nodes) (ks : Forms) (o : AssignmentOperator) (v : CoreForm)
      → is_form a e ≡ true → are_forms a ks ≡ true → is_form a v ≡ true
      → is_form a (index_operated d e is ks o v) ≡ true
  index_operated_fits d e is ks o v he hk hv =
      let read = index_call d is in
      let store : CoreForm → CoreForm = λ f. form.seq (index_store d is f) in
      both he (append_fit a ks (one (operated o read read store v)) hk
      (both (operated_fits o read read store v (index_call_fits d is) (index_call_fits d is)
      (λ f hf. index_store_fits d is f hf) hv) refl))

  pub scoped_operated_fits : (d : ℕ) (m : CoreForm) (x : Name) (o : AssignmentOperator) (v : CoreForm)
      → is_form a m ≡ true → is_form a v ≡ true → is_form a (scoped_operated d m x o v) ≡ true
  scoped_operated_fits d m x o v h hv =
      let store : CoreForm → CoreForm = λ f. form.set_in_constant (local_number d) x f in
      both h (both (operated_fits o _ _ store v refl refl (λ f hf. hf) hv) refl)

  tail_fits : (d m n : ℕ) → are_forms a (tail_kept d m n) ≡ true
  tail_fits d m n =
      either (λ fs. are_forms a fs ≡ true) (n == 0) none (one (keep (d + 1) (last_elements d m n))) refl refl

  pub group_fits : (d : ℕ) (b c : Nodes) (before between behind : Forms) → are_forms a before ≡ true
      → are_forms a between ≡ true → are_forms a behind ≡ true
      → are_forms a (group_of d b c before between behind) ≡ true
  group_fits d b c before between behind hb hr ha =
      let kept_last = tail_kept d (count b) (count c) in
      append_fit a before (append between (append kept_last behind)) hb
      (append_fit a between (append kept_last behind) hr
      (append_fit a kept_last behind (tail_fits d (count b) (count c)) ha))
