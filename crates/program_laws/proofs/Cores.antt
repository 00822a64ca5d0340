-- The core of a tree that fits stands where it may. One clause for each form; what each says of its parts is a lemma of
-- the files below.
use Rattle.std.proofs.Common.{◌≡◌, ℕ, ◌+◌, Bool, true, ◌&&◌, [], ◌++◌, map, Some, None, refl}
use Rattle.std.proofs.lemmas.Bool.{and_parts}
use Rattle.text_set.specs.Sets.{is_among}
use Rattle.parser_tree.specs.declared.operator.AssignmentOperator.{AssignmentOperator}
use Rattle.parser_tree.specs.Node as node
use Rattle.parser_tree.specs.Node.{Node, Nodes}
use Rattle.parser_checks.specs.Places as places
use Rattle.ir_core.specs.CoreForm as form
use Rattle.ir_core.specs.CoreForm.{CoreForm, Maybe, Forms, Items, Pairs, Branches, Clauses, forms}
use Rattle.ir_core.specs.Forms.{append}
use Rattle.ir_core.specs.Program.{all_parameters, are_items, are_pairs, are_branches, are_clauses, may_be, is_block, is_method}
use Rattle.ir_builder.specs.Forms.{has_block, local_number, element, elements_between}
use Rattle.lower_table.specs.Parts.{is_tree, count, is_none, is_literal, joined, parameters, parameter_local, parameter_locals}
use Rattle.lower_table.specs.Lowering.{core, core_all, maybe, items, first_single, pairs, pair_then, branches, branch_then, clauses, clause_then, call_items, argument_items, call_block, argument_block, block_or, body_of, passed_by, pieces, whens, when_then, patterns, keeps, stores, store, operate, defined, defined_all, is_block_given, receiver_of, width, operated_width, group_width, group_of, locals_of, asked_by, pattern_of}
use Rattle.program_laws.specs.Fits.{fits, all_fit, are_optional, names_within}
use Rattle.program_laws.proofs.Both.{both}
use Rattle.program_laws.proofs.Bound.{Within, within_left, within_tail, required_within, post_within}
use Rattle.program_laws.proofs.Known.{carries_both, carries_end, carries_within}
use Rattle.program_laws.proofs.Scenes.{Scene, Fitting, AllFitting, Standing, AllStanding, in_loop, in_clause, in_target, in_block, in_for, in_method, in_class, targets_within}
use Rattle.program_laws.proofs.Lists.{append_fit, sequence_fits, after_fits, first_fits, any_fits, subject_fits, words_fit, symbols_fit, undefs_fit, item_fits, value_fits, single_fits, piece_fits, target_fits, only_fits, pattern_fits}
use Rattle.program_laws.proofs.Stores.{Values, each_value, parameter_values, operated_fits, attribute_set_fits, attribute_operated_fits, index_set_fits, index_operated_fits, scoped_operated_fits, group_fits}
use Rattle.program_laws.proofs.Choices.{either_fits, loop_test_fits, receiver_fits, scope_fits, defined_call_fits, defined_on_fits, super_fits}
use Rattle.program_laws.proofs.Bodies.{body_fits, pattern_bound}

abbrev it : Scene → Node → Bool
it s n = fits s.place s.names n

abbrev all : Scene → Nodes → Bool
all s ns = all_fit s.place s.names ns

mutual
  pub core_fits : (n : Node) (s : Scene) (d : ℕ) → Fitting s n → Standing s (core s.passes d n)
  core_fits (node.text ps) s d h =
      either_fits s.around (is_literal ps) (form.str (joined ps)) (form.text (pieces s.passes d ps)) refl
      (pieces_fit ps s d h)
  core_fits (node.symbol_text ps) s d h =
      either_fits s.around (is_literal ps) (form.sym (joined ps)) (form.intern (form.text (pieces s.passes d ps))) refl
      (pieces_fit ps s d h)
  core_fits (node.words xs) s d h = words_fit s.around xs
  core_fits (node.symbols xs) s d h = symbols_fit s.around xs
  core_fits (node.local x) s d h = s.are_known x h
  core_fits (node.scoped_constant e x) s d h = core_fits e s d h
  core_fits (node.array is) s d h = items_fit is s d h
  core_fits (node.hash ps) s d h = pairs_fit ps s d h
  core_fits (node.statements es) s d h = sequence_fits s.around (core_all s.passes d es) (each_fits es s d h)
  core_fits (node.not_node e) s d h = both (core_fits e s d h) refl
  core_fits (node.unary o e) s d h = both (core_fits e s d h) refl
  core_fits (node.operation e o f) s d h =
      let p = and_parts (it s e) (it s f) h in
      both (core_fits e s d p.0) (both (both (core_fits f s d p.1) refl) refl)
  core_fits (node.and_node e f) s d h =
      let p = and_parts (it s e) (it s f) h in
      both (core_fits e s d p.0) (core_fits f s d p.1)
  core_fits (node.or_node e f) s d h =
      let p = and_parts (it s e) (it s f) h in
      both (core_fits e s d p.0) (core_fits f s d p.1)
  core_fits (node.range e f x at) s d h =
      let p = and_parts (it s e) (it s f) h in
      both (core_fits e s d p.0) (core_fits f s d p.1)
  core_fits (node.if_node bs o) s d h =
      let p = and_parts (all s bs) (all s o) h in
      both (branches_fit bs s d p.0) (first_fits s.around (core_all s.passes d o) (each_fits o s d p.1))
  core_fits (node.unless_node t b o) s d h =
      let p = and_parts (it s t) (it s b && all s o) h in
      let q = and_parts (it s b) (all s o) p.1 in
      both (both (core_fits t s d p.0)
      (both (first_fits s.around (core_all s.passes d o) (each_fits o s d q.1)) refl)) (core_fits b s d q.0)
  core_fits (node.while_node until first t b) s d h =
      let p = and_parts (it (in_loop s) t) (it (in_loop s) b) h in
      both (loop_test_fits (in_loop s).around until (core s.passes d t) (core_fits t (in_loop s) d p.0))
      (core_fits b (in_loop s) d p.1)
  core_fits (node.for_node ts e b) s d h =
      let p = and_parts (it s e) (all (in_for s ts) ts && it (in_for s ts) b) h in
      let q = and_parts (all (in_for s ts) ts) (it (in_for s ts) b) p.1 in
      let values = parameter_values (in_for s ts).around 0 ts (targets_within s ts) in
      both (core_fits e s d p.0) (after_fits (in_for s ts).around
      (stores s.passes 0 (λ k. form.local (form.pattern k)) 0 ts) (core s.passes 0 b)
      (stores_fit ts (in_for s ts) 0 (λ k. form.local (form.pattern k)) 0 q.0 values) (core_fits b (in_for s ts) 0 q.1))
  core_fits (node.case_node node.none cs o) s d h =
      let p = and_parts (all s cs) (all s o) h in
      both (whens_fit cs s d (asked_by None) (λ fs k. k) p.0)
      (first_fits s.around (core_all s.passes d o) (each_fits o s d p.1))
  core_fits (node.case_node (node.more n ns) cs o) s d h =
      let p = and_parts (it s n && all s ns) (all s cs && all s o) h in
      let q = and_parts (it s n) (all s ns) p.0 in
      let r = and_parts (all s cs) (all s o) p.1 in
      both (core_fits n s (d + 1) q.0) (both (both
      (whens_fit cs s (d + 1) (asked_by (Some d)) (λ fs k. subject_fits s.around d fs k) r.0)
      (first_fits s.around (core_all s.passes (d + 1) o) (each_fits o s (d + 1) r.1))) refl)
  core_fits (node.begin_node b cs o e) s d h =
      let p = and_parts (it s b) (all s cs && (all s o && all s e)) h in
      let q = and_parts (all s cs) (all s o && all s e) p.1 in
      let r = and_parts (all s o) (all s e) q.1 in
      let body = core_fits b s d p.0 in
      either_fits s.around (is_none cs && (is_none o && is_none e)) (core s.passes d b)
      (form.begin_form (core s.passes d b) (clauses s.passes d cs) (maybe s.passes d o) (maybe s.passes d e)) body
      (both body (both (clauses_fit cs s d q.0) (both (maybe_fits o s d r.0) (maybe_fits e s d r.1))))
  core_fits (node.rescue_modifier e f) s d h =
      let p = and_parts (it s e) (it (in_clause s) f) h in
      both (core_fits e s d p.0) (both (both (core_fits f (in_clause s) d p.1) refl) refl)
  core_fits (node.call r x is b) s d h =
      let p = and_parts (all s r) (all s is && all_fit (places.within_block s.place) s.names b) h in
      let q = and_parts (all s is) (all_fit (places.within_block s.place) s.names b) p.1 in
      let block = block_or s.passes b (call_block s.passes d is) in
      either_fits s.around (is_block_given x r is b) has_block
      (form.call (receiver_of (maybe s.passes d r) is b) x (call_items s.passes d is) block) refl
      (both (receiver_fits s.around (maybe s.passes d r) is b (maybe_fits r s d p.0))
      (both (call_items_fit is s d q.0)
      (block_fits b s (call_block s.passes d is) q.1 (call_block_fits is s d q.0))))
  core_fits (node.index e is) s d h =
      let p = and_parts (it s e) (all s is) h in
      both (core_fits e s d p.0) (both (items_fit is s d p.1) refl)
  core_fits (node.super_node at is b) s d h =
      let p = and_parts s.place.in_method (all s is && all_fit (places.within_block s.place) s.names b) h in
      let q = and_parts (all s is) (all_fit (places.within_block s.place) s.names b) p.1 in
      both (s.has_method p.0)
      (both (super_fits s.around s.passes is (call_items s.passes d is) s.are_passed (call_items_fit is s d q.0))
      (block_fits b s (call_block s.passes d is) q.1 (call_block_fits is s d q.0)))
  core_fits (node.yield_node at is) s d h =
      let p = and_parts s.place.in_method (all s is) h in
      both (s.has_method p.0) (items_fit is s d p.1)
  core_fits (node.defined e) s d h = defined_fits e s d h
  core_fits (node.lambda n) s d h = block_body_fits n s h
  core_fits (node.return_node at is) s d h =
      let p = and_parts s.place.may_return (all s is) h in
      both (s.may_leave p.0) (value_fits s.around is (first_single s.passes d is) (items s.passes d is)
      (first_single_fits is s d p.1) (items_fit is s d p.1))
  core_fits (node.break_node at is) s d h =
      let p = and_parts s.place.in_loop (all s is) h in
      both (s.may_loop p.0) (value_fits s.around is (first_single s.passes d is) (items s.passes d is)
      (first_single_fits is s d p.1) (items_fit is s d p.1))
  core_fits (node.next_node at is) s d h =
      let p = and_parts s.place.in_loop (all s is) h in
      both (s.may_loop p.0) (value_fits s.around is (first_single s.passes d is) (items s.passes d is)
      (first_single_fits is s d p.1) (items_fit is s d p.1))
  core_fits (node.retry at) s d h = s.may_retry h
  core_fits (node.assign t e) s d h =
      let p = and_parts (it s t) (it s e) h in
      store_fits t s d (core s.passes (d + width t) e) p.0 (core_fits e s (d + width t) p.1)
  core_fits (node.operator_assign t o e) s d h =
      let p = and_parts (it s t) (it s e) h in
      operate_fits t s d o (core s.passes (d + operated_width t) e) p.0 (core_fits e s (d + operated_width t) p.1)
  core_fits (node.multiple_assign t e) s d h =
      let p = and_parts (it s t) (it s e) h in
      store_fits t s d (core s.passes (d + width t) e) p.0 (core_fits e s (d + width t) p.1)
  core_fits (node.define on x n) s d h =
      let p = and_parts (all s on) (fits (places.method (places.place_of n)) [] n) h in
      defined_on_fits s.around (maybe s.passes d on) x (body_of (passed_by n) n) (maybe_fits on s d p.0)
      (method_body_fits n p.1)
  core_fits (node.class_node scope x parent ls b) s d h =
      let p = and_parts (it s scope) (all s parent && it (in_class s ls) b) h in
      let q = and_parts (all s parent) (it (in_class s ls) b) p.1 in
      both (scope_fits s.around scope (core s.passes d scope) (core_fits scope s d p.0))
      (both (maybe_fits parent s d q.0) (core_fits b (in_class s ls) 0 q.1))
  core_fits (node.singleton_class e ls b) s d h =
      let p = and_parts (it s e) (it (in_class s ls) b) h in
      both (core_fits e s d p.0) (core_fits b (in_class s ls) 0 p.1)
  core_fits (node.module_node scope x ls b) s d h =
      let p = and_parts (it s scope) (it (in_class s ls) b) h in
      both (scope_fits s.around scope (core s.passes d scope) (core_fits scope s d p.0))
      (core_fits b (in_class s ls) 0 p.1)
  core_fits (node.undef_node xs) s d h =
      sequence_fits s.around (forms (map form.undef_form xs)) (undefs_fit s.around xs)
  core_fits (node.splat e) s d h = core_fits e s d h
  core_fits (node.optional_parameter x e) s d h =
      let p = and_parts (is_among x s.names) (it s e) h in
      both (s.are_known x p.0) (core_fits e s d p.1)
  core_fits n s d h = refl

  pub each_fits : (ns : Nodes) (s : Scene) (d : ℕ) → AllFitting s ns → AllStanding s (core_all s.passes d ns)
  each_fits node.none s d h = refl
  each_fits (node.more n ns) s d h =
      let p = and_parts (it s n) (all s ns) h in
      both (core_fits n s d p.0) (each_fits ns s d p.1)

  maybe_fits : (ns : Nodes) (s : Scene) (d : ℕ) → AllFitting s ns → may_be s.around (maybe s.passes d ns) ≡ true
  maybe_fits node.none s d h = refl
  maybe_fits (node.more n ns) s d h = core_fits n s d (and_parts (it s n) (all s ns) h).0

  items_fit : (ns : Nodes) (s : Scene) (d : ℕ) → AllFitting s ns → are_items s.around (items s.passes d ns) ≡ true
  items_fit node.none s d h = refl
  items_fit (node.more n ns) s d h =
      let p = and_parts (it s n) (all s ns) h in
      item_fits s.around (is_tree n) (core s.passes d n) (items s.passes d ns) (core_fits n s d p.0)
      (items_fit ns s d p.1)

  first_single_fits : (ns : Nodes) (s : Scene) (d : ℕ) → AllFitting s ns → Standing s (first_single s.passes d ns)
  first_single_fits node.none s d h = refl
  first_single_fits (node.more n ns) s d h =
      single_fits s.around n (core s.passes d n) (core_fits n s d (and_parts (it s n) (all s ns) h).0)

  pairs_fit : (ns : Nodes) (s : Scene) (d : ℕ) → AllFitting s ns → are_pairs s.around (pairs s.passes d ns) ≡ true
  pairs_fit node.none s d h = refl
  pairs_fit (node.more n ns) s d h =
      let p = and_parts (it s n) (all s ns) h in
      pair_fits n s d (pairs s.passes d ns) p.0 (pairs_fit ns s d p.1)

  pair_fits : (n : Node) (s : Scene) (d : ℕ) (ps : Pairs) → Fitting s n → are_pairs s.around ps ≡ true
      → are_pairs s.around (pair_then s.passes d n ps) ≡ true
  pair_fits (node.pair k v) s d ps h others =
      let p = and_parts (it s k) (it s v) h in
      both (core_fits k s d p.0) (both (core_fits v s d p.1) others)
  pair_fits n s d ps h others = others

  branches_fit : (ns : Nodes) (s : Scene) (d : ℕ) → AllFitting s ns
      → are_branches s.around (branches s.passes d ns) ≡ true
  branches_fit node.none s d h = refl
  branches_fit (node.more n ns) s d h =
      let p = and_parts (it s n) (all s ns) h in
      branch_fits n s d (branches s.passes d ns) p.0 (branches_fit ns s d p.1)

  branch_fits : (n : Node) (s : Scene) (d : ℕ) (bs : Branches) → Fitting s n → are_branches s.around bs ≡ true
      → are_branches s.around (branch_then s.passes d n bs) ≡ true
  branch_fits (node.branch t b) s d bs h others =
      let p = and_parts (it s t) (it s b) h in
      both (core_fits t s d p.0) (both (core_fits b s d p.1) others)
  branch_fits n s d bs h others = others

  clauses_fit : (ns : Nodes) (s : Scene) (d : ℕ) → AllFitting s ns
      → are_clauses s.around (clauses s.passes d ns) ≡ true
  clauses_fit node.none s d h = refl
  clauses_fit (node.more n ns) s d h =
      let p = and_parts (it s n) (all s ns) h in
      clause_fits n s d (clauses s.passes d ns) p.0 (clauses_fit ns s d p.1)

  clause_fits : (n : Node) (s : Scene) (d : ℕ) (cs : Clauses) → Fitting s n → are_clauses s.around cs ≡ true
      → are_clauses s.around (clause_then s.passes d n cs) ≡ true
  clause_fits (node.rescue_clause cs t b) s d more_clauses h others =
      let p = and_parts (all (in_clause s) cs) (all (in_clause s) t && it (in_clause s) b) h in
      let q = and_parts (all (in_clause s) t) (it (in_clause s) b) p.1 in
      let values = each_value (in_target s).around (λ k. form.exception) 0 t (λ j. refl) in
      both (each_fits cs (in_clause s) d p.0) (both (target_fits (in_target s).around
      (stores s.passes d (λ k. form.exception) 0 t)
      (stores_fit t (in_target s) d (λ k. form.exception) 0 q.0 values))
      (both (core_fits b (in_clause s) d q.1) others))
  clause_fits n s d cs h others = others

  call_items_fit : (ns : Nodes) (s : Scene) (d : ℕ) → AllFitting s ns
      → are_items s.around (call_items s.passes d ns) ≡ true
  call_items_fit node.none s d h = refl
  call_items_fit (node.more n ns) s d h = argument_items_fit n s d (and_parts (it s n) (all s ns) h).0

  argument_items_fit : (n : Node) (s : Scene) (d : ℕ) → Fitting s n
      → are_items s.around (argument_items s.passes d n) ≡ true
  argument_items_fit (node.arguments is b) s d h = items_fit is s d (and_parts (all s is) (all s b) h).0
  argument_items_fit n s d h = refl

  call_block_fits : (ns : Nodes) (s : Scene) (d : ℕ) → AllFitting s ns
      → may_be s.around (call_block s.passes d ns) ≡ true
  call_block_fits node.none s d h = refl
  call_block_fits (node.more n ns) s d h = argument_block_fits n s d (and_parts (it s n) (all s ns) h).0

  argument_block_fits : (n : Node) (s : Scene) (d : ℕ) → Fitting s n
      → may_be s.around (argument_block s.passes d n) ≡ true
  argument_block_fits (node.arguments is b) s d h = maybe_fits b s d (and_parts (all s is) (all s b) h).1
  argument_block_fits n s d h = refl

  block_fits : (ns : Nodes) (s : Scene) (given : Maybe) → all_fit (places.within_block s.place) s.names ns ≡ true
      → may_be s.around given ≡ true → may_be s.around (block_or s.passes ns given) ≡ true
  block_fits node.none s given h k = k
  block_fits (node.more n ns) s given h k =
      let inside = places.within_block s.place in
      block_body_fits n s (and_parts (fits inside s.names n) (all_fit inside s.names ns) h).0

  -- the body of a block or a lambda
  block_body_fits : (n : Node) (s : Scene) → fits (places.within_block s.place) s.names n ≡ true
      → is_block s.around (body_of s.passes n) ≡ true
  block_body_fits (node.definition at r o rest q b x ls e) s h =
      let names = names_within r o rest q b ls in
      let ps = parameters r o rest q b in
      let known = carries_both names s.names (all_parameters ps ++ locals_of ls) s.around.known
      (carries_within r o rest q b ls) s.are_known in
      let t = in_block s ps (locals_of ls) (names ++ s.names) known in
      let w : Within (all_parameters ps) t.around.known = λ y k. within_left (all_parameters ps ++ locals_of ls)
      s.around.known y (within_left (all_parameters ps) (locals_of ls) y k) in
      let p1 = and_parts (are_optional o) (all t r && (all t o && (all t q && it t e))) h in
      let p2 = and_parts (all t r) (all t o && (all t q && it t e)) p1.1 in
      let p3 = and_parts (all t o) (all t q && it t e) p2.1 in
      let p4 = and_parts (all t q) (it t e) p3.1 in
      body_fits t.around s.passes o (append (patterns s.passes 0 r) (patterns s.passes (count r) q)) (core s.passes 0 e)
      p1.0 (each_fits o t 0 p3.0)
      (append_fit t.around (patterns s.passes 0 r) (patterns s.passes (count r) q)
      (patterns_fit r t 0 p2.0 (λ y k. w y (required_within ps y k)))
      (patterns_fit q t (count r) p4.0 (λ y k. w y (post_within ps y k)))) (core_fits e t 0 p4.1)
  block_body_fits n s h = refl

  method_body_fits : (n : Node) → fits (places.method (places.place_of n)) [] n ≡ true
      → is_method (body_of (passed_by n) n) ≡ true
  method_body_fits (node.definition at r o rest q b x ls e) h =
      let names = names_within r o rest q b ls in
      let ps = parameters r o rest q b in
      let known = carries_end names (all_parameters ps ++ locals_of ls) (carries_within r o rest q b ls) in
      let t = in_method at ps (locals_of ls) (names ++ []) known in
      let w : Within (all_parameters ps) t.around.known =
      λ y k. within_left (all_parameters ps) (locals_of ls) y k in
      let p1 = and_parts (are_optional o) (all t r && (all t o && (all t q && it t e))) h in
      let p2 = and_parts (all t r) (all t o && (all t q && it t e)) p1.1 in
      let p3 = and_parts (all t o) (all t q && it t e) p2.1 in
      let p4 = and_parts (all t q) (it t e) p3.1 in
      body_fits t.around t.passes o (append (patterns t.passes 0 r) (patterns t.passes (count r) q)) (core t.passes 0 e)
      p1.0 (each_fits o t 0 p3.0)
      (append_fit t.around (patterns t.passes 0 r) (patterns t.passes (count r) q)
      (patterns_fit r t 0 p2.0 (λ y k. w y (required_within ps y k)))
      (patterns_fit q t (count r) p4.0 (λ y k. w y (post_within ps y k)))) (core_fits e t 0 p4.1)
  method_body_fits n h = refl

  pieces_fit : (ns : Nodes) (s : Scene) (d : ℕ) → AllFitting s ns → AllStanding s (pieces s.passes d ns)
  pieces_fit node.none s d h = refl
  pieces_fit (node.more n ns) s d h =
      let p = and_parts (it s n) (all s ns) h in
      both (piece_fits s.around n (core s.passes d n) (core_fits n s d p.0)) (pieces_fit ns s d p.1)

  whens_fit : (ns : Nodes) (s : Scene) (d : ℕ) (ask : Forms → Forms)
      → ((fs : Forms) → AllStanding s fs → AllStanding s (ask fs)) → AllFitting s ns
      → are_branches s.around (whens s.passes d ask ns) ≡ true
  whens_fit node.none s d ask asks h = refl
  whens_fit (node.more n ns) s d ask asks h =
      let p = and_parts (it s n) (all s ns) h in
      when_fits n s d ask (whens s.passes d ask ns) asks p.0 (whens_fit ns s d ask asks p.1)

  when_fits : (n : Node) (s : Scene) (d : ℕ) (ask : Forms → Forms) (bs : Branches)
      → ((fs : Forms) → AllStanding s fs → AllStanding s (ask fs)) → Fitting s n → are_branches s.around bs ≡ true
      → are_branches s.around (when_then s.passes d ask n bs) ≡ true
  when_fits (node.when_clause ts b) s d ask bs asks h others =
      let p = and_parts (all s ts) (it s b) h in
      let tests = core_all s.passes d ts in
      both (any_fits s.around (ask tests) (asks tests (each_fits ts s d p.0))) (both (core_fits b s d p.1) others)
  when_fits n s d ask bs asks h others = others

  patterns_fit : (ns : Nodes) (s : Scene) (k : ℕ) → AllFitting s ns → Within (parameter_locals k ns) s.around.known
      → AllStanding s (patterns s.passes k ns)
  patterns_fit node.none s k h w = refl
  patterns_fit (node.more n ns) s k h w =
      let p = and_parts (it s n) (all s ns) h in
      let value = form.local (form.pattern k) in
      let assigned = pattern_fits s.around n (store s.passes 0 n value)
      (λ e. store_fits n s 0 value p.0 (w (form.pattern k) (pattern_bound k n (parameter_locals (k + 1) ns) e))) in
      append_fit s.around (pattern_of n (store s.passes 0 n value)) (patterns s.passes (k + 1) ns) assigned
      (patterns_fit ns s (k + 1) p.1
      (λ y b. w y (within_tail (parameter_local k n) (parameter_locals (k + 1) ns) y b)))

  keeps_fit : (ns : Nodes) (s : Scene) (d k : ℕ) → AllFitting s ns → AllStanding s (keeps s.passes d k ns)
  keeps_fit node.none s d k h = refl
  keeps_fit (node.more n ns) s d k h =
      let p = and_parts (it s n) (all s ns) h in
      both (single_fits s.around n (core s.passes d n) (core_fits n s d p.0)) (keeps_fit ns s d (k + 1) p.1)

  stores_fit : (ns : Nodes) (s : Scene) (d : ℕ) (v : ℕ → CoreForm) (k : ℕ) → AllFitting s ns → Values s.around v k ns
      → AllStanding s (stores s.passes d v k ns)
  stores_fit node.none s d v k h values = refl
  stores_fit (node.more n ns) s d v k h values =
      let p = and_parts (it s n) (all s ns) h in
      both (store_fits n s d (v k) p.0 values.0) (stores_fit ns s d v (k + 1) p.1 values.1)

  store_fits : (t : Node) (s : Scene) (d : ℕ) (v : CoreForm) → Fitting s t → Standing s v
      → Standing s (store s.passes d t v)
  store_fits (node.local x) s d v h value = both (s.are_known x h) value
  store_fits (node.scoped_constant e x) s d v h value = both (core_fits e s d h) value
  store_fits (node.call r x is b) s d v h value =
      let p = and_parts (all s r) (all s is && all_fit (places.within_block s.place) s.names b) h in
      attribute_set_fits s.around d x (maybe s.passes (d + 2) r) v (maybe_fits r s (d + 2) p.0) value
  store_fits (node.index e is) s d v h value =
      let p = and_parts (it s e) (all s is) h in
      let inner = d + (count is + 2) in
      index_set_fits s.around d (core s.passes inner e) is (keeps s.passes inner (d + 1) is) v
      (core_fits e s inner p.0) (keeps_fit is s inner (d + 1) p.1) value
  store_fits (node.targets b star r c) s d v h value =
      let p = and_parts (all s b) (all s r && all s c) h in
      let q = and_parts (all s r) (all s c) p.1 in
      let inner = d + group_width (count c) in
      let before = stores s.passes inner (element d) 0 b in
      let between = stores s.passes inner (λ k. elements_between d (count b) (count c)) 0 r in
      let behind = stores s.passes inner (element (d + 1)) 0 c in
      let group = group_fits s.around d b c before between behind
      (stores_fit b s inner (element d) 0 p.0 (each_value s.around (element d) 0 b (λ j. refl)))
      (stores_fit r s inner (λ k. elements_between d (count b) (count c)) 0 q.0
      (each_value s.around (λ k. elements_between d (count b) (count c)) 0 r (λ j. refl)))
      (stores_fit c s inner (element (d + 1)) 0 q.1 (each_value s.around (element (d + 1)) 0 c (λ j. refl))) in
      both value (append_fit s.around (group_of d b c before between behind) (form.one (local_number d)) group refl)
  store_fits (node.instance_variable x) s d v h value = value
  store_fits (node.global_variable x) s d v h value = value
  store_fits (node.constant x) s d v h value = value
  store_fits n s d v h value = value

  operate_fits : (t : Node) (s : Scene) (d : ℕ) (o : AssignmentOperator) (v : CoreForm) → Fitting s t → Standing s v
      → Standing s (operate s.passes d t o v)
  operate_fits (node.local x) s d o v h value =
      let read = form.local (form.named x) in
      operated_fits s.around o read read (form.set_local (form.named x)) v (s.are_known x h) (s.are_known x h)
      (λ f k. both (s.are_known x h) k) value
  operate_fits (node.instance_variable x) s d o v h value =
      operated_fits s.around o (form.ivar x) (form.ivar x) (form.set_ivar x) v refl refl (λ f k. k) value
  operate_fits (node.global_variable x) s d o v h value =
      operated_fits s.around o (form.gvar x) (form.gvar x) (form.set_gvar x) v refl refl (λ f k. k) value
  operate_fits (node.constant x) s d o v h value =
      operated_fits s.around o (form.constant x) _ (form.set_constant x) v refl refl (λ f k. k) value
  operate_fits (node.scoped_constant e x) s d o v h value =
      scoped_operated_fits s.around d (core s.passes (d + 1) e) x o v (core_fits e s (d + 1) h) value
  operate_fits (node.call r x is b) s d o v h value =
      let p = and_parts (all s r) (all s is && all_fit (places.within_block s.place) s.names b) h in
      attribute_operated_fits s.around d x (maybe s.passes (d + 2) r) o v (maybe_fits r s (d + 2) p.0) value
  operate_fits (node.index e is) s d o v h value =
      let p = and_parts (it s e) (all s is) h in
      let inner = d + (count is + 2) in
      index_operated_fits s.around d (core s.passes inner e) is (keeps s.passes inner (d + 1) is) o v
      (core_fits e s inner p.0) (keeps_fit is s inner (d + 1) p.1) value
  operate_fits n s d o v h value = value

  defined_fits : (n : Node) (s : Scene) (d : ℕ) → Fitting s n → Standing s (defined s.passes d n)
  defined_fits (node.scoped_constant e x) s d h = both (core_fits e s d h) refl
  defined_fits (node.statements es) s d h =
      only_fits s.around (defined_all s.passes d es) (each_defined_fits es s d h)
  defined_fits (node.not_node e) s d h = both (core_fits e s d h) refl
  defined_fits (node.unary o e) s d h = both (core_fits e s d h) refl
  defined_fits (node.operation e o f) s d h = both (core_fits e s d (and_parts (it s e) (it s f) h).0) refl
  defined_fits (node.call r x is b) s d h =
      let p = and_parts (all s r) (all s is && all_fit (places.within_block s.place) s.names b) h in
      defined_call_fits s.around x (maybe s.passes d r) (maybe_fits r s d p.0)
  defined_fits (node.index e is) s d h = both (core_fits e s d (and_parts (it s e) (all s is) h).0) refl
  defined_fits n s d h = refl

  each_defined_fits : (ns : Nodes) (s : Scene) (d : ℕ) → AllFitting s ns → AllStanding s (defined_all s.passes d ns)
  each_defined_fits node.none s d h = refl
  each_defined_fits (node.more n ns) s d h =
      let p = and_parts (it s n) (all s ns) h in
      both (defined_fits n s d p.0) (each_defined_fits ns s d p.1)
