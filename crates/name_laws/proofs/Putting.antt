-- A parameter behind others binds its names, too.
use Rattle.std.proofs.Common.{◌≡◌, ◌∙◌, Bool, true, false, not, ◌&&◌, ◌||◌, true≢false, if◌then◌else◌, nat_eq, length, List, [], ◌∷◌, ◌++◌, Option, Some, None, is_some, refl, sym, ap, subst}
use Rattle.std.proofs.lemmas.Bool.{and_parts}
use Rattle.std.proofs.lemmas.List.{append_assoc, append-nil}
use Rattle.text_set.specs.Sets.{is_among}
use Rattle.parser_tree.specs.declared.tree.RestParameter.{RestParameter}
use Rattle.parser_tree.specs.declared.tree.RestParameter.TheVariants as rests
use Rattle.parser_tree.specs.Node as node
use Rattle.parser_tree.specs.Node.{Name, Node, Nodes, nodes}
use Rattle.parser_checks.specs.Doubled.{rest_bound, block_bound}
use Rattle.parser_ahead.specs.declared.names.Variable.{Variable}
use Rattle.parser_form_nodes.specs.Parameters.{ParameterNode, required, optional, rest_of, block_name, outside_parameter, ParameterNodes, is_there, takes_optional, may_follow, put_parameter, is_one, with_comma}
use Rattle.parser_forms.specs.Reading.{Names}
use Rattle.program_laws.specs.Fits.{required_name, required_names, optional_name, optional_names, is_optional, are_optional}
use Rattle.program_laws.specs.Knows.{is_outside, has_outside}
use Rattle.program_laws.proofs.Both.{both}
use Rattle.name_laws.proofs.Among.{Within, within_none, within_same, within_each, within_both, in_left, in_right}
use Rattle.name_laws.proofs.Growing.{known_names, plain, Grows, grown, grown_by, Knows, each_more}
use Rattle.name_laws.proofs.Binding.{parameter_names, parameters_append, plain_none, within, required_within, optional_within, rest_within, post_within, block_within, parts_within, KnowsParameters, Bound, Binds, Holds, Has, parameters_still}

more_required : (ns : List Node) (n : Node) → Within (required_names (nodes ns)) (required_names (nodes (ns ++ n ∷ [])))
more_required [] n = within_none (required_names (nodes (n ∷ [])))
more_required (m ∷ ns) n =
    within_both (required_name m) (required_names (nodes ns)) (required_name m)
    (required_names (nodes (ns ++ n ∷ []))) (within_same (required_name m)) (more_required ns n)

last_required : (ns : List Node) (n : Node) → Within (required_name n) (required_names (nodes (ns ++ n ∷ [])))
last_required [] n = in_left (required_name n) []
last_required (m ∷ ns) n =
    λ x h. in_right (required_name m) (required_names (nodes (ns ++ n ∷ []))) x (last_required ns n x h)

more_optional : (ns : List Node) (n : Node) → Within (optional_names (nodes ns)) (optional_names (nodes (ns ++ n ∷ [])))
more_optional [] n = within_none (optional_names (nodes (n ∷ [])))
more_optional (m ∷ ns) n =
    within_both (optional_name m) (optional_names (nodes ns)) (optional_name m)
    (optional_names (nodes (ns ++ n ∷ []))) (within_same (optional_name m)) (more_optional ns n)

last_optional : (ns : List Node) (n : Node) → Within (optional_name n) (optional_names (nodes (ns ++ n ∷ [])))
last_optional [] n = in_left (optional_name n) []
last_optional (m ∷ ns) n =
    λ x h. in_right (optional_name m) (optional_names (nodes (ns ++ n ∷ []))) x (last_optional ns n x h)

still_optional : (ns : List Node) (n : Node) → are_optional (nodes ns) ≡ true → is_optional n ≡ true
    → are_optional (nodes (ns ++ n ∷ [])) ≡ true
still_optional [] n h k = both k refl
still_optional (m ∷ ns) n h k =
    let p = and_parts (is_optional m) (are_optional (nodes ns)) h in both p.0 (still_optional ns n p.1 k)

either_false : (b c : Bool) → (b || c) ≡ false → (b ≡ false) × (c ≡ false)
either_false true c h = absurd (cc)
either_false false c h = (refl, h)

last_outside : (ns : List Node) (n : Node) → is_outside n ≡ true → has_outside (nodes (ns ++ n ∷ [])) ≡ false → ⊥
last_outside [] n is h = true≢false (sym is ∙ (either_false (is_outside n) false h).0)
last_outside (m ∷ ns) n is h =
    last_outside ns n is (either_false (is_outside m) (has_outside (nodes (ns ++ n ∷ []))) h).1

not_there : (b : Bool) → not b ≡ true → b ≡ false
not_there true h = sym h
not_there false h = refl

no_rest : (r : RestParameter) (ys : List Name) → is_there r ≡ false → Within (rest_bound r) ys
no_rest rests.Absent ys h = within_none ys
no_rest rests.Unnamed ys h = within_none ys
no_rest (rests.Named x) ys h = absurd (cc)

no_block : (b : Option Name) (ys : List Name) → is_some b ≡ false → Within (block_bound b) ys
no_block None ys h = within_none ys
no_block (Some x) ys h = absurd (cc)

-- parameters that bind all that others bound, and the new variables
bound_more : (vs ws : List Variable) (known : Names) (l m : ParameterNodes) → Within (within l []) (within m [])
    → Within (parameter_names ws) (within m []) → KnowsParameters known m → Within (parameter_names vs) (within l [])
    → Bound (vs ++ ws) known m
bound_more vs ws known l m v w k b = (
  subst (λ xs. Within xs (within m [])) (sym (parameters_append vs ws))
      (within_each (parameter_names vs) (parameter_names ws) (within m []) (λ x h. v x (b x h)) w),
  k,
)

module _ (vs ws : List Variable) (names known : Names) (l : ParameterNodes) (w : Within (known_names names)
    (known_names known))
    (b : has_outside (nodes l.outside) ≡ false → Bound vs names l) where
  abbrev Puts : ParameterNodes → Type 0
  Puts m = has_outside (nodes m.outside) ≡ false → Bound (vs ++ ws) known m

  before_rest : (n : Node) → Within (parameter_names ws) (required_name n) → Knows known n
      → Puts (record l { required = l.required ++ n ∷ [] })
  before_rest n v k inside =
      let m : ParameterNodes = record l { required = l.required ++ n ∷ [] } in
      let old = b inside in
      let still = parameters_still names known l w old.1 in
      bound_more vs ws known l m
      (parts_within l [] (within m []) (λ x h. required_within m [] x (more_required l.required n x h))
      (optional_within m []) (rest_within m []) (post_within m []) (block_within m []) (within_none (within m [])))
      (λ x h. required_within m [] x (last_required l.required n x (v x h)))
      (still.0, (each_more known l.required n still.1.0 k, still.1.1)) old.0

  behind_rest : (n : Node) → Within (parameter_names ws) (required_name n) → Knows known n
      → Puts (record l { post = l.post ++ n ∷ [] })
  behind_rest n v k inside =
      let m : ParameterNodes = record l { post = l.post ++ n ∷ [] } in
      let old = b inside in
      let still = parameters_still names known l w old.1 in
      bound_more vs ws known l m
      (parts_within l [] (within m []) (required_within m []) (optional_within m []) (rest_within m [])
      (λ x h. post_within m [] x (more_required l.post n x h)) (block_within m []) (within_none (within m [])))
      (λ x h. post_within m [] x (last_required l.post n x (v x h)))
      (still.0, (still.1.0, (still.1.1.0, each_more known l.post n still.1.1.1 k))) old.0

  puts_required : (n : Node) (c : Bool) → Within (parameter_names ws) (required_name n) → Knows known n
      → Puts (if c then (record l { required = l.required ++ n ∷ [] }) else (record l { post = l.post ++ n ∷ [] }))
  puts_required n true v k = before_rest n v k
  puts_required n false v k = behind_rest n v k

  puts_optional : (x : Name) (n : Node) → Within (parameter_names ws) (x ∷ []) → is_among x (known_names known) ≡ true
      → Knows known n → Puts (record l { optional = l.optional ++ node.optional_parameter x n ∷ [] })
  puts_optional y n v h k inside =
      let p = node.optional_parameter y n in
      let m : ParameterNodes = record l { optional = l.optional ++ p ∷ [] } in
      let old = b inside in
      let still = parameters_still names known l w old.1 in
      bound_more vs ws known l m
      (parts_within l [] (within m []) (required_within m [])
      (λ x h. optional_within m [] x (more_optional l.optional p x h)) (rest_within m []) (post_within m [])
      (block_within m []) (within_none (within m [])))
      (λ x h. optional_within m [] x (last_optional l.optional p x (v x h))) (
        still_optional l.optional p still.0 refl,
        (
          still.1.0,
          (
            each_more known l.optional p still.1.1.0
                (h, k),
            still.1.1.1,
          ),
        ),
      )
      old.0

  puts_rest : (r : RestParameter) → is_there l.rest ≡ false → Within (parameter_names ws) (rest_bound r)
      → Puts (record l { rest = r })
  puts_rest r none v inside =
      let m : ParameterNodes = record l { rest = r } in
      let old = b inside in
      bound_more vs ws known l m
      (parts_within l [] (within m []) (required_within m []) (optional_within m [])
      (no_rest l.rest (within m []) none) (post_within m []) (block_within m []) (within_none (within m [])))
      (λ x h. rest_within m [] x (v x h)) (parameters_still names known l w old.1) old.0

  puts_block : (y : Name) → is_some l.block ≡ false → Within (parameter_names ws) (y ∷ [])
      → Puts (record l { block = Some y })
  puts_block y none v inside =
      let m : ParameterNodes = record l { block = Some y } in
      let old = b inside in
      bound_more vs ws known l m
      (parts_within l [] (within m []) (required_within m []) (optional_within m []) (rest_within m [])
      (post_within m []) (no_block l.block (within m []) none) (within_none (within m [])))
      (λ x h. block_within m [] x (v x h)) (parameters_still names known l w old.1) old.0

  puts_outside : (n : Node) → is_outside n ≡ true → Puts (record l { outside = l.outside ++ n ∷ [] })
  puts_outside n is inside = absurd (last_outside l.outside n is inside)

  puts : (p : ParameterNode) → may_follow p l ≡ true → Holds ws known p → Puts (put_parameter p l)
  puts (required n) f h =
      puts_required n (nat_eq (length l.optional) 0 && not (is_there l.rest)) h.0 h.1
  puts (optional x n) f h = puts_optional x n h.0 h.1.0 h.1.1
  puts (rest_of r) f h =
      let g = and_parts (not (is_some l.block)) (takes_optional l) f in
      let k = and_parts (not (is_there l.rest)) (nat_eq (length l.post) 0) g.1 in
      puts_rest r (not_there (is_there l.rest) k.0) h
  puts (block_name x) f h =
      let g = and_parts (not (is_some l.block)) true f in
      puts_block x (not_there (is_some l.block) g.0) h
  puts (outside_parameter n) f h = puts_outside n h

pub put_binds : (base names known : Names) (l : ParameterNodes) (p : ParameterNode) → may_follow p l ≡ true
    → Binds base l names → Has names p known → Binds base (put_parameter p l) known
put_binds base names known l p f b h = (
  b.0 ++ h.0,
  h.1 ∙ ap (λ c. c ++ h.0) b.1 ∙ append_assoc base b.0 h.0,
  puts b.0 h.0 names known l (subst (λ c. Within (known_names names) (known_names c)) (sym h.1) (grown_by names h.0))
      b.2 p f h.2,
)

-- the parameters and variables behind them
pub binds_on : (base names known : Names) (l : ParameterNodes) → Grows names known → Binds base l names
    → Binds base l known
binds_on base names known l g b = (
  b.0 ++ plain g.0,
  g.1 ∙ ap (λ c. c ++ plain g.0) b.1 ∙ append_assoc base b.0 (plain g.0),
  λ inside.
      let old = b.2 inside in (
        subst (λ xs. Within xs (within l []))
            (sym (parameters_append b.0 (plain g.0) ∙ ap (λ xs. parameter_names b.0 ++ xs) (plain_none g.0)
            ∙ append-nil (parameter_names b.0))) old.0,
        parameters_still names known l (grown names known g) old.1,
      ),
)

-- a comma behind the one parameter
pub comma_binds : (base names : Names) (l : ParameterNodes) → Binds base l names → Binds base (with_comma l) names
comma_binds base names l b = by_test (is_one l) refl
  where
    by_test : (c : Bool) → is_one l ≡ c → Binds base (if c then (record l { rest = rests.Unnamed }) else l) names
    by_test true is =
        let g = and_parts (nat_eq (length l.required) 1) _ is in
        let h = and_parts (nat_eq (length l.optional) 0) _ g.1 in
        let k = and_parts (not (is_there l.rest)) _ h.1 in
        let m : ParameterNodes = record l { rest = rests.Unnamed } in (
          b.0,
          b.1,
          λ inside.
              let old = b.2 inside in (
                λ x h.
                    parts_within l [] (within m []) (required_within m []) (optional_within m [])
                    (no_rest l.rest (within m []) (not_there (is_there l.rest) k.0)) (post_within m [])
                    (block_within m []) (within_none (within m [])) x (old.0 x h),
                old.1,
              ),
        )
    by_test false is = b
