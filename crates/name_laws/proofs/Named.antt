-- Trees that name only locals which are known, where no parameter of theirs is outside the language.
use Rattle.std.proofs.Common.{◌≡◌, List, [], ◌++◌, true, false}
use Rattle.text_set.specs.Sets.{is_among}
use Rattle.parser_tree.specs.Node as node
use Rattle.parser_tree.specs.Node.{Name, Node, Nodes}
use Rattle.program_laws.specs.Fits.{names_within, are_optional}
use Rattle.program_laws.specs.Knows.{has_outside}
use Rattle.name_laws.proofs.Among.{Within, within_behind}

-- a tree or a part of one, where these names are known
abbrev mutual
  pub Named : List Name → Node → Type 0
  Named xs (node.local x) = is_among x xs ≡ true
  Named xs (node.text ps) = AllNamed xs ps
  Named xs (node.symbol_text ps) = AllNamed xs ps
  Named xs (node.scoped_constant e x) = Named xs e
  Named xs (node.array is) = AllNamed xs is
  Named xs (node.hash ps) = AllNamed xs ps
  Named xs (node.statements es) = AllNamed xs es
  Named xs (node.not_node e) = Named xs e
  Named xs (node.unary o e) = Named xs e
  Named xs (node.operation e o f) = Named xs e × Named xs f
  Named xs (node.and_node e f) = Named xs e × Named xs f
  Named xs (node.or_node e f) = Named xs e × Named xs f
  Named xs (node.range e f x at) = Named xs e × Named xs f
  Named xs (node.if_node bs o) = AllNamed xs bs × AllNamed xs o
  Named xs (node.unless_node t b o) = Named xs t × (Named xs b × AllNamed xs o)
  Named xs (node.while_node u f t b) = Named xs t × Named xs b
  Named xs (node.for_node ts e b) = Named xs e × (AllNamed xs ts × Named xs b)
  Named xs (node.case_node s cs o) = AllNamed xs s × (AllNamed xs cs × AllNamed xs o)
  Named xs (node.begin_node b cs o e) = Named xs b × (AllNamed xs cs × (AllNamed xs o × AllNamed xs e))
  Named xs (node.rescue_modifier e f) = Named xs e × Named xs f
  Named xs (node.call r x is b) = AllNamed xs r × (AllNamed xs is × AllNamed xs b)
  Named xs (node.index e is) = Named xs e × AllNamed xs is
  Named xs (node.super_node at is b) = AllNamed xs is × AllNamed xs b
  Named xs (node.yield_node at is) = AllNamed xs is
  Named xs (node.defined e) = Named xs e
  Named xs (node.lambda d) = Named xs d
  Named xs (node.return_node at is) = AllNamed xs is
  Named xs (node.break_node at is) = AllNamed xs is
  Named xs (node.next_node at is) = AllNamed xs is
  Named xs (node.assign t e) = Named xs t × Named xs e
  Named xs (node.operator_assign t o e) = Named xs t × Named xs e
  Named xs (node.multiple_assign t e) = Named xs t × Named xs e
  Named xs (node.targets left star rest after) = AllNamed xs left × (AllNamed xs rest × AllNamed xs after)
  Named xs (node.define s x d) = AllNamed xs s × Named [] d
  Named xs (node.class_node s x p ls b) = Named xs s × (AllNamed xs p × Named ls b)
  Named xs (node.singleton_class e ls b) = Named xs e × Named ls b
  Named xs (node.module_node s x ls b) = Named xs s × Named ls b
  Named xs (node.splat e) = Named xs e
  Named xs (node.pair e f) = Named xs e × Named xs f
  Named xs (node.branch t b) = Named xs t × Named xs b
  Named xs (node.when_clause ts b) = AllNamed xs ts × Named xs b
  Named xs (node.rescue_clause cs t b) = AllNamed xs cs × (AllNamed xs t × Named xs b)
  Named xs (node.arguments is b) = AllNamed xs is × AllNamed xs b
  Named xs (node.definition at rs os rest ps x outside ls b) =
      let ys = names_within rs os rest ps x ls ++ xs in
      has_outside outside ≡ false
      → (are_optional os ≡ true) × (AllNamed ys rs × (AllNamed ys os × (AllNamed ys ps × Named ys b)))
  Named xs (node.optional_parameter x e) = (is_among x xs ≡ true) × Named xs e
  Named xs n = Unit {0}

  pub AllNamed : List Name → Nodes → Type 0
  AllNamed xs node.none = Unit {0}
  AllNamed xs (node.more n ns) = Named xs n × AllNamed xs ns

-- where more names are known
mutual
  pub wider : (n : Node) (xs ys : List Name) → Within xs ys → Named xs n → Named ys n
  wider (node.local x) xs ys w h = w x h
  wider (node.text ps) xs ys w h = all_wider ps xs ys w h
  wider (node.symbol_text ps) xs ys w h = all_wider ps xs ys w h
  wider (node.scoped_constant e x) xs ys w h = wider e xs ys w h
  wider (node.array is) xs ys w h = all_wider is xs ys w h
  wider (node.hash ps) xs ys w h = all_wider ps xs ys w h
  wider (node.statements es) xs ys w h = all_wider es xs ys w h
  wider (node.not_node e) xs ys w h = wider e xs ys w h
  wider (node.unary o e) xs ys w h = wider e xs ys w h
  wider (node.operation e o f) xs ys w h = (wider e xs ys w h.0, wider f xs ys w h.1)
  wider (node.and_node e f) xs ys w h = (wider e xs ys w h.0, wider f xs ys w h.1)
  wider (node.or_node e f) xs ys w h = (wider e xs ys w h.0, wider f xs ys w h.1)
  wider (node.range e f x at) xs ys w h = (wider e xs ys w h.0, wider f xs ys w h.1)
  wider (node.if_node bs o) xs ys w h = (all_wider bs xs ys w h.0, all_wider o xs ys w h.1)
  wider (node.unless_node t b o) xs ys w h = (wider t xs ys w h.0, (wider b xs ys w h.1.0, all_wider o xs ys w h.1.1))
  wider (node.while_node u f t b) xs ys w h = (wider t xs ys w h.0, wider b xs ys w h.1)
  wider (node.for_node ts e b) xs ys w h = (wider e xs ys w h.0, (all_wider ts xs ys w h.1.0, wider b xs ys w h.1.1))
  wider (node.case_node s cs o) xs ys w h =
      (all_wider s xs ys w h.0, (all_wider cs xs ys w h.1.0, all_wider o xs ys w h.1.1))
  wider (node.begin_node b cs o e) xs ys w h =
      (wider b xs ys w h.0, (all_wider cs xs ys w h.1.0, (all_wider o xs ys w h.1.1.0, all_wider e xs ys w h.1.1.1)))
  wider (node.rescue_modifier e f) xs ys w h = (wider e xs ys w h.0, wider f xs ys w h.1)
  wider (node.call r x is b) xs ys w h =
      (all_wider r xs ys w h.0, (all_wider is xs ys w h.1.0, all_wider b xs ys w h.1.1))
  wider (node.index e is) xs ys w h = (wider e xs ys w h.0, all_wider is xs ys w h.1)
  wider (node.super_node at is b) xs ys w h = (all_wider is xs ys w h.0, all_wider b xs ys w h.1)
  wider (node.yield_node at is) xs ys w h = all_wider is xs ys w h
  wider (node.defined e) xs ys w h = wider e xs ys w h
  wider (node.lambda d) xs ys w h = wider d xs ys w h
  wider (node.return_node at is) xs ys w h = all_wider is xs ys w h
  wider (node.break_node at is) xs ys w h = all_wider is xs ys w h
  wider (node.next_node at is) xs ys w h = all_wider is xs ys w h
  wider (node.assign t e) xs ys w h = (wider t xs ys w h.0, wider e xs ys w h.1)
  wider (node.operator_assign t o e) xs ys w h = (wider t xs ys w h.0, wider e xs ys w h.1)
  wider (node.multiple_assign t e) xs ys w h = (wider t xs ys w h.0, wider e xs ys w h.1)
  wider (node.targets left star rest after) xs ys w h =
      (all_wider left xs ys w h.0, (all_wider rest xs ys w h.1.0, all_wider after xs ys w h.1.1))
  wider (node.define s x d) xs ys w h = (all_wider s xs ys w h.0, h.1)
  wider (node.class_node s x p ls b) xs ys w h = (wider s xs ys w h.0, (all_wider p xs ys w h.1.0, h.1.1))
  wider (node.singleton_class e ls b) xs ys w h = (wider e xs ys w h.0, h.1)
  wider (node.module_node s x ls b) xs ys w h = (wider s xs ys w h.0, h.1)
  wider (node.splat e) xs ys w h = wider e xs ys w h
  wider (node.pair e f) xs ys w h = (wider e xs ys w h.0, wider f xs ys w h.1)
  wider (node.branch t b) xs ys w h = (wider t xs ys w h.0, wider b xs ys w h.1)
  wider (node.when_clause ts b) xs ys w h = (all_wider ts xs ys w h.0, wider b xs ys w h.1)
  wider (node.rescue_clause cs t b) xs ys w h =
      (all_wider cs xs ys w h.0, (all_wider t xs ys w h.1.0, wider b xs ys w h.1.1))
  wider (node.arguments is b) xs ys w h = (all_wider is xs ys w h.0, all_wider b xs ys w h.1)
  wider (node.definition at rs os rest ps x outside ls b) xs ys w h =
      λ inside.
      let g = h inside in
      let vs = names_within rs os rest ps x ls ++ xs in
      let ws = names_within rs os rest ps x ls ++ ys in
      let v = within_behind (names_within rs os rest ps x ls) xs ys w in (
        g.0,
        (
          all_wider rs vs ws v g.1.0,
          (all_wider os vs ws v g.1.1.0, (all_wider ps vs ws v g.1.1.1.0, wider b vs ws v g.1.1.1.1)),
        ),
      )
  wider (node.optional_parameter x e) xs ys w h = (w x h.0, wider e xs ys w h.1)
  wider n xs ys w h = tt

  pub all_wider : (ns : Nodes) (xs ys : List Name) → Within xs ys → AllNamed xs ns → AllNamed ys ns
  all_wider node.none xs ys w h = tt
  all_wider (node.more n ns) xs ys w h = (wider n xs ys w h.0, all_wider ns xs ys w h.1)
