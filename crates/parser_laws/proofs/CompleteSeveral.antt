-- Assignments of lists, and to several targets, that are derived are read.
use Rattle.std.proofs.Common.{◌≡◌, ℕ, ◌+◌, ◌-◌, ◌<◌, ◌≤◌, Bool, true, false, not, ◌&&◌, ◌||◌, length, Some, None, Ok, if◌then◌else◌, inl, inr, refl, sym, ap, subst, ◌∙◌, arith}
use Rattle.std.proofs.lemmas.Bool.{cases_Bool}
use Rattle.rb_syntax.specs.declared.punctuator.Punctuator.{Punctuator}
use Rattle.rb_syntax.specs.declared.punctuator.Punctuator.TheVariants as marks
use Rattle.parser_tree.specs.Node as node
use Rattle.parser_tree.specs.Node.{Node}
use Rattle.parser_tokens.specs.Tokens.{first, behind}
use Rattle.parser_tokens.specs.Expect.{skip_newlines}
use Rattle.parser_tokens.specs.Operators.{assignment_at}
use Rattle.parser_tokens.specs.declared.operators.Assignment.TheVariants as signs
use Rattle.parser_tokens.specs.declared.word.Word.{Word}
use Rattle.parser_tokens.specs.declared.word.Word.TheVariants as words
use Rattle.parser_ahead.specs.Groups.{ends_targets, opens_group, is_target_group, is_nested_group, follows_nested, word_behind_group}
use Rattle.parser_ahead.specs.Primary.{is_comma_word, start_of, start_at}
use Rattle.parser_ahead.specs.declared.groups.TargetUse.TheVariants as uses
use Rattle.parser_ahead.specs.declared.primary.DoOwner.{DoOwner}
use Rattle.parser_ahead.specs.declared.primary.DoOwner.TheVariants as owners
use Rattle.parser_ahead.specs.declared.primary.Place.TheVariants as places
use Rattle.parser_ahead.specs.declared.primary.Start.TheVariants as starts
use Rattle.parser_nodes.specs.Calls.{OperandNode, is_target, target_node, target_names}
use Rattle.parser_nodes.specs.Listed.{ListNode, PhraseNode, is_right_side, right_side}
use Rattle.parser_nodes.specs.declared.listed.Sort.TheVariants as sorts
use Rattle.parser_form_nodes.specs.Targets as target_lists
use Rattle.parser_form_nodes.specs.Targets.{TargetNode, one_target, group_target, star_target, TargetsNode, no_targets, targets_list}
use Rattle.parser_phrases.specs.Targets as targets
use Rattle.parser_phrases.specs.Targets.{alone, target, next_target, targets_from}
use Rattle.parser_phrases.specs.Phrases.{right_hand, assign, multiple, phrase_from, phrase_by, phrase}
use Rattle.parser_phrases.proofs.Turns.{targets_step}
use Rattle.parser_statements.specs.Statements.{is_not, negation, expression}
use Rattle.parser_forms.specs.Reading.{Names, Tokens, Inside}
use Rattle.rb_parser.specs.Levels.{levels}
use Rattle.parser_laws.specs.Rules.{Target, InnerTarget, Listing, OneTarget, Targets, Expression, is_star}
use Rattle.parser_laws.proofs.Results.{differs, not_true}
use Rattle.parser_laws.proofs.Tests.{or_left, or_right, or_rest, and_parts}
use Rattle.parser_laws.proofs.Facts.{Reads, is_bang, begins, opens, ends_target, Fact, levels_at, word_taken}
use Rattle.parser_laws.proofs.Heads.{Front, head_no_not, opens_begins, operand_start}
use Rattle.parser_laws.proofs.CompleteValues.{bang_other}
use Rattle.parser_laws.proofs.CompleteAssignments.{assignment_ends, phrase_read, from_read}
use Rattle.parser_laws.proofs.CompleteBrackets.{closer_taken, list_below}

-- what begins a value ends no targets, and is no star
mark_no_end : (p : Punctuator) → begins (words.Mark p) ≡ true → (not (ends_targets (words.Mark p)) ≡ true)
    × (targets.is_star (words.Mark p) ≡ false)
mark_no_end marks.Assign h = differs (sym h)
mark_no_end marks.Comma h = differs (sym h)
mark_no_end marks.CloseParenthesis h = differs (sym h)
mark_no_end marks.CloseBar h = differs (sym h)
mark_no_end marks.Star h = differs (sym h)
mark_no_end p h = (refl, refl)

pub value_no_end : (w : Word) → begins w ≡ true → (not (ends_targets w) ≡ true) × (targets.is_star w ≡ false)
value_no_end words.Finish h = differs (sym h)
value_no_end words.Newline h = differs (sym h)
value_no_end words.Semicolon h = differs (sym h)
value_no_end (words.Mark p) h = mark_no_end p h
value_no_end w h = (refl, refl)

-- what begins a target
pub target_begins : (ts : Tokens) → (opens ts && not (is_bang (first ts))) ≡ true → begins (first ts) ≡ true
target_begins ts h = opens_begins ts (and_parts (opens ts) _ h).0

target_start : (ts : Tokens) → (opens ts && not (is_bang (first ts))) ≡ true → Front places.Statement ts
    → is_target_group ts ≡ false → start_at places.Statement ts ≡ starts.Operand
target_start ts h front group =
    let p = and_parts (opens ts) (not (is_bang (first ts))) h in
    operand_start places.Statement ts p.0 (front.1 refl (bang_other (first ts) (not_true (is_bang (first ts)) p.1)))
    (rw group refl)

star_there : (w : Word) → is_star w ≡ true → w ≡ words.Mark marks.Star
star_there (words.Mark marks.Star) h = refl
star_there w h = differs (sym h)

group_there : (w : Word) → opens_group w ≡ true → w ≡ words.Mark marks.OpenParenthesis
group_there (words.Mark marks.OpenParenthesis) h = refl
group_there w h = differs (sym h)

comma_ends : (w : Word) → w ≡ words.Mark marks.Comma → ends_target w ≡ true
comma_ends w e = rw e refl

-- a name or a constant as a target
place_read : (i : Inside) (names known : Names) (ts rest : Tokens) (n : Node)
    → Reads i (InnerTarget owners.Call n) names ts known rest → ends_targets (first rest) ≡ true
    → targets.place i names ts ≡ Ok (n, known, rest)
place_read i names known ts rest n read ends =
    let t = read (or_right _ _ (or_left (ends_targets (first rest)) _ ends)) in
    rw t.6 (rw t.3 (rw (t.4, t.5) refl))

pub place_target : (names known : Names) (ts rest : Tokens) (n : Node) → is_nested_group uses.Assignment ts ≡ false
    → Fact (InnerTarget owners.Call n) names ts known rest → Fact (OneTarget (one_target n)) names ts known rest
unfolding target alone
place_target names known ts rest n nested inner = (
  inner.0,
  (value_no_end (first ts) (target_begins ts inner.1)).0,
  λ d room ends.
      let star = (value_no_end (first ts) (target_begins ts inner.1)).1 in
      let read = place_read (levels d) names known ts rest n (inner.2 d room) ends in
      rw star (rw nested (rw read refl)),
)

pub star_target_fact : (names known : Names) (ts rest : Tokens) (n : Node) → first ts ≡ words.Mark marks.Star
    → Fact (InnerTarget owners.Call n) names (behind ts) known rest
    → Fact (OneTarget (star_target (Some n))) names ts known rest
unfolding target alone
star_target_fact names known ts rest n is inner =
    let one = word_taken (words.Mark marks.Star) ts is refl in
    let fewer = inner.0 in (
      omega arith,
      rw is refl,
      λ d room ends.
          let begun = (value_no_end (first (behind ts)) (target_begins (behind ts) inner.1)).0 in
          let read = place_read (levels d) names known (behind ts) rest n (inner.2 d (omega arith)) ends in
          rw is (rw begun (rw read refl)),
    )

pub bare_star : (names : Names) (ts : Tokens) → first ts ≡ words.Mark marks.Star
    → ends_targets (first (behind ts)) ≡ true → Fact (OneTarget (star_target None)) names ts names (behind ts)
unfolding target
bare_star names ts is none = (
  word_taken (words.Mark marks.Star) ts is refl,
  rw is refl,
  λ d room ends. rw is (rw none refl),
)

pub target_group : (names known : Names) (ts rest : Tokens) (ms : TargetsNode)
    → first ts ≡ words.Mark marks.OpenParenthesis → follows_nested (word_behind_group ts) ≡ true
    → Fact (Targets no_targets ms) names (behind ts) known rest
    → ms.several ≡ true → first (skip_newlines rest) ≡ words.Mark marks.CloseParenthesis
    → Fact (OneTarget (group_target ms.list)) names ts known (behind (skip_newlines rest))
unfolding target
target_group names known ts rest ms is nested inner many closing =
    let one = word_taken (words.Mark marks.OpenParenthesis) ts is refl in
    let last = closer_taken _ rest closing in
    let fewer = inner.0 in (
      omega arith,
      rw is refl,
      λ d room ends.
          let read : (levels d).targets names no_targets (behind ts) uses.Assignment ≡ Ok (ms, known, rest) =
          ap (λ (i : Inside). i.targets names no_targets (behind ts) uses.Assignment) (levels_at d (omega arith))
          ∙ inner.2 (d - 1) (omega arith) (length (behind ts) + 1) (omega arith) in
          rw is (rw nested (rw read (rw many (rw closing refl)))),
    )

pub no_target : (names : Names) (ts : Tokens) (ms : TargetsNode) → ends_targets (first ts) ≡ true
    → Fact (Targets ms ms) names ts names ts
no_target names ts ms ends = (
  omega arith,
  refl,
  λ d room n enough. targets_step (levels d) n uses.Assignment true ms names ts (omega arith) ∙ rw ends refl,
)

-- a target behind the others, and the comma behind it
next_read : (i : Inside) (ms : TargetsNode) (names known : Names) (ts rest : Tokens) (t : TargetNode) (comma : Bool)
    → target i uses.Assignment names ts ≡ Ok (t, known, rest) → target_lists.may_follow t ms ≡ true
    → is_comma_word (first rest) ≡ comma
    → next_target i uses.Assignment ms names ts ≡ Ok
    ((comma, target_lists.put t comma ms), known, if comma then behind rest else rest)
unfolding next_target
next_read i ms names known ts rest t comma read follows there = rw read (rw follows (rw there refl))

pub last_target : (names known : Names) (ts rest : Tokens) (t : TargetNode) (ms : TargetsNode)
    → Fact (OneTarget t) names ts known rest → ends_targets (first rest) ≡ true → is_comma_word (first rest) ≡ false
    → target_lists.may_follow t ms ≡ true
    → Fact (Targets ms (target_lists.put t false ms)) names ts known rest
last_target names known ts rest t ms inner ends none follows =
    let l = inner.0 in (
      omega arith,
      refl,
      λ d room n enough.
          let made : next_target (levels d) uses.Assignment ms names ts ≡ Ok
          ((false, target_lists.put t false ms), known, rest) =
          next_read (levels d) ms names known ts rest t false (inner.2 d room ends) follows none in
          let stops : targets_from (levels d) (n - 1) uses.Assignment false (target_lists.put t false ms) known
          rest ≡ Ok (target_lists.put t false ms, known, rest) =
          targets_step (levels d) (n - 1) uses.Assignment false (target_lists.put t false ms) known rest (omega arith)
          in
          targets_step (levels d) n uses.Assignment true ms names ts (omega arith) ∙ rw inner.1 (rw made stops),
    )

pub next_target_fact : (names known later : Names) (ts rest more : Tokens) (t : TargetNode) (ms all : TargetsNode)
    → Fact (OneTarget t) names ts known rest → first rest ≡ words.Mark marks.Comma → target_lists.may_follow t ms ≡ true
    → Fact (Targets (target_lists.put t true ms) all) known (behind rest) later more
    → Fact (Targets ms all) names ts later more
next_target_fact names known later ts rest more t ms all inner there follows others =
    let l = inner.0 in
    let one = word_taken (words.Mark marks.Comma) rest there refl in
    let r = others.0 in (
      omega arith,
      refl,
      λ d room n enough.
          let made : next_target (levels d) uses.Assignment ms names ts ≡ Ok
          ((true, target_lists.put t true ms), known, behind rest) =
          next_read (levels d) ms names known ts rest t true (inner.2 d room (rw there refl)) follows (rw there refl) in
          targets_step (levels d) n uses.Assignment true ms names ts (omega arith)
          ∙ rw inner.1 (rw made (others.2 d (omega arith) (n - 1) (omega arith))),
    )

-- the right side of an assignment
right_read : (d : ℕ) (names known : Names) (ts rest : Tokens) (owner : DoOwner) (l : ListNode) → 0 < d
    → Fact (Listing owner l) names ts known rest → length ts ≤ d - 1 → assignment_at (first rest) ≡ None
    → is_right_side l ≡ true
    → right_hand (levels d) names ts owner ≡ Ok (right_side l, known, rest)
right_read d names known ts rest owner l some inner room none side =
    let read = list_below d names known ts rest owner l some inner room none in
    rw read (rw side refl)

-- a statement that is a whole expression
statement_read : (i : Inside) (names known : Names) (ts rest : Tokens) (owner : DoOwner) (n : Node)
    → is_not (first ts) ≡ false → phrase i names ts places.Statement owner ≡ Ok ((n, sorts.Statement), known, rest)
    → expression i names ts places.Statement owner ≡ Ok (n, known, rest)
unfolding expression negation
statement_read i names known ts rest owner n other read = rw other (rw read refl)

-- the assignment of a list
list_assign : (i : Inside) (target n : Node) (names known : Names) (ts rest : Tokens) (owner : DoOwner) (l : ListNode)
    → right_hand i names ts owner ≡ Ok (right_side l, known, rest) → right_side l ≡ (n, sorts.Statement)
    → assign i target names signs.Plain ts places.Statement owner ≡ Ok
    ((node.assign target n, sorts.Statement), known, rest)
unfolding assign
list_assign i target n names known ts rest owner l read made =
    let all : right_hand i names ts owner ≡ Ok ((n, sorts.Statement), known, rest) = read
    ∙ ap (λ (p : PhraseNode). Ok (p, known, rest)) made in
    rw all refl

target_head : (ts : Tokens) → (opens ts && not (is_bang (first ts))) ≡ true
    → (begins (first ts) || (is_not (first ts) || is_star (first ts))) ≡ true
target_head ts h = or_left (begins (first ts)) _ (target_begins ts h)

pub list_assigned : (owner : DoOwner) (names known later : Names) (ts rest more : Tokens) (target n : Node)
    (l : ListNode) → is_target_group ts ≡ false → Fact (Target owner target) names ts known rest
    → Front places.Statement ts → first rest ≡ words.Mark marks.Assign
    → Fact (Listing owner l) known (behind rest) later more → is_right_side l ≡ true
    → right_side l ≡ (n, sorts.Statement)
    → Fact (Expression places.Statement owner (node.assign target n)) names ts later more
list_assigned owner names known later ts rest more target n l group left lead there inner side made =
    let one = word_taken (words.Mark marks.Assign) rest there refl in
    let a = left.0 in
    let b = inner.0 in (
      omega arith,
      target_head ts left.1,
      λ d room none.
          let assigned : assignment_at (first rest) ≡ Some signs.Plain = rw there refl in
          let t = left.2 d room (assignment_ends (first rest) signs.Plain assigned) in
          let read = right_read d known later (behind rest) more owner l (omega arith) inner (omega arith) none side in
          let whole = list_assign (levels d) target n known later (behind rest) more owner l read made in
          let moved : assign (levels d) (target_node t.0) (target_names t.0 t.1) signs.Plain (behind rest)
          places.Statement owner ≡ Ok ((node.assign target n, sorts.Statement), later, more) =
          rw (t.4, t.5) whole in
          let phrased = phrase_read (levels d) places.Statement owner t.0 names t.1 ts rest _
          (target_start ts left.1 lead group) (t.2 true)
          (from_read (levels d) places.Statement owner signs.Plain t.0 t.1 rest _ t.3 assigned moved) in
          statement_read (levels d) names later ts more owner (node.assign target n)
          (head_no_not (first ts) (target_begins ts left.1)) phrased,
    )

-- targets, = and a list
multiple_read : (d : ℕ) (found ms : TargetsNode) (names known later : Names) (ts rest more : Tokens) (owner : DoOwner)
    (l : ListNode) → Fact (Targets found ms) names ts known rest → length ts ≤ d → ms.several ≡ true
    → first rest ≡ words.Mark marks.Assign
    → Fact (Listing owner l) known (behind rest) later more → assignment_at (first more) ≡ None → is_right_side l ≡ true
    → multiple (levels d) found names ts owner ≡ Ok
    ((node.multiple_assign (targets_list ms) (right_side l).0, sorts.Statement), later, more)
unfolding multiple
multiple_read d found ms names known later ts rest more owner l left room many closing inner none side =
    let one = word_taken (words.Mark marks.Assign) rest closing refl in
    let a = left.0 in
    let read : targets_from (levels d) (length ts + 1) uses.Assignment true found names ts ≡ Ok (ms, known, rest) =
    left.2 d room (length ts + 1) (omega arith) in
    let right = right_read d known later (behind rest) more owner l (omega arith) inner (omega arith) none side in
    rw read (rw many (rw closing (rw right refl)))

-- the first of several targets
several_phrase : (i : Inside) (o : OperandNode) (x n : Node) (names known later : Names) (ts more : Tokens)
    (owner : DoOwner) → is_target o ≡ true → target_node o ≡ x → target_names o names ≡ known
    → first ts ≡ words.Mark marks.Comma
    → multiple i (target_lists.put (one_target x) true no_targets) known (behind ts) owner ≡ Ok
    ((n, sorts.Statement), later, more) → phrase_from i o names ts places.Statement owner ≡ Ok
    ((n, sorts.Statement), later, more)
unfolding phrase_from
several_phrase i o x n names known later ts more owner is same knows there made =
    rw is (rw there (rw there (rw (same, knows) made)))

pub several_assigned : (owner : DoOwner) (names known later latest : Names) (ts rest mid more : Tokens) (target : Node)
    (ms : TargetsNode) (l : ListNode) → is_target_group ts ≡ false → Fact (Target owner target) names ts known rest
    → Front places.Statement ts → first rest ≡ words.Mark marks.Comma
    → Fact (Targets (target_lists.put (one_target target) true no_targets) ms) known (behind rest) later mid
    → ms.several ≡ true → first mid ≡ words.Mark marks.Assign
    → Fact (Listing owner l) later (behind mid) latest more → is_right_side l ≡ true
    → Fact (Expression places.Statement owner (node.multiple_assign (targets_list ms) (right_side l).0)) names ts latest
    more
several_assigned owner names known later latest ts rest mid more target ms l group left lead there others many closing
    inner side =
    let one = word_taken (words.Mark marks.Comma) rest there refl in
    let two = word_taken (words.Mark marks.Assign) mid closing refl in
    let a = left.0 in
    let b = others.0 in
    let c = inner.0 in (
      omega arith,
      target_head ts left.1,
      λ d room none.
          let t = left.2 d room (comma_ends (first rest) there) in
          let made = multiple_read d (target_lists.put (one_target target) true no_targets) ms known later latest
          (behind rest) mid more owner l others (omega arith) many closing inner none side in
          let phrased = phrase_read (levels d) places.Statement owner t.0 names t.1 ts rest _
          (target_start ts left.1 lead group) (t.2 true)
          (several_phrase (levels d) t.0 target _ t.1 known latest rest more owner t.3 t.4 t.5 there made) in
          statement_read (levels d) names latest ts more owner _ (head_no_not (first ts) (target_begins ts left.1))
          phrased,
    )

-- a star or a group of targets begins several targets
star_start : (ts : Tokens) → is_star (first ts) ≡ true → start_at places.Statement ts ≡ starts.Targets
unfolding start_at
star_start ts h = rw (star_there (first ts) h) refl

group_start : (ts : Tokens) → is_target_group ts ≡ true → start_at places.Statement ts ≡ starts.Targets
unfolding start_at
group_start ts h =
    let there : first ts ≡ words.Mark marks.OpenParenthesis =
    group_there (first ts) (and_parts (opens_group (first ts)) _ h).0 in
    subst (λ w. start_of w places.Statement ts ≡ starts.Targets) (sym there) (rw h refl)

groups_start : (ts : Tokens) → (is_star (first ts) || is_target_group ts) ≡ true
    → start_at places.Statement ts ≡ starts.Targets
groups_start ts h =
    elim (cases_Bool (is_star (first ts))) [
      | inl star ↦ star_start ts star
      | inr other ↦ group_start ts (or_rest (is_star (first ts)) (is_target_group ts) other h)
    ]

groups_word : (w : Word) → (is_star w || opens_group w) ≡ true → ((begins w || (is_not w || is_star w)) ≡ true)
    × (is_not w ≡ false)
groups_word (words.Mark marks.Star) h = (refl, refl)
groups_word (words.Mark marks.OpenParenthesis) h = (refl, refl)
groups_word w h = differs (sym h)

groups_first : (ts : Tokens) → (is_star (first ts) || is_target_group ts) ≡ true
    → (is_star (first ts) || opens_group (first ts)) ≡ true
groups_first ts h =
    elim (cases_Bool (is_star (first ts))) [
      | inl star ↦ or_left (is_star (first ts)) _ star
      | inr other ↦ or_right (is_star (first ts)) _
          ((and_parts (opens_group (first ts)) _ (or_rest (is_star (first ts)) (is_target_group ts) other h)).0)
    ]

groups_phrase : (i : Inside) (names known : Names) (ts rest : Tokens) (owner : DoOwner) (n : Node)
    → start_at places.Statement ts ≡ starts.Targets
    → multiple i no_targets names ts owner ≡ Ok ((n, sorts.Statement), known, rest)
    → phrase i names ts places.Statement owner ≡ Ok ((n, sorts.Statement), known, rest)
unfolding phrase_by
groups_phrase i names known ts rest owner n started made = rw started made

pub groups_assigned : (owner : DoOwner) (names known later : Names) (ts rest more : Tokens) (ms : TargetsNode)
    (l : ListNode) → (is_star (first ts) || is_target_group ts) ≡ true
    → Fact (Targets no_targets ms) names ts known rest → ms.several ≡ true
    → first rest ≡ words.Mark marks.Assign → Fact (Listing owner l) known (behind rest) later more
    → is_right_side l ≡ true
    → Fact (Expression places.Statement owner (node.multiple_assign (targets_list ms) (right_side l).0)) names ts later
    more
groups_assigned owner names known later ts rest more ms l begins others many closing inner side =
    let one = word_taken (words.Mark marks.Assign) rest closing refl in
    let b = others.0 in
    let c = inner.0 in
    let w = groups_word (first ts) (groups_first ts begins) in (
      omega arith,
      w.0,
      λ d room none.
          let made = multiple_read d no_targets ms names known later ts rest more owner l others room many closing inner
          none side in
          statement_read (levels d) names later ts more owner _ w.1
          (groups_phrase (levels d) names later ts more owner _ (groups_start ts begins) made),
    )
