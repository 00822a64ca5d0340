-- What a rule that reads keeps: the names grow, and what was read names only those known then.
use Rattle.std.proofs.Common.{ℕ, Bool, if◌then◌else◌, List, [], ◌∷◌, map, Result, Ok, Err}
use Rattle.rb_syntax.specs.declared.core_form.Item.{Item}
use Rattle.rb_syntax.specs.declared.core_form.Pair.{Pair}
use Rattle.parser_tree.specs.Node.{Node, nodes}
use Rattle.parser_tree.specs.View.{items_of, pair_of}
use Rattle.parser_ahead.specs.declared.primary.Place.{Place}
use Rattle.parser_ahead.specs.declared.primary.DoOwner.{DoOwner}
use Rattle.parser_ahead.specs.declared.primary.BlockStyle.{BlockStyle}
use Rattle.parser_ahead.specs.declared.sections.Compound.{Compound}
use Rattle.parser_ahead.specs.declared.groups.TargetUse.{TargetUse}
use Rattle.parser_nodes.specs.Listed.{ListNode, PhraseNode}
use Rattle.parser_form_nodes.specs.Targets.{TargetListNode, TargetsNode}
use Rattle.parser_form_nodes.specs.Sections.{SectionNode}
use Rattle.parser_forms.specs.Reading.{Names, Tokens, Read, BlockNode, Inside}
use Rattle.rb_base.specs.Result.{◌>>=◌}
use Rattle.program_laws.proofs.Both.{either as choice}
use Rattle.name_laws.proofs.Growing.{Grows, grows_on, Knows, KnowsAll, KnowsEach, still, all_still, each_still}

abbrev pub Keeps : {A : Type 0} → (Names → A → Type 0) → Names → Read A → Type 0
Keeps P names (Ok r) = Grows names r.1 × P r.1 r.0
Keeps P names (Err e) = Unit {0}

pub later : {A : Type 0} (P : Names → A → Type 0) (a b : Names) (read : Read A) → Grows a b → Keeps P b read
    → Keeps P a read
later P a b (Ok r) g h = (grows_on a b r.1 g h.0, h.1)
later P a b (Err e) g h = tt

-- one rule behind another
pub step : {A B : Type 0} (P : Names → A → Type 0) (Q : Names → B → Type 0) (names : Names) (read : Read A)
    (f : A × Names × Tokens → Read B) → Keeps P names read
    → ((r : A × Names × Tokens) → Grows names r.1 → P r.1 r.0 → Keeps Q r.1 (f r)) → Keeps Q names (read >>= f)
step P Q names (Ok r) f h k = later Q names r.1 (f r) h.0 (k r h.0 h.1)
step P Q names (Err e) f h k = tt

-- a step that reads no names
pub skip : {X B : Type 0} (Q : Names → B → Type 0) (names : Names) (r : Result X ℕ) (f : X → Read B)
    → ((x : X) → Keeps Q names (f x)) → Keeps Q names (r >>= f)
skip Q names (Ok x) f k = k x
skip Q names (Err e) f k = tt

pub either : {A : Type 0} (P : Names → A → Type 0) (names : Names) (c : Bool) (r s : Read A) → Keeps P names r
    → Keeps P names s → Keeps P names (if c then r else s)
either P names c r s h k = choice (λ read. Keeps P names read) c r s h k

-- what is known of what else is read
abbrev pub KnowsPhrase : Names → PhraseNode → Type 0
KnowsPhrase names p = Knows names p.0

abbrev pub KnowsBlock : Names → BlockNode → Type 0
KnowsBlock names b = Knows names b.0

abbrev pub KnowsItems : Names → List (Item Node) → Type 0
KnowsItems names is = KnowsAll names (items_of is)

abbrev pub KnowsPairs : Names → List (Pair Node) → Type 0
KnowsPairs names ps = KnowsAll names (nodes (map pair_of ps))

abbrev pub KnowsList : Names → ListNode → Type 0
KnowsList names l = KnowsItems names l.items × (KnowsPairs names l.pairs × KnowsAll names l.block)

abbrev pub KnowsTargetList : Names → TargetListNode → Type 0
KnowsTargetList names t = KnowsEach names t.before × (KnowsAll names t.rest × KnowsEach names t.after)

abbrev pub KnowsTargets : Names → TargetsNode → Type 0
KnowsTargets names t = KnowsTargetList names t.list

abbrev pub KnowsSection : Names → SectionNode → Type 0
KnowsSection names s = KnowsEach names s.heads × (KnowsAll names s.target × Knows names s.body)

abbrev pub KnowsSections : Names → List SectionNode → Type 0
KnowsSections names [] = Unit {0}
KnowsSections names (s ∷ ss) = KnowsSection names s × KnowsSections names ss

pub list_still : (a b : Names) (l : ListNode) → Grows a b → KnowsList a l → KnowsList b l
list_still a b l g h = (
  all_still a b (items_of l.items) g h.0,
  (all_still a b (nodes (map pair_of l.pairs)) g h.1.0, all_still a b l.block g h.1.1),
)

pub targets_still : (a b : Names) (t : TargetsNode) → Grows a b → KnowsTargets a t → KnowsTargets b t
targets_still a b t g h = (
  each_still a b t.list.before g h.0,
  (all_still a b t.list.rest g h.1.0, each_still a b t.list.after g h.1.1),
)

section_still : (a b : Names) (s : SectionNode) → Grows a b → KnowsSection a s → KnowsSection b s
section_still a b s g h =
    (each_still a b s.heads g h.0, (all_still a b s.target g h.1.0, still a b s.body g h.1.1))

pub sections_still : (a b : Names) (ss : List SectionNode) → Grows a b → KnowsSections a ss → KnowsSections b ss
sections_still a b [] g h = tt
sections_still a b (s ∷ ss) g h = (section_still a b s g h.0, sections_still a b ss g h.1)

-- the rules a level deeper keep this
pub record KeepsNames (i : Inside) : Type 0 where
  pub statements : (names : Names) (ts : Tokens) → Keeps Knows names (i.statements names ts)
  pub expression : (names : Names) (ts : Tokens) (place : Place) (owner : DoOwner)
      → Keeps Knows names (i.expression names ts place owner)
  pub negation : (names : Names) (ts : Tokens) (place : Place) (owner : DoOwner)
      → Keeps KnowsPhrase names (i.negation names ts place owner)
  pub phrase : (names : Names) (ts : Tokens) (place : Place) (owner : DoOwner)
      → Keeps KnowsPhrase names (i.phrase names ts place owner)
  pub argument : (names : Names) (ts : Tokens) (owner : DoOwner) → Keeps Knows names (i.argument names ts owner)
  pub operation : (names : Names) (ts : Tokens) (loosest : ℕ) (owner : DoOwner)
      → Keeps Knows names (i.operation names ts loosest owner)
  pub list : (names : Names) (ts : Tokens) (owner : DoOwner) → Keeps KnowsList names (i.list names ts owner)
  pub targets : (names : Names) (found : TargetsNode) (ts : Tokens) (u : TargetUse) → KnowsTargets names found
      → Keeps KnowsTargets names (i.targets names found ts u)
  pub block : (names : Names) (ts : Tokens) (style : BlockStyle) → Keeps KnowsBlock names (i.block names ts style)
  pub sections : (names : Names) (form : Compound) (ts : Tokens) → Keeps KnowsSections names (i.sections names form ts)
