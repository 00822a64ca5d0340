-- The targets of multiple assignments name known locals.
use Rattle.std.proofs.Common.{ℕ, zero, suc, ◌+◌, Bool, true, false, ◌&&◌, ◌||◌, List, [], ◌∷◌, length, Some, None}
use Rattle.parser_tree.specs.Node.{Node}
use Rattle.parser_tree.specs.Parts.{is_group}
use Rattle.parser_tokens.specs.Tokens.{first, behind, bytes_at}
use Rattle.parser_tokens.specs.Expect.{expect_closing}
use Rattle.parser_tokens.specs.declared.expect.Wanted.TheVariants as wanted
use Rattle.parser_tokens.specs.declared.word.Word.{Word}
use Rattle.parser_tokens.specs.declared.word.Word.TheVariants as words
use Rattle.parser_ahead.specs.Groups.{begins_target, is_nested_group}
use Rattle.parser_ahead.specs.Primary.{is_comma_word}
use Rattle.parser_ahead.specs.declared.primary.DoOwner.TheVariants as owners
use Rattle.parser_ahead.specs.declared.groups.TargetUse.{TargetUse}
use Rattle.parser_ahead.specs.declared.groups.TargetUse.TheVariants as uses
use Rattle.parser_nodes.specs.Calls.{OperandNode, is_target}
use Rattle.parser_form_nodes.specs.Targets.{TargetListNode, list_node, TargetNode, one_target, group_target, star_target, TargetsNode, no_targets, may_follow, with_target, put_list, put, alone_among, alone_node, targets_list}
use Rattle.parser_forms.specs.Reading.{Names, Tokens, Inside}
use Rattle.parser_phrases.specs.Targets.{is_star, is_for, pattern_at, operand_target, put_target, place, alone, starred, grouped, target, next_target, targets_from, targets}
use Rattle.parser_operands.specs.Operands.{chain}
use Rattle.program_laws.proofs.Both.{either as choice}
use Rattle.name_laws.proofs.Growing.{same, declares, declared_name, Knows, KnowsEach, each_more}
use Rattle.name_laws.proofs.Keeping.{Keeps, step, skip, either, KnowsTargetList, KnowsTargets, targets_still, KeepsNames}
use Rattle.name_laws.proofs.Calling.{KnowsOperand, target_grows, target_known}
use Rattle.name_laws.proofs.Operating.{chain_keeps}

abbrev KnowsTarget : Names → TargetNode → Type 0
KnowsTarget names (one_target n) = Knows names n
KnowsTarget names (group_target l) = KnowsTargetList names l
KnowsTarget names (star_target None) = Unit {0}
KnowsTarget names (star_target (Some n)) = Knows names n

abbrev KnowsNext : Names → Bool × TargetsNode → Type 0
KnowsNext names r = KnowsTargets names r.1

module _ (names : Names) where
  with_known : (n : Node) (l : TargetListNode) → Knows names n → KnowsTargetList names l
      → KnowsTargetList names (with_target n l)
  with_known n l h k =
      choice (λ m. KnowsTargetList names m) l.star _ _ (k.0, (k.1.0, each_more names l.after n k.1.1 h))
      (each_more names l.before n k.0 h, k.1)

  put_list_known : (t : TargetNode) (l : TargetListNode) → KnowsTarget names t → KnowsTargetList names l
      → KnowsTargetList names (put_list t l)
  put_list_known (one_target n) l h k = with_known n l h k
  put_list_known (group_target g) l h k = with_known (list_node g) l h k
  put_list_known (star_target None) l h k = k
  put_list_known (star_target (Some n)) l h k = (k.0, ((h, tt), k.1.1))

  pub put_known : (t : TargetNode) (comma : Bool) (found : TargetsNode) → KnowsTarget names t
      → KnowsTargets names found → KnowsTargets names (put t comma found)
  put_known t comma found h k = put_list_known t found.list h k

  among_known : (ns : List Node) (n : Node) → KnowsEach names ns → Knows names n → Knows names (alone_among ns n)
  among_known [] n h k = k
  among_known (m ∷ []) n h k = choice (λ x. Knows names x) (is_group m) m n h.0 k
  among_known (l ∷ m ∷ ns) n h k = k

  pub targets_known : (t : TargetsNode) → KnowsTargets names t → Knows names (targets_list t)
  targets_known t h =
      choice (λ n. Knows names n) (t.commas || t.list.star) (list_node t.list) (alone_node t.list) h
      (among_known t.list.before (list_node t.list) h.0 h)

pattern_keeps : (w : Word) (names : Names) (ts : Tokens) → Keeps Knows names (pattern_at w names ts)
pattern_keeps words.Identifier names ts =
    (declares names (bytes_at ts), declared_name names (bytes_at ts) false)
pattern_keeps (words.Other o) names ts = (same names, tt)
pattern_keeps w names ts = tt

operand_keeps : (o : OperandNode) (names : Names) (rest ts : Tokens) → KnowsOperand names o
    → Keeps Knows names (operand_target o names rest ts)
operand_keeps o names rest ts h =
    either Knows names (is_target o) _ _ (target_grows names o, target_known names o h) tt

put_keeps : (t : TargetNode) (found : TargetsNode) (names : Names) (rest ts : Tokens) → KnowsTarget names t
    → KnowsTargets names found → Keeps KnowsNext names (put_target t found names rest ts)
put_keeps t found names rest ts h k =
    either KnowsNext names (may_follow t found) _ _
    (same names, put_known names t (is_comma_word (first rest)) found h k) tt

module _ (i : Inside) (k : KeepsNames i) where
  place_keeps : (names : Names) (ts : Tokens) → Keeps Knows names (place i names ts)
  place_keeps names ts =
      step KnowsOperand Knows names (chain i names ts false owners.Call) _ (chain_keeps i k names ts false owners.Call)
      (λ r g h. operand_keeps r.0 r.1 r.2 ts h)

  alone_keeps : (u : TargetUse) (names : Names) (ts : Tokens) → Keeps Knows names (alone i u names ts)
  unfolding alone
  alone_keeps uses.Pattern names ts = pattern_keeps (first ts) names ts
  alone_keeps uses.Assignment names ts = place_keeps names ts
  alone_keeps uses.For names ts = place_keeps names ts

  starred_keeps : (u : TargetUse) (names : Names) (ts : Tokens) → Keeps KnowsTarget names (starred i u names ts)
  starred_keeps u names ts =
      either KnowsTarget names (begins_target u (first (behind ts))) _ _
      (step Knows KnowsTarget names (alone i u names (behind ts)) _ (alone_keeps u names (behind ts))
      (λ r g h. (same r.1, h))) (same names, tt)

  grouped_keeps : (u : TargetUse) (names : Names) (ts : Tokens) → Keeps KnowsTarget names (grouped i u names ts)
  grouped_keeps u names ts =
      step KnowsTargets KnowsTarget names (i.targets names no_targets (behind ts) u) _
      (k.targets names no_targets (behind ts) u (tt, (tt, tt))) (λ r g h.
      either KnowsTarget r.1 r.0.several _ _
      (skip KnowsTarget r.1 (expect_closing wanted.CloseParenthesis r.2) _ (λ rest. (same r.1, h))) tt)

  target_keeps : (u : TargetUse) (names : Names) (ts : Tokens) → Keeps KnowsTarget names (target i u names ts)
  unfolding target
  target_keeps u names ts =
      either KnowsTarget names (is_star (first ts)) _ _
      (either KnowsTarget names (is_for u) _ _ tt (starred_keeps u names ts))
      (either KnowsTarget names (is_nested_group u ts) _ _ (grouped_keeps u names ts)
      (step Knows KnowsTarget names (alone i u names ts) _ (alone_keeps u names ts) (λ r g h. (same r.1, h))))

  next_keeps : (u : TargetUse) (found : TargetsNode) (names : Names) (ts : Tokens) → KnowsTargets names found
      → Keeps KnowsNext names (next_target i u found names ts)
  unfolding next_target
  next_keeps u found names ts f =
      step KnowsTarget KnowsNext names (target i u names ts) _ (target_keeps u names ts)
      (λ r g h. put_keeps r.0 found r.1 r.2 ts h (targets_still names r.1 found g f))

  from_keeps : (n : ℕ) (u : TargetUse) (more : Bool) (found : TargetsNode) (names : Names) (ts : Tokens)
      → KnowsTargets names found → Keeps KnowsTargets names (targets_from i n u more found names ts)
  unfolding targets_from
  from_keeps zero u more found names ts f = tt
  from_keeps (suc n) u more found names ts f =
      either KnowsTargets names (more && begins_target u (first ts)) _ _
      (step KnowsNext KnowsTargets names (next_target i u found names ts) _ (next_keeps u found names ts f)
      (λ r g h. from_keeps n u r.0.0 r.0.1 r.1 r.2 h))
      (either KnowsTargets names (more && is_for u) _ _ tt (same names, f))

  pub targets_keep : (names : Names) (found : TargetsNode) (ts : Tokens) (u : TargetUse) → KnowsTargets names found
      → Keeps KnowsTargets names (targets i names found ts u)
  targets_keep names found ts u f = from_keeps (length ts + 1) u true found names ts f
