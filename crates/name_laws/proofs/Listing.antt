-- The parts of lists name known locals.
use Rattle.std.proofs.Common.{ℕ, zero, suc, ◌+◌, Bool, true, false, List, [], ◌∷◌, ◌++◌, length}
use Rattle.rb_syntax.specs.declared.core_form.Item.TheVariants.{Plain, Splat}
use Rattle.rb_syntax.specs.declared.core_form.Pair.{Pair}
use Rattle.parser_tree.specs.Node as node
use Rattle.parser_tree.specs.Node.{Node, nodes}
use Rattle.parser_tree.specs.View.{pair_of}
use Rattle.parser_tokens.specs.Tokens.{first, behind, bytes_at, place_at}
use Rattle.parser_ahead.specs.Groups.{is_quoted_label}
use Rattle.parser_ahead.specs.Primary.{part_at, is_comma_word, is_arrow_word}
use Rattle.parser_ahead.specs.declared.primary.DoOwner.{DoOwner}
use Rattle.parser_ahead.specs.declared.primary.PartStart.{PartStart}
use Rattle.parser_ahead.specs.declared.primary.PartStart.TheVariants as parts
use Rattle.parser_nodes.specs.Listed.{ListNode, PartNode, command_part, plain_part, splat_part, pair_part, block_part, nothing_listed, may_follow, put}
use Rattle.parser_forms.specs.Reading.{Names, Tokens, Inside}
use Rattle.parser_forms.specs.Literals.{pieces}
use Rattle.parser_phrases.specs.Phrases.{phrase, argument, is_argument}
use Rattle.parser_statements.specs.Lists.{part_place, quoted_key, goes_on, clashes, valued, quoted_pair, plain_or_pair, value_part, double_splat, part_by, part, with_part, next_part, list_from, list}
use Rattle.name_laws.proofs.Growing.{Grows, same, Knows, KnowsEach, still}
use Rattle.name_laws.proofs.Keeping.{Keeps, step, either, KnowsPhrase, KnowsPairs, KnowsList, list_still, KeepsNames}
use Rattle.name_laws.proofs.Literals.{pieces_keep}
use Rattle.name_laws.proofs.Bracketed.{items_more}
use Rattle.name_laws.proofs.Phrasing.{phrase_keeps, argument_keeps}

abbrev KnowsPart : Names → PartNode → Type 0
KnowsPart names (command_part n) = Knows names n
KnowsPart names (plain_part n) = Knows names n
KnowsPart names (splat_part n) = Knows names n
KnowsPart names (pair_part k v) = Knows names k × Knows names v
KnowsPart names (block_part n) = Knows names n

pairs_more : (names : Names) (ps : List (Pair Node)) (p : Pair Node) → KnowsPairs names ps → Knows names (pair_of p)
    → KnowsPairs names (ps ++ p ∷ [])
pairs_more names [] p h k = (k, tt)
pairs_more names (q ∷ ps) p h k = (h.0, pairs_more names ps p h.1 k)

put_known : (names : Names) (p : PartNode) (l : ListNode) → KnowsPart names p → KnowsList names l
    → KnowsList names (put p l)
put_known names (command_part n) l h k = (items_more names l.items (Plain n) k.0 h, k.1)
put_known names (plain_part n) l h k = (items_more names l.items (Plain n) k.0 h, k.1)
put_known names (splat_part n) l h k = (items_more names l.items (Splat n) k.0 h, k.1)
put_known names (pair_part m n) l h k =
    (k.0, (pairs_more names l.pairs (record { key = m; value = n }) k.1.0 h, k.1.1))
put_known names (block_part n) l h k = (k.0, (k.1.0, (h, tt)))

module _ (i : Inside) (k : KeepsNames i) where
  -- what a value becomes is known where the value is
  valued_keeps : (f : Node → PartNode) (names : Names) (ts : Tokens) (owner : DoOwner)
      → ((known : Names) (n : Node) → Grows names known → Knows known n → KnowsPart known (f n))
      → Keeps KnowsPart names (valued i f names ts owner)
  valued_keeps f names ts owner become =
      step Knows KnowsPart names (argument i names ts owner) _ (argument_keeps i k names ts owner)
      (λ r g h. (same r.1, become r.1 r.0 g h))

  quoted_keeps : (names : Names) (ts : Tokens) (owner : DoOwner) → Keeps KnowsPart names (quoted_pair i names ts owner)
  quoted_keeps names ts owner =
      step KnowsEach KnowsPart names (pieces i [] names (behind ts)) _ (pieces_keep i k [] names (behind ts) tt)
      (λ r g h. either KnowsPart r.1 (is_quoted_label (first r.2)) _ _
      (valued_keeps (pair_part (quoted_key (place_at r.2) r.0)) r.1 (behind r.2) owner (λ known n f m. (tt, m))) tt)

  pair_keeps : (n : Node) (names : Names) (ts : Tokens) (owner : DoOwner) → Knows names n
      → Keeps KnowsPart names (plain_or_pair i n names ts owner)
  pair_keeps n names ts owner h =
      either KnowsPart names (is_arrow_word (first ts)) _ _
      (valued_keeps (pair_part n) names (behind ts) owner (λ known m g f. (still names known n g h, f))) (same names, h)

  value_keeps : (alone : Bool) (names : Names) (ts : Tokens) (owner : DoOwner)
      → Keeps KnowsPart names (value_part i alone names ts owner)
  value_keeps alone names ts owner =
      step KnowsPhrase KnowsPart names (phrase i names ts (part_place alone) owner) _
      (phrase_keeps i k names ts (part_place alone) owner)
      (λ r g h. either KnowsPart r.1 (is_argument r.0.1) _ _ (pair_keeps r.0.0 r.1 r.2 owner h) (same r.1, h))

  double_keeps : (names : Names) (ts : Tokens) (owner : DoOwner) → Keeps KnowsPart names (double_splat i names ts owner)
  double_keeps names ts owner =
      step Knows KnowsPart names (argument i names (behind ts) owner) _ (argument_keeps i k names (behind ts) owner)
      (λ r g h. (same r.1, (tt, tt)))

  by_keeps : (s : PartStart) (alone : Bool) (names : Names) (ts : Tokens) (owner : DoOwner)
      → Keeps KnowsPart names (part_by i s alone names ts owner)
  unfolding part_by
  by_keeps parts.Splat alone names ts owner = valued_keeps splat_part names (behind ts) owner (λ known n g h. h)
  by_keeps parts.DoubleSplat alone names ts owner = double_keeps names ts owner
  by_keeps parts.Block alone names ts owner = valued_keeps block_part names (behind ts) owner (λ known n g h. h)
  by_keeps parts.Label alone names ts owner =
      valued_keeps (pair_part (node.symbol (bytes_at ts))) names (behind ts) owner (λ known n g h. (tt, h))
  by_keeps parts.QuotedKey alone names ts owner = quoted_keeps names ts owner
  by_keeps parts.Value alone names ts owner = value_keeps alone names ts owner

  with_keeps : (alone : Bool) (found : ListNode) (names : Names) (ts : Tokens) (owner : DoOwner)
      → KnowsList names found → Keeps KnowsList names (with_part i alone found names ts owner)
  with_keeps alone found names ts owner f =
      step KnowsPart KnowsList names (part i alone names ts owner) _ (by_keeps (part_at ts) alone names ts owner)
      (λ r g h. either KnowsList r.1 (may_follow r.0 found) _ _
      (same r.1, put_known r.1 r.0 found h (list_still names r.1 found g f)) tt)

  next_keeps : (alone : Bool) (found : ListNode) (names : Names) (ts : Tokens) (owner : DoOwner)
      → KnowsList names found → Keeps KnowsList names (next_part i alone found names ts owner)
  unfolding next_part
  next_keeps alone found names ts owner f =
      step KnowsList KnowsList names (with_part i alone found names ts owner) _
      (with_keeps alone found names ts owner f)
      (λ r g h. either KnowsList r.1 (clashes (is_comma_word (first r.2)) r.0) _ _ tt (same r.1, h))

  from_keeps : (n : ℕ) (owner : DoOwner) (alone more : Bool) (found : ListNode) (names : Names) (ts : Tokens)
      → KnowsList names found → Keeps KnowsList names (list_from i n owner alone more found names ts)
  unfolding list_from
  from_keeps zero owner alone more found names ts f = tt
  from_keeps (suc n) owner alone more found names ts f =
      either KnowsList names (goes_on more (first ts)) _ _
      (step KnowsList KnowsList names (next_part i alone found names ts owner) _
      (next_keeps alone found names ts owner f)
      (λ r g h. from_keeps n owner false r.0.comma r.0 r.1 r.2 h)) (same names, f)

  pub list_keeps : (names : Names) (ts : Tokens) (owner : DoOwner) → Keeps KnowsList names (list i names ts owner)
  list_keeps names ts owner = from_keeps (length ts + 1) owner true true nothing_listed names ts (tt, (tt, tt))
