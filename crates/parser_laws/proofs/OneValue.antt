-- A list that is derived on the right side of an assignment, where it is one value, is derived as such.
use Rattle.std.proofs.Common.{◌≡◌, Bool, true, false, not, ◌&&◌, List, [], ◌∷◌, ◌++◌, refl, sym, ap, subst, ◌∙◌}
use Rattle.std.proofs.lemmas.Bool.{and_parts}
use Rattle.rb_syntax.specs.declared.core_form.Item.{Item}
use Rattle.rb_syntax.specs.declared.core_form.Item.TheVariants.{Plain, Splat}
use Rattle.rb_syntax.specs.declared.core_form.Pair.{Pair}
use Rattle.parser_tree.specs.Node.{Node}
use Rattle.parser_tokens.specs.Tokens.{first, behind}
use Rattle.parser_ahead.specs.Primary.{is_comma_word, is_arrow_word}
use Rattle.parser_ahead.specs.declared.primary.DoOwner.{DoOwner}
use Rattle.parser_ahead.specs.declared.primary.Place.{Place}
use Rattle.parser_ahead.specs.declared.primary.Place.TheVariants as places
use Rattle.parser_nodes.specs.Listed.{ListNode, PartNode, PhraseNode, command_part, plain_part, splat_part, pair_part, block_part, is_empty, is_none, may_follow, put, nothing_listed, is_right_side, right_items, right_side}
use Rattle.parser_nodes.specs.declared.listed.Sort.TheVariants as sorts
use Rattle.parser_statements.specs.Statements.{is_statement_sort}
use Rattle.parser_forms.specs.Reading.{Names, Tokens}
use Rattle.parser_laws.specs.Rules.{Rule, Argument, Part, Parts, Listing, goes_on_list}
use Rattle.parser_laws.specs.Derives as grammar
use Rattle.parser_laws.specs.Derives.{Derives}
use Rattle.parser_laws.specs.Expressions.{is_expression}
use Rattle.parser_laws.proofs.Results.{clash, differs, both}
use Rattle.parser_laws.proofs.WholeLiterals.{no_expression}

-- one item, without a star
abbrev is_single : List (Item Node) → Bool
is_single [] = false
is_single (Plain n ∷ []) = true
is_single (Splat n ∷ []) = false
is_single (i ∷ j ∷ is) = false

-- one item and nothing else
abbrev is_sole : ListNode → Bool
is_sole l = is_single l.items && (is_empty l.pairs && is_none l.block)

abbrev is_filled : ListNode → Bool
is_filled l = not (is_empty l.items && (is_empty l.pairs && is_none l.block))

-- there is something, which is more or other than one item
abbrev is_lost : ListNode → Bool
is_lost l = not (is_sole l) && is_filled l

longer : (is : List (Item Node)) (j : Item Node) → is_empty is ≡ false → is_single (is ++ j ∷ []) ≡ false
longer [] j h = differs h
longer (i ∷ []) j h = refl
longer (i ∷ k ∷ is) j h = refl

more_items : (is : List (Item Node)) (j : Item Node) → is_empty (is ++ j ∷ []) ≡ false
more_items [] j = refl
more_items (i ∷ is) j = refl

more_pairs : (ps : List (Pair Node)) (q : Pair Node) → is_empty (ps ++ q ∷ []) ≡ false
more_pairs [] q = refl
more_pairs (p ∷ ps) q = refl

not_empty : (a b c : Bool) → not (a && (b && c)) ≡ true → b ≡ true → c ≡ true → a ≡ false
not_empty true true true h f g = differs (sym h)
not_empty true true false h f g = differs (sym g)
not_empty true false c h f g = differs (sym f)
not_empty false b c h f g = refl

none_left : (a b c : Bool) → not (a && (b && c)) ≡ true → (a && b) ≡ true → c ≡ true → ⊥
none_left true true true h f g = differs (sym h)
none_left true true false h f g = differs (sym g)
none_left true false c h f g = differs (sym f)
none_left false b c h f g = differs (sym f)

lost_items : (a b c d : Bool) → a ≡ false → d ≡ false → (not (a && (b && c)) && not (d && (b && c))) ≡ true
lost_items true b c d f g = differs f
lost_items false b c true f g = differs g
lost_items false b c false f g = refl

lost_pairs : (a b c d : Bool) → b ≡ false → (not (a && (b && c)) && not (d && (b && c))) ≡ true
lost_pairs a true c d f = differs f
lost_pairs true false c true f = refl
lost_pairs true false c false f = refl
lost_pairs false false c true f = refl
lost_pairs false false c false f = refl

lost_block : (a b d : Bool) → (not (a && (b && false)) && not (d && (b && false))) ≡ true
lost_block true true true = refl
lost_block true true false = refl
lost_block true false true = refl
lost_block true false false = refl
lost_block false true true = refl
lost_block false true false = refl
lost_block false false true = refl
lost_block false false false = refl

-- behind a part no part makes one item
put_lost : (p : PartNode) (l : ListNode) → is_filled l ≡ true → may_follow p l ≡ true → is_lost (put p l) ≡ true
put_lost (command_part n) l some may =
    let follows = and_parts (not l.command) _ may in
    let free = and_parts (is_none l.block) _ follows.1 in
    absurd (none_left (is_empty l.items) (is_empty l.pairs) (is_none l.block) some free.1 free.0)
put_lost (plain_part n) l some may =
    let follows = and_parts (not l.command) _ may in
    let free = and_parts (is_none l.block) _ follows.1 in
    let items = not_empty (is_empty l.items) (is_empty l.pairs) (is_none l.block) some free.1 free.0 in
    lost_items _ (is_empty l.pairs) (is_none l.block) _ (longer l.items (Plain n) items) (more_items l.items (Plain n))
put_lost (splat_part n) l some may =
    let follows = and_parts (not l.command) _ may in
    let free = and_parts (is_none l.block) _ follows.1 in
    let items = not_empty (is_empty l.items) (is_empty l.pairs) (is_none l.block) some free.1 free.0 in
    lost_items _ (is_empty l.pairs) (is_none l.block) _ (longer l.items (Splat n) items) (more_items l.items (Splat n))
put_lost (pair_part k v) l some may = lost_pairs (is_single l.items) _ (is_none l.block) (is_empty l.items)
    (more_pairs l.pairs (record { key = k; value = v }))
put_lost (block_part n) l some may = lost_block (is_single l.items) (is_empty l.pairs) (is_empty l.items)

single_items : (is : List (Item Node)) (command : Bool) → is_statement_sort (right_items is command).1 ≡ false
    → is_single is ≡ true
single_items [] command h = differs h
single_items (Plain n ∷ []) command h = refl
single_items (Splat n ∷ []) command h = differs h
single_items (i ∷ j ∷ is) command h = differs h

-- what is no statement on a right side is one item
sole : (l : ListNode) → is_right_side l ≡ true → is_statement_sort (right_side l).1 ≡ false → is_sole l ≡ true
sole l right plain =
    let some = and_parts (not (is_empty l.items)) _ right in
    let pairs = and_parts (is_empty l.pairs) _ some.1 in
    let block = and_parts (is_none l.block) (not l.comma) pairs.1 in
    both (is_single l.items) _ (single_items l.items l.command plain)
    (both (is_empty l.pairs) (is_none l.block) pairs.0 block.0)

not_comma : (l : ListNode) → is_right_side l ≡ true → l.comma ≡ false
not_comma l right =
    let some = and_parts (not (is_empty l.items)) _ right in
    let pairs = and_parts (is_empty l.pairs) _ some.1 in
    let block = and_parts (is_none l.block) (not l.comma) pairs.1 in
    by_comma l.comma block.1
  where
    by_comma : (b : Bool) → not b ≡ true → b ≡ false
    by_comma true h = sym h
    by_comma false h = refl

not_true : (b : Bool) → not b ≡ true → b ≡ true → ⊥
not_true true h is = differs (sym h)
not_true false h is = differs (sym is)

-- what a plain part is derived as; no part is a command
abbrev PartValue : PartNode → Place → DoOwner → Names → Tokens → Names → Tokens → Type 0
PartValue (command_part n) place owner names ts known rest = ⊥
PartValue (plain_part n) place owner names ts known rest = Derives (Argument place owner n) names ts known rest
    × (is_arrow_word (first rest) ≡ false)
PartValue (splat_part n) place owner names ts known rest = Unit {0}
PartValue (pair_part k v) place owner names ts known rest = Unit {0}
PartValue (block_part n) place owner names ts known rest = Unit {0}

-- the one value of a list
abbrev ListValue : ListNode → DoOwner → Names → Tokens → Names → Tokens → Type 0
ListValue l owner names ts known rest = (n : Node) × (l.items ≡ Plain n ∷ [])
    × Derives (Argument places.Command owner n) names ts known rest × (is_arrow_word (first rest) ≡ false)

-- What is said of a derivation: where a list is one item, it is a value, or a command.
abbrev Sole : Rule → Names → Tokens → Names → Tokens → Type 0
Sole (Part place owner p) names ts known rest = PartValue p place owner names ts known rest
Sole (Parts owner l) names ts known rest = (is_filled l ≡ true) × (l.command ≡ false)
    × (is_sole l ≡ true → ListValue l owner names ts known rest)
Sole (Listing owner l) names ts known rest =
    l.comma ≡ false → is_sole l ≡ true → is_expression (right_side l).0 ≡ true → (l.command ≡ false)
    × ListValue l owner names ts known rest × (is_comma_word (first rest) ≡ false)
Sole r names ts known rest = Unit {0}

first_sole : (owner : DoOwner) (names : Names) (ts : Tokens) (known : Names) (rest : Tokens) (p : PartNode)
    → PartValue p places.Command owner names ts known rest
    → Sole (Parts owner (put p nothing_listed)) names ts known rest
first_sole owner names ts known rest (command_part n) v = absurd v
first_sole owner names ts known rest (plain_part n) v = (refl, refl, λ one. (n, refl, v.0, v.1))
first_sole owner names ts known rest (splat_part n) v = (refl, refl, λ one. differs (sym one))
first_sole owner names ts known rest (pair_part k w) v = (refl, refl, λ one. differs (sym one))
first_sole owner names ts known rest (block_part n) v = (refl, refl, λ one. differs (sym one))

no_command : (place : Place) (owner : DoOwner) (names : Names) (ts : Tokens) (known : Names) (rest : Tokens)
    (p : PartNode) (l : ListNode) → PartValue p place owner names ts known rest → (put p l).command ≡ l.command
no_command place owner names ts known rest (command_part n) l v = absurd v
no_command place owner names ts known rest (plain_part n) l v = refl
no_command place owner names ts known rest (splat_part n) l v = refl
no_command place owner names ts known rest (pair_part k w) l v = refl
no_command place owner names ts known rest (block_part n) l v = refl

sole_of : (r : Rule) (names : Names) (ts : Tokens) (known : Names) (rest : Tokens) → Derives r names ts known rest
    → Sole r names ts known rest
sole_of _ _ _ _ _ (grammar.PlainPart place owner names known ts rest n d arrow) = (d, arrow)
sole_of _ _ _ _ _ (grammar.FirstPart owner names known ts rest p d) =
    first_sole owner names ts known rest p (sole_of _ _ _ _ _ d)
sole_of _ _ _ _ _ (grammar.NextPart owner names known later ts rest more p l before there d follows) =
    let b = sole_of _ _ _ _ _ before in
    let lost = and_parts (not (is_sole (put p l))) (is_filled (put p l)) (put_lost p l b.0 follows) in (
      lost.1,
      no_command places.Argument owner known (behind rest) later more p l (sole_of _ _ _ _ _ d) ∙ b.1,
      λ one. absurd (not_true (is_sole (put p l)) lost.0 one),
    )
sole_of _ _ _ _ _ (grammar.NoPart owner names ts none) = λ flat one is. differs (sym one)
sole_of _ _ _ _ _ (grammar.AllParts owner names known ts rest l d ends) = λ flat one is. let s = sole_of _ _ _ _ _ d in
    (s.1, s.2 one, ends)
sole_of _ _ _ _ _ (grammar.LastComma owner names known ts rest l d there ends) = λ flat one is. differs flat
sole_of _ _ _ _ _ (grammar.CommandPart owner names known ts rest n d ends) =
    λ flat one is. clash (is_expression n) is (no_expression places.Command owner names known ts rest n d)
sole_of _ _ _ _ _ d = tt

-- a right side that is no statement, and an expression, is a value
pub one_value : (names : Names) (ts : Tokens) (owner : DoOwner) (l : ListNode) (known : Names) (rest : Tokens)
    → Derives (Listing owner l) names ts known rest → is_right_side l ≡ true
    → is_statement_sort (right_side l).1 ≡ false
    → is_expression (right_side l).0 ≡ true → ((right_side l).1 ≡ sorts.Argument)
    × Derives (Argument places.Command owner (right_side l).0) names ts known rest
    × (goes_on_list (first rest) ≡ false)
one_value names ts owner l known rest d right plain is =
    let s = sole_of _ _ _ _ _ d (not_comma l right) (sole l right plain) is in
    let v = s.1 in
    let made : right_side l ≡ (v.0, sorts.Argument) = ap (λ (items : List (Item Node)). right_items items l.command) v.1
    ∙ ap (λ b. right_items (Plain v.0 ∷ []) b) s.0 in (
      ap (λ (x : PhraseNode). x.1) made,
      subst (λ n. Derives (Argument places.Command owner n) names ts known rest)
          (sym (ap (λ (x : PhraseNode). x.0) made)) v.2,
      rw (s.2, v.3) refl,
    )
