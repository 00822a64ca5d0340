-- Lists that are read with expressions are derived.
use Rattle.std.proofs.Common.{◌≡◌, ℕ, zero, suc, ◌+◌, Bool, true, false, [], length, Ok, if◌then◌else◌, refl, sym, ap, subst, ◌∙◌}
use Rattle.std.proofs.lemmas.Bool.{and_parts}
use Rattle.rb_syntax.specs.declared.outside.Outside.TheVariants as outsides
use Rattle.rb_syntax.specs.declared.punctuator.Punctuator.{Punctuator}
use Rattle.rb_syntax.specs.declared.punctuator.Punctuator.TheVariants as marks
use Rattle.parser_tree.specs.Node as node
use Rattle.parser_tree.specs.Node.{Node}
use Rattle.parser_tokens.specs.Tokens.{first, behind, skip_if, bytes_at, place_at}
use Rattle.parser_tokens.specs.Starts.{begins_value}
use Rattle.parser_tokens.specs.declared.word.Word.{Word}
use Rattle.parser_tokens.specs.declared.word.Word.TheVariants as words
use Rattle.parser_ahead.specs.Groups.{is_quoted_label, is_quoted_key}
use Rattle.parser_ahead.specs.Primary.{is_statement, part_of, part_at, is_comma_word, is_arrow_word}
use Rattle.parser_ahead.specs.declared.primary.DoOwner.{DoOwner}
use Rattle.parser_ahead.specs.declared.primary.PartStart.TheVariants as parts
use Rattle.parser_ahead.specs.declared.primary.Place.TheVariants as places
use Rattle.parser_nodes.specs.Nodes.{outside_node}
use Rattle.parser_nodes.specs.Listed.{ListNode, PartNode, command_part, plain_part, splat_part, pair_part, block_part, may_follow, put, with_comma, nothing_listed}
use Rattle.parser_nodes.specs.declared.listed.Sort.{Sort}
use Rattle.parser_nodes.specs.declared.listed.Sort.TheVariants as sorts
use Rattle.parser_forms.specs.Literals.{pieces}
use Rattle.parser_phrases.specs.Phrases.{phrase, argument, is_argument}
use Rattle.parser_statements.specs.Lists.{part_place, quoted_key, goes_on, clashes, valued, double_splat, quoted_pair, plain_or_pair, value_part, part_by, part, with_part, next_part, list_from, list}
use Rattle.parser_forms.specs.Reading.{Names, Tokens, Read, Inside}
use Rattle.rb_base.specs.Result.{◌>>=◌}
use Rattle.parser_laws.specs.Rules.{Argument, Part, Parts, Listing}
use Rattle.parser_laws.specs.Derives.{Derives, PlainPart, PairPart, LabelPart, SplatPart, FirstPart, NextPart, NoPart, AllParts, LastComma}
use Rattle.parser_laws.specs.Expressions.{is_expression}
use Rattle.parser_laws.proofs.Results.{bind_ok, then_ok, else_ok, read_same, or_else, carry, clash, differs, err_is_none, same_read}
use Rattle.parser_laws.proofs.CleanLists.{is_given, is_clean, put_clean}
use Rattle.parser_laws.proofs.CompleteLists.{put_keeps, put_comma, follow_comma, no_comma}
use Rattle.parser_laws.proofs.Sound.{IsSound}
use Rattle.parser_laws.proofs.SoundPhrases.{value_phrase_sound, argument_sound}

a_comma : (w : Word) → is_comma_word w ≡ true → w ≡ words.Mark marks.Comma
a_comma (words.Mark marks.Comma) h = refl
a_comma w h = absurd (cc)

an_arrow : (w : Word) → is_arrow_word w ≡ true → w ≡ words.Mark marks.Arrow
an_arrow (words.Mark marks.Arrow) h = refl
an_arrow w h = absurd (cc)

-- a part is no statement
no_statement : (alone : Bool) → is_statement (part_place alone) ≡ false
no_statement true = refl
no_statement false = refl

module _ (i : Inside) (sound : IsSound i) (owner : DoOwner) where
  module _ (alone : Bool) (names : Names) (ts : Tokens) where
    abbrev SoundPart : PartNode → Names → Tokens → Type 0
    SoundPart p known rest = Derives (Part (part_place alone) owner p) names ts known rest

    abbrev PartGoal : Read PartNode → Type 0
    PartGoal read = (p : PartNode) (known : Names) (rest : Tokens) → read ≡ Ok (p, known, rest) → is_given p ≡ true
        → SoundPart p known rest

    -- a value, and the part that it makes
    valued_goal : (f : Node → PartNode) (k : Names) (m : Tokens)
        → ((n : Node) (l : Names) (q : Tokens) → is_given (f n) ≡ true
        → (is_expression n ≡ true → Derives (Argument places.Argument owner n) k m l q) → SoundPart (f n) l q)
        → PartGoal (valued i f k m owner)
    valued_goal f k m derived p known rest h is =
        let r = bind_ok (argument i k m owner) _ (p, known, rest) h in
        let e = read_same (f r.0.0) p r.0.1 known r.0.2 rest r.2 in
        let given : is_given (f r.0.0) ≡ true = subst (λ q. is_given q ≡ true) (sym e.0) is in
        carry SoundPart (f r.0.0) p r.0.1 known r.0.2 rest r.2
        (derived r.0.0 r.0.1 r.0.2 given (λ whole. argument_sound i sound k r.0.1 m r.0.2 owner r.0.0 r.1 whole))

    double_goal : PartGoal (double_splat i names ts owner)
    double_goal p known rest h is =
        let r = bind_ok (argument i names (behind ts) owner) _ (p, known, rest) h in
        let pair : PartNode = pair_part (outside_node outsides.DoubleSplat (place_at ts) r.0.0) node.nil in
        let e = read_same pair p r.0.1 known r.0.2 rest r.2 in
        let given : is_given pair ≡ true = subst (λ q. is_given q ≡ true) (sym e.0) is in
        differs (sym given)

    quoted_goal : PartGoal (quoted_pair i names ts owner)
    quoted_goal p known rest h is =
        let r = bind_ok (pieces i [] names (behind ts)) _ (p, known, rest) h in
        let key : Node = quoted_key (place_at r.0.2) r.0.0 in
        let c = then_ok (is_quoted_label (first r.0.2)) (valued i (pair_part key) r.0.1 (behind r.0.2) owner)
        (length r.0.2) (p, known, rest) r.2 in
        let v = bind_ok (argument i r.0.1 (behind r.0.2) owner) _ (p, known, rest) c.1 in
        let e = read_same (pair_part key v.0.0) p v.0.1 known v.0.2 rest v.2 in
        let given : is_given (pair_part key v.0.0) ≡ true = subst (λ q. is_given q ≡ true) (sym e.0) is in
        differs (sym given)

    pair_goal : (n : Node) (k : Names) (m : Tokens) → is_arrow_word (first m) ≡ true
        → phrase i names ts (part_place alone) owner ≡ Ok ((n, sorts.Argument), k, m)
        → PartGoal (valued i (pair_part n) k (behind m) owner)
    pair_goal n k m there read =
        valued_goal (pair_part n) k (behind m) (λ v l q given value.
        let parts_are = and_parts (is_expression n) (is_expression v) given in
        let key = value_phrase_sound i sound (part_place alone) owner names ts (no_statement alone) (n, sorts.Argument)
        k m read parts_are.0 in
        PairPart (part_place alone) owner names k l ts m q n v key.1 (an_arrow (first m) there) (value parts_are.1))

    by_arrow : (b : Bool) (n : Node) (k : Names) (m : Tokens) → is_arrow_word (first m) ≡ b
        → phrase i names ts (part_place alone) owner ≡ Ok ((n, sorts.Argument), k, m)
        → PartGoal (if b then valued i (pair_part n) k (behind m) owner else Ok (plain_part n, k, m))
    by_arrow true n k m there read p known rest h is = pair_goal n k m there read p known rest h is
    by_arrow false n k m there read p known rest h is =
        let e = read_same (plain_part n) p k known m rest h in
        let part_is : is_expression n ≡ true = subst (λ q. is_given q ≡ true) (sym e.0) is in
        let d = value_phrase_sound i sound (part_place alone) owner names ts (no_statement alone) (n, sorts.Argument) k
        m read part_is in
        carry SoundPart (plain_part n) p k known m rest h (PlainPart (part_place alone) owner names k ts m n d.1 there)

    -- what is no value is no part that is given
    command_goal : (s : Sort) (n : Node) (k : Names) (m : Tokens) → is_argument s ≡ false
        → phrase i names ts (part_place alone) owner ≡ Ok ((n, s), k, m) → PartGoal (Ok (command_part n, k, m))
    command_goal s n k m other read p known rest h is =
        let e = read_same (command_part n) p k known m rest h in
        let d = value_phrase_sound i sound (part_place alone) owner names ts (no_statement alone) (n, s) k m read
        (subst (λ q. is_given q ≡ true) (sym e.0) is) in
        clash (is_argument s) (ap is_argument d.0) other

    by_sort : (s : Sort) (n : Node) (k : Names) (m : Tokens)
        → phrase i names ts (part_place alone) owner ≡ Ok ((n, s), k, m)
        → PartGoal (if is_argument s then plain_or_pair i n k m owner else Ok (command_part n, k, m))
    by_sort sorts.Argument n k m read = by_arrow (is_arrow_word (first m)) n k m refl read
    by_sort sorts.Command n k m read = command_goal sorts.Command n k m refl read
    by_sort sorts.Statement n k m read = command_goal sorts.Statement n k m refl read

    value_goal : PartGoal (value_part i alone names ts owner)
    value_goal p known rest h is =
        let r = bind_ok (phrase i names ts (part_place alone) owner) _ (p, known, rest) h in
        by_sort r.0.0.1 r.0.0.0 r.0.1 r.0.2 r.1 p known rest r.2 is

    by_key : (b : Bool) → PartGoal (part_by i (if b then parts.QuotedKey else parts.Value) alone names ts owner)
    unfolding part_by
    by_key true = quoted_goal
    by_key false = value_goal

    by_mark : (p : Punctuator) → first ts ≡ words.Mark p
        → PartGoal (part_by i (part_of (words.Mark p) ts) alone names ts owner)
    unfolding part_by
    by_mark marks.Star is = valued_goal splat_part names (behind ts)
        (λ n l q given value. SplatPart (part_place alone) owner names l ts q n is (value given))
    by_mark marks.StarStar is = double_goal
    by_mark marks.Ampersand is = valued_goal block_part names (behind ts) (λ n l q given value. differs (sym given))
    by_mark p is = value_goal

    by_word : (w : Word) → first ts ≡ w → PartGoal (part_by i (part_of w ts) alone names ts owner)
    unfolding part_by
    by_word (words.Mark p) is = by_mark p is
    by_word words.Label is =
        valued_goal (pair_part (node.symbol (bytes_at ts))) names (behind ts)
        (λ n l q given value. LabelPart (part_place alone) owner names l ts q n is (value given))
    by_word words.StringBegin is = by_key (is_quoted_key ts)
    by_word w is = value_goal

    part_sound : PartGoal (part i alone names ts owner)
    unfolding part_at
    part_sound = by_word (first ts) refl

  -- a part that was read behind those that were found, and the comma behind it
  abbrev Next : Bool → ListNode → Names → Tokens → ListNode × Names × Tokens → Type 0
  Next alone found names ts x =
      (p : PartNode) × (k : Names) × (m : Tokens) × (part i alone names ts owner ≡ Ok (p, k, m))
      × (may_follow p found ≡ true)
      × ((with_comma (is_comma_word (first m)) (put p found), k, skip_if (is_comma_word (first m)) m) ≡ x)

  next_read : (alone : Bool) (found : ListNode) (names : Names) (ts : Tokens) (x : ListNode × Names × Tokens)
      → next_part i alone found names ts owner ≡ Ok x → Next alone found names ts x
  unfolding next_part
  next_read alone found names ts x h =
      let w = bind_ok (with_part i alone found names ts owner) _ x h in
      let c = else_ok (clashes (is_comma_word (first w.0.2)) w.0.0)
      (Ok (with_comma (is_comma_word (first w.0.2)) w.0.0, w.0.1, skip_if (is_comma_word (first w.0.2)) w.0.2))
      (length w.0.2) x w.2 in
      let q = bind_ok (part i alone names ts owner) _ w.0 w.1 in
      let t = then_ok (may_follow q.0.0 found) (Ok (put q.0.0 found, q.0.1, q.0.2)) (length ts) w.0 q.2 in
      let e : (put q.0.0 found, q.0.1, q.0.2) ≡ w.0 = ap (or_else (put q.0.0 found, q.0.1, q.0.2)) t.1 in
      let f : (with_comma (is_comma_word (first w.0.2)) w.0.0, w.0.1, skip_if (is_comma_word (first w.0.2)) w.0.2) ≡ x =
      ap (or_else (with_comma (is_comma_word (first w.0.2)) w.0.0, w.0.1, skip_if (is_comma_word (first w.0.2)) w.0.2))
      c.1 in
      let g : (
        with_comma (is_comma_word (first q.0.2)) (put q.0.0 found),
        q.0.1,
        skip_if (is_comma_word (first q.0.2)) q.0.2,
      ) ≡ x =
      ap (λ (y : ListNode × Names × Tokens). (
        with_comma (is_comma_word (first y.2)) y.0,
        y.1,
        skip_if (is_comma_word (first y.2)) y.2,
      )) e ∙ f in
      (q.0.0, q.0.1, q.0.2, q.1, t.0, g)

  module _ (before : Names) (start : Tokens) (all : ListNode) (known : Names) (rest : Tokens) where
    -- parts that were found, and that with them all is derived where they are
    abbrev Behind : ListNode → Names → Tokens → Type 0
    Behind l k m = (is_clean l ≡ true) × (Derives (Parts owner l) before start k m
        → Derives (Listing owner all) before start known rest)

    -- no part behind the last, and the comma behind that
    stops : (comma : Bool) (l : ListNode) (k : Names) (m : Tokens) → is_comma_word (first m) ≡ comma → l.comma ≡ false
        → goes_on comma (first (skip_if comma m)) ≡ false
        → same_read (Ok (with_comma comma l, k, skip_if comma m)) (Ok (all, known, rest)) → is_clean all ≡ true
        → Behind l k m
    stops true l k m there plain none h clean = (
      subst (λ (x : ListNode). is_clean x ≡ true) (sym (read_same (with_comma true l) all k known (behind m) rest h).0)
          clean,
      λ d. carry (λ (x : ListNode) (q : Names) (r : Tokens). Derives (Listing owner x) before start q r)
          (with_comma true l) all k known (behind m) rest h
          (LastComma owner before k start m l d (a_comma (first m) there) none),
    )
    stops false l k m there plain none h clean = (
      subst (λ (x : ListNode). is_clean x ≡ true) (sym (read_same (with_comma false l) all k known m rest h).0) clean,
      λ d. carry (λ (x : ListNode) (q : Names) (r : Tokens). Derives (Listing owner x) before start q r)
          (with_comma false l) all k known m rest h
          (subst (λ (x : ListNode). Derives (Listing owner x) before start k m) (sym (no_comma l plain))
          (AllParts owner before k start m l d there)),
    )

    by_more : (n : ℕ) (b comma : Bool) (l : ListNode) (k : Names) (m : Tokens) → is_comma_word (first m) ≡ comma
        → l.comma ≡ false → goes_on comma (first (skip_if comma m)) ≡ b
        → ((c : Bool) (x : ListNode) (q : Names) (r : Tokens) → is_comma_word (first r) ≡ c → x.comma ≡ false
        → list_from i n owner false c (with_comma c x) q (skip_if c r) ≡ Ok (all, known, rest) → Behind x q r)
        → (if b then (next_part i false (with_comma comma l) k (skip_if comma m) owner >>=
        (λ r. list_from i n owner false r.0.comma r.0 r.1 r.2)) else Ok (with_comma comma l, k, skip_if comma m))
        ≡ Ok (all, known, rest)
        → is_clean all ≡ true → Behind l k m
    by_more n false comma l k m there plain goes again h clean = stops comma l k m there plain goes h clean
    by_more n true false l k m there plain goes again h clean = differs (sym goes)
    by_more n true true l k m there plain goes again h clean =
        let r = bind_ok (next_part i false (with_comma true l) k (behind m) owner) _ (all, known, rest) h in
        let q = next_read false (with_comma true l) k (behind m) r.0 r.1 in
        let comma : Bool = is_comma_word (first q.2) in
        let same : (with_comma comma (put q.0 l), q.1, skip_if comma q.2) ≡ r.0 =
        ap (λ (x : ListNode). (x, q.1, skip_if comma q.2)) (sym (put_comma q.0 l comma)) ∙ q.5 in
        let tail : list_from i n owner false comma (with_comma comma (put q.0 l)) q.1 (skip_if comma q.2) ≡ Ok
        (all, known, rest) =
        subst (λ (x : ListNode × Names × Tokens). list_from i n owner false x.0.comma x.0 x.1 x.2 ≡ Ok
        (all, known, rest)) (sym same) r.2 in
        let later = again comma (put q.0 l) q.1 q.2 refl (put_keeps q.0 l ∙ plain) tail in
        let parts_clean = put_clean q.0 l later.0 in (
          parts_clean.0,
          λ d.
              let one = part_sound false k (behind m) q.0 q.1 q.2 q.3 parts_clean.1 in
              later.1 (NextPart owner before k q.1 start m q.2 q.0 l d (a_comma (first m) there) one
              (sym (follow_comma q.0 l) ∙ q.4)),
        )

    tail_sound : (n : ℕ) (comma : Bool) (l : ListNode) (k : Names) (m : Tokens) → is_comma_word (first m) ≡ comma
        → l.comma ≡ false
        → list_from i n owner false comma (with_comma comma l) k (skip_if comma m) ≡ Ok (all, known, rest)
        → is_clean all ≡ true → Behind l k m
    unfolding list_from
    tail_sound zero comma l k m there plain h clean = err_is_none 0 (all, known, rest) h
    tail_sound (suc n) comma l k m there plain h clean =
        by_more n (goes_on comma (first (skip_if comma m))) comma l k m there plain refl
        (λ c x q r is flat e. tail_sound n c x q r is flat e clean) h clean

  module _ (names : Names) (ts : Tokens) (l : ListNode) (known : Names) (rest : Tokens) where
    by_begin : (n : ℕ) (b : Bool) → begins_value (first ts) ≡ b
        → (if b then (next_part i true nothing_listed names ts owner >>=
        (λ r. list_from i n owner false r.0.comma r.0 r.1 r.2)) else Ok (nothing_listed, names, ts)) ≡ Ok
        (l, known, rest)
        → is_clean l ≡ true → Derives (Listing owner l) names ts known rest
    by_begin n false none h clean = carry (λ (x : ListNode) (q : Names) (r : Tokens). Derives (Listing owner x) names ts
        q r) nothing_listed l names known ts rest h (NoPart owner names ts none)
    by_begin n true there h clean =
        let r = bind_ok (next_part i true nothing_listed names ts owner) _ (l, known, rest) h in
        let q = next_read true nothing_listed names ts r.0 r.1 in
        let comma : Bool = is_comma_word (first q.2) in
        let tail : list_from i n owner false comma (with_comma comma (put q.0 nothing_listed)) q.1
        (skip_if comma q.2) ≡ Ok (l, known, rest) =
        subst (λ (x : ListNode × Names × Tokens). list_from i n owner false x.0.comma x.0 x.1 x.2 ≡ Ok (l, known, rest))
        (sym q.5) r.2 in
        let later = tail_sound names ts l known rest n comma (put q.0 nothing_listed) q.1 q.2 refl
        (put_keeps q.0 nothing_listed) tail clean in
        later.1 (FirstPart owner names q.1 ts q.2 q.0
        (part_sound true names ts q.0 q.1 q.2 q.3 (put_clean q.0 nothing_listed later.0).1))

    from_begin : (n : ℕ) → list_from i n owner true true nothing_listed names ts ≡ Ok (l, known, rest)
        → is_clean l ≡ true → Derives (Listing owner l) names ts known rest
    unfolding list_from
    from_begin zero h clean = err_is_none 0 (l, known, rest) h
    from_begin (suc n) h clean = by_begin n (begins_value (first ts)) refl h clean

    pub listing_sound : list i names ts owner ≡ Ok (l, known, rest) → is_clean l ≡ true
        → Derives (Listing owner l) names ts known rest
    listing_sound h clean = from_begin (length ts + 1) h clean
