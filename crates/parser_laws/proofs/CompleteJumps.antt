-- return, break, next and yield with what they take that are derived are read.
use Rattle.std.proofs.Common.{◌≡◌, Bool, true, false, not, ◌&&◌, Some, None, is_some, refl, sym, ap, ◌∙◌, arith}
use Rattle.rb_syntax.specs.declared.keyword.Keyword.{Keyword}
use Rattle.rb_syntax.specs.declared.keyword.Keyword.TheVariants as keywords
use Rattle.rb_syntax.specs.declared.punctuator.Punctuator.TheVariants as marks
use Rattle.parser_tree.specs.Node as node
use Rattle.parser_tree.specs.View.{items_of}
use Rattle.parser_tokens.specs.Tokens.{first, behind, place_at}
use Rattle.parser_tokens.specs.Starts.{begins_value, begins_argument, is_open_brace, jump_at}
use Rattle.parser_tokens.specs.declared.starts.Jump.{Jump}
use Rattle.parser_tokens.specs.declared.word.Word.{Word}
use Rattle.parser_tokens.specs.declared.word.Word.TheVariants as words
use Rattle.parser_ahead.specs.Groups.{opens_group, is_target_group}
use Rattle.parser_ahead.specs.Primary.{allows_command, is_statement, command_start, other_start, start_of, start_at, part_of, part_at, in_command, block_of, block_at, call_takes}
use Rattle.parser_ahead.specs.declared.primary.DoOwner.{DoOwner}
use Rattle.parser_ahead.specs.declared.primary.PartStart.TheVariants as parts
use Rattle.parser_ahead.specs.declared.primary.Place.{Place}
use Rattle.parser_ahead.specs.declared.primary.Start.{Start}
use Rattle.parser_ahead.specs.declared.primary.Start.TheVariants as starts
use Rattle.parser_nodes.specs.Listed.{ListNode, is_none, whole_items, jump_node}
use Rattle.parser_phrases.specs.Phrases.{jump_list, phrase_by}
use Rattle.parser_forms.specs.Reading.{Names, Tokens}
use Rattle.parser_laws.specs.Rules.{Command, Listing}
use Rattle.parser_laws.proofs.Results.{differs, and_false}
use Rattle.parser_laws.proofs.Plain.{argument_begins}
use Rattle.parser_laws.proofs.Facts.{is_head, begins, is_finish, Fact, word_taken}
use Rattle.parser_laws.proofs.Heads.{head_begins}
use Rattle.parser_laws.proofs.CompleteBrackets.{list_below}

-- what is known of a word that begins a jump
record Jumps (w : Word) : Type 0 where
  head : is_head w ≡ true
  some : is_finish w ≡ false
  group : opens_group w ≡ false
  start : (place : Place) (ts : Tokens) → start_of w place ts ≡ other_start place ts
  part : (ts : Tokens) → part_of w ts ≡ parts.Value

key_jumps : (k : Keyword) (j : Jump) → jump_at (words.Key k) ≡ Some j → Jumps (words.Key k)
key_jumps keywords.Return j h = record {
  head = refl;
  some = refl;
  group = refl;
  start = λ place ts. refl;
  part =
      λ ts. refl;
}
key_jumps keywords.Break j h = record {
  head = refl;
  some = refl;
  group = refl;
  start = λ place ts. refl;
  part =
      λ ts. refl;
}
key_jumps keywords.Next j h = record {
  head = refl;
  some = refl;
  group = refl;
  start = λ place ts. refl;
  part =
      λ ts. refl;
}
key_jumps k j h = differs (sym (ap is_some h))

jumps : (w : Word) (j : Jump) → jump_at w ≡ Some j → Jumps w
jumps (words.Key k) j h = key_jumps k j h
jumps w j h = differs (sym (ap is_some h))

-- where a command may stand and no group of targets stands, the first word says what begins
command_there : (place : Place) (ts : Tokens) (s : Start) → is_target_group ts ≡ false → allows_command place ≡ true
    → command_start ts ≡ s → other_start place ts ≡ s
command_there place ts s group may start =
    let free : (is_statement place && is_target_group ts) ≡ false = rw group (and_false (is_statement place)) in
    rw free (rw may start)

jump_command : (ts : Tokens) (j : Jump) → jump_at (first ts) ≡ Some j → begins_value (first (behind ts)) ≡ true
    → command_start ts ≡ starts.Jump j
unfolding command_start
jump_command ts j there begins = rw there (rw begins refl)

jump_there : (place : Place) (ts : Tokens) (j : Jump) → jump_at (first ts) ≡ Some j → allows_command place ≡ true
    → begins_value (first (behind ts)) ≡ true → start_at place ts ≡ starts.Jump j
unfolding start_at
jump_there place ts j there may begins =
    let w = jumps (first ts) j there in
    w.start place ts ∙ command_there place ts (starts.Jump j) (rw w.group refl) may (jump_command ts j there begins)

yield_command : (ts : Tokens) → first ts ≡ words.Key keywords.Yield → begins_argument (behind ts) ≡ true
    → command_start ts ≡ starts.Yield
unfolding command_start
yield_command ts is begins = rw is (rw begins refl)

yield_other : (w : Word) (place : Place) (ts : Tokens) → w ≡ words.Key keywords.Yield
    → start_of w place ts ≡ other_start place ts
yield_other w place ts e = rw e refl

yield_there : (place : Place) (ts : Tokens) → first ts ≡ words.Key keywords.Yield → allows_command place ≡ true
    → begins_argument (behind ts) ≡ true → start_at place ts ≡ starts.Yield
unfolding start_at
yield_there place ts is may begins =
    let same : start_of (first ts) place ts ≡ other_start place ts = yield_other (first ts) place ts is in
    same ∙ command_there place ts starts.Yield (rw is refl) may (yield_command ts is begins)

-- no block stands where an argument begins
word_no_block : (takes : Bool) (w : Word) → not (is_open_brace w) ≡ true → begins_value w ≡ true
    → block_of takes w ≡ None
word_no_block takes (words.Mark marks.OpenBrace) h g = differs (sym h)
word_no_block takes (words.Key keywords.Do) h g = differs (sym g)
word_no_block takes w h g = refl

pub argument_no_block : (owner : DoOwner) (ts : Tokens) → begins_argument ts ≡ true → block_at owner ts ≡ None
argument_no_block owner ts h =
    let a = argument_begins ts h in
    word_no_block (call_takes owner) (first ts) a.0 a.1

module _ (place : Place) (owner : DoOwner) (names : Names) (ts : Tokens) where
  pub jump_list_fact : (j : Jump) (known : Names) (rest : Tokens) (l : ListNode) → jump_at (first ts) ≡ Some j
      → allows_command place ≡ true → begins_value (first (behind ts)) ≡ true
      → Fact (Listing owner l) names (behind ts) known rest
      → is_none l.block ≡ true
      → Fact (Command place owner (jump_node j (place_at ts) (whole_items l.items l.pairs))) names ts known
      rest
  unfolding part_at phrase_by jump_list
  jump_list_fact j known rest l there may begun inner none =
      let w = jumps (first ts) j there in
      let one = word_taken (first ts) ts refl w.some in
      let fewer = inner.0 in (
        omega arith,
        head_begins (first ts) w.head,
        λ d room. (
          w.part ts,
          λ group free.
              let started = jump_there place ts j there may begun in
              let read = list_below d names known (behind ts) rest owner l (omega arith) inner (omega arith) free in
              rw started (rw read (rw none refl)),
        ),
      )

  pub yield_list_fact : (known : Names) (rest : Tokens) (l : ListNode) → first ts ≡ words.Key keywords.Yield
      → allows_command place ≡ true → begins_argument (behind ts) ≡ true
      → Fact (Listing (in_command owner) l) names (behind ts) known rest → is_none l.block ≡ true
      → Fact (Command place owner (node.yield_node (place_at ts) (items_of (whole_items l.items l.pairs)))) names ts
      known rest
  unfolding part_at phrase_by jump_list
  yield_list_fact known rest l is may begins inner none =
      let one = word_taken (words.Key keywords.Yield) ts is refl in
      let fewer = inner.0 in (
        omega arith,
        rw is refl,
        λ d room. (
          rw is refl,
          λ group free.
              let started = yield_there place ts is may begins in
              let read = list_below d names known (behind ts) rest (in_command owner) l (omega arith) inner
              (omega arith) free in
              rw started (rw read (rw none refl)),
        ),
      )
