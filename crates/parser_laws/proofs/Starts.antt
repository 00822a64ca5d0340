-- What the first word of a phrase says where a phrase begins with an operand, and where with !.
use Rattle.std.proofs.Common.{◌≡◌, Bool, true, false, ◌&&◌, if◌then◌else◌, refl, sym, ap, ◌∙◌}
use Rattle.rb_syntax.specs.declared.keyword.Keyword.{Keyword}
use Rattle.rb_syntax.specs.declared.keyword.Keyword.TheVariants as keywords
use Rattle.rb_syntax.specs.declared.punctuator.Punctuator.TheVariants as marks
use Rattle.parser_tokens.specs.Tokens.{first, behind}
use Rattle.parser_tokens.specs.Starts.{begins_value, is_open_parenthesis, jump_at, begins_argument}
use Rattle.parser_tokens.specs.declared.starts.Jump.{Jump}
use Rattle.parser_tokens.specs.declared.word.Word.{Word}
use Rattle.parser_tokens.specs.declared.word.Word.TheVariants as words
use Rattle.parser_ahead.specs.Groups.{is_target_group}
use Rattle.parser_ahead.specs.Primary.{allows_command, is_statement, yield_start, jump_start, command_or_jump, command_start, other_start, start_of, start_at}
use Rattle.parser_ahead.specs.declared.primary.Place.{Place}
use Rattle.parser_ahead.specs.declared.primary.Place.TheVariants as places
use Rattle.parser_ahead.specs.declared.primary.Start.{Start}
use Rattle.parser_ahead.specs.declared.primary.Start.TheVariants as starts
use Rattle.parser_forms.specs.Reading.{Tokens}
use Rattle.parser_laws.specs.Rules.{is_jump, begins_jump}
use Rattle.parser_laws.proofs.Results.{differs, and_false}

abbrev is_not_start : Start → Bool
is_not_start starts.Not = true
is_not_start starts.Defined = false
is_not_start (starts.Jump j) = false
is_not_start starts.Yield = false
is_not_start starts.Targets = false
is_not_start starts.Operand = false

abbrev is_operand_start : Start → Bool
is_operand_start starts.Operand = true
is_operand_start starts.Not = false
is_operand_start starts.Defined = false
is_operand_start (starts.Jump j) = false
is_operand_start starts.Yield = false
is_operand_start starts.Targets = false

one_of : (b : Bool) (x y : Start) → is_not_start x ≡ false → is_not_start y ≡ false
    → is_not_start (if b then x else y) ≡ false
one_of true x y f g = f
one_of false x y f g = g

yield_no_not : (ts : Tokens) → is_not_start (yield_start ts) ≡ false
yield_no_not ts = one_of (begins_argument ts) _ _ refl refl

jump_no_not : (j : Jump) (ts : Tokens) → is_not_start (jump_start j ts) ≡ false
jump_no_not j ts = one_of (begins_value (first ts)) _ _ refl refl

key_no_not : (k : Keyword) (ts : Tokens) → is_not_start
    (command_or_jump (jump_at (words.Key k)) (words.Key k) ts) ≡ false
key_no_not keywords.Return ts = jump_no_not _ ts
key_no_not keywords.Break ts = jump_no_not _ ts
key_no_not keywords.Next ts = jump_no_not _ ts
key_no_not keywords.Yield ts = yield_no_not ts
key_no_not k ts = refl

command_not : (w : Word) (ts : Tokens) → is_not_start (command_or_jump (jump_at w) w ts) ≡ true
    → w ≡ words.Mark marks.Not
command_not (words.Mark marks.Not) ts h = refl
command_not (words.Key k) ts h = differs (sym h ∙ key_no_not k ts)
command_not w ts h = differs (sym h)

other_not : (place : Place) (ts : Tokens) → is_not_start (other_start place ts) ≡ true
    → (first ts ≡ words.Mark marks.Not) × (allows_command place ≡ true)
unfolding command_start
other_not place ts h = by_tests (is_statement place && is_target_group ts) (allows_command place) refl h
  where
    by_tests : (b c : Bool) → allows_command place ≡ c
        → is_not_start (if b then starts.Targets else (if c then command_start ts else starts.Operand)) ≡ true
        → (first ts ≡ words.Mark marks.Not) × (allows_command place ≡ true)
    by_tests true c there h = differs (sym h)
    by_tests false true there h = (command_not (first ts) (behind ts) h, there)
    by_tests false false there h = differs (sym h)

star_not : (b : Bool) (place : Place) (ts : Tokens)
    → is_not_start (if b then starts.Targets else other_start place ts) ≡ true → (first ts ≡ words.Mark marks.Not)
    × (allows_command place ≡ true)
star_not true place ts h = differs (sym h)
star_not false place ts h = other_not place ts h

start_not : (w : Word) (place : Place) (ts : Tokens) → is_not_start (start_of w place ts) ≡ true
    → (first ts ≡ words.Mark marks.Not) × (allows_command place ≡ true)
start_not (words.Key keywords.Defined) place ts h =
    differs (sym h ∙ one_of (is_open_parenthesis (first (behind ts))) _ _ refl refl)
start_not (words.Mark marks.Star) place ts h = star_not (is_statement place) place ts h
start_not w place ts h = other_not place ts h

-- where a phrase begins with !, it does so where a command may stand
pub not_there : (place : Place) (ts : Tokens) → start_at place ts ≡ starts.Not → (first ts ≡ words.Mark marks.Not)
    × (allows_command place ≡ true)
unfolding start_at
not_there place ts h = start_not (first ts) place ts (ap is_not_start h)

other_operand : (place : Place) (ts : Tokens) → is_operand_start (other_start place ts) ≡ true
    → (is_statement place && is_target_group ts) ≡ false
other_operand place ts h = by_test (is_statement place && is_target_group ts) h
  where
    by_test : (b : Bool) → is_operand_start (if b then starts.Targets else
        (if allows_command place then command_start ts else starts.Operand)) ≡ true → b ≡ false
    by_test true h = differs (sym h)
    by_test false h = refl

star_operand : (b : Bool) (place : Place) (ts : Tokens)
    → is_operand_start (if b then starts.Targets else other_start place ts) ≡ true
    → (is_statement place && is_target_group ts) ≡ false
star_operand true place ts h = differs (sym h)
star_operand false place ts h = other_operand place ts h

start_operand : (w : Word) (place : Place) (ts : Tokens) → first ts ≡ w → is_operand_start (start_of w place ts) ≡ true
    → (is_statement place && is_target_group ts) ≡ false
start_operand (words.Key keywords.Defined) place ts there h = rw there (and_false (is_statement place))
start_operand (words.Mark marks.Star) place ts there h = star_operand (is_statement place) place ts h
start_operand w place ts there h = other_operand place ts h

-- where a phrase begins with an operand, no group of targets stands there
pub operand_there : (place : Place) (ts : Tokens) → start_at place ts ≡ starts.Operand
    → (is_statement place && is_target_group ts) ≡ false
unfolding start_at
operand_there place ts h = start_operand (first ts) place ts refl (ap is_operand_start h)

jump_operand : (j : Jump) (b : Bool) → is_operand_start (if b then starts.Jump j else starts.Operand) ≡ true → b ≡ false
jump_operand j true h = differs (sym h)
jump_operand j false h = refl

yield_operand : (b : Bool) → is_operand_start (if b then starts.Yield else starts.Operand) ≡ true → b ≡ false
yield_operand true h = differs (sym h)
yield_operand false h = refl

key_operand : (k : Keyword) (ts : Tokens) → is_operand_start
    (command_or_jump (jump_at (words.Key k)) (words.Key k) ts) ≡ true → is_jump (words.Key k) ts ≡ false
key_operand keywords.Return ts h = jump_operand _ (begins_value (first ts)) h
key_operand keywords.Break ts h = jump_operand _ (begins_value (first ts)) h
key_operand keywords.Next ts h = jump_operand _ (begins_value (first ts)) h
key_operand keywords.Yield ts h = yield_operand (begins_argument ts) h
key_operand k ts h = refl

command_operand : (w : Word) (ts : Tokens) → is_operand_start (command_or_jump (jump_at w) w ts) ≡ true
    → is_jump w ts ≡ false
command_operand (words.Key k) ts h = key_operand k ts h
command_operand w ts h = refl

other_jump : (place : Place) (ts : Tokens) → is_operand_start (other_start place ts) ≡ true
    → begins_jump place ts ≡ false
unfolding command_start
other_jump place ts h = by_tests (is_statement place && is_target_group ts) (allows_command place) h
  where
    by_tests : (b c : Bool) → is_operand_start
        (if b then starts.Targets else (if c then command_start ts else starts.Operand)) ≡ true
        → (c && is_jump (first ts) (behind ts)) ≡ false
    by_tests true c h = differs (sym h)
    by_tests false true h = command_operand (first ts) (behind ts) h
    by_tests false false h = refl

star_jump : (b : Bool) (place : Place) (ts : Tokens)
    → is_operand_start (if b then starts.Targets else other_start place ts) ≡ true → begins_jump place ts ≡ false
star_jump true place ts h = differs (sym h)
star_jump false place ts h = other_jump place ts h

start_jump : (w : Word) (place : Place) (ts : Tokens) → first ts ≡ w → is_operand_start (start_of w place ts) ≡ true
    → begins_jump place ts ≡ false
start_jump (words.Key keywords.Defined) place ts there h = rw there (and_false (allows_command place))
start_jump (words.Mark marks.Star) place ts there h = star_jump (is_statement place) place ts h
start_jump w place ts there h = other_jump place ts h

-- nor a jump with a list
pub no_jump_there : (place : Place) (ts : Tokens) → start_at place ts ≡ starts.Operand → begins_jump place ts ≡ false
unfolding start_at
no_jump_there place ts h = start_jump (first ts) place ts refl (ap is_operand_start h)

-- neither stands where it begins with !
pub no_jump : (place : Place) (ts : Tokens) → first ts ≡ words.Mark marks.Not → begins_jump place ts ≡ false
no_jump place ts there = rw there (and_false (allows_command place))

pub no_group : (place : Place) (ts : Tokens) → first ts ≡ words.Mark marks.Not
    → (is_statement place && is_target_group ts) ≡ false
no_group place ts there = rw there (and_false (is_statement place))

bang_command : (ts : Tokens) → first ts ≡ words.Mark marks.Not → command_start ts ≡ starts.Not
unfolding command_start
bang_command ts is = rw is refl

by_bang : (b c : Bool) (s : Start) → b ≡ false → s ≡ starts.Not
    → (if b then starts.Targets else (if c then s else starts.Operand)) ≡ (if c then starts.Not else starts.Operand)
by_bang true c s group there = differs group
by_bang false c s group there = ap (λ x. if c then x else starts.Operand) there

bang_start : (place : Place) (ts : Tokens) → first ts ≡ words.Mark marks.Not
    → start_at place ts ≡ (if allows_command place then starts.Not else starts.Operand)
unfolding start_at
bang_start place ts is = ap (λ w. start_of w place ts) is ∙ by_bang (is_statement place && is_target_group ts)
    (allows_command place) (command_start ts) (no_group place ts is) (bang_command ts is)

no_commands : (place : Place) → is_operand_start (if allows_command place then starts.Not else starts.Operand) ≡ true
    → place ≡ places.Argument
no_commands places.Statement h = differs (sym h)
no_commands places.Command h = differs (sym h)
no_commands places.Argument h = refl

-- an operand begins with ! only where no command may stand
pub no_bang : (place : Place) (ts : Tokens) → start_at place ts ≡ starts.Operand → first ts ≡ words.Mark marks.Not
    → place ≡ places.Argument
no_bang place ts h is = no_commands place (ap is_operand_start (sym (bang_start place ts is) ∙ h))

-- nor where it begins with defined?
pub defined_alone : (place : Place) (ts : Tokens) → first ts ≡ words.Key keywords.Defined
    → (is_statement place && is_target_group ts) ≡ false
defined_alone place ts there = rw there (and_false (is_statement place))

abbrev is_defined_start : Start → Bool
is_defined_start starts.Defined = true
is_defined_start starts.Not = false
is_defined_start (starts.Jump j) = false
is_defined_start starts.Yield = false
is_defined_start starts.Targets = false
is_defined_start starts.Operand = false

neither : (b : Bool) (x y : Start) → is_defined_start x ≡ false → is_defined_start y ≡ false
    → is_defined_start (if b then x else y) ≡ false
neither true x y f g = f
neither false x y f g = g

key_undefined : (k : Keyword) (ts : Tokens) → is_defined_start
    (command_or_jump (jump_at (words.Key k)) (words.Key k) ts) ≡ false
key_undefined keywords.Return ts = neither (begins_value (first ts)) _ _ refl refl
key_undefined keywords.Break ts = neither (begins_value (first ts)) _ _ refl refl
key_undefined keywords.Next ts = neither (begins_value (first ts)) _ _ refl refl
key_undefined keywords.Yield ts = neither (begins_argument ts) _ _ refl refl
key_undefined k ts = refl

command_undefined : (w : Word) (ts : Tokens) → is_defined_start (command_or_jump (jump_at w) w ts) ≡ false
command_undefined (words.Mark marks.Not) ts = refl
command_undefined (words.Key k) ts = key_undefined k ts
command_undefined w ts = refl

other_undefined : (place : Place) (ts : Tokens) → is_defined_start (other_start place ts) ≡ false
unfolding command_start
other_undefined place ts =
    neither (is_statement place && is_target_group ts) _ _ refl
    (neither (allows_command place) (command_start ts) starts.Operand (command_undefined (first ts) (behind ts))
    refl)

start_defined : (w : Word) (place : Place) (ts : Tokens) → is_defined_start (start_of w place ts) ≡ true
    → (w ≡ words.Key keywords.Defined) × (is_open_parenthesis (first (behind ts)) ≡ false)
start_defined (words.Key keywords.Defined) place ts h = by_parenthesis (is_open_parenthesis (first (behind ts))) refl h
  where
    by_parenthesis : (b : Bool) → is_open_parenthesis (first (behind ts)) ≡ b
        → is_defined_start (if b then starts.Operand else starts.Defined) ≡ true
        → (words.Key keywords.Defined ≡ words.Key keywords.Defined) × (is_open_parenthesis (first (behind ts)) ≡ false)
    by_parenthesis true there g = differs (sym g)
    by_parenthesis false there g = (refl, there)
start_defined (words.Mark marks.Star) place ts h =
    differs (sym h ∙ neither (is_statement place) _ _ refl (other_undefined place ts))
start_defined w place ts h = differs (sym h ∙ other_undefined place ts)

-- where a phrase begins with defined?, no parenthesis follows
pub defined_there : (place : Place) (ts : Tokens) → start_at place ts ≡ starts.Defined
    → (first ts ≡ words.Key keywords.Defined) × (is_open_parenthesis (first (behind ts)) ≡ false)
unfolding start_at
defined_there place ts h = start_defined (first ts) place ts (ap is_defined_start h)
