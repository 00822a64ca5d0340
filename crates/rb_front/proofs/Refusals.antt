-- The causes of the front exclude each other, and a text that is refused has no core.
use Rattle.std.proofs.Common.{min, ◌≡◌, ◌≢◌, ℕ, ◌≤◌, ◌<◌, nat_le, true, false, List, length, Option, Some, None, Result, Ok, Err, refl, sym, ◌∙◌, ap, arith}
use Rattle.std.proofs.lemmas.Bool.Decides.{nat_tests}
use Rattle.line_ends.specs.Lines.{as_read, place_in}
use Rattle.line_ends.proofs.Plain.{within}
use Rattle.rb_syntax.specs.declared.token.Token.{Token}
use Rattle.rb_lexer.specs.Lexing.{tokens_of}
use Rattle.lexer_depth.specs.Levels.{deep}
use Rattle.parser_tree.specs.Parts.{PlainNode}
use Rattle.parser_checks.specs.Places.{misplaced}
use Rattle.std.specs.Option.{option_map}
use Rattle.rb_parser.specs.Program.{tree_of, Misses}
use Rattle.lower_outside.specs.Search.{found}
use Rattle.lower_outside.specs.declared.construct.Found.{Found}
use Rattle.rb_front.specs.Front.{IsTree, IsNoProgram, IsTooDeep, HasNoCore, Refuses, core_within, core_of_tree, core_of_tokens, core_of_lines, core_of}
use Rattle.rb_front.specs.Errors.{placed}
use Rattle.rb_front.specs.declared.error.FrontError.{FrontError}
use Rattle.rb_front.specs.declared.error.FrontError.TheVariants.{TooLong, Syntax, TooDeep, Outside, NoMemory}
use Rattle.rb_front.proofs.Misplaced.{one_place, not_missed}

missed_within : (o : Option ℕ) (f : ℕ → ℕ) (at : ℕ) (c : Option Found) (n : PlainNode) → option_map f o ≡ Some at
    → core_within o c n ≡ None
missed_within None f at c n h = absurd (cc h)
missed_within (Some word) f at c n h = refl

-- tokens that are refused for a place have no core
missed_core : (ts : List Token) (size at : ℕ) (r : Result PlainNode ℕ) → Misses ts size at r → core_of_tree r ≡ None
missed_core ts size at (Err place) h = refl
missed_core ts size at (Ok n) h = missed_within (misplaced n.1) (λ at. min at size) at (found None n.1) n h

syntax_core : (r : Result (List Token) ℕ) (size at : ℕ) → IsNoProgram r size at → core_of_tokens r size ≡ None
syntax_core (Err place) size at h = refl
syntax_core (Ok tokens) size at (within, misses) =
    let fits : nat_le (deep tokens) 256 ≡ true = grind (arith, nat_tests) in
    rw fits (missed_core tokens size at (tree_of tokens size) misses)

deep_core : (r : Result (List Token) ℕ) (size : ℕ) → IsTooDeep r → core_of_tokens r size ≡ None
deep_core (Err place) size h = absurd h
deep_core (Ok tokens) size past =
    let over : nat_le (deep tokens) 256 ≡ false = grind (arith, nat_tests) in
    rw over

outside_within : (o : Option ℕ) (c : Option Found) (n : PlainNode) (f : Found) → c ≡ Some f → core_within o c n ≡ None
outside_within None None n f is = absurd (cc is)
outside_within None (Some g) n f is = refl
outside_within (Some word) None n f is = refl
outside_within (Some word) (Some g) n f is = refl

outside_tree : (r : Result PlainNode ℕ) (n : PlainNode) (f : Found) → r ≡ Ok n → found None n.1 ≡ Some f
    → core_of_tree r ≡ None
outside_tree (Err place) n f is there = absurd (cc is)
outside_tree (Ok m) n f is there =
    let same : m ≡ n = cc is in
    outside_within (misplaced m.1) (found None m.1) m f (ap (λ x. found None x.1) same ∙ there)

outside_core : (r : Result (List Token) ℕ) (size : ℕ) (n : PlainNode) (f : Found) → IsTree r size n
    → found None n.1 ≡ Some f → core_of_tokens r size ≡ None
outside_core (Err place) size n f h there = absurd h
outside_core (Ok tokens) size n f (within, is, well) there =
    let fits : nat_le (deep tokens) 256 ≡ true = grind (arith, nat_tests) in
    rw fits (outside_tree (tree_of tokens size) n f is there)

-- a text within its size has the core of its lines
within_size : (text : List ℕ) → length text ≤ 16777216 → core_of text ≡ core_of_lines (as_read text)
unfolding core_of
within_size text h =
    let fits : nat_le (length text) 16777216 ≡ true = grind (arith, nat_tests) in
    rw fits

past_size : (text : List ℕ) → 16777216 < length text → core_of text ≡ None
unfolding core_of
past_size text h =
    let over : nat_le (length text) 16777216 ≡ false = grind (arith, nat_tests) in
    rw over

-- a text that the front refuses has no core
pub refused_core : (text : List ℕ) (e : FrontError) → e ≢ NoMemory → Refuses text e → core_of text ≡ None
refused_core text TooLong other h = past_size text h
refused_core text (Syntax at) other (size, (k, none, is, within)) =
    within_size text size ∙ syntax_core (tokens_of (as_read text)) (length (as_read text)) k none
refused_core text TooDeep other (size, past) =
    within_size text size ∙ deep_core (tokens_of (as_read text)) (length (as_read text)) past
refused_core text (Outside what at) other (size, (k, (n, tree, there), is)) =
    within_size text size ∙ outside_core (tokens_of (as_read text)) (length (as_read text)) n _ tree there
refused_core text NoMemory other h = absurd (other refl)

-- a text within its size is refused where its lines have no core
pub refused_lines : (text : List ℕ) (e : FrontError) → length text ≤ 16777216 → HasNoCore (as_read text) e
    → Refuses text (placed text e)
refused_lines text TooLong size h = absurd h
refused_lines text (Syntax at) size h = (size, (at, h, refl, within text at))
refused_lines text TooDeep size h = (size, h)
refused_lines text (Outside what at) size h = (size, (at, h, refl))
refused_lines text NoMemory size h = tt

-- one place without a tree
same_place : (r : Result (List Token) ℕ) (size a b : ℕ) → IsNoProgram r size a → IsNoProgram r size b → a ≡ b
same_place (Err place) size a b g h = g ∙ sym h
same_place (Ok tokens) size a b (within, g) (again, h) = one_place tokens size a b (tree_of tokens size) g h

not_deep : (r : Result (List Token) ℕ) (size at : ℕ) → IsNoProgram r size at → IsTooDeep r → ⊥
not_deep (Err place) size at g h = h
not_deep (Ok tokens) size at (within, g) h = absurd (omega arith)

not_tree : (r : Result (List Token) ℕ) (size at : ℕ) (n : PlainNode) → IsNoProgram r size at → IsTree r size n → ⊥
not_tree (Err place) size at n g h = h
not_tree (Ok tokens) size at n (within, g) (again, is, well) =
    not_missed tokens size at (tree_of tokens size) n g is well

shallow : (r : Result (List Token) ℕ) (size : ℕ) (n : PlainNode) → IsTooDeep r → IsTree r size n → ⊥
shallow (Err place) size n g h = g
shallow (Ok tokens) size n g (within, is, well) = absurd (omega arith)

same_node : (r : Result (List Token) ℕ) (size : ℕ) (n m : PlainNode) → IsTree r size n → IsTree r size m → n ≡ m
same_node (Err place) size n m g h = absurd g
same_node (Ok tokens) size n m (within, is, well) (again, too, right) = cc (sym is ∙ too)

same_construct : (n m : PlainNode) (f g : Found) → n ≡ m → found None n.1 ≡ Some f → found None m.1 ≡ Some g
    → Outside f.what f.at ≡ Outside g.what g.at
same_construct n m f g same is too =
    let there : f ≡ g = cc (sym is ∙ ap (λ x. found None x.1) same ∙ too) in
    ap (λ (x : Found). Outside x.what x.at) there

-- the front refuses a text for one cause
pub one_front : (text : List ℕ) (e d : FrontError) → e ≢ NoMemory → d ≢ NoMemory → Refuses text e → Refuses text d
    → e ≡ d
one_front text TooLong TooLong p q g h = refl
one_front text TooLong (Syntax b) p q g (size, h) = absurd (omega arith)
one_front text TooLong TooDeep p q g (size, h) = absurd (omega arith)
one_front text TooLong (Outside w b) p q g (size, h) = absurd (omega arith)
one_front text TooLong NoMemory p q g h = absurd (q refl)
one_front text (Syntax a) TooLong p q (size, g) h = absurd (omega arith)
one_front text (Syntax a) (Syntax b) p q (size, (k, g, is, within)) (again, (l, h, too, also)) =
    ap Syntax (is
    ∙ ap (place_in text) (same_place (tokens_of (as_read text)) (length (as_read text)) k l g h) ∙ sym too)
one_front text (Syntax a) TooDeep p q (size, (k, g, is, within)) (again, h) =
    absurd (not_deep (tokens_of (as_read text)) (length (as_read text)) k g h)
one_front text (Syntax a) (Outside w b) p q (size, (k, g, is, within)) (again, (l, (n, h, there), too)) =
    absurd (not_tree (tokens_of (as_read text)) (length (as_read text)) k n g h)
one_front text (Syntax a) NoMemory p q g h = absurd (q refl)
one_front text TooDeep TooLong p q (size, g) h = absurd (omega arith)
one_front text TooDeep (Syntax b) p q (size, g) (again, (l, h, too, within)) =
    absurd (not_deep (tokens_of (as_read text)) (length (as_read text)) l h g)
one_front text TooDeep TooDeep p q g h = refl
one_front text TooDeep (Outside w b) p q (size, g) (again, (l, (n, h, there), too)) =
    absurd (shallow (tokens_of (as_read text)) (length (as_read text)) n g h)
one_front text TooDeep NoMemory p q g h = absurd (q refl)
one_front text (Outside v a) TooLong p q (size, g) h = absurd (omega arith)
one_front text (Outside v a) (Syntax b) p q (size, (k, (n, g, here), is)) (again, (l, h, too, within)) =
    absurd (not_tree (tokens_of (as_read text)) (length (as_read text)) l n h g)
one_front text (Outside v a) TooDeep p q (size, (k, (n, g, here), is)) (again, h) =
    absurd (shallow (tokens_of (as_read text)) (length (as_read text)) n h g)
one_front text (Outside v a) (Outside w b) p q (size, (k, (n, g, here), is)) (again, (l, (m, h, there), too)) =
    ap (Outside v) is
    ∙ ap (placed text) (same_construct n m _ _
    (same_node (tokens_of (as_read text)) (length (as_read text)) n m g h) here there)
    ∙ sym (ap (Outside w) too)
one_front text (Outside v a) NoMemory p q g h = absurd (q refl)
one_front text NoMemory d p q g h = absurd (p refl)
