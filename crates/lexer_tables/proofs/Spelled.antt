-- The table of keywords against their spelling.
use Rattle.std.proofs.Common.{◌≡◌, ℕ, List, length, codes, Bool, true, false, Option, Some, None, refl, sym, ap, eqb, cond, subst, ◌∙◌, IfSome}
use Rattle.std.specs.Str.{bytes_eq}
use Rattle.std.proofs.lemmas.Slice.Eq.{bytes_eq-Decides}
use Rattle.rb_syntax.specs.declared.keyword.Keyword.{Keyword}
use Rattle.rb_syntax.specs.declared.keyword.Keyword.TheVariants as keys
use Rattle.lexer_tables.specs.Keyword.{or_else, of_two_bytes, of_three_bytes, of_four_bytes, of_five_bytes_to_class, of_five_bytes_from_elsif, of_five_bytes, of_six_bytes, of_more_bytes, keyword_of}
use Rattle.lexer_tables.specs.Spelling.{keyword_spelling}

-- a keyword is found by its spelling
found : (k : Keyword) → keyword_of (keyword_spelling k) ≡ Some k
unfolding keyword_of of_two_bytes of_three_bytes of_four_bytes of_five_bytes of_five_bytes_to_class of_five_bytes_from_elsif of_six_bytes of_more_bytes
found keys.EncodingName = refl
found keys.FileName = refl
found keys.LineNumber = refl
found keys.BeginBlock = refl
found keys.EndBlock = refl
found keys.Alias = refl
found keys.And = refl
found keys.Begin = refl
found keys.Break = refl
found keys.Case = refl
found keys.Class = refl
found keys.Def = refl
found keys.Defined = refl
found keys.Do = refl
found keys.Else = refl
found keys.Elsif = refl
found keys.End = refl
found keys.Ensure = refl
found keys.False = refl
found keys.For = refl
found keys.If = refl
found keys.In = refl
found keys.Module = refl
found keys.Next = refl
found keys.Nil = refl
found keys.Not = refl
found keys.Or = refl
found keys.Redo = refl
found keys.Rescue = refl
found keys.Retry = refl
found keys.Return = refl
found keys.SelfReference = refl
found keys.Super = refl
found keys.Then = refl
found keys.True = refl
found keys.Undef = refl
found keys.Unless = refl
found keys.Until = refl
found keys.When = refl
found keys.While = refl
found keys.Yield = refl

pub found_by : (word : List ℕ) (o : Option Keyword) → o ≡ keyword_of word → (k : Keyword) → word ≡ keyword_spelling k
    → o ≡ Some k
found_by word o same k is = same ∙ ap keyword_of is ∙ found k

-- what holds of the one where a test is true and of the other where it is false
either : (b : Bool) (x y : Option Keyword) (j : Keyword) (Q : Type 0) → cond b x y ≡ Some j → (x ≡ Some j → Q)
    → (y ≡ Some j → Q) → Q
either true x y j Q is first other = first is
either false x y j Q is first other = other is

one_case : (b : Bool) (word spelling : List ℕ) (k j : Keyword) (rest : Option Keyword) → bytes_eq word spelling ≡ b
    → spelling ≡ keyword_spelling k
    → cond b (Some k) rest ≡ Some j → (rest ≡ Some j → word ≡ keyword_spelling j) → word ≡ keyword_spelling j
one_case true word spelling k j rest same spelled is other =
    let k-is : k ≡ j = cc in
    let word-is : word ≡ spelling = (bytes_eq-Decides word spelling).0 same in
    subst (λ (x : Keyword). word ≡ keyword_spelling x) k-is (word-is ∙ spelled)
one_case false word spelling k j rest same spelled is other = other is

one : (word spelling : List ℕ) (k j : Keyword) (rest : Option Keyword) → spelling ≡ keyword_spelling k
    → cond (bytes_eq word spelling) (Some k) rest ≡ Some j
    → (rest ≡ Some j → word ≡ keyword_spelling j) → word ≡ keyword_spelling j
one word spelling k j rest spelled is other = one_case (bytes_eq word spelling) word spelling k j rest refl spelled is
    other

of_two_bytes-spelled : (word : List ℕ) (j : Keyword) → of_two_bytes word ≡ Some j → word ≡ keyword_spelling j
unfolding of_two_bytes
of_two_bytes-spelled word j is =
    one word (codes "do") keys.Do j _ refl is (λ h1.
    one word (codes "if") keys.If j _ refl h1 (λ h2.
    one word (codes "in") keys.In j _ refl h2 (λ h3.
    one word (codes "or") keys.Or j _ refl h3 (λ h4.
    absurd cc))))

of_three_bytes-spelled : (word : List ℕ) (j : Keyword) → of_three_bytes word ≡ Some j → word ≡ keyword_spelling j
unfolding of_three_bytes
of_three_bytes-spelled word j is =
    one word (codes "END") keys.EndBlock j _ refl is (λ h1.
    one word (codes "and") keys.And j _ refl h1 (λ h2.
    one word (codes "def") keys.Def j _ refl h2 (λ h3.
    one word (codes "end") keys.End j _ refl h3 (λ h4.
    one word (codes "for") keys.For j _ refl h4 (λ h5.
    one word (codes "nil") keys.Nil j _ refl h5 (λ h6.
    one word (codes "not") keys.Not j _ refl h6 (λ h7.
    absurd cc)))))))

of_four_bytes-spelled : (word : List ℕ) (j : Keyword) → of_four_bytes word ≡ Some j → word ≡ keyword_spelling j
unfolding of_four_bytes
of_four_bytes-spelled word j is =
    one word (codes "case") keys.Case j _ refl is (λ h1.
    one word (codes "else") keys.Else j _ refl h1 (λ h2.
    one word (codes "next") keys.Next j _ refl h2 (λ h3.
    one word (codes "redo") keys.Redo j _ refl h3 (λ h4.
    one word (codes "self") keys.SelfReference j _ refl h4 (λ h5.
    one word (codes "then") keys.Then j _ refl h5 (λ h6.
    one word (codes "true") keys.True j _ refl h6 (λ h7.
    one word (codes "when") keys.When j _ refl h7 (λ h8.
    absurd cc))))))))

of_five_bytes_to_class-spelled : (word : List ℕ) (j : Keyword) → of_five_bytes_to_class word ≡ Some j
    → word ≡ keyword_spelling j
unfolding of_five_bytes_to_class
of_five_bytes_to_class-spelled word j is =
    one word (codes "BEGIN") keys.BeginBlock j _ refl is (λ h1.
    one word (codes "alias") keys.Alias j _ refl h1 (λ h2.
    one word (codes "begin") keys.Begin j _ refl h2 (λ h3.
    one word (codes "break") keys.Break j _ refl h3 (λ h4.
    one word (codes "class") keys.Class j _ refl h4 (λ h5.
    absurd cc)))))

of_five_bytes_from_elsif-spelled : (word : List ℕ) (j : Keyword) → of_five_bytes_from_elsif word ≡ Some j
    → word ≡ keyword_spelling j
unfolding of_five_bytes_from_elsif
of_five_bytes_from_elsif-spelled word j is =
    one word (codes "elsif") keys.Elsif j _ refl is (λ h1.
    one word (codes "false") keys.False j _ refl h1 (λ h2.
    one word (codes "retry") keys.Retry j _ refl h2 (λ h3.
    one word (codes "super") keys.Super j _ refl h3 (λ h4.
    one word (codes "undef") keys.Undef j _ refl h4 (λ h5.
    one word (codes "until") keys.Until j _ refl h5 (λ h6.
    one word (codes "while") keys.While j _ refl h6 (λ h7.
    one word (codes "yield") keys.Yield j _ refl h7 (λ h8.
    absurd cc))))))))

of_six_bytes-spelled : (word : List ℕ) (j : Keyword) → of_six_bytes word ≡ Some j → word ≡ keyword_spelling j
unfolding of_six_bytes
of_six_bytes-spelled word j is =
    one word (codes "ensure") keys.Ensure j _ refl is (λ h1.
    one word (codes "module") keys.Module j _ refl h1 (λ h2.
    one word (codes "rescue") keys.Rescue j _ refl h2 (λ h3.
    one word (codes "return") keys.Return j _ refl h3 (λ h4.
    one word (codes "unless") keys.Unless j _ refl h4 (λ h5.
    absurd cc)))))

of_more_bytes-spelled : (word : List ℕ) (j : Keyword) → of_more_bytes word ≡ Some j → word ≡ keyword_spelling j
unfolding of_more_bytes
of_more_bytes-spelled word j is =
    one word (codes "__ENCODING__") keys.EncodingName j _ refl is (λ h1.
    one word (codes "__FILE__") keys.FileName j _ refl h1 (λ h2.
    one word (codes "__LINE__") keys.LineNumber j _ refl h2 (λ h3.
    one word (codes "defined?") keys.Defined j _ refl h3 (λ h4.
    absurd cc))))

five_case : (first second : Option Keyword) (word : List ℕ) (j : Keyword) → or_else first second ≡ Some j
    → (first ≡ Some j → word ≡ keyword_spelling j) → (second ≡ Some j → word ≡ keyword_spelling j)
    → word ≡ keyword_spelling j
five_case (Some k) second word j is one other = one is
five_case None second word j is one other = other is

of_five_bytes-spelled : (word : List ℕ) (j : Keyword) → of_five_bytes word ≡ Some j → word ≡ keyword_spelling j
unfolding of_five_bytes
of_five_bytes-spelled word j is = five_case (of_five_bytes_to_class word) (of_five_bytes_from_elsif word) word j is
    (of_five_bytes_to_class-spelled word j) (of_five_bytes_from_elsif-spelled word j)

-- what is found is spelled so
spelled_so : (word : List ℕ) (j : Keyword) → keyword_of word ≡ Some j → word ≡ keyword_spelling j
unfolding keyword_of
spelled_so word j is =
    either (eqb (length word) 2) _ _ j _ is (of_two_bytes-spelled word j) (λ h3.
    either (eqb (length word) 3) _ _ j _ h3 (of_three_bytes-spelled word j) (λ h4.
    either (eqb (length word) 4) _ _ j _ h4 (of_four_bytes-spelled word j) (λ h5.
    either (eqb (length word) 5) _ _ j _ h5 (of_five_bytes-spelled word j) (λ h6.
    either (eqb (length word) 6) _ _ j _ h6 (of_six_bytes-spelled word j) (of_more_bytes-spelled word j)))))

pub all_spelled : (word : List ℕ) (o : Option Keyword) → o ≡ keyword_of word → IfSome o (λ k. word ≡ keyword_spelling k)
all_spelled word None same = tt
all_spelled word (Some k) same = spelled_so word k (sym same)
