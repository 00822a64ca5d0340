-- A value that is derived begins no key.
use Rattle.std.proofs.Common.{◌≡◌, Bool, true, false, refl, sym}
use Rattle.rb_syntax.specs.declared.keyword.Keyword.{Keyword}
use Rattle.rb_syntax.specs.declared.keyword.Keyword.TheVariants as keywords
use Rattle.parser_tokens.specs.Tokens.{first}
use Rattle.parser_tokens.specs.declared.word.Word.{Word}
use Rattle.parser_tokens.specs.declared.word.Word.TheVariants as words
use Rattle.parser_ahead.specs.Groups.{is_quoted_key}
use Rattle.parser_ahead.specs.Primary.{part_of, part_at, is_name_word}
use Rattle.parser_ahead.specs.declared.primary.PartStart.TheVariants as parts
use Rattle.parser_forms.specs.Reading.{Names, Tokens}
use Rattle.parser_laws.specs.Rules.{Rule, Argument, Operation, Operators, Operand, Primary, Target, InnerTarget, Callee, Quoted, Strings, begins_string}
use Rattle.parser_laws.specs.Derives as grammar
use Rattle.parser_laws.specs.Derives.{Derives}
use Rattle.parser_laws.proofs.Results.{differs}
use Rattle.parser_laws.proofs.Facts.{is_calm}
use Rattle.parser_laws.proofs.Heads.{calm_part, prefix_calm, alone_begins, variable_begins}

word_value : (w : Word) (ts : Tokens) → first ts ≡ w → is_calm w ≡ true → part_at ts ≡ parts.Value
word_value w ts is calm = calm_part ts (rw is calm)

-- a string that is no key
string_part : (w : Word) (ts : Tokens) → begins_string w ≡ true → is_quoted_key ts ≡ false → part_of w ts ≡ parts.Value
string_part words.StringBegin ts h none = rw none refl
string_part words.Character ts h none = refl
string_part w ts h none = differs (sym h)

string_value : (ts : Tokens) → begins_string (first ts) ≡ true → is_quoted_key ts ≡ false → part_at ts ≡ parts.Value
unfolding part_at
string_value ts h none = string_part (first ts) ts h none

key_value : (k : Keyword) (ts : Tokens) → first ts ≡ words.Key k → part_at ts ≡ parts.Value
unfolding part_at
key_value k ts is = rw is refl

name_calm : (w : Word) → is_name_word w ≡ true → is_calm w ≡ true
name_calm words.Identifier h = refl
name_calm words.Constant h = refl
name_calm words.MethodName h = refl
name_calm w h = differs (sym h)

-- the rules that read a value, or the strings at its begin
abbrev pub is_value_rule : Rule → Bool
is_value_rule (Argument place owner n) = true
is_value_rule (Operation place loosest owner n) = true
is_value_rule (Operators place loosest owner n) = true
is_value_rule (Operand place owner n) = true
is_value_rule (Primary place owner n) = true
is_value_rule (Target owner n) = true
is_value_rule (InnerTarget owner n) = true
is_value_rule (Callee place owner c) = true
is_value_rule _ = false

abbrev pub is_string_rule : Rule → Bool
is_string_rule (Quoted ns) = true
is_string_rule (Strings ns) = true
is_string_rule _ = false

-- strings begin with a string
string_there : (r : Rule) (names : Names) (ts : Tokens) (known : Names) (rest : Tokens) → Derives r names ts known rest
    → is_string_rule r ≡ true → begins_string (first ts) ≡ true
string_there _ _ _ _ _ (grammar.StringLiteral names known ts rest ns is d closing) h = rw is refl
string_there _ _ _ _ _ (grammar.CharacterLiteral names ts is) h = rw is refl
string_there _ _ _ _ _ (grammar.LastString names known ts rest ns d none) h = string_there _ _ _ _ _ d refl
string_there _ _ _ _ _ (grammar.NextString names known later ts rest more ns ms d others) h =
    string_there _ _ _ _ _ d refl
string_there _ _ _ _ _ d h = differs (sym h)

pub front : (r : Rule) (names : Names) (ts : Tokens) (known : Names) (rest : Tokens) → Derives r names ts known rest
    → is_value_rule r ≡ true → part_at ts ≡ parts.Value
front _ _ _ _ _ (grammar.Value place owner names known ts rest n jump d calm free) h = front _ _ _ _ _ d refl
front _ _ _ _ _ (grammar.Assigned place owner a names known later ts rest more target n jump t there value calm alone) h
    = front _ _ _ _ _ t refl
front _ _ _ _ _ (grammar.LocalTarget owner names ts is) h = word_value _ ts is refl
front _ _ _ _ _ (grammar.InstanceTarget owner names ts is) h = word_value _ ts is refl
front _ _ _ _ _ (grammar.GlobalTarget owner names ts is) h = word_value _ ts is refl
front _ _ _ _ _ (grammar.ConstantTarget owner names ts is) h = word_value _ ts is refl
front _ _ _ _ _ (grammar.AllOperators place loosest owner names known ts rest n d ends free) h = front _ _ _ _ _ d refl
front _ _ _ _ _ (grammar.OneOperand place loosest owner names known ts rest n d) h = front _ _ _ _ _ d refl
front _ _ _ _ _ (grammar.OperandAssigned loosest owner a names known later ts rest more target n within t there value
    calm) h = front _ _ _ _ _ t refl
front _ _ _ _ _ (grammar.OperandAssignedOr loosest owner a names known later last ts rest more left target n other within
    t there value rescue right) h = front _ _ _ _ _ t refl
front _ _ _ _ _ (grammar.Infixed place loosest owner o names known later ts rest more a b left there right calm) h =
    front _ _ _ _ _ left refl
front _ _ _ _ _ (grammar.Prefixed place owner o names known ts rest n there d) h = calm_part ts (prefix_calm ts o there)
front _ _ _ _ _ (grammar.WithPostfixes place owner names known ts rest n none d ends) h = front _ _ _ _ _ d refl
front _ _ _ _ _ (grammar.Nil place owner names ts is) h = word_value _ ts is refl
front _ _ _ _ _ (grammar.True place owner names ts is) h = word_value _ ts is refl
front _ _ _ _ _ (grammar.False place owner names ts is) h = word_value _ ts is refl
front _ _ _ _ _ (grammar.SelfReference place owner names ts is) h = word_value _ ts is refl
front _ _ _ _ _ (grammar.Integer place owner names ts is) h = word_value _ ts is refl
front _ _ _ _ _ (grammar.Negative place owner names ts is signed) h = word_value _ ts is refl
front _ _ _ _ _ (grammar.Symbol place owner names ts is) h = word_value _ ts is refl
front _ _ _ _ _ (grammar.Local place owner names ts is known closed) h = word_value _ ts is refl
front _ _ _ _ _ (grammar.InstanceVariable place owner names ts is) h = word_value _ ts is refl
front _ _ _ _ _ (grammar.GlobalVariable place owner names ts is) h = word_value _ ts is refl
front _ _ _ _ _ (grammar.Constant place owner names ts is closed) h = word_value _ ts is refl
front _ _ _ _ _ (grammar.Group place owner names known ts rest n is d closing) h = word_value _ ts is refl
front _ _ _ _ _ (grammar.WordList place owner names ts rest xs is d) h = word_value _ ts is refl
front _ _ _ _ _ (grammar.SymbolList place owner names ts rest xs is d) h = word_value _ ts is refl
front _ _ _ _ _ (grammar.Text place owner names known ts rest ns none d) h =
    string_value ts (string_there _ _ _ _ _ d refl) none
front _ _ _ _ _ (grammar.QuotedSymbol place owner names known ts rest ns is d closing) h = word_value _ ts is refl
front _ _ _ _ _ (grammar.TopConstant place owner names ts is there) h = word_value _ ts is refl
front _ _ _ _ _ (grammar.OutsideToken place owner o names ts is alone) h = word_value _ ts is (alone_begins o alone)
front _ _ _ _ _ (grammar.FileKeyword place owner names ts is) h = word_value _ ts is refl
front _ _ _ _ _ (grammar.LineKeyword place owner names ts is) h = word_value _ ts is refl
front _ _ _ _ _ (grammar.EncodingKeyword place owner names ts is) h = word_value _ ts is refl
front _ _ _ _ _ (grammar.Redo place owner names ts is) h = word_value _ ts is refl
front _ _ _ _ _ (grammar.Retry place owner names ts is) h = word_value _ ts is refl
front _ _ _ _ _ (grammar.Return place owner names ts is) h = key_value keywords.Return ts is
front _ _ _ _ _ (grammar.Break place owner names ts is) h = key_value keywords.Break ts is
front _ _ _ _ _ (grammar.Next place owner names ts is) h = key_value keywords.Next ts is
front _ _ _ _ _ (grammar.Yield place owner names ts is closed) h = key_value keywords.Yield ts is
front _ _ _ _ _ (grammar.Array place owner names known ts rest l is d none closing) h = word_value _ ts is refl
front _ _ _ _ _ (grammar.Hash place owner names known ts rest l is d none alone closing) h = word_value _ ts is refl
front _ _ _ _ _ (grammar.YieldGroup place owner names known ts rest l is there d none closing) h =
    key_value keywords.Yield ts is
front _ _ _ _ _ (grammar.Lambda place owner style names known ts rest b is there d) h = word_value _ ts is refl
front _ _ _ _ _ (grammar.If place owner names known later latest ts rest more last t n bs o is one others other ends) h
    = word_value _ ts is refl
front _ _ _ _ _ (grammar.Unless place owner names known later ts rest more t n o is one other ends) h =
    word_value _ ts is refl
front _ _ _ _ _ (grammar.While place owner names known ts rest t n is one ends) h = word_value _ ts is refl
front _ _ _ _ _ (grammar.Until place owner names known ts rest t n is one ends) h = word_value _ ts is refl
front _ _ _ _ _ (grammar.Case place owner names known later latest ts rest more last s o ws is head d other ends) h =
    word_value _ ts is refl
front _ _ _ _ _ (grammar.Begin place owner names known later ts rest more n cs o e is d handlers ends) h =
    word_value _ ts is refl
front _ _ _ _ _ (grammar.Define place owner names known inner later ts rest more last m l b is head d free body) h =
    word_value _ ts is refl
front _ _ _ _ _ (grammar.EndlessDefine place owner names known inner later ts rest more last m l n is head d assigned
    value) h = word_value _ ts is refl
front _ _ _ _ _ (grammar.Class place owner names known inner ts rest last s x b is path separator body) h =
    word_value _ ts is refl
front _ _ _ _ _ (grammar.Subclass place owner names known later inner ts rest more last s x n b is path less parent
    separator body) h = word_value _ ts is refl
front _ _ _ _ _ (grammar.SingletonClass place owner names known inner ts rest last n b is shift value separator body) h
    = word_value _ ts is refl
front _ _ _ _ _ (grammar.Module place owner names known inner ts rest last s x b is path body) h =
    word_value _ ts is refl
front _ _ _ _ _ (grammar.Conditional place owner names known later last ts rest more left n a b jump test asks chosen
    parts other) h = front _ _ _ _ _ test refl
front _ _ _ _ _ (grammar.DefinedValue place owner names known ts rest n is closed d) h =
    key_value keywords.Defined ts is
front _ _ _ _ _ (grammar.AssignedOr place owner a names known later last ts rest more tail target n other jump t there
    value rescue right) h = front _ _ _ _ _ t refl
front _ _ _ _ _ (grammar.NotAssignedValue place owner a names known later ts rest more target n is may t there value
    calm) h = word_value _ ts is refl
front _ _ _ _ _ (grammar.NotAssignedValueOr place owner a names known later last ts rest more left target n other is may
    t there value rescue right) h = word_value _ ts is refl
front _ _ _ _ _ (grammar.PostfixTarget owner names known ts rest n is none d) h = front _ _ _ _ _ d refl
front _ _ _ _ _ (grammar.DefinedGroup place owner names known ts rest n is opened d closing) h =
    key_value keywords.Defined ts is
front _ _ _ _ _ (grammar.Indexed place owner names known later ts rest more n ns left there values closing) h =
    front _ _ _ _ _ left refl
front _ _ _ _ _ (grammar.ScopedConstant place owner names known ts rest n left there constant closed) h =
    front _ _ _ _ _ left refl
front _ _ _ _ _ (grammar.MethodTarget owner names known ts rest n none d there is) h = front _ _ _ _ _ d refl
front _ _ _ _ _ (grammar.OutsideTarget owner o names ts is variable) h =
    calm_part ts (rw is (variable_begins o variable))
front _ _ _ _ _ (grammar.CalleeTarget owner names known ts rest o at ns none d) h = front _ _ _ _ _ d refl
front _ _ _ _ _ (grammar.AnyTarget owner names known ts rest n d) h = front _ _ _ _ _ d refl
front _ _ _ _ _ (grammar.PostfixInnerTarget owner names known ts rest n is none d) h = front _ _ _ _ _ d refl
front _ _ _ _ _ (grammar.CalleeInnerTarget owner names known ts rest c none d target) h = front _ _ _ _ _ d refl
front _ _ _ _ _ (grammar.InnerAssigned owner a names known later ts rest more target n t there value calm) h =
    front _ _ _ _ _ t refl
front _ _ _ _ _ (grammar.InnerAssignedOr owner a names known later last ts rest more tail target n other t there value
    rescue right) h = front _ _ _ _ _ t refl
front _ _ _ _ _ (grammar.NotPrefixed place owner o names known ts rest n is there d) h = word_value _ ts is refl
front _ _ _ _ _ (grammar.For place owner names known later ts rest more xs e n is d there inner ends) h =
    word_value _ ts is refl
front _ _ _ _ _ (grammar.LambdaBraces place owner names known later ts rest more l n is none d brace inner closing) h =
    word_value _ ts is refl
front _ _ _ _ _ (grammar.LambdaDo place owner names known later ts rest more l n is none d style inner) h =
    word_value _ ts is refl
front _ _ _ _ _ (grammar.NameCallee place owner names ts is other) h = word_value _ ts is refl
front _ _ _ _ _ (grammar.MethodNameCallee place owner names ts is) h = word_value _ ts is refl
front _ _ _ _ _ (grammar.OpenedCallee place owner names ts is opened) h = calm_part ts (name_calm (first ts) is)
front _ _ _ _ _ (grammar.SuperCallee place owner names ts is) h = word_value _ ts is refl
front _ _ _ _ _ (grammar.NonAsciiCallee place owner names ts is) h = word_value _ ts is refl
front _ _ _ _ _ (grammar.MethodCallee place owner names known ts rest n left there is) h = front _ _ _ _ _ left refl
front _ _ _ _ _ (grammar.ScopeCallee place owner names known ts rest n left there is other) h =
    front _ _ _ _ _ left refl
front _ _ _ _ _ (grammar.SafeCallee place owner names known ts rest n left there is) h = front _ _ _ _ _ left refl
front _ _ _ _ _ (grammar.NonAsciiMethod place owner names known ts rest n left there is) h = front _ _ _ _ _ left refl
front _ _ _ _ _ (grammar.CalleeAlone place owner names known ts rest c d alone free) h = front _ _ _ _ _ d refl
front _ _ _ _ _ (grammar.GroupCall place owner names known later ts rest more c l d opened inner closing unblocked) h =
    front _ _ _ _ _ d refl
front _ _ _ _ _ (grammar.GroupBlockCall place owner style names known later last ts rest more left c l b d opened inner
    closing there none block) h = front _ _ _ _ _ d refl
front _ _ _ _ _ (grammar.BlockCall place owner style names known later ts rest more c b d closed there block) h =
    front _ _ _ _ _ d refl
front _ _ _ _ _ (grammar.DotCall place owner names known later ts rest more n l d there opened inner closing) h =
    front _ _ _ _ _ d refl
front _ _ _ _ _ (grammar.SafeCall place owner names known later ts rest more n l d there opened inner closing) h =
    front _ _ _ _ _ d refl
front _ _ _ _ _ (grammar.ListIndexed place owner names known later ts rest more n l d there inner none closing) h =
    front _ _ _ _ _ d refl
front _ _ _ _ _ d h = differs (sym h)
