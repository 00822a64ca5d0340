-- A core form: what is left of a source once names are known and every construct of the surface language is
-- written with a few. Each part that is no form by itself has a type of its own.
use Rattle.std.specs.Prelude.{ℕ, ℤ, Bool, List, [], ◌∷◌, Option, Some, None}
use Rattle.rb_syntax.specs.declared.core_form.DefinedKind.{DefinedKind}

-- a name, by its bytes
abbrev pub Name : Type 0
Name = List ℕ

-- a local variable of a body
pub data Local : Type 0 where
  -- one of the source
  named : Name → Local
  -- one that lowering keeps a value in; blocks don't see it
  hidden : ℕ → Local
  -- the parameter at that place whose source is a pattern, or a target of a for
  pattern : ℕ → Local
  -- a rest parameter without a name
  rest : Local

-- the parameters of a body: required ones, optional ones, one for the rest, required ones after it, one for the block
pub record Parameters : Type 0 where
  pub required : List Local
  pub optional : List Local
  pub rest : List Local
  pub post : List Local
  pub block : List Local

mutual
  pub data CoreForm : Type 0 where
    nil : CoreForm
    truth : CoreForm
    falsehood : CoreForm
    self_ref : CoreForm
    int : ℤ → CoreForm
    str : List ℕ → CoreForm
    sym : Name → CoreForm
    local : Local → CoreForm
    -- a parameter of the method around the text, whatever blocks between name theirs
    own : Local → CoreForm
    -- the exception of the rescue clause whose target is assigned
    exception : CoreForm
    set_local : Local → CoreForm → CoreForm
    ivar : Name → CoreForm
    set_ivar : Name → CoreForm → CoreForm
    gvar : Name → CoreForm
    set_gvar : Name → CoreForm → CoreForm
    constant : Name → CoreForm
    top_constant : Name → CoreForm
    in_constant : CoreForm → Name → CoreForm
    set_constant : Name → CoreForm → CoreForm
    -- the scope, the name and the value
    set_in_constant : CoreForm → Name → CoreForm → CoreForm
    array : Items → CoreForm
    hash : Pairs → CoreForm
    -- whether the end is left out
    range : CoreForm → CoreForm → Bool → CoreForm
    text : Forms → CoreForm
    intern : CoreForm → CoreForm
    seq : Forms → CoreForm
    -- branches, and the form done where no test is true
    cond : Branches → CoreForm → CoreForm
    and_form : CoreForm → CoreForm → CoreForm
    or_form : CoreForm → CoreForm → CoreForm
    -- whether the body is done before the test, the test, the body
    while_form : Bool → CoreForm → CoreForm → CoreForm
    call : Receiver → Name → Items → Maybe → CoreForm
    yield_form : Items → CoreForm
    super_form : Items → Maybe → CoreForm
    -- a block, and a lambda
    function : Body → CoreForm
    lambda : Body → CoreForm
    -- the body, its clauses, what is done where nothing was raised, and the ensure part
    begin_form : CoreForm → Clauses → Maybe → Maybe → CoreForm
    return_form : CoreForm → CoreForm
    break_form : CoreForm → CoreForm
    next_form : CoreForm → CoreForm
    retry : CoreForm
    define : Name → Body → CoreForm
    define_on : CoreForm → Name → Body → CoreForm
    -- a scope, the name, a parent, and the body
    class_form : Maybe → Name → Maybe → Body → CoreForm
    module_form : Maybe → Name → Body → CoreForm
    singleton_class : CoreForm → Body → CoreForm
    -- the new name, and the old one
    alias_form : Name → Name → CoreForm
    undef_form : Name → CoreForm
    defined : DefinedKind → Name → Maybe → CoreForm
    -- element k of an Array, from the end where k is negative
    item : CoreForm → ℤ → CoreForm
    -- the new Array of the elements from one place up to the last so many
    rest_of : CoreForm → ℕ → ℕ → CoreForm
    -- the new Array of the last so many elements, none of them before a place
    tail_of : CoreForm → ℕ → ℕ → CoreForm

  -- what stands in a function, a class, a module or the main program: parameters, locals besides them, and the form
  pub data Body : Type 0 where
    body : Parameters → List Local → CoreForm → Body

  pub data Maybe : Type 0 where
    absent : Maybe
    there : CoreForm → Maybe

  pub data Forms : Type 0 where
    none : Forms
    more : CoreForm → Forms → Forms

  pub data Items : Type 0 where
    no_items : Items
    plain : CoreForm → Items → Items
    splat : CoreForm → Items → Items

  pub data Pairs : Type 0 where
    no_pairs : Pairs
    pair : CoreForm → CoreForm → Pairs → Pairs

  -- a test and what is done where it is true
  pub data Branches : Type 0 where
    no_branches : Branches
    branch : CoreForm → CoreForm → Branches → Branches

  -- classes (none stand for StandardError), an assignment of the exception, and the body
  pub data Clauses : Type 0 where
    no_clauses : Clauses
    clause : Forms → Maybe → CoreForm → Clauses → Clauses

  pub data Receiver : Type 0 where
    to : CoreForm → Receiver
    -- a call on self with arguments or parentheses, and a name alone
    on_self : Receiver
    bare : Receiver

-- the form of a body
abbrev pub form_of : Body → CoreForm
form_of (body p ls f) = f

abbrev pub no_parameters : Parameters
no_parameters = record { required = []; optional = []; rest = []; post = []; block = [] }

-- a body without parameters
abbrev pub plain_body : List Local → CoreForm → Body
plain_body locals f = body no_parameters locals f

abbrev pub maybe : Option CoreForm → Maybe
maybe None = absent
maybe (Some f) = there f

abbrev pub forms : List CoreForm → Forms
forms [] = none
forms (f ∷ fs) = more f (forms fs)

abbrev pub one : CoreForm → Forms
one f = more f none

abbrev pub two : CoreForm → CoreForm → Forms
two f g = more f (more g none)

abbrev pub one_item : CoreForm → Items
one_item f = plain f no_items
