-- What the operands of a call count as.
use Rattle.def_calls.specs.World.{World, Answer, give}
use Rattle.std.specs.Prelude.{length, List, [], ◌∷◌, Bool, true, false, nat_lt, ◌&&◌, if◌then◌else◌, Option, Some, None}
use Rattle.rb_value.specs.declared.value.Value.{Value}
use Rattle.rb_value.specs.declared.value.Value.TheVariants.{Nil, True, False, Int, Sym, Obj}
use Rattle.rb_value.specs.declared.value.ObjId.{ObjId}
use Rattle.rb_value.specs.declared.value.SymId.{SymId}
use Rattle.rb_value.specs.declared.kind.Sort.{Sort}
use Rattle.rb_value.specs.declared.kind.Sort.TheVariants as sort
use Rattle.rb_value.specs.declared.method.Method.{Method}
use Rattle.rb_value.specs.declared.method.Method.TheVariants as method
use Rattle.rb_value.specs.declared.procs.ProcContents.{ProcContents}
use Rattle.rb_value.specs.declared.kind.EnumeratorSource.{EnumeratorSource}
use Rattle.rb_value.specs.declared.kind.EnumeratorSource.TheVariants as source
use Rattle.rb_value.specs.declared.core_class.CoreClass.TheVariants as class
use Rattle.def_core.specs.Store.{Store, core, sort_at}
use Rattle.def_core.specs.Changes.{is_class_sort}
use Rattle.def_core.specs.Classes.{chain, is_member}
use Rattle.def_core.specs.Classes as classes
use Rattle.def_core.specs.Sound.{Proc, ClassOrModule, plays, has_object}

-- whether the store has a symbol of that number, what a value names
abbrev pub has_symbol : Store → SymId → Bool
has_symbol st name = nat_lt name.0 (length st.symbols)

-- whether it has a class or module of that number
abbrev pub has_space : Store → ObjId → Bool
has_space st id = plays ClassOrModule (sort_at st.objects id)

abbrev pub has : Store → Value → Bool
has st Nil = true
has st True = true
has st False = true
has st (Int n) = true
has st (Sym name) = has_symbol st name
has st (Obj id) = has_object st.objects id

abbrev pub has_all : Store → List Value → Bool
has_all st [] = true
has_all st (v ∷ vs) = has st v && has_all st vs

-- a value that names nothing of the store counts as nil
abbrev pub own : Store → Value → Value
own st v = if has st v then v else Nil

-- whether it has a Proc of that number
abbrev pub has_proc : Store → ObjId → Bool
has_proc st id = plays Proc (sort_at st.objects id)

-- what is no class counts as Object
abbrev pub own_class : Store → ObjId → ObjId
own_class st id = if is_class_sort (sort_at st.objects id) then id else core class.Object

-- what is no class or module counts as none, and so does what is no symbol
abbrev pub own_space : Store → Option ObjId → Option ObjId
own_space st None = None
own_space st (Some id) = if has_space st id then Some id else None

abbrev pub own_symbol : Store → Option SymId → Option SymId
own_symbol st None = None
own_symbol st (Some name) = if has_symbol st name then Some name else None

-- what is no Proc counts as no block
abbrev pub own_block : Store → Option ObjId → Option ObjId
own_block st None = None
own_block st (Some id) = if plays Proc (sort_at st.objects id) then Some id else None

-- a Proc without what isn't of the store
abbrev pub own_proc : Store → ProcContents → ProcContents
own_proc st p = record p {
  receiver = own st p.receiver;
  owner = own_space st p.owner;
  name = own_symbol st p.name;
  block = own_block st p.block;
}

-- a method that names what the store hasn't is none
abbrev pub own_method : Store → Method → Option Method
own_method st (method.Body b s) = Some (method.Body b s)
own_method st (method.Core r) = Some (method.Core r)
own_method st (method.Reader n) = if has_symbol st n then Some (method.Reader n) else None
own_method st (method.Writer n) = if has_symbol st n then Some (method.Writer n) else None
own_method st (method.Block p) = if has_proc st p then Some (method.Block p) else None
own_method st method.Undefined = Some method.Undefined

-- and so is such a source of items
abbrev pub own_source : Store → EnumeratorSource → Option EnumeratorSource
own_source st (source.Call receiver name args) =
    if has_symbol st name && has_all st args then Some (source.Call (own st receiver) name args) else None
own_source st (source.Block p) = if has_proc st p then Some (source.Block p) else None

-- Sorts of objects.

abbrev pub is_array : Sort → Bool
is_array sort.Array = true
is_array _ = false

abbrev pub is_string : Sort → Bool
is_string sort.String = true
is_string _ = false

abbrev pub is_hash : Sort → Bool
is_hash sort.Hash = true
is_hash _ = false

abbrev pub is_fiber : Sort → Bool
is_fiber sort.Fiber = true
is_fiber _ = false

abbrev pub is_exception : Sort → Bool
is_exception sort.Exception = true
is_exception _ = false

abbrev pub is_enumerator : Sort → Bool
is_enumerator sort.Enumerator = true
is_enumerator _ = false

-- What an Enumerator keeps.

abbrev pub own_fiber : Store → Option ObjId → Option ObjId
own_fiber st None = None
own_fiber st (Some id) = if is_fiber (sort_at st.objects id) then Some id else None

abbrev pub own_result : Store → Option Value → Option Value
own_result st None = None
own_result st (Some v) = Some (own st v)

-- Answers. Where the store lacks the class or module, or the symbol, nothing is done and nil is given.

abbrev pub with_space : ObjId → (World → Answer) → World → Answer
with_space class defined w = if has_space w.store class then defined w else give w Nil

abbrev pub with_symbol : SymId → (World → Answer) → World → Answer
with_symbol name defined w = if has_symbol w.store name then defined w else give w Nil

-- Whether a class or module is among the ancestors of another; what is none has no ancestors.

abbrev pub is_in_chain : Store → ObjId → ObjId → Bool
is_in_chain st class other = has_space st class && is_member (chain st.objects class) other

-- its ancestors, the nearest first
abbrev pub ancestors : Store → ObjId → List ObjId
ancestors st class = if has_space st class then classes.ancestors st.objects class else []
