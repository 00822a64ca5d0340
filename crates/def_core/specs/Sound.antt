-- When a store is sound: every number in it is one of it, and what has to be a class, a module or a Proc is one.
use Rattle.std.specs.Prelude.{ℕ, ◌+◌, ◌<◌, ◌≡◌, List, ◌∷◌, [], map, length, get_or, slice_get, Bool, true, false, Option, Some, None, IfSome}
use Rattle.std.specs.List.{All}
use Rattle.rb_value.specs.declared.value.Value.{Value}
use Rattle.rb_value.specs.declared.value.Value.TheVariants.{Nil, True, False, Int, Sym, Obj}
use Rattle.rb_value.specs.declared.value.ObjId.{ObjId}
use Rattle.rb_value.specs.declared.value.SymId.{SymId}
use Rattle.rb_value.specs.declared.method.Method.{Method}
use Rattle.rb_value.specs.declared.method.Method.TheVariants as method
use Rattle.rb_value.specs.declared.method.MethodEntry.{MethodEntry}
use Rattle.rb_value.specs.declared.key.KeyPart.{KeyPart}
use Rattle.rb_value.specs.declared.key.KeyPart.TheVariants as part
use Rattle.rb_value.specs.declared.key.Key.{Key}
use Rattle.rb_value.specs.declared.key.Key.TheVariants as key
use Rattle.rb_value.specs.Object.{Object}
use Rattle.rb_value.specs.declared.variables.Variable.{Variable}
use Rattle.rb_value.specs.declared.kind.ClassContents.{ClassContents}
use Rattle.rb_value.specs.declared.kind.ClassForm.{ClassForm}
use Rattle.rb_value.specs.declared.kind.ClassForm.TheVariants as form
use Rattle.rb_value.specs.declared.hash.HashItem.{HashItem}
use Rattle.rb_value.specs.declared.hash.HashContents.{HashContents}
use Rattle.rb_value.specs.declared.procs.ProcContents.{ProcContents}
use Rattle.rb_value.specs.declared.kind.EnumeratorSource.{EnumeratorSource}
use Rattle.rb_value.specs.declared.kind.EnumeratorSource.TheVariants as source
use Rattle.rb_value.specs.declared.kind.EnumeratorContents.{EnumeratorContents}
use Rattle.rb_value.specs.declared.kind.Kind.{Kind}
use Rattle.rb_value.specs.declared.kind.Kind.TheVariants as kind
use Rattle.rb_value.specs.declared.kind.Sort.{Sort}
use Rattle.rb_value.specs.declared.kind.Sort.TheVariants as sort
use Rattle.rb_value.specs.declared.outcome.Outcome.{Outcome}
use Rattle.rb_value.specs.declared.outcome.Outcome.TheVariants as outcome
use Rattle.rb_value.specs.declared.core_class.CoreClass.{CoreClass}
use Rattle.rb_value.specs.CoreClass.{number_of, is_module}
use Rattle.rb_value.specs.Sort.{sort_of}
use Rattle.def_core.specs.declared.found.Found.{Found}
use Rattle.def_core.specs.Store.{Store, absent}

-- What is known of the numbers of a store: the sort of each object, and how many symbols there are.
pub record Census : Type 0 where
  pub sorts : List Sort
  pub symbols : ℕ

abbrev pub sorts_of : List Object → List Sort
sorts_of objects = map (λ o. sort_of o.kind) objects

abbrev pub census : Store → Census
census st = record { sorts = sorts_of st.objects; symbols = length st.symbols }

-- what an object may have to be
pub data Role : Type 0 where
  Any : Role
  Class : Role
  SingletonClass : Role
  Superclass : Role
  Module : Role
  ClassOrModule : Role
  Proc : Role
  Array : Role
  String : Role
  Fiber : Role

abbrev pub plays : Role → Sort → Bool
plays Any sort.Plain = true
plays Any sort.Class = true
plays Any sort.Singleton = true
plays Any sort.Module = true
plays Any sort.String = true
plays Any sort.Array = true
plays Any sort.Hash = true
plays Any sort.Range = true
plays Any sort.Proc = true
plays Any sort.Fiber = true
plays Any sort.Exception = true
plays Any sort.Enumerator = true
plays Any sort.Yielder = true
plays Class sort.Plain = false
plays Class sort.Class = true
plays Class sort.Singleton = false
plays Class sort.Module = false
plays Class sort.String = false
plays Class sort.Array = false
plays Class sort.Hash = false
plays Class sort.Range = false
plays Class sort.Proc = false
plays Class sort.Fiber = false
plays Class sort.Exception = false
plays Class sort.Enumerator = false
plays Class sort.Yielder = false
plays SingletonClass sort.Plain = false
plays SingletonClass sort.Class = false
plays SingletonClass sort.Singleton = true
plays SingletonClass sort.Module = false
plays SingletonClass sort.String = false
plays SingletonClass sort.Array = false
plays SingletonClass sort.Hash = false
plays SingletonClass sort.Range = false
plays SingletonClass sort.Proc = false
plays SingletonClass sort.Fiber = false
plays SingletonClass sort.Exception = false
plays SingletonClass sort.Enumerator = false
plays SingletonClass sort.Yielder = false
plays Superclass sort.Plain = false
plays Superclass sort.Class = true
plays Superclass sort.Singleton = true
plays Superclass sort.Module = false
plays Superclass sort.String = false
plays Superclass sort.Array = false
plays Superclass sort.Hash = false
plays Superclass sort.Range = false
plays Superclass sort.Proc = false
plays Superclass sort.Fiber = false
plays Superclass sort.Exception = false
plays Superclass sort.Enumerator = false
plays Superclass sort.Yielder = false
plays Module sort.Plain = false
plays Module sort.Class = false
plays Module sort.Singleton = false
plays Module sort.Module = true
plays Module sort.String = false
plays Module sort.Array = false
plays Module sort.Hash = false
plays Module sort.Range = false
plays Module sort.Proc = false
plays Module sort.Fiber = false
plays Module sort.Exception = false
plays Module sort.Enumerator = false
plays Module sort.Yielder = false
plays ClassOrModule sort.Plain = false
plays ClassOrModule sort.Class = true
plays ClassOrModule sort.Singleton = true
plays ClassOrModule sort.Module = true
plays ClassOrModule sort.String = false
plays ClassOrModule sort.Array = false
plays ClassOrModule sort.Hash = false
plays ClassOrModule sort.Range = false
plays ClassOrModule sort.Proc = false
plays ClassOrModule sort.Fiber = false
plays ClassOrModule sort.Exception = false
plays ClassOrModule sort.Enumerator = false
plays ClassOrModule sort.Yielder = false
plays Proc sort.Plain = false
plays Proc sort.Class = false
plays Proc sort.Singleton = false
plays Proc sort.Module = false
plays Proc sort.String = false
plays Proc sort.Array = false
plays Proc sort.Hash = false
plays Proc sort.Range = false
plays Proc sort.Proc = true
plays Proc sort.Fiber = false
plays Proc sort.Exception = false
plays Proc sort.Enumerator = false
plays Proc sort.Yielder = false
plays Array sort.Plain = false
plays Array sort.Class = false
plays Array sort.Singleton = false
plays Array sort.Module = false
plays Array sort.String = false
plays Array sort.Array = true
plays Array sort.Hash = false
plays Array sort.Range = false
plays Array sort.Proc = false
plays Array sort.Fiber = false
plays Array sort.Exception = false
plays Array sort.Enumerator = false
plays Array sort.Yielder = false
plays String sort.Plain = false
plays String sort.Class = false
plays String sort.Singleton = false
plays String sort.Module = false
plays String sort.String = true
plays String sort.Array = false
plays String sort.Hash = false
plays String sort.Range = false
plays String sort.Proc = false
plays String sort.Fiber = false
plays String sort.Exception = false
plays String sort.Enumerator = false
plays String sort.Yielder = false
plays Fiber sort.Plain = false
plays Fiber sort.Class = false
plays Fiber sort.Singleton = false
plays Fiber sort.Module = false
plays Fiber sort.String = false
plays Fiber sort.Array = false
plays Fiber sort.Hash = false
plays Fiber sort.Range = false
plays Fiber sort.Proc = false
plays Fiber sort.Fiber = true
plays Fiber sort.Exception = false
plays Fiber sort.Enumerator = false
plays Fiber sort.Yielder = false

abbrev pub plays_at : Role → Option Sort → Bool
plays_at r None = false
plays_at r (Some s) = plays r s

-- whether an object of that number stands in the list
abbrev pub has_object : List Object → ObjId → Bool
has_object objects id = plays_at Any (slice_get (sorts_of objects) id.0)

-- the object is there and has the role
pub record Is (k : Census) (r : Role) (id : ObjId) : Type 0 where
  pub holds : plays_at r (slice_get k.sorts id.0) ≡ true

-- a good number of the store: an object stands there. Above the store it is known by its laws alone (proofs/Good)
pub record IsGood (st : Store) (id : ObjId) : Type 0 where
  pub there : Is (census st) Any id

pub record IsSymbol (k : Census) (s : SymId) : Type 0 where
  pub below : s.0 < k.symbols

-- what is there in one census is there in the other, with each role that it has
pub record Extends (k l : Census) : Type 0 where
  pub roles : (r : Role) (id : ObjId) → Is k r id → Is l r id
  pub names : (n : ℕ) → n < k.symbols → n < l.symbols

abbrev pub IsValue : Census → Value → Type 0
IsValue k Nil = Unit {0}
IsValue k True = Unit {0}
IsValue k False = Unit {0}
IsValue k (Int n) = Unit {0}
IsValue k (Sym s) = IsSymbol k s
IsValue k (Obj id) = Is k Any id

-- what is there, if anything, is right
abbrev pub OptionIs : {A : Type 0} → (A → Type 0) → Option A → Type 0
OptionIs P None = Unit {0}
OptionIs P (Some x) = P x

abbrev pub AllAre : {A : Type 0} → (A → Type 0) → List A → Type 0
AllAre P [] = Unit {0}
AllAre P (x ∷ xs) = P x × AllAre P xs

abbrev pub SoundMethod : Census → Method → Type 0
SoundMethod k (method.Body b s) = Unit {0}
SoundMethod k (method.Core r) = Unit {0}
SoundMethod k (method.Reader n) = IsSymbol k n
SoundMethod k (method.Writer n) = IsSymbol k n
SoundMethod k (method.Block p) = Is k Proc p
SoundMethod k method.Undefined = Unit {0}

-- what a search finds: its owner is a class or module
abbrev pub IsFound : Census → Found → Type 0
IsFound k f = Is k ClassOrModule f.owner × SoundMethod k f.method

abbrev pub SoundEntry : Census → ℕ × MethodEntry → Type 0
SoundEntry k e = (e.0 < k.symbols) × SoundMethod k e.1.method

abbrev pub SoundVariable : Census → Variable → Type 0
SoundVariable k v = IsSymbol k v.name × IsValue k v.value

abbrev pub SoundConstant : Census → ℕ × Value → Type 0
SoundConstant k c = (c.0 < k.symbols) × IsValue k c.1

-- a superclass is a class with a smaller number
abbrev pub IsSuperclass : Census → ℕ → ObjId → Type 0
IsSuperclass k n id = Is k Superclass id × (id.0 < n)

-- the class or module of the number n
pub record SoundClass (k : Census) (n : ℕ) (c : ClassContents) : Type 0 where
  pub name : OptionIs (IsSymbol k) c.name
  pub superclass : OptionIs (IsSuperclass k n) c.superclass
  pub module_root : c.form ≡ form.Module → c.superclass ≡ None
  pub included : AllAre (Is k Module) c.included
  pub constants : AllAre (SoundConstant k) c.constants
  pub methods : AllAre (SoundEntry k) c.methods

abbrev pub SoundPart : Census → KeyPart → Type 0
SoundPart k (part.Plain v) = IsValue k v
SoundPart k (part.Text t) = Unit {0}
SoundPart k (part.Array n) = Unit {0}

abbrev pub SoundKey : Census → Key → Type 0
SoundKey k (key.Plain v) = IsValue k v
SoundKey k (key.Text t) = Unit {0}
SoundKey k (key.Array ps) = AllAre (SoundPart k) ps

abbrev pub SoundPair : Census → Key × HashItem → Type 0
SoundPair k p = SoundKey k p.0 × IsValue k p.1.shown × IsValue k p.1.value

pub record SoundHash (k : Census) (h : HashContents) : Type 0 where
  pub pairs : AllAre (SoundPair k) h.pairs
  pub default : IsValue k h.default
  pub block : OptionIs (Is k Proc) h.block

pub record SoundProc (k : Census) (p : ProcContents) : Type 0 where
  pub receiver : IsValue k p.receiver
  pub owner : OptionIs (Is k ClassOrModule) p.owner
  pub name : OptionIs (IsSymbol k) p.name
  pub block : OptionIs (Is k Proc) p.block

abbrev pub SoundSource : Census → EnumeratorSource → Type 0
SoundSource k (source.Call r n args) = IsValue k r × IsSymbol k n × AllAre (IsValue k) args
SoundSource k (source.Block b) = Is k Proc b

pub record SoundEnumerator (k : Census) (e : EnumeratorContents) : Type 0 where
  pub source : SoundSource k e.source
  pub fiber : OptionIs (Is k Fiber) e.fiber
  pub items : Is k Array e.items
  pub result : OptionIs (IsValue k) e.result

abbrev pub SoundKind : Census → ℕ → Kind → Type 0
SoundKind k n kind.Plain = Unit {0}
SoundKind k n (kind.Class c) = SoundClass k n c
SoundKind k n (kind.String s) = Unit {0}
SoundKind k n (kind.Array a) = AllAre (IsValue k) a
SoundKind k n (kind.Hash h) = SoundHash k h
SoundKind k n (kind.Range r) = Unit {0}
SoundKind k n (kind.Proc p) = SoundProc k p
SoundKind k n (kind.CoreProc r v) = IsValue k v
SoundKind k n (kind.Fiber b e) = Is k Proc b
SoundKind k n (kind.Exception m d) = IsValue k m × IsValue k d
SoundKind k n (kind.Enumerator e) = SoundEnumerator k e
SoundKind k n (kind.Yielder b) = Is k Proc b

-- the object of the number n
pub record SoundObject (k : Census) (n : ℕ) (o : Object) : Type 0 where
  pub class : Is k Class o.class
  pub singleton : OptionIs (Is k SingletonClass) o.singleton
  pub variables : AllAre (SoundVariable k) o.variables
  pub kind : SoundKind k n o.kind

-- the objects with the numbers from n on
abbrev pub SoundFrom : Census → ℕ → List Object → Type 0
SoundFrom k n [] = Unit {0}
SoundFrom k n (o ∷ os) = SoundObject k n o × SoundFrom k (n + 1) os

-- what an outcome names is of the store
abbrev pub IsOutcome : Census → Outcome → Type 0
IsOutcome k (outcome.Value v) = IsValue k v
IsOutcome k (outcome.Raise f) = Is k String f.message × IsValue k f.detail

abbrev pub core_sort : Bool → Sort
core_sort true = sort.Module
core_sort false = sort.Class

pub record Sound (st : Store) : Type 0 where
  pub objects : (n : ℕ) → n < length st.objects → SoundObject (census st) n (get_or st.objects n absent)
  -- the core classes and modules stand at their numbers
  pub core : (c : CoreClass) → slice_get (sorts_of st.objects) (number_of c) ≡ Some (core_sort (is_module c))
