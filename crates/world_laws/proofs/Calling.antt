-- What a call by a name enters: what is found, or else method_missing.
use Rattle.std.proofs.Common.{ℕ, ◌-◌, List, ◌∷◌, length, get_or, Bool, true, false, if◌then◌else◌}
use Rattle.std.specs.Prelude.{Option, Some, None, nat_eq, codes}
use Rattle.rb_value.specs.declared.value.Value.{Value}
use Rattle.rb_value.specs.declared.value.Value.TheVariants.{Sym}
use Rattle.rb_value.specs.declared.value.ObjId.{ObjId}
use Rattle.rb_value.specs.declared.value.SymId.{SymId}
use Rattle.rb_value.specs.declared.method.Method.{Method}
use Rattle.rb_value.specs.declared.method.Method.TheVariants as method
use Rattle.rb_value.specs.declared.method.Visibility.{Visibility}
use Rattle.rb_value.specs.declared.method.Visibility.TheVariants.{Public, Private, Protected}
use Rattle.def_core.specs.declared.cause.Cause.{Cause}
use Rattle.def_core.specs.declared.cause.Cause.TheVariants as cause
use Rattle.def_core.specs.declared.found.Found.{Found}
use Rattle.def_core.specs.Store.{name_at}
use Rattle.def_core.specs.Classes.{plain_class_of}
use Rattle.def_core.specs.Find.{allowed}
use Rattle.def_core.specs.Changes.{intern}
use Rattle.def_core.specs.Sound.{Census, census, Any, ClassOrModule, Proc, Is, IsSymbol, IsValue, OptionIs, AllAre}
use Rattle.rb_store.proofs.Start.{interned_symbol}
use Rattle.rb_raise.specs.Causes.{SoundCause}
use Rattle.def_calls.specs.World.{World, Activation, with_store, fail}
use Rattle.def_calls.specs.Views.{object_in}
use Rattle.def_calls.specs.Definitions.{super_of}
use Rattle.def_calls.specs.Rows.{method_missing_row}
use Rattle.def_calls.specs.Calls.{answers, Sending, by_name, by_bare_name, to_proc, to_super, enter_row, enter_found, enter_missing, missing_by, missing, forbidden, enter_allowed, find_for, enter_unchecked, is_public, enter_public, send_by_core, enter_super, enter_value, is_mark, unknown_name, call}
use Rattle.world_laws.specs.Fine.{Bodies, ActivationIs, Fine}
use Rattle.world_laws.specs.Outcomes.{FoundIs, SendingIs, EntryIs}
use Rattle.world_laws.proofs.Growing.{symbol_stays, value_stays}
use Rattle.world_laws.proofs.Stores.{keeps_interned}
use Rattle.world_laws.proofs.Answers.{fails_with}
use Rattle.world_laws.proofs.Causes.{cause_stays}
use Rattle.world_laws.proofs.Holding.{object_is}
use Rattle.world_laws.proofs.Searching.{plain_class_is, find_for_is, super_is}
use Rattle.world_laws.proofs.Values.{wrong_value_is}
use Rattle.world_laws.proofs.Plans.{values_stay, block_stays}
use Rattle.world_laws.proofs.Entering.{entry_then, row_is, proc_enters, method_enters}

forbidden_is : (k : Census) (v : Visibility) (name : SymId) (c : ObjId) → IsSymbol k name → Is k ClassOrModule c
    → SoundCause k (forbidden v name c)
forbidden_is k Public name c symbol is = (symbol, is)
forbidden_is k Private name c symbol is = (symbol, is)
forbidden_is k Protected name c symbol is = (symbol, is)

unknown_is : (k : Census) (text : List ℕ) (name : SymId) (c : ObjId) → IsSymbol k name → Is k ClassOrModule c
    → SoundCause k (unknown_name text name c)
unknown_is k text name c symbol is = by (is_mark (get_or text (length text - 1) 0))
  where
    by : (m : Bool) → SoundCause k (if m then cause.UndefinedMethod name c else cause.UndefinedName name c)
    by true = (symbol, is)
    by false = (symbol, is)

module _ (b : Bodies) (w : World) (fine : Fine b w) where
  pub found_enters : (name : SymId) (f : Found) (recv : Value) (args : List Value) (block : Option ObjId)
      → IsSymbol (census w.store) name → FoundIs b w f → IsValue (census w.store) recv
      → AllAre (IsValue (census w.store)) args → OptionIs (Is (census w.store) Proc) block
      → EntryIs b w (enter_found w name f recv args block)
  found_enters name f recv args block symbol found is all proc =
      method_enters b w fine args block all proc f.owner name f.method recv found.found.0 symbol found.found.1
      found.method is

  missing_enters : (name : SymId) (c : Cause) (called : SymId) (f : Found) (recv : Value) (args : List Value)
      (block : Option ObjId) (m : Method) → SoundCause (census w.store) c → IsSymbol (census w.store) name
      → IsSymbol (census w.store) called → FoundIs b w f → IsValue (census w.store) recv
      → AllAre (IsValue (census w.store)) args → OptionIs (Is (census w.store) Proc) block
      → EntryIs b w (enter_missing w name c called f recv args block m)
  missing_enters name c called f recv args block (method.Core r) why symbol by found is all proc =
      either (nat_eq r method_missing_row)
    where
      either : (x : Bool) → EntryIs b w
          (if x then answers (fail w c) else enter_row w r recv (Sym name ∷ args) block)
      either true = fails_with b w fine c why
      either false = row_is b w fine (Sym name ∷ args) block (symbol, all) proc r recv is
  missing_enters name c called f recv args block (method.Body body s) why symbol by found is all proc =
      found_enters called f recv (Sym name ∷ args) block by found is (symbol, all) proc
  missing_enters name c called f recv args block (method.Reader n) why symbol by found is all proc =
      found_enters called f recv (Sym name ∷ args) block by found is (symbol, all) proc
  missing_enters name c called f recv args block (method.Writer n) why symbol by found is all proc =
      found_enters called f recv (Sym name ∷ args) block by found is (symbol, all) proc
  missing_enters name c called f recv args block (method.Block p) why symbol by found is all proc =
      found_enters called f recv (Sym name ∷ args) block by found is (symbol, all) proc
  missing_enters name c called f recv args block method.Undefined why symbol by found is all proc =
      fails_with b w fine c why

  missing_by_enters : (name : SymId) (c : Cause) (called : SymId) (recv : Value) (args : List Value)
      (block : Option ObjId) (o : Option Found) → SoundCause (census w.store) c → IsSymbol (census w.store) name
      → IsSymbol (census w.store) called → OptionIs (FoundIs b w) o → IsValue (census w.store) recv
      → AllAre (IsValue (census w.store)) args → OptionIs (Is (census w.store) Proc) block
      → EntryIs b w (missing_by w name c called recv args block o)
  missing_by_enters name c called recv args block None why symbol by found is all proc = fails_with b w fine c why
  missing_by_enters name c called recv args block (Some f) why symbol by found is all proc =
      missing_enters name c called f recv args block f.method why symbol by found is all proc

-- where nothing is found, or what is found isn't allowed
pub missing_is : (b : Bodies) (w : World) → Fine b w → (name : SymId) (c : Cause) (recv : Value) (args : List Value)
    (block : Option ObjId) → SoundCause (census w.store) c → IsSymbol (census w.store) name
    → IsValue (census w.store) recv → AllAre (IsValue (census w.store)) args
    → OptionIs (Is (census w.store) Proc) block → EntryIs b w (missing w name c recv args block)
unfolding missing
missing_is b w fine name c recv args block why symbol is all proc =
    let v : World = with_store w (intern w.store (codes "method_missing")).store in
    let k = keeps_interned b w fine (codes "method_missing") in
    let there = value_stays w v k.extends recv is in
    let called : SymId = (intern w.store (codes "method_missing")).symbol in
    entry_then b w v _ k
    (missing_by_enters b v k.fine name c called recv args block (find_for v recv called)
    (cause_stays w v k.extends c why) (symbol_stays w v k.extends name symbol)
    (interned_symbol w.store (codes "method_missing")) (find_for_is b v k.fine recv called there) there
    (values_stay w v k.extends args all) (block_stays w v k.extends block proc))

module _ (b : Bodies) (w : World) (fine : Fine b w) where
  module _ (name : SymId) (recv : Value) (args : List Value) (block : Option ObjId)
      (symbol : IsSymbol (census w.store) name) (is : IsValue (census w.store) recv)
      (all : AllAre (IsValue (census w.store)) args) (proc : OptionIs (Is (census w.store) Proc) block) where
    enters_found : (f : Found) → FoundIs b w f → EntryIs b w (enter_found w name f recv args block)
    enters_found f found = found_enters b w fine name f recv args block symbol found is all proc

    is_missing : (c : Cause) → SoundCause (census w.store) c → EntryIs b w (missing w name c recv args block)
    is_missing c why = missing_is b w fine name c recv args block why symbol is all proc

    plain : Is (census w.store) ClassOrModule (plain_class_of w.store.objects recv)
    plain = plain_class_is w.store fine.store recv is

    is_forbidden : (f : Found) → EntryIs b w
        (missing w name (forbidden f.visibility name (plain_class_of w.store.objects recv)) recv args block)
    is_forbidden f = is_missing (forbidden f.visibility name (plain_class_of w.store.objects recv))
        (forbidden_is (census w.store) f.visibility name (plain_class_of w.store.objects recv) symbol plain)

    allowed_enters : (caller : Value) (c : Cause) (o : Option Found) → SoundCause (census w.store) c
        → OptionIs (FoundIs b w) o → EntryIs b w (enter_allowed w caller name c recv args block o)
    allowed_enters caller c None why found = is_missing c why
    allowed_enters caller c (Some f) why found = either (allowed w.store.objects caller recv f)
      where
        either : (x : Bool) → EntryIs b w
            (if x then enter_found w name f recv args block
            else missing w name (forbidden f.visibility name (plain_class_of w.store.objects recv)) recv args block)
        either true = enters_found f found
        either false = is_forbidden f

    unchecked_enters : (o : Option Found) → OptionIs (FoundIs b w) o
        → EntryIs b w (enter_unchecked w name recv args block o)
    unchecked_enters None found =
        is_missing (cause.UndefinedMethod name (plain_class_of w.store.objects recv)) (symbol, plain)
    unchecked_enters (Some f) found = enters_found f found

    public_enters : (o : Option Found) → OptionIs (FoundIs b w) o → EntryIs b w (enter_public w name recv args block o)
    public_enters None found = unchecked_enters None found
    public_enters (Some f) found = either (is_public f.visibility)
      where
        either : (x : Bool) → EntryIs b w
            (if x then enter_found w name f recv args block
            else missing w name (forbidden f.visibility name (plain_class_of w.store.objects recv)) recv args block)
        either true = enters_found f found
        either false = is_forbidden f

    -- a call of a core method's own
    pub send_is : (public : Bool) → EntryIs b w (send_by_core w recv name args block public)
    unfolding send_by_core
    send_is false = unchecked_enters (find_for w recv name) (find_for_is b w fine recv name is)
    send_is true = public_enters (find_for w recv name) (find_for_is b w fine recv name is)

    super_enters : (o : Option Found) → OptionIs (FoundIs b w) o
        → EntryIs b w (enter_super w recv args block (Some name) o)
    super_enters None found =
        is_missing (cause.NoSuperMethod name (plain_class_of w.store.objects recv)) (symbol, plain)
    super_enters (Some f) found = enters_found f found

    pub named_call : (caller : Value) (c : Cause) → SoundCause (census w.store) c
        → EntryIs b w (enter_allowed w caller name c recv args block (find_for w recv name))
    named_call caller c why = allowed_enters caller c (find_for w recv name) why (find_for_is b w fine recv name is)

  value_enters : (args : List Value) (block o : Option ObjId) → AllAre (IsValue (census w.store)) args
      → OptionIs (Is (census w.store) Proc) block → OptionIs (Is (census w.store) Any) o
      → EntryIs b w (enter_value w args block o)
  value_enters args block None all proc is = wrong_value_is b w fine _
  value_enters args block (Some p) all proc is = proc_enters b w fine args block all proc p is

  super_named : (name : Option SymId) (recv : Value) (args : List Value) (block : Option ObjId) (o : Option Found)
      → OptionIs (IsSymbol (census w.store)) name → IsValue (census w.store) recv
      → AllAre (IsValue (census w.store)) args → OptionIs (Is (census w.store) Proc) block
      → OptionIs (FoundIs b w) o → EntryIs b w (enter_super w recv args block name o)
  super_named None recv args block o symbol is all proc found = fails_with b w fine cause.SuperOutside tt
  super_named (Some name) recv args block o symbol is all proc found =
      super_enters name recv args block symbol is all proc o found

  -- the call of a form or an instruction in an activation
  pub call_is : (a : Activation) (s : Sending) (recv : Value) (args : List Value) (block : Option ObjId)
      → ActivationIs w a → SendingIs (census w.store) s → IsValue (census w.store) recv
      → AllAre (IsValue (census w.store)) args → OptionIs (Is (census w.store) Proc) block
      → EntryIs b w (call w a s recv args block)
  unfolding call
  call_is a (by_name s) recv args block own symbol is all proc =
      named_call s recv args block symbol is all proc a.self
      (cause.UndefinedMethod s (plain_class_of w.store.objects recv)) (symbol, plain_class_is w.store fine.store recv is)
  call_is a (by_bare_name s) recv args block own symbol is all proc =
      named_call s recv args block symbol is all proc a.self
      (unknown_name (name_at w.store s) s (plain_class_of w.store.objects recv))
      (unknown_is (census w.store) (name_at w.store s) s (plain_class_of w.store.objects recv) symbol
      (plain_class_is w.store fine.store recv is))
  call_is a to_proc recv args block own symbol is all proc =
      value_enters args block (object_in recv) all proc (object_is w.store fine.store recv is)
  call_is a to_super recv args block own symbol is all proc =
      super_named a.name recv args block (super_of w a.self a.owner a.name) own.name is all proc
      (super_is b w fine a.self a.owner a.name own.self)
