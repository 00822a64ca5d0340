-- What is so of every evaluation of a program (eval_laws): its names keep their numbers, the class around a text is one,
-- and so is what is opened as one (proofs/Spaced.antt), the object that a literal gathers into is one of its kind, an exit
-- leaves an iteration as it leaves a core method, a transition only adds activations, and it doesn't write where an exit
-- goes on.
use Rattle.std.proofs.Common.{◌≡◌, ℕ, List, [], ◌∷◌, ◌++◌, refl, sym, ap, ◌∙◌, true, true≢false}
use Rattle.std.specs.Prelude.{bytes_eq, position, Option, Some, None, is_some}
use Rattle.std.proofs.lemmas.Option.{get_or_from_slice_get}
use Rattle.rb_value.specs.declared.value.Value.TheVariants.{Obj}
use Rattle.rb_value.specs.declared.value.ObjId.{ObjId}
use Rattle.rb_value.specs.declared.kind.Kind.{Kind}
use Rattle.rb_value.specs.declared.kind.Kind.TheVariants as kind
use Rattle.rb_value.specs.declared.kind.Sort.{Sort}
use Rattle.rb_value.specs.declared.kind.Sort.TheVariants as sort
use Rattle.rb_value.specs.declared.kind.ClassForm.{ClassForm}
use Rattle.rb_value.specs.declared.kind.ClassForm.TheVariants as form
use Rattle.rb_value.specs.Sort.{sort_of, sort_of_form}
use Rattle.rite_code.specs.Code.{Program}
use Rattle.ir_core.specs.CoreForm.{Body}
use Rattle.ir_core.specs.Program.{Around, IsProgram}
use Rattle.def_core.specs.Store.{Store, object_at, sort_at}
use Rattle.def_core.specs.Changes.{Interned}
use Rattle.def_core.specs.Bind.{elements_of}
use Rattle.def_core.specs.Sound.{sorts_of, census, Is, OptionIs, plays, plays_at, Array, Proc}
use Rattle.def_core.proofs.Good.{is_good, sort_found}
use Rattle.def_core.proofs.Sorts.{sort_at-sorts}
use Rattle.def_calls.specs.Definitions.{space_in}
use Rattle.def_calls.specs.World.{activation_at, class_around}
use Rattle.def_calls.specs.Calls.{opening_world}
use Rattle.def_calls.specs.Views.{callable_of, string_of, hash_of, if_there, an_array, a_hash, a_string}
use Rattle.def_eval.specs.Source.{Source, all_names, source_of}
use Rattle.def_eval.specs.Configuration as eval
use Rattle.def_eval.specs.Configuration.{Part, Item, part, activation, iteration, ensuring, Focus, perform, give, travel, Memory, Config, Run, Halt, opening as opening_config}
use Rattle.def_eval.specs.Scopes.{running}
use Rattle.def_eval.specs.Transition.{go, go_times}
use Rattle.world_laws.specs.Fine.{HasSort}
use Rattle.world_laws.proofs.Constants.{class_around_is}
use Rattle.eval_laws.specs.Fits.{PartStands, ItemsFit, Past, anything_since, Fits, IsHushed, bodies}
use Rattle.eval_laws.specs.Procs.{literal, ProcsAreKnown}
use Rattle.eval_laws.specs.Reached.{GoesOn}
use Rattle.eval_laws.proofs.Going.{running_is}
use Rattle.eval_laws.proofs.Kept.{goes_on, procs_known}
use Rattle.eval_laws.proofs.Start.{evaluation_fits}
use Rattle.step_laws.specs.Site.{IsThere, number, opening_store}
use Rattle.step_laws.specs.Calm.{IsAbout, IsAboutNext, Leaves, QuietFocus, QuietBy, IsBlock, BlockFor, IsSteady, IsCalm, StaysCalm}
use Rattle.step_laws.specs.Peaceful.{IsPeaceful, StaysPeaceful}
use Rattle.step_laws.proofs.Symbols.{Has, has_of, interned, position_more}
use Rattle.step_laws.proofs.Tame.{core_closed}
use Rattle.step_laws.proofs.Spaced.{space_there, opening}

-- Objects of a sort.

sort_is : (st : Store) (s : Sort) (id : ObjId) → HasSort (census st) s id → sort_at st.objects id ≡ s
sort_is st s id h =
    sym (sort_at-sorts st.objects id) ∙ get_or_from_slice_get (sorts_of st.objects) id.0 s sort.Plain h

array_sort : (s : Sort) → plays Array s ≡ true → s ≡ sort.Array
array_sort sort.Plain h = absurd (true≢false (sym h))
array_sort sort.Class h = absurd (true≢false (sym h))
array_sort sort.Singleton h = absurd (true≢false (sym h))
array_sort sort.Module h = absurd (true≢false (sym h))
array_sort sort.String h = absurd (true≢false (sym h))
array_sort sort.Array h = refl
array_sort sort.Hash h = absurd (true≢false (sym h))
array_sort sort.Range h = absurd (true≢false (sym h))
array_sort sort.Proc h = absurd (true≢false (sym h))
array_sort sort.Fiber h = absurd (true≢false (sym h))
array_sort sort.Exception h = absurd (true≢false (sym h))
array_sort sort.Enumerator h = absurd (true≢false (sym h))
array_sort sort.Yielder h = absurd (true≢false (sym h))

no_array : (f : ClassForm) → sort_of_form f ≡ sort.Array → ⊥
no_array form.Class e = absurd (cc e)
no_array form.Singleton e = absurd (cc e)
no_array form.Module e = absurd (cc e)

array_there : (x : Kind) (id : ObjId) → sort_of x ≡ sort.Array → if_there (elements_of x) (Obj id) ≡ Some id
array_there kind.Plain id is = absurd (cc is)
array_there (kind.Class c) id is = absurd (no_array c.form is)
array_there (kind.String t) id is = absurd (cc is)
array_there (kind.Array a) id is = refl
array_there (kind.Hash h) id is = absurd (cc is)
array_there (kind.Range r) id is = absurd (cc is)
array_there (kind.Proc p) id is = absurd (cc is)
array_there (kind.CoreProc r v) id is = absurd (cc is)
array_there (kind.Fiber p e) id is = absurd (cc is)
array_there (kind.Exception m d) id is = absurd (cc is)
array_there (kind.Enumerator e) id is = absurd (cc is)
array_there (kind.Yielder p) id is = absurd (cc is)

no_hash : (f : ClassForm) → sort_of_form f ≡ sort.Hash → ⊥
no_hash form.Class e = absurd (cc e)
no_hash form.Singleton e = absurd (cc e)
no_hash form.Module e = absurd (cc e)

hash_there : (x : Kind) (id : ObjId) → sort_of x ≡ sort.Hash → if_there (hash_of x) (Obj id) ≡ Some id
hash_there kind.Plain id is = absurd (cc is)
hash_there (kind.Class c) id is = absurd (no_hash c.form is)
hash_there (kind.String t) id is = absurd (cc is)
hash_there (kind.Array a) id is = absurd (cc is)
hash_there (kind.Hash h) id is = refl
hash_there (kind.Range r) id is = absurd (cc is)
hash_there (kind.Proc p) id is = absurd (cc is)
hash_there (kind.CoreProc r v) id is = absurd (cc is)
hash_there (kind.Fiber p e) id is = absurd (cc is)
hash_there (kind.Exception m d) id is = absurd (cc is)
hash_there (kind.Enumerator e) id is = absurd (cc is)
hash_there (kind.Yielder p) id is = absurd (cc is)

no_string : (f : ClassForm) → sort_of_form f ≡ sort.String → ⊥
no_string form.Class e = absurd (cc e)
no_string form.Singleton e = absurd (cc e)
no_string form.Module e = absurd (cc e)

string_there : (x : Kind) (id : ObjId) → sort_of x ≡ sort.String → if_there (string_of x) (Obj id) ≡ Some id
string_there kind.Plain id is = absurd (cc is)
string_there (kind.Class c) id is = absurd (no_string c.form is)
string_there (kind.String t) id is = refl
string_there (kind.Array a) id is = absurd (cc is)
string_there (kind.Hash h) id is = absurd (cc is)
string_there (kind.Range r) id is = absurd (cc is)
string_there (kind.Proc p) id is = absurd (cc is)
string_there (kind.CoreProc r v) id is = absurd (cc is)
string_there (kind.Fiber p e) id is = absurd (cc is)
string_there (kind.Exception m d) id is = absurd (cc is)
string_there (kind.Enumerator e) id is = absurd (cc is)
string_there (kind.Yielder p) id is = absurd (cc is)

no_proc : (f : ClassForm) → plays Proc (sort_of_form f) ≡ true → ⊥
no_proc form.Class e = true≢false (sym e)
no_proc form.Singleton e = true≢false (sym e)
no_proc form.Module e = true≢false (sym e)

proc_there : (x : Kind) → plays Proc (sort_of x) ≡ true → is_some (callable_of x) ≡ true
proc_there kind.Plain is = absurd (true≢false (sym is))
proc_there (kind.Class c) is = absurd (no_proc c.form is)
proc_there (kind.String t) is = absurd (true≢false (sym is))
proc_there (kind.Array a) is = absurd (true≢false (sym is))
proc_there (kind.Hash h) is = absurd (true≢false (sym is))
proc_there (kind.Range r) is = absurd (true≢false (sym is))
proc_there (kind.Proc p) is = refl
proc_there (kind.CoreProc r v) is = refl
proc_there (kind.Fiber p e) is = absurd (true≢false (sym is))
proc_there (kind.Exception m d) is = absurd (true≢false (sym is))
proc_there (kind.Enumerator e) is = absurd (true≢false (sym is))
proc_there (kind.Yielder p) is = absurd (true≢false (sym is))

block_is : (st : Store) (o : Option ObjId) → OptionIs (Is (census st) Proc) o → IsBlock st.objects o
block_is st None is = tt
block_is st (Some id) is =
    proc_there (object_at st.objects id).kind
    (sym (ap (plays_at Proc) (sort_found st id (is_good st Proc id is))) ∙ is.holds)

-- The object that a literal gathers into.

array_is : (st : Store) (id : ObjId) → Is (census st) Array id → an_array st.objects (Obj id) ≡ Some id
array_is st id is =
    array_there (object_at st.objects id).kind id
    (array_sort (sort_at st.objects id) (sym (ap (plays_at Array) (sort_found st id (is_good st Array id is))) ∙ is.holds))

hash_is : (st : Store) (id : ObjId) → HasSort (census st) sort.Hash id → a_hash st.objects (Obj id) ≡ Some id
hash_is st id is = hash_there (object_at st.objects id).kind id (sort_is st sort.Hash id is)

string_is : (st : Store) (id : ObjId) → HasSort (census st) sort.String id → a_string st.objects (Obj id) ≡ Some id
string_is st id is = string_there (object_at st.objects id).kind id (sort_is st sort.String id is)

about : (s : Source) (st : Store) (a : Around) (k : Part) → PartStands s (census st) a k → IsAbout k st.objects
about s st a (eval.operands n action vs es) h = tt
about s st a (eval.receiver n x is b) h = tt
about s st a (eval.items n sending recv vs is b) h = tt
about s st a (eval.block sending recv vs) h = tt
about s st a (eval.elements n g id splat is) h = array_is st id h.1
about s st a (eval.hash_key n id e ps) h = tt
about s st a (eval.hash_value n id key ps) h = hash_is st id h.0
about s st a (eval.pieces n id es) h = string_is st id h.0
about s st a (eval.rest n es) h = tt
about s st a (eval.test n b bs o) h = tt
about s st a eval.chosen h = tt
about s st a (eval.and_then n e) h = tt
about s st a (eval.or_else n e) h = tt
about s st a (eval.loop_test n t b) h = tt
about s st a (eval.loop_body n t b) h = tt
about s st a (eval.rescued n b cs o) h = tt
about s st a (eval.clause_class n e es t b cs r) h = tt
about s st a (eval.clause_target n e b r) h = tt
about s st a (eval.clause_body r) h = tt
about s st a (eval.ensured n e) h = tt

-- A configuration that fits, of a world that goes on from that of the opening.
module _ (s : Source) (early : Past) (ks : List Item) (m : Memory) where
  steady : (f : Focus) → early.world.store ≡ opening_store s → Fits s early (Run f ks m) → IsSteady s m.world
  unfolding IsThere number
  steady f same h = record {
    names = λ x t.
        let has = has_of (opening_store s) x t in
        let more = h.memory.since.symbols.more in
        let goes = h.memory.since.symbols.same ∙ ap (λ (st : Store). st.symbols ++ more) same in
        let later : Has m.world.store x has.0 = record {
          at = ap (position (bytes_eq x)) goes ∙ position_more (bytes_eq x) (opening_store s).symbols more has.0 has.1.at;
        } in
        ap (λ (n : Interned). n.symbol) (interned m.world.store x has.0 later)
        ∙ sym (ap (λ (n : Interned). n.symbol) (interned (opening_store s) x has.0 has.1));
  }

  about_next : (f : Focus) → Fits s early (Run f ks m) → IsAboutNext f ks m
  about_next (perform n e) h =
      let there : (i : ℕ) → space_in m.world.store.objects (Obj (class_around m.world i)) ≡ Some (class_around m.world i) =
      λ i. space_there m.world.store (class_around m.world i)
      (class_around_is (bodies s early.Known m.scopes) m.world h.memory.world i) in
      (there (activation_at m.world m.place.activation).classes, there 0)
  about_next (give v) h = by ks h.items
    where
      by : (is : List Item) → ItemsFit s m.world m.scopes m.place is → IsAboutNext (give v) is m
      by [] g = tt
      by (part k ∷ is) g = about s m.world.store g.0.0 k g.0.2
      by (activation a q ∷ is) g = tt
      by (iteration a it q ∷ is) g = tt
      by (ensuring o ∷ is) g = tt
  about_next (travel x) h = tt

  leaves : (f : Focus) → Fits s early (Run f ks m) → Leaves f ks m
  leaves (perform n e) h = tt
  leaves (give v) h = tt
  leaves (travel x) h = by ks h.items
    where
      by : (is : List Item) → ItemsFit s m.world m.scopes m.place is → Leaves (travel x) is m
      by [] g = tt
      by (part k ∷ is) g = tt
      by (activation a q ∷ is) g = tt
      by (iteration a it q ∷ is) g = core_closed m.world a g.0.1.runs
      by (ensuring o ∷ is) g = tt

  block_for : (f : Focus) → Fits s early (Run f ks m) → BlockFor f ks m
  block_for (perform n e) h = block_is m.world.store (running m).block (running_is s early m h.memory).block
  block_for (give v) h = by ks
    where
      by : (is : List Item) → BlockFor (give v) is m
      by [] = tt
      by (part k ∷ is) = block_is m.world.store (running m).block (running_is s early m h.memory).block
      by (activation a q ∷ is) = tt
      by (iteration a it q ∷ is) = tt
      by (ensuring o ∷ is) = tt
  block_for (travel x) h = tt

-- what a transition does to the world, and where it doesn't write
quiet_focus : (f : Focus) (ks : List Item) (m l : Memory) → IsHushed (l.world.out ≡ m.world.out) f ks
    → QuietFocus f ks m l
quiet_focus (perform n e) ks m l h = tt
quiet_focus (give v) [] m l h = h
quiet_focus (give v) (k ∷ ks) m l h = tt
quiet_focus (travel x) ks m l h = h

quiet_by : (f : Focus) (m : Memory) (c : Config) → GoesOn m.world c → ProcsAreKnown f m c → QuietBy (literal f m) m c
quiet_by f m (Run h ks l) g all =
    (quiet_focus h ks m l g.1, record { more = g.0.activations.more; is = g.0.activations.same; procs = all })
quiet_by f m (Halt e) g all = tt

calm_by : (s : Source) (p : Program) (early : Past) (c : Config) → early.world.store ≡ opening_store s → Fits s early c
    → IsPeaceful s p c → IsCalm s p c
calm_by s p early (Halt e) same h q = tt
calm_by s p early (Run f ks m) same h q = (
  steady s early ks m f same h,
  about_next s early ks m f h,
  leaves s early ks m f h,
  record {
    quiet = quiet_by f m (go s (Run f ks m)) (goes_on s early f ks m h) (procs_known s early f ks m h);
    calls = q;
    block = block_for s early ks m f h;
  },
  opening s early ks m f h,
)

pub peace_is_calm : (b : Body) (p : Program) (input : List ℕ) → IsProgram b
    → StaysPeaceful (source_of b) p (opening_config (source_of b) input)
    → StaysCalm (source_of b) p (opening_config (source_of b) input)
unfolding opening_store
peace_is_calm b p input is peace n =
    let h = evaluation_fits b input n is in
    calm_by (source_of b) p (anything_since (record (opening_world (all_names (source_of b)) input) { out = h.0 }))
    (go_times n (source_of b) (opening_config (source_of b) input)) refl h.1 (peace n)
