-- The Procs of a fine world are those that there may be, and they are fine with whatever is so of each.
use Rattle.std.proofs.Common.{inl, inr, ℕ, List, [], ◌∷◌, refl, subst}
use Rattle.rb_value.specs.declared.method.Method.{Method}
use Rattle.rb_value.specs.declared.method.Method.TheVariants as method
use Rattle.rb_value.specs.declared.kind.Kind.{Kind}
use Rattle.rb_value.specs.declared.kind.Kind.TheVariants as kind
use Rattle.rb_value.specs.Object.{Object}
use Rattle.def_core.specs.Sound.{AllAre}
use Rattle.def_calls.specs.World.{World}
use Rattle.def_calls.specs.Views.{callable_of}
use Rattle.def_eval.specs.Source.{Source}
use Rattle.def_eval.specs.Configuration.{Scope}
use Rattle.world_laws.specs.Fine.{Fine, KindIs, ObjectIs, MethodIs, EntryHas}
use Rattle.world_laws.proofs.Growing.{all_stay}
use Rattle.eval_laws.specs.Procs.{IsProcOf, HasProc}
use Rattle.eval_laws.specs.Fits.{bodies}

module _ (s : Source) (Known : ℕ → List ℕ → Type 0) (cs : List Scope) (w : World) where
  kind_known : (k : Kind) (b : ℕ) (ns : List ℕ) → KindIs (bodies s Known cs) w k → IsProcOf (callable_of k) b ns → Known b ns
  unfolding bodies
  kind_known kind.Plain b ns h is = absurd is
  kind_known (kind.Class c) b ns h is = absurd is
  kind_known (kind.String x) b ns h is = absurd is
  kind_known (kind.Array a) b ns h is = absurd is
  kind_known (kind.Hash x) b ns h is = absurd is
  kind_known (kind.Range r) b ns h is = absurd is
  kind_known (kind.Proc c) b ns h is = subst (λ (i : ℕ). Known i ns) is.0 (subst (Known c.code) is.1 h.known)
  kind_known (kind.CoreProc r x) b ns h is = absurd is
  kind_known (kind.Fiber p x) b ns h is = absurd is
  kind_known (kind.Exception x d) b ns h is = absurd is
  kind_known (kind.Enumerator x) b ns h is = absurd is
  kind_known (kind.Yielder p) b ns h is = absurd is

  pub all_known : (os : List Object) (b : ℕ) (ns : List ℕ) → AllAre (ObjectIs (bodies s Known cs) w) os → HasProc os b ns
      → Known b ns
  all_known [] b ns h is = absurd is
  all_known (o ∷ os) b ns h (inl is) = kind_known o.kind b ns h.0 is
  all_known (o ∷ os) b ns h (inr is) = all_known os b ns h.1 is

  -- with another condition that each meets
  module _ (Other : ℕ → List ℕ → Type 0) where
    method_so : (m : Method) → MethodIs (bodies s Known cs) w m → MethodIs (bodies s Other cs) w m
    unfolding bodies
    method_so (method.Body b n) h = h
    method_so (method.Core r) h = tt
    method_so (method.Reader n) h = tt
    method_so (method.Writer n) h = tt
    method_so (method.Block b) h = tt
    method_so method.Undefined h = tt

    kind_so : (k : Kind) → ((b : ℕ) (ns : List ℕ) → IsProcOf (callable_of k) b ns → Other b ns)
        → KindIs (bodies s Known cs) w k → KindIs (bodies s Other cs) w k
    unfolding bodies
    kind_so kind.Plain so h = tt
    kind_so (kind.Class c) so h = all_stay (EntryHas (bodies s Known cs) w) (EntryHas (bodies s Other cs) w)
        (λ x. method_so x.1.method) c.methods h
    kind_so (kind.String x) so h = tt
    kind_so (kind.Array a) so h = tt
    kind_so (kind.Hash x) so h = tt
    kind_so (kind.Range r) so h = tt
    kind_so (kind.Proc c) so h = record {
      around = h.around;
      scope = h.scope;
      within = h.within;
      scopes = h.scopes;
      scene = h.scene;
      body = h.body;
      shape = h.shape;
      known = so c.code c.scopes (refl, refl);
      home = h.home;
      classes = h.classes;
    }
    kind_so (kind.CoreProc r x) so h = tt
    kind_so (kind.Fiber p x) so h = tt
    kind_so (kind.Exception x d) so h = tt
    kind_so (kind.Enumerator x) so h = tt
    kind_so (kind.Yielder p) so h = tt

    all_so : (os : List Object) → ((b : ℕ) (ns : List ℕ) → HasProc os b ns → Other b ns)
        → AllAre (ObjectIs (bodies s Known cs) w) os → AllAre (ObjectIs (bodies s Other cs) w) os
    all_so [] so h = tt
    all_so (o ∷ os) so h = (
      kind_so o.kind (λ b ns is. so b ns (inl is)) h.0,
      all_so os (λ b ns is. so b ns (inr is)) h.1,
    )

    pub fine_so : ((b : ℕ) (ns : List ℕ) → HasProc w.store.objects b ns → Other b ns) → Fine (bodies s Known cs) w
        → Fine (bodies s Other cs) w
    fine_so so h = record {
      store = h.store;
      objects = all_so w.store.objects so h.objects;
      globals = h.globals;
      enclosing = h.enclosing;
      activations = h.activations;
    }
