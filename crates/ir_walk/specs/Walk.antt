-- What is met on a walk over a form, in order. A form belongs to the innermost body around it.
use Rattle.std.specs.Prelude.{List, [], ◌∷◌, ◌++◌, Bool, true, false, if◌then◌else◌}
use Rattle.ir_core.specs.CoreForm as form
use Rattle.ir_core.specs.CoreForm.{CoreForm, Body, Maybe, Forms, Items, Pairs, Branches, Clauses, Receiver}
use Rattle.ir_walk.specs.declared.extent.Extent.{Extent}
use Rattle.ir_walk.specs.declared.extent.Extent.TheVariants as extent

pub data Step : Type 0 where
  -- a form
  at : CoreForm → Step
  -- the beginning and the end of a body within that is entered
  enter : Body → Step
  leave : Step

-- whether the walk goes into the bodies within
abbrev pub enters_bodies : Extent → Bool
enters_bodies extent.Body = false
enters_bodies extent.Program = true

abbrev pub met : List Step → CoreForm → List Step
met steps f = steps ++ at f ∷ []

abbrev pub entering : List Step → Body → List Step
entering steps b = steps ++ enter b ∷ []

abbrev pub leaving : List Step → List Step
leaving steps = steps ++ leave ∷ []

-- the steps before, and then those of the form: itself and its parts, left to right
abbrev mutual
  pub walked : Extent → List Step → CoreForm → List Step
  walked e s form.nil = met s form.nil
  walked e s form.truth = met s form.truth
  walked e s form.falsehood = met s form.falsehood
  walked e s form.self_ref = met s form.self_ref
  walked e s (form.int n) = met s (form.int n)
  walked e s (form.str t) = met s (form.str t)
  walked e s (form.sym x) = met s (form.sym x)
  walked e s (form.local x) = met s (form.local x)
  walked e s (form.own x) = met s (form.own x)
  walked e s form.exception = met s form.exception
  walked e s (form.set_local x f) = walked e (met s (form.set_local x f)) f
  walked e s (form.ivar x) = met s (form.ivar x)
  walked e s (form.set_ivar x f) = walked e (met s (form.set_ivar x f)) f
  walked e s (form.gvar x) = met s (form.gvar x)
  walked e s (form.set_gvar x f) = walked e (met s (form.set_gvar x f)) f
  walked e s (form.constant x) = met s (form.constant x)
  walked e s (form.top_constant x) = met s (form.top_constant x)
  walked e s (form.in_constant f x) = walked e (met s (form.in_constant f x)) f
  walked e s (form.set_constant x f) = walked e (met s (form.set_constant x f)) f
  walked e s (form.set_in_constant f x g) = walked e (walked e (met s (form.set_in_constant f x g)) f) g
  walked e s (form.array is) = walked_items e (met s (form.array is)) is
  walked e s (form.hash ps) = walked_pairs e (met s (form.hash ps)) ps
  walked e s (form.range f g x) = walked e (walked e (met s (form.range f g x)) f) g
  walked e s (form.text fs) = walked_all e (met s (form.text fs)) fs
  walked e s (form.intern f) = walked e (met s (form.intern f)) f
  walked e s (form.seq fs) = walked_all e (met s (form.seq fs)) fs
  walked e s (form.cond bs f) = walked e (walked_branches e (met s (form.cond bs f)) bs) f
  walked e s (form.and_form f g) = walked e (walked e (met s (form.and_form f g)) f) g
  walked e s (form.or_form f g) = walked e (walked e (met s (form.or_form f g)) f) g
  walked e s (form.while_form first f g) = walked e (walked e (met s (form.while_form first f g)) f) g
  walked e s (form.call r x is b) =
      walked_maybe e (walked_items e (walked_receiver e (met s (form.call r x is b)) r) is) b
  walked e s (form.yield_form is) = walked_items e (met s (form.yield_form is)) is
  walked e s (form.super_form is b) = walked_maybe e (walked_items e (met s (form.super_form is b)) is) b
  walked e s (form.function b) = walked_body e (met s (form.function b)) b
  walked e s (form.lambda b) = walked_body e (met s (form.lambda b)) b
  walked e s (form.begin_form f cs o n) =
      walked_maybe e (walked_maybe e (walked_clauses e (walked e (met s (form.begin_form f cs o n)) f) cs) o) n
  walked e s (form.return_form f) = walked e (met s (form.return_form f)) f
  walked e s (form.break_form f) = walked e (met s (form.break_form f)) f
  walked e s (form.next_form f) = walked e (met s (form.next_form f)) f
  walked e s form.retry = met s form.retry
  walked e s (form.define x b) = walked_body e (met s (form.define x b)) b
  walked e s (form.define_on f x b) = walked_body e (walked e (met s (form.define_on f x b)) f) b
  walked e s (form.class_form c x p b) =
      walked_body e (walked_maybe e (walked_maybe e (met s (form.class_form c x p b)) c) p) b
  walked e s (form.module_form c x b) = walked_body e (walked_maybe e (met s (form.module_form c x b)) c) b
  walked e s (form.singleton_class f b) = walked_body e (walked e (met s (form.singleton_class f b)) f) b
  walked e s (form.alias_form x y) = met s (form.alias_form x y)
  walked e s (form.undef_form x) = met s (form.undef_form x)
  walked e s (form.defined k x o) = walked_maybe e (met s (form.defined k x o)) o
  walked e s (form.item f k) = walked e (met s (form.item f k)) f
  walked e s (form.rest_of f from post) = walked e (met s (form.rest_of f from post)) f
  walked e s (form.tail_of f from count) = walked e (met s (form.tail_of f from count)) f

  pub walked_all : Extent → List Step → Forms → List Step
  walked_all e s form.none = s
  walked_all e s (form.more f fs) = walked_all e (walked e s f) fs

  pub walked_maybe : Extent → List Step → Maybe → List Step
  walked_maybe e s form.absent = s
  walked_maybe e s (form.there f) = walked e s f

  pub walked_items : Extent → List Step → Items → List Step
  walked_items e s form.no_items = s
  walked_items e s (form.plain f is) = walked_items e (walked e s f) is
  walked_items e s (form.splat f is) = walked_items e (walked e s f) is

  pub walked_pairs : Extent → List Step → Pairs → List Step
  walked_pairs e s form.no_pairs = s
  walked_pairs e s (form.pair k v ps) = walked_pairs e (walked e (walked e s k) v) ps

  pub walked_branches : Extent → List Step → Branches → List Step
  walked_branches e s form.no_branches = s
  walked_branches e s (form.branch t f bs) = walked_branches e (walked e (walked e s t) f) bs

  pub walked_clauses : Extent → List Step → Clauses → List Step
  walked_clauses e s form.no_clauses = s
  walked_clauses e s (form.clause cs t f ds) =
      walked_clauses e (walked e (walked_maybe e (walked_all e s cs) t) f) ds

  pub walked_receiver : Extent → List Step → Receiver → List Step
  walked_receiver e s (form.to f) = walked e s f
  walked_receiver e s form.on_self = s
  walked_receiver e s form.bare = s

  -- a body within, where the walk goes into it
  pub walked_body : Extent → List Step → Body → List Step
  walked_body e s (form.body p ls f) =
      if enters_bodies e then leaving (walked e (entering s (form.body p ls f)) f) else s

-- the same by the step at which the body begins and its form
abbrev pub inside_body : Extent → List Step → Step → CoreForm → List Step
inside_body e s beginning f = if enters_bodies e then leaving (walked e (s ++ beginning ∷ []) f) else s
