use Rattle.std.proofs.Common.{◌≡◌, ◌<◌, length, arith, sym, ◌∙◌, ap, refl, add-zero, true}
use Rattle.def_core.specs.Store.{Store, sort_at}
use Rattle.def_core.specs.Sound.{sorts_of, plays, ClassOrModule}
use Rattle.def_core.proofs.Sorts.{sorts-with_method}
use Rattle.def_core.proofs.Good.{good_below}
use Rattle.rb_store.proofs.Rows.{rows_step, rows_end, there_still, plays_still}
use Rattle.rb_store.proofs.store.Store.add_rows.Goals as goal

pub rows-init : goal.rows-init
rows-init c = record { same = rw add-zero refl; sorts = refl }

pub put_method-requires-clause-there : goal.put_method-requires-clause-there
put_method-requires-clause-there c =
    let e : sorts_of c.intern.new.self.store.objects ≡ sorts_of c.args.self.now.store.objects =
    ap sorts_of c.in_ok-symbol.ensures.objects ∙ c.rows.invariant.sorts in
    good_below _ _ (there_still _ _ _ e c.requires.there)

pub put_method-requires-clause-is_class : goal.put_method-requires-clause-is_class
put_method-requires-clause-is_class c =
    let e : sorts_of c.intern.new.self.store.objects ≡ sorts_of c.args.self.now.store.objects =
    ap sorts_of c.in_ok-symbol.ensures.objects ∙ c.rows.invariant.sorts in
    plays_still _ _ _ ClassOrModule e c.requires.is_class

pub rows-preserved : goal.rows-preserved
rows-preserved c =
    let within : c.rows.i < length c.args.names.now = omega arith in
    let e : sorts_of c.intern.new.self.store.objects ≡ sorts_of c.args.self.now.store.objects =
    ap sorts_of c.in_ok-symbol.ensures.objects ∙ c.rows.invariant.sorts in
    let is : plays ClassOrModule (sort_at c.intern.new.self.store.objects c.args.class) ≡ true =
    plays_still _ _ c.args.class ClassOrModule e c.requires.is_class in
    record {
      same =
          rw (c.in_ok-put_method.ensures.ok, c.in_ok-symbol.ensures.symbol, c.in_ok-symbol.ensures.ok)
          (rows_step (λ name. name.now) _ _ _ _ c.args.names.now _ within ∙ c.rows.invariant.same);
      sorts = ap (λ (st : Store). sorts_of st.objects) c.in_ok-put_method.ensures.ok
          ∙ sorts-with_method c.intern.new.self.store c.args.class _ _ _ is ∙ e;
    }

pub returns-clause-ok : goal.returns-clause-ok
returns-clause-ok c = sym (rows_end (λ name. name.now) _ _ _ _ c.args.names.now (omega arith)) ∙ c.rows.invariant.same

pub returns-clause-objects : goal.returns-clause-objects
returns-clause-objects c = c.rows.invariant.sorts
