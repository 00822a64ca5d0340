use Rattle.std.proofs.Common.{ap, sym, ◌∙◌}
use Rattle.std.specs.Prelude.{Option}
use Rattle.rb_value.specs.declared.method.MethodEntry.{MethodEntry}
use Rattle.def_core.specs.Find.{found_or, first_of}
use Rattle.class_model.specs.Chain.{left}
use Rattle.class_model.proofs.Search.{first_step}
use Rattle.class_model.proofs.finding.first_of.Goals as goal

pub returns-in-Some-own_entry : goal.returns-in-Some-own_entry
returns-in-Some-own_entry c =
    let rest = first_of c.args.st.now.store.objects (left c.next.new.self) c.args.name in
    c.found_as.ensures
    ∙ ap (λ (o : Option MethodEntry). found_or c.in-Some.class o rest) c.in-Some-own_entry.ensures
    ∙ sym (first_step c.args.st.now.store.objects _ _ c.in-Some.class c.args.name c.in-Some.ensures.step)
    ∙ c.members.invariant.same

pub members-preserved : goal.members-preserved
members-preserved c =
    let rest = first_of c.args.st.now.store.objects (left c.next.new.self) c.args.name in
    record {
      walk = c.in-Some.ensures.walk;
      store = c.in-Some.ensures.store ∙ c.members.invariant.store;
      same =
          ap (λ (o : Option MethodEntry). found_or c.in-Some.class o rest) c.in-None.ensures
          ∙ sym (first_step c.args.st.now.store.objects _ _ c.in-Some.class c.args.name c.in-Some.ensures.step)
          ∙ c.members.invariant.same;
    }
