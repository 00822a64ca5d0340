use Rattle.std.proofs.Common.{ap, sym, ◌∙◌}
use Rattle.method_lookup.specs.Probes.{probes, counted}
use Rattle.class_model.specs.Chain.{left}
use Rattle.method_lookup.proofs.Probes.{found_here, asked_here, found_behind, asked_behind, asked_none}
use Rattle.method_lookup.proofs.counted.first_counted.Goals as goal

pub returns-in-Some-own_method : goal.returns-in-Some-own_method
returns-in-Some-own_method c =
    let objects = c.args.st.now.store.objects in
    let method = sym c.in-Some-own_method.ensures.method in
    record {
      found = c.own_found.ensures ∙ found_here objects _ _ c.in-Some.class c.args.name c.in-Some-own_method.field-0
          c.in-Some.ensures.step method ∙ c.members.invariant.same;
      ticks = c.own_method.ensures.probe ∙ asked_here objects _ _ c.in-Some.class c.args.name c.members.steps
          c.in-Some-own_method.field-0 c.in-Some.ensures.step method ∙ c.members.invariant.ticks;
    }

pub members-preserved : goal.members-preserved
members-preserved c =
    let objects = c.args.st.now.store.objects in
    let method = sym c.in-None.ensures.method in
    record {
      walk = c.in-Some.ensures.walk;
      store = c.in-Some.ensures.store ∙ c.members.invariant.store;
      same = found_behind objects _ _ c.in-Some.class c.args.name c.in-Some.ensures.step method
          ∙ c.members.invariant.same;
      ticks =
          ap (λ n. counted n (probes objects (left c.next.new.self) c.args.name)) c.own_method.ensures.probe
          ∙ asked_behind objects _ _ c.in-Some.class c.args.name c.members.steps c.in-Some.ensures.step method
          ∙ c.members.invariant.ticks;
    }

pub returns-clause-ticks : goal.returns-clause-ticks
returns-clause-ticks c = sym (asked_none c.args.st.now.store.objects _ c.args.name c.members.steps
    c.in_default.ensures.step.0) ∙ c.members.invariant.ticks
